-- Written by tools/outer_table.py. Do not edit.
-- Classes of tokens and sets of them. Of this project.
use Rattle.std.specs.Prelude.{ℕ, Bool, List, [], ◌∷◌, ◌==◌}
use Rattle.std.specs.List.{list_any}
use Rattle.iv_recogniser.specs.declared.class.Class.{Class}
use Rattle.iv_recogniser.specs.declared.class.Class.TheVariants.{Theory, End, Chapter, Section, Subsection, Subsubsection, Paragraph, Subparagraph, Prose, Txt, Typedecl, Consts, Judgment, Axiomatization, Lemmas, Declare, NamedTheorems, Method, Lemma, Theorem, Corollary, Proposition, Fix, Assume, Presume, Define, Note, Let, LeftBrace, RightBrace, Next, Then, From, With, Have, Show, Hence, Thus, Obtain, Also, Moreover, Finally, Ultimately, Apply, Using, Defer, Prefer, Back, Proof, Qed, By, Dot, Dots, Done, Oops, And, Assumes, Begin, Declares, Fixes, For, Imports, In, Is, Methods, Shows, Uses, Where, OfFacts, ThenFact, OfTerms, Infix, Infixl, Infixr, Binder, Rule, Match, Premises, Conclusion, Cut, Open, Close, Left, Right, Comma, Semicolon, Colon, Colons, Equal, Arrow, Bar, CaseBar, Plus, Question, Exclamation, Minus, Dummy, Ident, Long, Low, Thousand, Nat, Var, Tvar, Plain, Prefix, Spaced, Judging, Str, Cart, Into, OutOf, Other}
use Rattle.iv_recogniser.specs.declared.class.Sort.{Sort}
use Rattle.iv_recogniser.specs.declared.class.Sort.TheVariants as sort

-- the number of a class
abbrev pub number : Class → ℕ
number Theory = 0
number End = 1
number Chapter = 2
number Section = 3
number Subsection = 4
number Subsubsection = 5
number Paragraph = 6
number Subparagraph = 7
number Prose = 8
number Txt = 9
number Typedecl = 10
number Consts = 11
number Judgment = 12
number Axiomatization = 13
number Lemmas = 14
number Declare = 15
number NamedTheorems = 16
number Method = 17
number Lemma = 18
number Theorem = 19
number Corollary = 20
number Proposition = 21
number Fix = 22
number Assume = 23
number Presume = 24
number Define = 25
number Note = 26
number Let = 27
number LeftBrace = 28
number RightBrace = 29
number Next = 30
number Then = 31
number From = 32
number With = 33
number Have = 34
number Show = 35
number Hence = 36
number Thus = 37
number Obtain = 38
number Also = 39
number Moreover = 40
number Finally = 41
number Ultimately = 42
number Apply = 43
number Using = 44
number Defer = 45
number Prefer = 46
number Back = 47
number Proof = 48
number Qed = 49
number By = 50
number Dot = 51
number Dots = 52
number Done = 53
number Oops = 54
number And = 55
number Assumes = 56
number Begin = 57
number Declares = 58
number Fixes = 59
number For = 60
number Imports = 61
number In = 62
number Is = 63
number Methods = 64
number Shows = 65
number Uses = 66
number Where = 67
number OfFacts = 68
number ThenFact = 69
number OfTerms = 70
number Infix = 71
number Infixl = 72
number Infixr = 73
number Binder = 74
number Rule = 75
number Match = 76
number Premises = 77
number Conclusion = 78
number Cut = 79
number Open = 80
number Close = 81
number Left = 82
number Right = 83
number Comma = 84
number Semicolon = 85
number Colon = 86
number Colons = 87
number Equal = 88
number Arrow = 89
number Bar = 90
number CaseBar = 91
number Plus = 92
number Question = 93
number Exclamation = 94
number Minus = 95
number Dummy = 96
number Ident = 97
number Long = 98
number Low = 99
number Thousand = 100
number Nat = 101
number Var = 102
number Tvar = 103
number Plain = 104
number Prefix = 105
number Spaced = 106
number Judging = 107
number Str = 108
number Cart = 109
number Into = 110
number OutOf = 111
number Other = 112

-- whether two are the same class
abbrev pub same_class : Class → Class → Bool
same_class a b = number a == number b

-- all classes
unfoldable pub classes : List Class
classes = Theory ∷ End ∷ Chapter ∷ Section ∷ Subsection ∷ Subsubsection ∷ Paragraph ∷ Subparagraph ∷ Prose ∷ Txt ∷ Typedecl ∷ Consts ∷ Judgment ∷ Axiomatization ∷ Lemmas ∷ Declare ∷ NamedTheorems ∷ Method ∷ Lemma ∷ Theorem ∷ Corollary ∷ Proposition ∷ Fix ∷ Assume ∷ Presume ∷ Define ∷ Note ∷ Let ∷ LeftBrace ∷ RightBrace ∷ Next ∷ Then ∷ From ∷ With ∷ Have ∷ Show ∷ Hence ∷ Thus ∷ Obtain ∷ Also ∷ Moreover ∷ Finally ∷ Ultimately ∷ Apply ∷ Using ∷ Defer ∷ Prefer ∷ Back ∷ Proof ∷ Qed ∷ By ∷ Dot ∷ Dots ∷ Done ∷ Oops ∷ And ∷ Assumes ∷ Begin ∷ Declares ∷ Fixes ∷ For ∷ Imports ∷ In ∷ Is ∷ Methods ∷ Shows ∷ Uses ∷ Where ∷ OfFacts ∷ ThenFact ∷ OfTerms ∷ Infix ∷ Infixl ∷ Infixr ∷ Binder ∷ Rule ∷ Match ∷ Premises ∷ Conclusion ∷ Cut ∷ Open ∷ Close ∷ Left ∷ Right ∷ Comma ∷ Semicolon ∷ Colon ∷ Colons ∷ Equal ∷ Arrow ∷ Bar ∷ CaseBar ∷ Plus ∷ Question ∷ Exclamation ∷ Minus ∷ Dummy ∷ Ident ∷ Long ∷ Low ∷ Thousand ∷ Nat ∷ Var ∷ Tvar ∷ Plain ∷ Prefix ∷ Spaced ∷ Judging ∷ Str ∷ Cart ∷ Into ∷ OutOf ∷ Other ∷ []

abbrev pub identifier_classes : List Class
identifier_classes = Ident ∷ OfFacts ∷ ThenFact ∷ OfTerms ∷ Infix ∷ Infixl ∷ Infixr ∷ Binder ∷ Rule ∷ Match ∷ Premises ∷ Conclusion ∷ Cut ∷ []

abbrev pub name_classes : List Class
name_classes = Ident ∷ OfFacts ∷ ThenFact ∷ OfTerms ∷ Infix ∷ Infixl ∷ Infixr ∷ Binder ∷ Rule ∷ Match ∷ Premises ∷ Conclusion ∷ Cut ∷ Long ∷ []

abbrev pub other_name_classes : List Class
other_name_classes = Ident ∷ Infix ∷ Infixl ∷ Infixr ∷ Binder ∷ Rule ∷ Match ∷ Premises ∷ Conclusion ∷ Cut ∷ Long ∷ []

abbrev pub call_name_classes : List Class
call_name_classes = Ident ∷ OfFacts ∷ ThenFact ∷ OfTerms ∷ Infix ∷ Infixl ∷ Infixr ∷ Binder ∷ Premises ∷ Conclusion ∷ Cut ∷ Long ∷ []

abbrev pub subject_name_classes : List Class
subject_name_classes = Ident ∷ OfFacts ∷ ThenFact ∷ OfTerms ∷ Infix ∷ Infixl ∷ Infixr ∷ Binder ∷ Rule ∷ Match ∷ Cut ∷ Long ∷ []

abbrev pub term_classes : List Class
term_classes = Ident ∷ OfFacts ∷ ThenFact ∷ OfTerms ∷ Infix ∷ Infixl ∷ Infixr ∷ Binder ∷ Rule ∷ Match ∷ Premises ∷ Conclusion ∷ Cut ∷ Long ∷ Var ∷ Plain ∷ Prefix ∷ Spaced ∷ Judging ∷ Str ∷ Cart ∷ []

abbrev pub no_name_classes : List Class
no_name_classes = Var ∷ Plain ∷ Prefix ∷ Spaced ∷ Judging ∷ Str ∷ Cart ∷ []

abbrev pub no_ident_classes : List Class
no_ident_classes = Long ∷ Var ∷ Plain ∷ Prefix ∷ Spaced ∷ Judging ∷ Str ∷ Cart ∷ []

abbrev pub type_classes : List Class
type_classes = Ident ∷ OfFacts ∷ ThenFact ∷ OfTerms ∷ Infix ∷ Infixl ∷ Infixr ∷ Binder ∷ Rule ∷ Match ∷ Premises ∷ Conclusion ∷ Cut ∷ Tvar ∷ Plain ∷ Prefix ∷ Spaced ∷ Judging ∷ Str ∷ Cart ∷ []

abbrev pub quoted_classes : List Class
quoted_classes = Plain ∷ Prefix ∷ Spaced ∷ Judging ∷ Str ∷ Cart ∷ []

abbrev pub numeral_classes : List Class
numeral_classes = Low ∷ Thousand ∷ Nat ∷ []

abbrev pub priority_classes : List Class
priority_classes = Low ∷ Thousand ∷ []

abbrev pub mark_classes : List Class
mark_classes = Question ∷ Exclamation ∷ []

abbrev pub binding_classes : List Class
binding_classes = Plain ∷ Spaced ∷ []

-- the members of a set
abbrev pub members : Sort → List Class
members (sort.Only only) = only ∷ []
members sort.Identifier = identifier_classes
members sort.Name = name_classes
members sort.OtherName = other_name_classes
members sort.CallName = call_name_classes
members sort.SubjectName = subject_name_classes
members sort.Term = term_classes
members sort.NoName = no_name_classes
members sort.NoIdent = no_ident_classes
members sort.Type = type_classes
members sort.Quoted = quoted_classes
members sort.Numeral = numeral_classes
members sort.Priority = priority_classes
members sort.Mark = mark_classes
members sort.Binding = binding_classes

-- whether a set has a class
abbrev pub has : Sort → Class → Bool
has (sort.Only only) c = same_class c only
has sort.Identifier c = list_any (same_class c) identifier_classes
has sort.Name c = list_any (same_class c) name_classes
has sort.OtherName c = list_any (same_class c) other_name_classes
has sort.CallName c = list_any (same_class c) call_name_classes
has sort.SubjectName c = list_any (same_class c) subject_name_classes
has sort.Term c = list_any (same_class c) term_classes
has sort.NoName c = list_any (same_class c) no_name_classes
has sort.NoIdent c = list_any (same_class c) no_ident_classes
has sort.Type c = list_any (same_class c) type_classes
has sort.Quoted c = list_any (same_class c) quoted_classes
has sort.Numeral c = list_any (same_class c) numeral_classes
has sort.Priority c = list_any (same_class c) priority_classes
has sort.Mark c = list_any (same_class c) mark_classes
has sort.Binding c = list_any (same_class c) binding_classes
