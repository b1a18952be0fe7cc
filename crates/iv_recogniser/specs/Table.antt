-- Written by tools/outer_table.py. Do not edit.
-- The table of forms. After the outer syntax of Isabelle's Reference Manual, in a profile of this project.
use Rattle.std.specs.Prelude.{List, [], ◌∷◌, map}
use Rattle.std.specs.Borrow.{Bor}
use Rattle.iv_recogniser.specs.declared.class.Class.TheVariants as class
use Rattle.iv_recogniser.specs.declared.class.Sort.TheVariants as sort
use Rattle.iv_recogniser.specs.declared.part.Part.{Part}
use Rattle.iv_recogniser.specs.declared.part.Part.TheVariants.{Fact, Facts, MoreFacts, Sels, Sel, SelTo, MoreSels, OptAtts, MoreAtts, Att, OptMark, OfFacts, FactPlaces, ThenFact, OfTerms, TermPlaces, MoreWheres, Prop, Pattern, Terms, Claim, ClaimName, Props, PropsName, MoreProps, LabelledTerm, TermName, Names, Idents, OfType, Vars, MoreVars, OptFor, Const, Fix, Fixity, Method, OptMethod, Suffix, OptNat, MoreAlt, MoreSemi, MoreSeq, Item, RuleRest, CallRest, CallArgs, CallIdent, Sections, SectionIdent, MatchRest, SubjectName, Cases, MoreCases, Pat, PatIdent, Cut, MorePats, Typed, MoreTvars, MoreConsts, JudgmentForm, Axiomatized, AxiomConsts, Axiom, MoreAxioms, Parts, UsesDeclares, MethodsDeclares, MethodsUses, MethodsAlone, UsesAlone, DeclaresAlone, Body, Statement, StatementName, Stated, OptAssumes, MoreEquations, NoteName, NoteEqual, NoteMore, Obtained, ObtainedOne, ObtainedMore, Command}
use Rattle.iv_recogniser.specs.declared.part.Symbol.{Symbol}
use Rattle.iv_recogniser.specs.declared.part.Symbol.TheVariants.{Word, Goes}

abbrev pub NAME : Symbol
NAME = Word sort.Name

abbrev pub AND : Symbol
AND = Word (sort.Only class.And)

abbrev pub OPEN : Symbol
OPEN = Word (sort.Only class.Open)

abbrev pub CLOSE : Symbol
CLOSE = Word (sort.Only class.Close)

abbrev pub NUMERAL : Symbol
NUMERAL = Word sort.Numeral

abbrev pub MINUS : Symbol
MINUS = Word (sort.Only class.Minus)

abbrev pub COMMA : Symbol
COMMA = Word (sort.Only class.Comma)

abbrev pub LEFT : Symbol
LEFT = Word (sort.Only class.Left)

abbrev pub RIGHT : Symbol
RIGHT = Word (sort.Only class.Right)

abbrev pub OF_FACTS : Symbol
OF_FACTS = Word (sort.Only class.OfFacts)

abbrev pub THEN_FACT : Symbol
THEN_FACT = Word (sort.Only class.ThenFact)

abbrev pub OF_TERMS : Symbol
OF_TERMS = Word (sort.Only class.OfTerms)

abbrev pub WHERE : Symbol
WHERE = Word (sort.Only class.Where)

abbrev pub IDENTIFIER : Symbol
IDENTIFIER = Word sort.Identifier

abbrev pub EQUAL : Symbol
EQUAL = Word (sort.Only class.Equal)

abbrev pub TERM : Symbol
TERM = Word sort.Term

abbrev pub OTHER_NAME : Symbol
OTHER_NAME = Word sort.OtherName

abbrev pub MARK : Symbol
MARK = Word sort.Mark

abbrev pub DUMMY : Symbol
DUMMY = Word (sort.Only class.Dummy)

abbrev pub IS : Symbol
IS = Word (sort.Only class.Is)

abbrev pub COLON : Symbol
COLON = Word (sort.Only class.Colon)

abbrev pub NO_NAME : Symbol
NO_NAME = Word sort.NoName

abbrev pub COLONS : Symbol
COLONS = Word (sort.Only class.Colons)

abbrev pub TYPE : Symbol
TYPE = Word sort.Type

abbrev pub FOR : Symbol
FOR = Word (sort.Only class.For)

abbrev pub PLAIN : Symbol
PLAIN = Word (sort.Only class.Plain)

abbrev pub PREFIX : Symbol
PREFIX = Word (sort.Only class.Prefix)

abbrev pub PRIORITY : Symbol
PRIORITY = Word sort.Priority

abbrev pub INFIX : Symbol
INFIX = Word (sort.Only class.Infix)

abbrev pub LOW : Symbol
LOW = Word (sort.Only class.Low)

abbrev pub INFIXL : Symbol
INFIXL = Word (sort.Only class.Infixl)

abbrev pub INFIXR : Symbol
INFIXR = Word (sort.Only class.Infixr)

abbrev pub BINDER : Symbol
BINDER = Word (sort.Only class.Binder)

abbrev pub BINDING : Symbol
BINDING = Word sort.Binding

abbrev pub QUESTION : Symbol
QUESTION = Word (sort.Only class.Question)

abbrev pub PLUS : Symbol
PLUS = Word (sort.Only class.Plus)

abbrev pub BAR : Symbol
BAR = Word (sort.Only class.Bar)

abbrev pub SEMICOLON : Symbol
SEMICOLON = Word (sort.Only class.Semicolon)

abbrev pub RULE : Symbol
RULE = Word (sort.Only class.Rule)

abbrev pub MATCH : Symbol
MATCH = Word (sort.Only class.Match)

abbrev pub CALL_NAME : Symbol
CALL_NAME = Word sort.CallName

abbrev pub NO_IDENT : Symbol
NO_IDENT = Word sort.NoIdent

abbrev pub LONG : Symbol
LONG = Word (sort.Only class.Long)

abbrev pub PREMISES : Symbol
PREMISES = Word (sort.Only class.Premises)

abbrev pub CONCLUSION : Symbol
CONCLUSION = Word (sort.Only class.Conclusion)

abbrev pub SUBJECT_NAME : Symbol
SUBJECT_NAME = Word sort.SubjectName

abbrev pub IN : Symbol
IN = Word (sort.Only class.In)

abbrev pub ARROW : Symbol
ARROW = Word (sort.Only class.Arrow)

abbrev pub INTO : Symbol
INTO = Word (sort.Only class.Into)

abbrev pub OUT_OF : Symbol
OUT_OF = Word (sort.Only class.OutOf)

abbrev pub CASE_BAR : Symbol
CASE_BAR = Word (sort.Only class.CaseBar)

abbrev pub CUT : Symbol
CUT = Word (sort.Only class.Cut)

abbrev pub TVAR : Symbol
TVAR = Word (sort.Only class.Tvar)

abbrev pub JUDGING : Symbol
JUDGING = Word (sort.Only class.Judging)

abbrev pub METHODS : Symbol
METHODS = Word (sort.Only class.Methods)

abbrev pub USES : Symbol
USES = Word (sort.Only class.Uses)

abbrev pub DECLARES : Symbol
DECLARES = Word (sort.Only class.Declares)

abbrev pub FIXES : Symbol
FIXES = Word (sort.Only class.Fixes)

abbrev pub SHOWS : Symbol
SHOWS = Word (sort.Only class.Shows)

abbrev pub ASSUMES : Symbol
ASSUMES = Word (sort.Only class.Assumes)

abbrev pub THEORY : Symbol
THEORY = Word (sort.Only class.Theory)

abbrev pub IMPORTS : Symbol
IMPORTS = Word (sort.Only class.Imports)

abbrev pub BEGIN : Symbol
BEGIN = Word (sort.Only class.Begin)

abbrev pub END : Symbol
END = Word (sort.Only class.End)

abbrev pub CHAPTER : Symbol
CHAPTER = Word (sort.Only class.Chapter)

abbrev pub QUOTED : Symbol
QUOTED = Word sort.Quoted

abbrev pub SECTION : Symbol
SECTION = Word (sort.Only class.Section)

abbrev pub SUBSECTION : Symbol
SUBSECTION = Word (sort.Only class.Subsection)

abbrev pub SUBSUBSECTION : Symbol
SUBSUBSECTION = Word (sort.Only class.Subsubsection)

abbrev pub PARAGRAPH : Symbol
PARAGRAPH = Word (sort.Only class.Paragraph)

abbrev pub SUBPARAGRAPH : Symbol
SUBPARAGRAPH = Word (sort.Only class.Subparagraph)

abbrev pub PROSE : Symbol
PROSE = Word (sort.Only class.Prose)

abbrev pub TXT : Symbol
TXT = Word (sort.Only class.Txt)

abbrev pub TYPEDECL : Symbol
TYPEDECL = Word (sort.Only class.Typedecl)

abbrev pub CONSTS : Symbol
CONSTS = Word (sort.Only class.Consts)

abbrev pub JUDGMENT : Symbol
JUDGMENT = Word (sort.Only class.Judgment)

abbrev pub AXIOMATIZATION : Symbol
AXIOMATIZATION = Word (sort.Only class.Axiomatization)

abbrev pub LEMMAS : Symbol
LEMMAS = Word (sort.Only class.Lemmas)

abbrev pub DECLARE : Symbol
DECLARE = Word (sort.Only class.Declare)

abbrev pub NAMED_THEOREMS : Symbol
NAMED_THEOREMS = Word (sort.Only class.NamedTheorems)

abbrev pub METHOD : Symbol
METHOD = Word (sort.Only class.Method)

abbrev pub LEMMA : Symbol
LEMMA = Word (sort.Only class.Lemma)

abbrev pub THEOREM : Symbol
THEOREM = Word (sort.Only class.Theorem)

abbrev pub COROLLARY : Symbol
COROLLARY = Word (sort.Only class.Corollary)

abbrev pub PROPOSITION : Symbol
PROPOSITION = Word (sort.Only class.Proposition)

abbrev pub FIX : Symbol
FIX = Word (sort.Only class.Fix)

abbrev pub ASSUME : Symbol
ASSUME = Word (sort.Only class.Assume)

abbrev pub PRESUME : Symbol
PRESUME = Word (sort.Only class.Presume)

abbrev pub DEFINE : Symbol
DEFINE = Word (sort.Only class.Define)

abbrev pub NOTE : Symbol
NOTE = Word (sort.Only class.Note)

abbrev pub LET : Symbol
LET = Word (sort.Only class.Let)

abbrev pub LEFT_BRACE : Symbol
LEFT_BRACE = Word (sort.Only class.LeftBrace)

abbrev pub RIGHT_BRACE : Symbol
RIGHT_BRACE = Word (sort.Only class.RightBrace)

abbrev pub NEXT : Symbol
NEXT = Word (sort.Only class.Next)

abbrev pub THEN : Symbol
THEN = Word (sort.Only class.Then)

abbrev pub FROM : Symbol
FROM = Word (sort.Only class.From)

abbrev pub WITH : Symbol
WITH = Word (sort.Only class.With)

abbrev pub HAVE : Symbol
HAVE = Word (sort.Only class.Have)

abbrev pub SHOW : Symbol
SHOW = Word (sort.Only class.Show)

abbrev pub HENCE : Symbol
HENCE = Word (sort.Only class.Hence)

abbrev pub THUS : Symbol
THUS = Word (sort.Only class.Thus)

abbrev pub OBTAIN : Symbol
OBTAIN = Word (sort.Only class.Obtain)

abbrev pub ALSO : Symbol
ALSO = Word (sort.Only class.Also)

abbrev pub MOREOVER : Symbol
MOREOVER = Word (sort.Only class.Moreover)

abbrev pub FINALLY : Symbol
FINALLY = Word (sort.Only class.Finally)

abbrev pub ULTIMATELY : Symbol
ULTIMATELY = Word (sort.Only class.Ultimately)

abbrev pub APPLY : Symbol
APPLY = Word (sort.Only class.Apply)

abbrev pub USING : Symbol
USING = Word (sort.Only class.Using)

abbrev pub DEFER : Symbol
DEFER = Word (sort.Only class.Defer)

abbrev pub PREFER : Symbol
PREFER = Word (sort.Only class.Prefer)

abbrev pub BACK : Symbol
BACK = Word (sort.Only class.Back)

abbrev pub PROOF : Symbol
PROOF = Word (sort.Only class.Proof)

abbrev pub QED : Symbol
QED = Word (sort.Only class.Qed)

abbrev pub BY : Symbol
BY = Word (sort.Only class.By)

abbrev pub DOT : Symbol
DOT = Word (sort.Only class.Dot)

abbrev pub DOTS : Symbol
DOTS = Word (sort.Only class.Dots)

abbrev pub DONE : Symbol
DONE = Word (sort.Only class.Done)

abbrev pub OOPS : Symbol
OOPS = Word (sort.Only class.Oops)

-- the rows of each part
abbrev pub forms : Part → List (List Symbol)
forms Fact =
    (NAME ∷ Goes Sels ∷ Goes OptAtts ∷ []) ∷
    []
forms Facts =
    (NAME ∷ Goes Sels ∷ Goes OptAtts ∷ Goes MoreFacts ∷ []) ∷
    []
forms MoreFacts =
    ([]) ∷
    (AND ∷ Goes Fact ∷ Goes MoreFacts ∷ []) ∷
    (NAME ∷ Goes Sels ∷ Goes OptAtts ∷ Goes MoreFacts ∷ []) ∷
    []
forms Sels =
    ([]) ∷
    (OPEN ∷ Goes Sel ∷ Goes MoreSels ∷ CLOSE ∷ []) ∷
    []
forms Sel =
    (NUMERAL ∷ Goes SelTo ∷ []) ∷
    []
forms SelTo =
    ([]) ∷
    (MINUS ∷ NUMERAL ∷ []) ∷
    []
forms MoreSels =
    ([]) ∷
    (COMMA ∷ Goes Sel ∷ Goes MoreSels ∷ []) ∷
    []
forms OptAtts =
    ([]) ∷
    (LEFT ∷ Goes Att ∷ Goes MoreAtts ∷ RIGHT ∷ []) ∷
    []
forms MoreAtts =
    ([]) ∷
    (COMMA ∷ Goes Att ∷ Goes MoreAtts ∷ []) ∷
    []
forms Att =
    (OF_FACTS ∷ Goes OfFacts ∷ []) ∷
    (THEN_FACT ∷ Goes ThenFact ∷ []) ∷
    (OF_TERMS ∷ Goes OfTerms ∷ []) ∷
    (WHERE ∷ IDENTIFIER ∷ EQUAL ∷ TERM ∷ Goes MoreWheres ∷ []) ∷
    (OTHER_NAME ∷ Goes OptMark ∷ []) ∷
    []
forms OptMark =
    ([]) ∷
    (MARK ∷ []) ∷
    []
forms OfFacts =
    ([]) ∷
    (MARK ∷ []) ∷
    (NAME ∷ Goes Sels ∷ Goes OptAtts ∷ Goes FactPlaces ∷ []) ∷
    (DUMMY ∷ Goes FactPlaces ∷ []) ∷
    []
forms FactPlaces =
    ([]) ∷
    (NAME ∷ Goes Sels ∷ Goes OptAtts ∷ Goes FactPlaces ∷ []) ∷
    (DUMMY ∷ Goes FactPlaces ∷ []) ∷
    []
forms ThenFact =
    ([]) ∷
    (MARK ∷ []) ∷
    (NAME ∷ Goes Sels ∷ Goes OptAtts ∷ []) ∷
    []
forms OfTerms =
    ([]) ∷
    (MARK ∷ []) ∷
    (TERM ∷ Goes TermPlaces ∷ []) ∷
    (DUMMY ∷ Goes TermPlaces ∷ []) ∷
    []
forms TermPlaces =
    ([]) ∷
    (TERM ∷ Goes TermPlaces ∷ []) ∷
    (DUMMY ∷ Goes TermPlaces ∷ []) ∷
    []
forms MoreWheres =
    ([]) ∷
    (AND ∷ IDENTIFIER ∷ EQUAL ∷ TERM ∷ Goes MoreWheres ∷ []) ∷
    []
forms Prop =
    (TERM ∷ Goes Pattern ∷ []) ∷
    []
forms Pattern =
    ([]) ∷
    (OPEN ∷ IS ∷ TERM ∷ Goes Terms ∷ CLOSE ∷ []) ∷
    []
forms Terms =
    ([]) ∷
    (TERM ∷ Goes Terms ∷ []) ∷
    []
forms Claim =
    (NAME ∷ Goes ClaimName ∷ []) ∷
    (LEFT ∷ Goes Att ∷ Goes MoreAtts ∷ RIGHT ∷ COLON ∷ Goes Prop ∷ []) ∷
    (NO_NAME ∷ Goes Pattern ∷ []) ∷
    []
forms ClaimName =
    ([]) ∷
    (COLON ∷ Goes Prop ∷ []) ∷
    (LEFT ∷ Goes Att ∷ Goes MoreAtts ∷ RIGHT ∷ COLON ∷ Goes Prop ∷ []) ∷
    (OPEN ∷ IS ∷ TERM ∷ Goes Terms ∷ CLOSE ∷ []) ∷
    []
forms Props =
    (NAME ∷ Goes PropsName ∷ []) ∷
    (LEFT ∷ Goes Att ∷ Goes MoreAtts ∷ RIGHT ∷ COLON ∷ TERM ∷ Goes Pattern ∷ Goes MoreProps ∷ []) ∷
    (NO_NAME ∷ Goes Pattern ∷ Goes MoreProps ∷ []) ∷
    []
forms PropsName =
    ([]) ∷
    (COLON ∷ TERM ∷ Goes Pattern ∷ Goes MoreProps ∷ []) ∷
    (LEFT ∷ Goes Att ∷ Goes MoreAtts ∷ RIGHT ∷ COLON ∷ TERM ∷ Goes Pattern ∷ Goes MoreProps ∷ []) ∷
    (OPEN ∷ IS ∷ TERM ∷ Goes Terms ∷ CLOSE ∷ Goes MoreProps ∷ []) ∷
    (TERM ∷ Goes Pattern ∷ Goes MoreProps ∷ []) ∷
    (AND ∷ Goes Props ∷ []) ∷
    []
forms MoreProps =
    ([]) ∷
    (TERM ∷ Goes Pattern ∷ Goes MoreProps ∷ []) ∷
    (AND ∷ Goes Props ∷ []) ∷
    []
forms LabelledTerm =
    (NAME ∷ Goes TermName ∷ []) ∷
    (LEFT ∷ Goes Att ∷ Goes MoreAtts ∷ RIGHT ∷ COLON ∷ TERM ∷ []) ∷
    (NO_NAME ∷ []) ∷
    []
forms TermName =
    ([]) ∷
    (COLON ∷ TERM ∷ []) ∷
    (LEFT ∷ Goes Att ∷ Goes MoreAtts ∷ RIGHT ∷ COLON ∷ TERM ∷ []) ∷
    []
forms Names =
    ([]) ∷
    (NAME ∷ Goes Names ∷ []) ∷
    []
forms Idents =
    ([]) ∷
    (IDENTIFIER ∷ Goes Idents ∷ []) ∷
    []
forms OfType =
    ([]) ∷
    (COLONS ∷ TYPE ∷ []) ∷
    []
forms Vars =
    (IDENTIFIER ∷ Goes Idents ∷ Goes OfType ∷ Goes MoreVars ∷ []) ∷
    []
forms MoreVars =
    ([]) ∷
    (AND ∷ IDENTIFIER ∷ Goes Idents ∷ Goes OfType ∷ Goes MoreVars ∷ []) ∷
    []
forms OptFor =
    ([]) ∷
    (FOR ∷ Goes Vars ∷ []) ∷
    []
forms Const =
    (IDENTIFIER ∷ COLONS ∷ TYPE ∷ Goes Fix ∷ []) ∷
    []
forms Fix =
    ([]) ∷
    (OPEN ∷ Goes Fixity ∷ CLOSE ∷ []) ∷
    []
forms Fixity =
    (PLAIN ∷ []) ∷
    (PREFIX ∷ LEFT ∷ PRIORITY ∷ RIGHT ∷ PRIORITY ∷ []) ∷
    (INFIX ∷ PLAIN ∷ LOW ∷ []) ∷
    (INFIXL ∷ PLAIN ∷ LOW ∷ []) ∷
    (INFIXR ∷ PLAIN ∷ LOW ∷ []) ∷
    (BINDER ∷ BINDING ∷ PRIORITY ∷ []) ∷
    []
forms Method =
    (NAME ∷ Goes Suffix ∷ []) ∷
    (MINUS ∷ Goes Suffix ∷ []) ∷
    (OPEN ∷ Goes Item ∷ Goes MoreSeq ∷ Goes MoreSemi ∷ Goes MoreAlt ∷ CLOSE ∷ Goes Suffix ∷ []) ∷
    []
forms OptMethod =
    ([]) ∷
    (NAME ∷ Goes Suffix ∷ []) ∷
    (MINUS ∷ Goes Suffix ∷ []) ∷
    (OPEN ∷ Goes Item ∷ Goes MoreSeq ∷ Goes MoreSemi ∷ Goes MoreAlt ∷ CLOSE ∷ Goes Suffix ∷ []) ∷
    []
forms Suffix =
    ([]) ∷
    (QUESTION ∷ []) ∷
    (PLUS ∷ []) ∷
    (LEFT ∷ Goes OptNat ∷ RIGHT ∷ []) ∷
    []
forms OptNat =
    ([]) ∷
    (NUMERAL ∷ []) ∷
    []
forms MoreAlt =
    ([]) ∷
    (BAR ∷ Goes Item ∷ Goes MoreSeq ∷ Goes MoreSemi ∷ Goes MoreAlt ∷ []) ∷
    []
forms MoreSemi =
    ([]) ∷
    (SEMICOLON ∷ Goes Item ∷ Goes MoreSeq ∷ Goes MoreSemi ∷ []) ∷
    []
forms MoreSeq =
    ([]) ∷
    (COMMA ∷ Goes Item ∷ Goes MoreSeq ∷ []) ∷
    []
forms Item =
    (RULE ∷ Goes RuleRest ∷ []) ∷
    (MATCH ∷ Goes MatchRest ∷ []) ∷
    (CALL_NAME ∷ Goes CallRest ∷ []) ∷
    (MINUS ∷ Goes Suffix ∷ []) ∷
    (OPEN ∷ Goes Item ∷ Goes MoreSeq ∷ Goes MoreSemi ∷ Goes MoreAlt ∷ CLOSE ∷ Goes Suffix ∷ []) ∷
    []
forms RuleRest =
    ([]) ∷
    (QUESTION ∷ []) ∷
    (PLUS ∷ []) ∷
    (LEFT ∷ Goes OptNat ∷ RIGHT ∷ []) ∷
    (NAME ∷ Goes Sels ∷ Goes OptAtts ∷ Goes MoreFacts ∷ []) ∷
    []
forms CallRest =
    ([]) ∷
    (QUESTION ∷ []) ∷
    (PLUS ∷ []) ∷
    (LEFT ∷ Goes OptNat ∷ RIGHT ∷ []) ∷
    (IDENTIFIER ∷ Goes CallIdent ∷ []) ∷
    (NO_IDENT ∷ Goes CallArgs ∷ []) ∷
    (OPEN ∷ Goes Item ∷ Goes MoreSeq ∷ Goes MoreSemi ∷ Goes MoreAlt ∷ CLOSE ∷ Goes CallArgs ∷ []) ∷
    []
forms CallArgs =
    ([]) ∷
    (IDENTIFIER ∷ Goes CallIdent ∷ []) ∷
    (NO_IDENT ∷ Goes CallArgs ∷ []) ∷
    (OPEN ∷ Goes Item ∷ Goes MoreSeq ∷ Goes MoreSemi ∷ Goes MoreAlt ∷ CLOSE ∷ Goes CallArgs ∷ []) ∷
    []
forms CallIdent =
    ([]) ∷
    (COLON ∷ Goes Fact ∷ Goes Sections ∷ []) ∷
    (IDENTIFIER ∷ Goes CallIdent ∷ []) ∷
    (NO_IDENT ∷ Goes CallArgs ∷ []) ∷
    (OPEN ∷ Goes Item ∷ Goes MoreSeq ∷ Goes MoreSemi ∷ Goes MoreAlt ∷ CLOSE ∷ Goes CallArgs ∷ []) ∷
    []
forms Sections =
    ([]) ∷
    (AND ∷ Goes Fact ∷ Goes Sections ∷ []) ∷
    (IDENTIFIER ∷ Goes SectionIdent ∷ []) ∷
    (LONG ∷ Goes Sels ∷ Goes OptAtts ∷ Goes Sections ∷ []) ∷
    []
forms SectionIdent =
    ([]) ∷
    (COLON ∷ Goes Fact ∷ Goes Sections ∷ []) ∷
    (OPEN ∷ Goes Sel ∷ Goes MoreSels ∷ CLOSE ∷ Goes OptAtts ∷ Goes Sections ∷ []) ∷
    (LEFT ∷ Goes Att ∷ Goes MoreAtts ∷ RIGHT ∷ Goes Sections ∷ []) ∷
    (AND ∷ Goes Fact ∷ Goes Sections ∷ []) ∷
    (IDENTIFIER ∷ Goes SectionIdent ∷ []) ∷
    (LONG ∷ Goes Sels ∷ Goes OptAtts ∷ Goes Sections ∷ []) ∷
    []
forms MatchRest =
    ([]) ∷
    (QUESTION ∷ []) ∷
    (PLUS ∷ []) ∷
    (LEFT ∷ Goes OptNat ∷ RIGHT ∷ []) ∷
    (PREMISES ∷ Goes SubjectName ∷ Goes Cases ∷ []) ∷
    (CONCLUSION ∷ Goes SubjectName ∷ Goes Cases ∷ []) ∷
    (OPEN ∷ TERM ∷ CLOSE ∷ Goes Cases ∷ []) ∷
    (SUBJECT_NAME ∷ Goes Sels ∷ Goes OptAtts ∷ Goes MoreFacts ∷ Goes Cases ∷ []) ∷
    []
forms SubjectName =
    ([]) ∷
    (OPEN ∷ Goes Sel ∷ Goes MoreSels ∷ CLOSE ∷ Goes OptAtts ∷ Goes MoreFacts ∷ []) ∷
    (LEFT ∷ Goes Att ∷ Goes MoreAtts ∷ RIGHT ∷ Goes MoreFacts ∷ []) ∷
    (AND ∷ Goes Fact ∷ Goes MoreFacts ∷ []) ∷
    (NAME ∷ Goes Sels ∷ Goes OptAtts ∷ Goes MoreFacts ∷ []) ∷
    []
forms Cases =
    (IN ∷ Goes Pat ∷ Goes MorePats ∷ Goes OptFor ∷ ARROW ∷ INTO ∷ Goes Item ∷ Goes MoreSeq ∷ Goes MoreSemi ∷ Goes MoreAlt ∷ OUT_OF ∷ Goes MoreCases ∷ []) ∷
    []
forms MoreCases =
    ([]) ∷
    (CASE_BAR ∷ Goes Pat ∷ Goes MorePats ∷ Goes OptFor ∷ ARROW ∷ INTO ∷ Goes Item ∷ Goes MoreSeq ∷ Goes MoreSemi ∷ Goes MoreAlt ∷ OUT_OF ∷ Goes MoreCases ∷ []) ∷
    []
forms Pat =
    (IDENTIFIER ∷ Goes PatIdent ∷ []) ∷
    (NO_IDENT ∷ Goes Cut ∷ []) ∷
    []
forms PatIdent =
    ([]) ∷
    (COLON ∷ TERM ∷ Goes Cut ∷ []) ∷
    (OPEN ∷ CUT ∷ Goes OptNat ∷ CLOSE ∷ []) ∷
    []
forms Cut =
    ([]) ∷
    (OPEN ∷ CUT ∷ Goes OptNat ∷ CLOSE ∷ []) ∷
    []
forms MorePats =
    ([]) ∷
    (AND ∷ Goes Pat ∷ Goes MorePats ∷ []) ∷
    []
forms Typed =
    (IDENTIFIER ∷ []) ∷
    (TVAR ∷ IDENTIFIER ∷ []) ∷
    (OPEN ∷ TVAR ∷ Goes MoreTvars ∷ CLOSE ∷ IDENTIFIER ∷ []) ∷
    []
forms MoreTvars =
    ([]) ∷
    (COMMA ∷ TVAR ∷ Goes MoreTvars ∷ []) ∷
    []
forms MoreConsts =
    ([]) ∷
    (IDENTIFIER ∷ COLONS ∷ TYPE ∷ Goes Fix ∷ Goes MoreConsts ∷ []) ∷
    []
forms JudgmentForm =
    ([]) ∷
    (OPEN ∷ JUDGING ∷ PRIORITY ∷ CLOSE ∷ []) ∷
    []
forms Axiomatized =
    ([]) ∷
    (IDENTIFIER ∷ COLONS ∷ TYPE ∷ Goes Fix ∷ Goes AxiomConsts ∷ []) ∷
    (WHERE ∷ Goes Axiom ∷ Goes MoreAxioms ∷ []) ∷
    []
forms AxiomConsts =
    ([]) ∷
    (AND ∷ IDENTIFIER ∷ COLONS ∷ TYPE ∷ Goes Fix ∷ Goes AxiomConsts ∷ []) ∷
    (WHERE ∷ Goes Axiom ∷ Goes MoreAxioms ∷ []) ∷
    []
forms Axiom =
    (NAME ∷ Goes OptAtts ∷ COLON ∷ TERM ∷ []) ∷
    []
forms MoreAxioms =
    ([]) ∷
    (AND ∷ Goes Axiom ∷ Goes MoreAxioms ∷ []) ∷
    []
forms Parts =
    (METHODS ∷ IDENTIFIER ∷ Goes Idents ∷ Goes UsesDeclares ∷ []) ∷
    (USES ∷ IDENTIFIER ∷ Goes Idents ∷ Goes MethodsDeclares ∷ []) ∷
    (DECLARES ∷ IDENTIFIER ∷ Goes Idents ∷ Goes MethodsUses ∷ []) ∷
    (EQUAL ∷ Goes Method ∷ []) ∷
    []
forms UsesDeclares =
    (USES ∷ IDENTIFIER ∷ Goes Idents ∷ Goes DeclaresAlone ∷ []) ∷
    (DECLARES ∷ IDENTIFIER ∷ Goes Idents ∷ Goes UsesAlone ∷ []) ∷
    (EQUAL ∷ Goes Method ∷ []) ∷
    []
forms MethodsDeclares =
    (METHODS ∷ IDENTIFIER ∷ Goes Idents ∷ Goes DeclaresAlone ∷ []) ∷
    (DECLARES ∷ IDENTIFIER ∷ Goes Idents ∷ Goes MethodsAlone ∷ []) ∷
    (EQUAL ∷ Goes Method ∷ []) ∷
    []
forms MethodsUses =
    (METHODS ∷ IDENTIFIER ∷ Goes Idents ∷ Goes UsesAlone ∷ []) ∷
    (USES ∷ IDENTIFIER ∷ Goes Idents ∷ Goes MethodsAlone ∷ []) ∷
    (EQUAL ∷ Goes Method ∷ []) ∷
    []
forms MethodsAlone =
    (METHODS ∷ IDENTIFIER ∷ Goes Idents ∷ Goes Body ∷ []) ∷
    (EQUAL ∷ Goes Method ∷ []) ∷
    []
forms UsesAlone =
    (USES ∷ IDENTIFIER ∷ Goes Idents ∷ Goes Body ∷ []) ∷
    (EQUAL ∷ Goes Method ∷ []) ∷
    []
forms DeclaresAlone =
    (DECLARES ∷ IDENTIFIER ∷ Goes Idents ∷ Goes Body ∷ []) ∷
    (EQUAL ∷ Goes Method ∷ []) ∷
    []
forms Body =
    (EQUAL ∷ Goes Method ∷ []) ∷
    []
forms Statement =
    (NAME ∷ Goes StatementName ∷ []) ∷
    (LEFT ∷ Goes Att ∷ Goes MoreAtts ∷ RIGHT ∷ COLON ∷ Goes Stated ∷ []) ∷
    (NO_NAME ∷ Goes Pattern ∷ []) ∷
    (FIXES ∷ Goes Vars ∷ Goes OptAssumes ∷ SHOWS ∷ Goes Prop ∷ []) ∷
    (ASSUMES ∷ Goes Props ∷ SHOWS ∷ Goes Prop ∷ []) ∷
    (SHOWS ∷ Goes Prop ∷ []) ∷
    []
forms StatementName =
    ([]) ∷
    (COLON ∷ Goes Stated ∷ []) ∷
    (LEFT ∷ Goes Att ∷ Goes MoreAtts ∷ RIGHT ∷ COLON ∷ Goes Stated ∷ []) ∷
    (OPEN ∷ IS ∷ TERM ∷ Goes Terms ∷ CLOSE ∷ []) ∷
    []
forms Stated =
    (TERM ∷ Goes Pattern ∷ []) ∷
    (FIXES ∷ Goes Vars ∷ Goes OptAssumes ∷ SHOWS ∷ Goes Prop ∷ []) ∷
    (ASSUMES ∷ Goes Props ∷ SHOWS ∷ Goes Prop ∷ []) ∷
    (SHOWS ∷ Goes Prop ∷ []) ∷
    []
forms OptAssumes =
    ([]) ∷
    (ASSUMES ∷ Goes Props ∷ []) ∷
    []
forms MoreEquations =
    ([]) ∷
    (AND ∷ TERM ∷ EQUAL ∷ TERM ∷ Goes MoreEquations ∷ []) ∷
    []
forms NoteName =
    ([]) ∷
    (EQUAL ∷ NAME ∷ Goes Sels ∷ Goes OptAtts ∷ Goes NoteMore ∷ []) ∷
    (LEFT ∷ Goes Att ∷ Goes MoreAtts ∷ RIGHT ∷ Goes NoteEqual ∷ []) ∷
    (OPEN ∷ Goes Sel ∷ Goes MoreSels ∷ CLOSE ∷ Goes OptAtts ∷ Goes NoteMore ∷ []) ∷
    (AND ∷ NAME ∷ Goes NoteName ∷ []) ∷
    (NAME ∷ Goes Sels ∷ Goes OptAtts ∷ Goes NoteMore ∷ []) ∷
    []
forms NoteEqual =
    ([]) ∷
    (EQUAL ∷ NAME ∷ Goes Sels ∷ Goes OptAtts ∷ Goes NoteMore ∷ []) ∷
    (AND ∷ NAME ∷ Goes NoteName ∷ []) ∷
    (NAME ∷ Goes Sels ∷ Goes OptAtts ∷ Goes NoteMore ∷ []) ∷
    []
forms NoteMore =
    ([]) ∷
    (AND ∷ NAME ∷ Goes NoteName ∷ []) ∷
    (NAME ∷ Goes Sels ∷ Goes OptAtts ∷ Goes NoteMore ∷ []) ∷
    []
forms Obtained =
    (IDENTIFIER ∷ Goes ObtainedOne ∷ []) ∷
    (LONG ∷ Goes PropsName ∷ []) ∷
    (LEFT ∷ Goes Att ∷ Goes MoreAtts ∷ RIGHT ∷ COLON ∷ TERM ∷ Goes Pattern ∷ Goes MoreProps ∷ []) ∷
    (NO_NAME ∷ Goes Pattern ∷ Goes MoreProps ∷ []) ∷
    []
forms ObtainedOne =
    ([]) ∷
    (IDENTIFIER ∷ Goes ObtainedMore ∷ []) ∷
    (COLONS ∷ TYPE ∷ Goes MoreVars ∷ WHERE ∷ Goes Props ∷ []) ∷
    (WHERE ∷ Goes Props ∷ []) ∷
    (AND ∷ Goes Obtained ∷ []) ∷
    (COLON ∷ TERM ∷ Goes Pattern ∷ Goes MoreProps ∷ []) ∷
    (LEFT ∷ Goes Att ∷ Goes MoreAtts ∷ RIGHT ∷ COLON ∷ TERM ∷ Goes Pattern ∷ Goes MoreProps ∷ []) ∷
    (OPEN ∷ IS ∷ TERM ∷ Goes Terms ∷ CLOSE ∷ Goes MoreProps ∷ []) ∷
    (NO_IDENT ∷ Goes Pattern ∷ Goes MoreProps ∷ []) ∷
    []
forms ObtainedMore =
    ([]) ∷
    (IDENTIFIER ∷ Goes ObtainedMore ∷ []) ∷
    (COLONS ∷ TYPE ∷ Goes MoreVars ∷ WHERE ∷ Goes Props ∷ []) ∷
    (WHERE ∷ Goes Props ∷ []) ∷
    (AND ∷ Goes Obtained ∷ []) ∷
    (OPEN ∷ IS ∷ TERM ∷ Goes Terms ∷ CLOSE ∷ Goes MoreProps ∷ []) ∷
    (NO_IDENT ∷ Goes Pattern ∷ Goes MoreProps ∷ []) ∷
    []
forms Command =
    (THEORY ∷ NAME ∷ IMPORTS ∷ NAME ∷ Goes Names ∷ BEGIN ∷ []) ∷
    (END ∷ []) ∷
    (CHAPTER ∷ QUOTED ∷ []) ∷
    (SECTION ∷ QUOTED ∷ []) ∷
    (SUBSECTION ∷ QUOTED ∷ []) ∷
    (SUBSUBSECTION ∷ QUOTED ∷ []) ∷
    (PARAGRAPH ∷ QUOTED ∷ []) ∷
    (SUBPARAGRAPH ∷ QUOTED ∷ []) ∷
    (PROSE ∷ QUOTED ∷ []) ∷
    (TXT ∷ QUOTED ∷ []) ∷
    (TYPEDECL ∷ Goes Typed ∷ []) ∷
    (CONSTS ∷ Goes Const ∷ Goes MoreConsts ∷ []) ∷
    (JUDGMENT ∷ IDENTIFIER ∷ COLONS ∷ TYPE ∷ Goes JudgmentForm ∷ []) ∷
    (AXIOMATIZATION ∷ Goes Axiomatized ∷ []) ∷
    (LEMMAS ∷ NAME ∷ Goes OptAtts ∷ EQUAL ∷ Goes Facts ∷ []) ∷
    (DECLARE ∷ Goes Facts ∷ []) ∷
    (NAMED_THEOREMS ∷ IDENTIFIER ∷ []) ∷
    (METHOD ∷ IDENTIFIER ∷ Goes OptFor ∷ Goes Parts ∷ []) ∷
    (LEMMA ∷ Goes Statement ∷ []) ∷
    (THEOREM ∷ Goes Statement ∷ []) ∷
    (COROLLARY ∷ Goes Statement ∷ []) ∷
    (PROPOSITION ∷ Goes Statement ∷ []) ∷
    (FIX ∷ Goes Vars ∷ []) ∷
    (ASSUME ∷ Goes Props ∷ []) ∷
    (PRESUME ∷ Goes Props ∷ []) ∷
    (DEFINE ∷ IDENTIFIER ∷ Goes OfType ∷ WHERE ∷ Goes LabelledTerm ∷ []) ∷
    (NOTE ∷ NAME ∷ Goes NoteName ∷ []) ∷
    (LET ∷ TERM ∷ EQUAL ∷ TERM ∷ Goes MoreEquations ∷ []) ∷
    (LEFT_BRACE ∷ []) ∷
    (RIGHT_BRACE ∷ []) ∷
    (NEXT ∷ []) ∷
    (THEN ∷ []) ∷
    (FROM ∷ Goes Facts ∷ []) ∷
    (WITH ∷ Goes Facts ∷ []) ∷
    (HAVE ∷ Goes Claim ∷ []) ∷
    (SHOW ∷ Goes Claim ∷ []) ∷
    (HENCE ∷ Goes Claim ∷ []) ∷
    (THUS ∷ Goes Claim ∷ []) ∷
    (OBTAIN ∷ Goes Obtained ∷ []) ∷
    (ALSO ∷ []) ∷
    (MOREOVER ∷ []) ∷
    (FINALLY ∷ []) ∷
    (ULTIMATELY ∷ []) ∷
    (APPLY ∷ Goes Method ∷ []) ∷
    (USING ∷ Goes Facts ∷ []) ∷
    (DEFER ∷ Goes OptNat ∷ []) ∷
    (PREFER ∷ NUMERAL ∷ []) ∷
    (BACK ∷ []) ∷
    (PROOF ∷ Goes OptMethod ∷ []) ∷
    (QED ∷ Goes OptMethod ∷ []) ∷
    (BY ∷ Goes Method ∷ Goes OptMethod ∷ []) ∷
    (DOT ∷ []) ∷
    (DOTS ∷ []) ∷
    (DONE ∷ []) ∷
    (OOPS ∷ []) ∷
    []

-- the rows without their references
abbrev pub plain : List (Bor (List Symbol)) → List (List Symbol)
plain rows = map (λ r. r.now) rows
