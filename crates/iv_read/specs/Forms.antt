-- How commands are read. Of this project.
use Rattle.std.specs.Prelude.{List, [], ◌∷◌}
use Rattle.iv_lex.specs.declared.cutting.Token.{Token}
use Rattle.iv_recogniser.specs.declared.class.Class.{Class}
use Rattle.iv_recogniser.specs.declared.class.Class.TheVariants as class
use Rattle.iv_recogniser.specs.declared.class.Sort.TheVariants as sort
use Rattle.iv_forms.specs.declared.fact.Fact.{Fact}
use Rattle.iv_forms.specs.declared.prop.Claim.{Claim}
use Rattle.iv_forms.specs.declared.command.Statement.{Statement}
use Rattle.iv_forms.specs.declared.command.Body.{Body}
use Rattle.iv_forms.specs.declared.command.Body.TheVariants as VBody
use Rattle.iv_forms.specs.declared.lexeme.Lexeme.{Lexeme}
use Rattle.iv_read.specs.declared.forms.CommandKind.{CommandKind}
use Rattle.iv_read.specs.declared.forms.CommandKind.TheVariants as kind
use Rattle.iv_facts.specs.Found.{Found, got, wrong, then_, one}
use Rattle.iv_facts.specs.Facts.{facts}
use Rattle.iv_facts.specs.Props.{text_of, some_of, opt_label, claim, props, of_type, vars, opt_for}
use Rattle.iv_readmethod.specs.Methods.{a_method, opt_method}
use Rattle.iv_readpart.specs.Commands.{statement, notes, obtained, parts, axioms, note_name}
use Rattle.iv_readpart.specs.Declarations.{some_nat, constant, more_consts, axiom_consts, tvars, judgment_form, equation, more_equations}

unfoldable pub theory : List Lexeme → Found Body
theory ts = then_ (text_of sort.Name ts) (λ n us. then_ (one (sort.Only class.Imports) us) (λ i vs. then_ (some_of sort.Name vs) (λ xs ws. then_ (one (sort.Only class.Begin) ws) (λ b ys. got (VBody.Theory n xs) ys))))

unfoldable pub typedecl : List Lexeme → Found Body
typedecl ts = then_ (tvars ts) (λ xs us. then_ (text_of sort.Identifier us) (λ x vs. got (VBody.Typedecl xs x) vs))

unfoldable pub consts : List Lexeme → Found Body
consts ts = then_ (constant ts) (λ x us. then_ (more_consts (x ∷ []) us) (λ xs vs. got (VBody.Consts xs) vs))

unfoldable pub judgment : List Lexeme → Found Body
judgment ts = then_ (text_of sort.Identifier ts) (λ x us. then_ (one (sort.Only class.Colons) us) (λ c vs. then_ (text_of sort.Type vs) (λ t ws. then_ (judgment_form ws) (λ j ys. got (VBody.Judgment x t) ys))))

unfoldable pub axiomatization : List Lexeme → Found Body
axiomatization ts = then_ (axiom_consts ts) (λ cs us. then_ (axioms us) (λ xs vs. got (VBody.Axiomatization cs xs) vs))

unfoldable pub lemmas : List Lexeme → Found Body
lemmas ts = then_ (note_name ts) (λ n us. then_ (facts us) (λ fs vs. got (VBody.Lemmas n.name n.atts fs) vs))

unfoldable pub method_definition : List Lexeme → Found Body
method_definition ts = then_ (text_of sort.Identifier ts) (λ x us. then_ (opt_for us) (λ gs vs. then_ (parts vs) (λ p ws. then_ (one (sort.Only class.Equal) ws) (λ e ys. then_ (a_method ys) (λ m zs. got (VBody.Method x gs p m) zs)))))

unfoldable pub define : List Lexeme → Found Body
define ts = then_ (text_of sort.Identifier ts) (λ x us. then_ (of_type us) (λ t vs. then_ (one (sort.Only class.Where) vs) (λ h ws. then_ (opt_label ws) (λ l ys. then_ (text_of sort.Term ys) (λ b zs. got (VBody.Define x t l b) zs)))))

unfoldable pub let_ : List Lexeme → Found Body
let_ ts = then_ (equation ts) (λ x us. then_ (more_equations (x ∷ []) us) (λ xs vs. got (VBody.Let xs) vs))

unfoldable pub by : List Lexeme → Found Body
by ts = then_ (a_method ts) (λ m us. then_ (opt_method us) (λ n vs. got (VBody.By m n) vs))

-- the commands whose forms differ in the word alone
abbrev pub text_body : Class → Token → Body
text_body class.Chapter q = VBody.Chapter q
text_body class.Section q = VBody.Section q
text_body class.Subsection q = VBody.Subsection q
text_body class.Subsubsection q = VBody.Subsubsection q
text_body class.Paragraph q = VBody.Paragraph q
text_body class.Subparagraph q = VBody.Subparagraph q
text_body class.Prose q = VBody.Prose q
text_body _ q = VBody.Txt q

abbrev pub facts_body : Class → List Fact → Body
facts_body class.Declare fs = VBody.Declare fs
facts_body class.From fs = VBody.From fs
facts_body class.With fs = VBody.With fs
facts_body _ fs = VBody.Using fs

abbrev pub claim_body : Class → Claim → Body
claim_body class.Have c = VBody.Have c
claim_body class.Show c = VBody.Show c
claim_body class.Hence c = VBody.Hence c
claim_body _ c = VBody.Thus c

abbrev pub statement_body : Class → Statement → Body
statement_body class.Lemma s = VBody.Lemma s
statement_body class.Theorem s = VBody.Theorem s
statement_body class.Corollary s = VBody.Corollary s
statement_body _ s = VBody.Proposition s

abbrev pub word_body : Class → Body
word_body class.End = VBody.End
word_body class.LeftBrace = VBody.LeftBrace
word_body class.RightBrace = VBody.RightBrace
word_body class.Next = VBody.Next
word_body class.Then = VBody.Then
word_body class.Also = VBody.Also
word_body class.Moreover = VBody.Moreover
word_body class.Finally = VBody.Finally
word_body class.Ultimately = VBody.Ultimately
word_body class.Back = VBody.Back
word_body class.Dot = VBody.Dot
word_body class.Dots = VBody.Dots
word_body class.Done = VBody.Done
word_body _ = VBody.Oops

-- what stands behind a command word
abbrev pub kind_of : Class → CommandKind
kind_of class.Chapter = kind.Text
kind_of class.Section = kind.Text
kind_of class.Subsection = kind.Text
kind_of class.Subsubsection = kind.Text
kind_of class.Paragraph = kind.Text
kind_of class.Subparagraph = kind.Text
kind_of class.Prose = kind.Text
kind_of class.Txt = kind.Text
kind_of class.Declare = kind.Facts
kind_of class.From = kind.Facts
kind_of class.With = kind.Facts
kind_of class.Using = kind.Facts
kind_of class.Have = kind.Claim
kind_of class.Show = kind.Claim
kind_of class.Hence = kind.Claim
kind_of class.Thus = kind.Claim
kind_of class.Lemma = kind.Statement
kind_of class.Theorem = kind.Statement
kind_of class.Corollary = kind.Statement
kind_of class.Proposition = kind.Statement
kind_of class.End = kind.Word
kind_of class.LeftBrace = kind.Word
kind_of class.RightBrace = kind.Word
kind_of class.Next = kind.Word
kind_of class.Then = kind.Word
kind_of class.Also = kind.Word
kind_of class.Moreover = kind.Word
kind_of class.Finally = kind.Word
kind_of class.Ultimately = kind.Word
kind_of class.Back = kind.Word
kind_of class.Dot = kind.Word
kind_of class.Dots = kind.Word
kind_of class.Done = kind.Word
kind_of class.Oops = kind.Word
kind_of class.Theory = kind.Declaration
kind_of class.Typedecl = kind.Declaration
kind_of class.Consts = kind.Declaration
kind_of class.Judgment = kind.Declaration
kind_of class.Axiomatization = kind.Declaration
kind_of class.Lemmas = kind.Declaration
kind_of class.NamedTheorems = kind.Declaration
kind_of class.Method = kind.Declaration
kind_of class.Fix = kind.Context
kind_of class.Assume = kind.Context
kind_of class.Presume = kind.Context
kind_of class.Define = kind.Context
kind_of class.Note = kind.Context
kind_of class.Let = kind.Context
kind_of class.Obtain = kind.Context
kind_of class.Apply = kind.Proof
kind_of class.Defer = kind.Proof
kind_of class.Prefer = kind.Proof
kind_of class.Proof = kind.Proof
kind_of class.Qed = kind.Proof
kind_of class.By = kind.Proof
kind_of _ = kind.None

abbrev pub declaration_form : Class → List Lexeme → Found Body
declaration_form class.Theory ts = theory ts
declaration_form class.Typedecl ts = typedecl ts
declaration_form class.Consts ts = consts ts
declaration_form class.Judgment ts = judgment ts
declaration_form class.Axiomatization ts = axiomatization ts
declaration_form class.Lemmas ts = lemmas ts
declaration_form class.NamedTheorems ts = then_ (text_of sort.Identifier ts) (λ x us. got (VBody.NamedTheorems x) us)
declaration_form class.Method ts = method_definition ts
declaration_form _ ts = wrong

abbrev pub context_form : Class → List Lexeme → Found Body
context_form class.Fix ts = then_ (vars ts) (λ gs us. got (VBody.Fix gs) us)
context_form class.Assume ts = then_ (props ts) (λ gs us. got (VBody.Assume gs) us)
context_form class.Presume ts = then_ (props ts) (λ gs us. got (VBody.Presume gs) us)
context_form class.Define ts = define ts
context_form class.Note ts = then_ (notes ts) (λ gs us. got (VBody.Note gs) us)
context_form class.Let ts = let_ ts
context_form class.Obtain ts = then_ (obtained ts) (λ o us. got (VBody.Obtain o) us)
context_form _ ts = wrong

abbrev pub proof_form : Class → List Lexeme → Found Body
proof_form class.Apply ts = then_ (a_method ts) (λ m us. got (VBody.Apply m) us)
proof_form class.Defer ts = then_ (some_nat ts) (λ n us. got (VBody.Defer n) us)
proof_form class.Prefer ts = then_ (one sort.Numeral ts) (λ n us. got (VBody.Prefer n.number) us)
proof_form class.Proof ts = then_ (opt_method ts) (λ m us. got (VBody.Proof m) us)
proof_form class.Qed ts = then_ (opt_method ts) (λ m us. got (VBody.Qed m) us)
proof_form class.By ts = by ts
proof_form _ ts = wrong

abbrev pub by_kind : CommandKind → Class → List Lexeme → Found Body
by_kind kind.Text c ts = then_ (text_of sort.Quoted ts) (λ x us. got (text_body c x) us)
by_kind kind.Facts c ts = then_ (facts ts) (λ x us. got (facts_body c x) us)
by_kind kind.Claim c ts = then_ (claim ts) (λ x us. got (claim_body c x) us)
by_kind kind.Statement c ts = then_ (statement ts) (λ x us. got (statement_body c x) us)
by_kind kind.Word c ts = got (word_body c) ts
by_kind kind.Declaration c ts = declaration_form c ts
by_kind kind.Context c ts = context_form c ts
by_kind kind.Proof c ts = proof_form c ts
by_kind kind.None c ts = wrong

-- what a command reads behind its word
abbrev pub by_class : Class → List Lexeme → Found Body
by_class c ts = by_kind (kind_of c) c ts

abbrev pub form : List Lexeme → Found Body
form [] = wrong
form (t ∷ ts) = by_class t.class ts
