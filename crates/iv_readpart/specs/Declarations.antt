-- How declarations are read. Of this project.
use Rattle.std.specs.Prelude.{ℕ, List, [], ◌∷◌, if◌then◌else◌, Option, Some, None}
use Rattle.iv_lex.specs.declared.cutting.Token.{Token}
use Rattle.iv_recogniser.specs.declared.class.Class.TheVariants as class
use Rattle.iv_recogniser.specs.declared.class.Sort.TheVariants as sort
use Rattle.iv_forms.specs.declared.command.Fixity.{Fixity}
use Rattle.iv_forms.specs.declared.command.Fixity.TheVariants as VFixity
use Rattle.iv_forms.specs.declared.command.Constant.{Constant}
use Rattle.iv_forms.specs.declared.command.Equation.{Equation}
use Rattle.iv_forms.specs.declared.lexeme.Lexeme.{Lexeme}
use Rattle.iv_facts.specs.Found.{Found, got, then_, begins, behind, one, many}

unfoldable pub some_nat : List Lexeme → Found (Option ℕ)
some_nat ts = if begins sort.Numeral ts then then_ (one sort.Numeral ts) (λ n us. got (Some n.number) us) else got None ts

-- a symbol and the priority of an infix form
unfoldable pub infix_parts : List Lexeme → Found (Token × ℕ)
infix_parts ts = then_ (one (sort.Only class.Plain) ts) (λ s us. then_ (one (sort.Only class.Low) us) (λ n vs. got (s.token, n.number) vs))

-- a symbol and the priority of a binder
unfoldable pub binder_parts : List Lexeme → Found (Token × ℕ)
binder_parts ts = then_ (one sort.Binding ts) (λ s us. then_ (one sort.Priority us) (λ n vs. got (s.token, n.number) vs))

-- both priorities behind a prefix symbol
unfoldable pub priorities : List Lexeme → Found (ℕ × ℕ)
priorities ts = then_ (one (sort.Only class.Left) ts) (λ a us. then_ (one sort.Priority us) (λ n vs.
    then_ (one (sort.Only class.Right) vs) (λ b ws. then_ (one sort.Priority ws) (λ m ys. got (n.number, m.number) ys))))

unfoldable pub fixity : List Lexeme → Found Fixity
fixity ts =
    if begins (sort.Only class.Plain) ts then then_ (one (sort.Only class.Plain) ts) (λ s us. got (VFixity.Plain s.token) us)
    else (if begins (sort.Only class.Infix) ts then then_ (infix_parts (behind ts)) (λ p us. got (VFixity.Infix p.0 p.1) us)
    else (if begins (sort.Only class.Infixl) ts then then_ (infix_parts (behind ts)) (λ p us. got (VFixity.Infixl p.0 p.1) us)
    else (if begins (sort.Only class.Infixr) ts then then_ (infix_parts (behind ts)) (λ p us. got (VFixity.Infixr p.0 p.1) us)
    else (if begins (sort.Only class.Binder) ts then then_ (binder_parts (behind ts)) (λ p us. got (VFixity.Binder p.0 p.1) us)
    else then_ (one (sort.Only class.Prefix) ts) (λ s us. then_ (priorities us) (λ p vs. got (VFixity.Prefix s.token p.0 p.1) vs))))))

unfoldable pub fix : List Lexeme → Found Fixity
fix ts = if begins (sort.Only class.Open) ts then then_ (fixity (behind ts)) (λ f us. then_ (one (sort.Only class.Close) us) (λ b vs. got f vs)) else got VFixity.None ts

unfoldable pub constant : List Lexeme → Found Constant
constant ts = then_ (one sort.Identifier ts) (λ x us. then_ (one (sort.Only class.Colons) us) (λ c vs. then_ (one sort.Type vs) (λ t ws.
    then_ (fix ws) (λ f ys. got (record { name = x.token; typ = t.token; fixity = f }) ys))))

unfoldable pub more_consts : List Constant → List Lexeme → Found (List Constant)
more_consts found ts = many (begins sort.Identifier) constant found ts ts

unfoldable pub and_consts : List Constant → List Lexeme → Found (List Constant)
and_consts found ts = many (begins (sort.Only class.And)) (λ us. constant (behind us)) found ts ts

unfoldable pub axiom_consts : List Lexeme → Found (List Constant)
axiom_consts ts = if begins sort.Identifier ts then then_ (constant ts) (λ x us. and_consts (x ∷ []) us) else got [] ts

unfoldable pub tvar : List Lexeme → Found Token
tvar ts = then_ (one (sort.Only class.Tvar) ts) (λ v us. got v.token us)

unfoldable pub more_tvars : List Token → List Lexeme → Found (List Token)
more_tvars found ts = many (begins (sort.Only class.Comma)) (λ us. tvar (behind us)) found ts ts

unfoldable pub tvars : List Lexeme → Found (List Token)
tvars ts =
    if begins (sort.Only class.Tvar) ts then then_ (tvar ts) (λ v us. got (v ∷ []) us)
    else (if begins (sort.Only class.Open) ts then then_ (tvar (behind ts)) (λ v us. then_ (more_tvars (v ∷ []) us) (λ xs vs. then_ (one (sort.Only class.Close) vs) (λ b ws. got xs ws)))
    else got [] ts)

unfoldable pub judgment_form : List Lexeme → Found (Unit {0})
judgment_form ts =
    if begins (sort.Only class.Open) ts then then_ (one (sort.Only class.Judging) (behind ts)) (λ s us. then_ (one sort.Priority us) (λ n vs. then_ (one (sort.Only class.Close) vs) (λ b ws. got tt ws)))
    else got tt ts

unfoldable pub equation : List Lexeme → Found Equation
equation ts = then_ (one sort.Term ts) (λ p us. then_ (one (sort.Only class.Equal) us) (λ e vs. then_ (one sort.Term vs) (λ t ws. got (record { pattern = p.token; term = t.token }) ws)))

unfoldable pub more_equations : List Equation → List Lexeme → Found (List Equation)
more_equations found ts = many (begins (sort.Only class.And)) (λ us. equation (behind us)) found ts ts
