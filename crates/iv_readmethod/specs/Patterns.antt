-- How numbers and the patterns of a case are read. Of this project.
use Rattle.std.specs.Prelude.{ℕ, Bool, ◌&&◌, List, Option, Some, None, if◌then◌else◌}
use Rattle.iv_lex.specs.declared.cutting.Token.{Token}
use Rattle.iv_recogniser.specs.declared.class.Class.TheVariants as class
use Rattle.iv_recogniser.specs.declared.class.Sort.TheVariants as sort
use Rattle.iv_forms.specs.declared.method.Cut.{Cut}
use Rattle.iv_forms.specs.declared.method.Cut.TheVariants as VCut
use Rattle.iv_forms.specs.declared.method.Pattern.{Pattern}
use Rattle.iv_forms.specs.declared.lexeme.Lexeme.{Lexeme}
use Rattle.iv_facts.specs.Found.{Found, got, then_, begins, behind, one, many}

-- whether an identifier and `:` come next
unfoldable pub named : List Lexeme → Bool
named ts = begins sort.Identifier ts && begins (sort.Only class.Colon) (behind ts)

unfoldable pub opt_nat : List Lexeme → Found ℕ
opt_nat ts = if begins sort.Numeral ts then then_ (one sort.Numeral ts) (λ n us. got n.number us) else got 1 ts

unfoldable pub cut : List Lexeme → Found Cut
cut ts = if begins (sort.Only class.Open) ts
    then then_ (one (sort.Only class.Cut) (behind ts)) (λ w us. then_ (opt_nat us) (λ n vs. then_ (one (sort.Only class.Close) vs) (λ b ws. got (VCut.AtMost n) ws)))
    else got VCut.All ts

-- a pattern behind its name
unfoldable pub bare_pattern : Option Token → List Lexeme → Found Pattern
bare_pattern name ts = then_ (one sort.Term ts) (λ t us. then_ (cut us) (λ k vs. got (record { name = name; term = t.token; cut = k }) vs))

unfoldable pub pattern : List Lexeme → Found Pattern
pattern ts = if named ts then then_ (one sort.Identifier ts) (λ x us. bare_pattern (Some x.token) (behind us)) else bare_pattern None ts

unfoldable pub more_patterns : List Pattern → List Lexeme → Found (List Pattern)
more_patterns found ts = many (begins (sort.Only class.And)) (λ us. pattern (behind us)) found ts ts
