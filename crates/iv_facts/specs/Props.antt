-- How labels, propositions and names are read. Of this project.
use Rattle.std.specs.Prelude.{Bool, ◌&&◌, ◌||◌, List, [], ◌∷◌, Option, Some, None, if◌then◌else◌}
use Rattle.iv_lex.specs.declared.cutting.Token.{Token}
use Rattle.iv_recogniser.specs.declared.class.Class.TheVariants as class
use Rattle.iv_recogniser.specs.declared.class.Sort.{Sort}
use Rattle.iv_recogniser.specs.declared.class.Sort.TheVariants as sort
use Rattle.iv_forms.specs.declared.prop.Label.{Label}
use Rattle.iv_forms.specs.declared.prop.Prop.{Prop}
use Rattle.iv_forms.specs.declared.prop.Claim.{Claim}
use Rattle.iv_forms.specs.declared.prop.Group.{Group}
use Rattle.iv_forms.specs.declared.prop.VarGroup.{VarGroup}
use Rattle.iv_forms.specs.declared.lexeme.Lexeme.{Lexeme}
use Rattle.iv_facts.specs.declared.props.Named.{Named}
use Rattle.iv_facts.specs.Found.{Found, got, then_, part_at, begins, behind, one, many}
use Rattle.iv_facts.specs.FactLevels.{limit}
use Rattle.iv_facts.specs.Facts.{opt_atts}

-- the next token, of a set, alone
unfoldable pub text_of : Sort → List Lexeme → Found Token
text_of k ts = then_ (one k ts) (λ x us. got x.token us)

-- tokens of one set behind those that were found
unfoldable pub more_of : Sort → List Token → List Lexeme → Found (List Token)
more_of k found ts = many (begins k) (text_of k) found ts ts

-- tokens of one set, one at least
unfoldable pub some_of : Sort → List Lexeme → Found (List Token)
some_of k ts = then_ (text_of k ts) (λ x us. more_of k (x ∷ []) us)

-- NAME ATTS? in front of `=`, or of the `:` of an axiom
unfoldable pub named_parts : List Lexeme → Found Named
named_parts ts = then_ (text_of sort.Name ts) (λ n us. then_ (opt_atts limit us) (λ xs vs. got (record { name = n; atts = xs }) vs))

unfoldable pub named_atts : List Lexeme → Found Named
named_atts ts = part_at ts (named_parts ts)

unfoldable pub opt_name : List Lexeme → Found (Option Token)
opt_name ts = if begins sort.Name ts then then_ (text_of sort.Name ts) (λ n us. got (Some n) us) else got None ts

unfoldable pub label_parts : List Lexeme → Found Label
label_parts ts = then_ (opt_name ts) (λ n us. then_ (opt_atts limit us) (λ xs vs. then_ (one (sort.Only class.Colon) vs) (λ c ws. got (record { name = n; atts = xs }) ws)))

unfoldable pub label : List Lexeme → Found Label
label ts = part_at ts (label_parts ts)

-- whether a label stands ahead: `[`, or a name and behind it `:` or `[`
unfoldable pub begins_label : List Lexeme → Bool
begins_label ts = begins (sort.Only class.Left) ts || (begins sort.Name ts && (begins (sort.Only class.Colon) (behind ts) || begins (sort.Only class.Left) (behind ts)))

unfoldable pub opt_label : List Lexeme → Found (Option Label)
opt_label ts = if begins_label ts then then_ (label ts) (λ l us. got (Some l) us) else got None ts

unfoldable pub patterns : List Lexeme → Found (List Token)
patterns ts = if begins (sort.Only class.Open) ts
    then then_ (one (sort.Only class.Is) (behind ts)) (λ w us. then_ (some_of sort.Term us) (λ xs vs. then_ (one (sort.Only class.Close) vs) (λ b ws. got xs ws)))
    else got [] ts

unfoldable pub prop : List Lexeme → Found Prop
prop ts = then_ (text_of sort.Term ts) (λ t us. then_ (patterns us) (λ ps vs. got (record { term = t; patterns = ps }) vs))

unfoldable pub claim : List Lexeme → Found Claim
claim ts = then_ (opt_label ts) (λ l us. then_ (prop us) (λ p vs. got (record { label = l; prop = p }) vs))

unfoldable pub more_props : List Prop → List Lexeme → Found (List Prop)
more_props found ts = many (begins sort.Term) prop found ts ts

unfoldable pub group : List Lexeme → Found Group
group ts = then_ (opt_label ts) (λ l us. then_ (prop us) (λ p vs. then_ (more_props (p ∷ []) vs) (λ ps ws. got (record { label = l; props = ps }) ws)))

unfoldable pub more_groups : List Group → List Lexeme → Found (List Group)
more_groups found ts = many (begins (sort.Only class.And)) (λ us. group (behind us)) found ts ts

unfoldable pub props : List Lexeme → Found (List Group)
props ts = then_ (group ts) (λ g us. more_groups (g ∷ []) us)

unfoldable pub of_type : List Lexeme → Found (Option Token)
of_type ts = if begins (sort.Only class.Colons) ts then then_ (text_of sort.Type (behind ts)) (λ t us. got (Some t) us) else got None ts

unfoldable pub var_group : List Lexeme → Found VarGroup
var_group ts = then_ (some_of sort.Identifier ts) (λ xs us. then_ (of_type us) (λ t vs. got (record { names = xs; typ = t }) vs))

unfoldable pub more_vars : List VarGroup → List Lexeme → Found (List VarGroup)
more_vars found ts = many (begins (sort.Only class.And)) (λ us. var_group (behind us)) found ts ts

unfoldable pub vars : List Lexeme → Found (List VarGroup)
vars ts = then_ (var_group ts) (λ g us. more_vars (g ∷ []) us)

unfoldable pub opt_for : List Lexeme → Found (List VarGroup)
opt_for ts = if begins (sort.Only class.For) ts then vars (behind ts) else got [] ts
