-- What the laws say that readers of forms above rely on. Of this project.
use Rattle.std.specs.Prelude.{◌≡◌, ◌<◌, ◌≤◌, Bool, true, false, not, List, ◌∷◌, length, Option}
use Rattle.std.specs.List.{list_all}
use Rattle.iv_text.specs.declared.Pos.{Pos}
use Rattle.iv_lex.specs.declared.cutting.Token.{Token}
use Rattle.iv_recogniser.specs.declared.class.Class.{Class}
use Rattle.iv_recogniser.specs.declared.class.Class.TheVariants as class
use Rattle.iv_recogniser.specs.declared.class.Sort.{Sort}
use Rattle.iv_recogniser.specs.declared.class.Sort.TheVariants as sort
use Rattle.iv_recogniser.specs.Class.{has, members}
use Rattle.iv_forms.specs.declared.fact.Sel.{Sel}
use Rattle.iv_forms.specs.declared.fact.Fact.{Fact}
use Rattle.iv_forms.specs.declared.fact.Att.{Att}
use Rattle.iv_forms.specs.declared.prop.Label.{Label}
use Rattle.iv_forms.specs.declared.prop.Prop.{Prop}
use Rattle.iv_forms.specs.declared.prop.Claim.{Claim}
use Rattle.iv_forms.specs.declared.prop.Group.{Group}
use Rattle.iv_forms.specs.declared.prop.VarGroup.{VarGroup}
use Rattle.iv_forms.specs.declared.lexeme.Lexeme.{Lexeme}
use Rattle.iv_forms.specs.Lexeme.{Is, AreAll}
use Rattle.iv_forms.specs.FactForm.{IsSels, IsAtts, IsOptAtts, IsFact, IsMoreFacts, IsFacts}
use Rattle.iv_forms.specs.PropForm.{IsOptLabel, IsProp, IsClaim, IsProps, IsOfType, IsVars, IsOptFor}
use Rattle.iv_facts.specs.Found.{got, begins, unless_deep, IsAmong, Placed}
use Rattle.iv_facts.specs.FactLevels.{opt_atts_levels, deep_at, deep_fact, deep_facts, deep_opt_label, deep_claim, deep_props}
use Rattle.iv_facts.specs.Facts as F
use Rattle.iv_facts.specs.Props as P

-- whether k has no class of l
abbrev pub clear : Sort → Sort → Bool
clear k l = list_all (λ c. not (has k c)) (members l)

-- a set is within another, or has no class in common with one, where that holds of all members
pub record SetsAreApart : Type 0 where
  pub within : (k l : Sort) → list_all (has l) (members k) ≡ true → (t : Lexeme) → Is k t → Is l t
  pub apart : (k l : Sort) → clear k l ≡ true → (c : Class) → has l c ≡ true → has k c ≡ false

-- what reads facts finds them, or the place of the first that is too deep
pub record FactsAreRead : Type 0 where
  pub fact : {f : Fact} {ts us : List Lexeme} (d : IsFact f ts us) → begins (sort.Only class.Open) us ≡ false → begins (sort.Only class.Left) us ≡ false → F.a_fact ts ≡ unless_deep (deep_fact d) f us
  pub facts : {fs : List Fact} {ts us : List Lexeme} (d : IsFacts fs ts us) → begins (sort.Only class.Open) us ≡ false → begins (sort.Only class.Left) us ≡ false
      → begins (sort.Only class.Colon) us ≡ false → F.goes_fact us ≡ false → F.facts ts ≡ unless_deep (deep_facts d) fs us

-- what reads labels and propositions finds them, or the place of the first label that is too deep
pub record PropsAreRead : Type 0 where
  pub named_atts : (n : Lexeme) {xs : List Att} {ts us : List Lexeme} → Is sort.Name n → (a : IsOptAtts xs ts us) → begins (sort.Only class.Left) us ≡ false
      → P.named_atts (n ∷ ts) ≡ unless_deep (deep_at (n ∷ ts) (opt_atts_levels a)) (record { name = n.token; atts = xs }) us
  pub opt_label : {l : Option Label} {ts us : List Lexeme} (d : IsOptLabel l ts us) → P.begins_label us ≡ false → P.opt_label ts ≡ unless_deep (deep_opt_label d) l us
  pub no_label : {p : Prop} {ts us : List Lexeme} → IsProp p ts us → begins (sort.Only class.Colon) us ≡ false → begins (sort.Only class.Left) us ≡ false → P.begins_label ts ≡ false
  pub prop : {p : Prop} {ts us : List Lexeme} → IsProp p ts us → begins (sort.Only class.Open) us ≡ false → P.prop ts ≡ got p us
  pub claim : {c : Claim} {ts us : List Lexeme} (d : IsClaim c ts us) → begins (sort.Only class.Open) us ≡ false → begins (sort.Only class.Colon) us ≡ false → begins (sort.Only class.Left) us ≡ false
      → P.claim ts ≡ unless_deep (deep_claim d) c us
  pub props : {gs : List Group} {ts us : List Lexeme} (d : IsProps gs ts us) → begins (sort.Only class.Open) us ≡ false → begins sort.Term us ≡ false → begins (sort.Only class.Colon) us ≡ false
      → begins (sort.Only class.Left) us ≡ false → begins (sort.Only class.And) us ≡ false → P.props ts ≡ unless_deep (deep_props d) gs us

-- what reads names, and names with types, finds them
pub record NamesAreRead : Type 0 where
  pub some_of : (k : Sort) (t : Lexeme) {xs : List Token} {ts us : List Lexeme} → Is k t → AreAll k xs ts us → begins k us ≡ false → P.some_of k (t ∷ ts) ≡ got (t.token ∷ xs) us
  pub of_type : {t : Option Token} {ts us : List Lexeme} → IsOfType t ts us → begins (sort.Only class.Colons) us ≡ false → P.of_type ts ≡ got t us
  pub vars : {gs : List VarGroup} {ts us : List Lexeme} → IsVars gs ts us → begins (sort.Only class.Colons) us ≡ false → begins sort.Identifier us ≡ false → begins (sort.Only class.And) us ≡ false → P.vars ts ≡ got gs us
  pub opt_for : {gs : List VarGroup} {ts us : List Lexeme} → IsOptFor gs ts us → begins (sort.Only class.For) us ≡ false → begins (sort.Only class.Colons) us ≡ false → begins sort.Identifier us ≡ false
      → begins (sort.Only class.And) us ≡ false → P.opt_for ts ≡ got gs us

-- what is behind a form is no longer than what it reads, and shorter where that has a token
pub record FormsAreShort : Type 0 where
  pub tokens : {k : Sort} {v : List Token} {ts us : List Lexeme} → AreAll k v ts us → length us ≤ length ts
  pub sels : {v : List Sel} {ts us : List Lexeme} → IsSels v ts us → length us ≤ length ts
  pub opt_atts : {v : List Att} {ts us : List Lexeme} → IsOptAtts v ts us → length us ≤ length ts
  pub fact : {v : Fact} {ts us : List Lexeme} → IsFact v ts us → length us < length ts
  pub more_facts : {v : List Fact} {ts us : List Lexeme} → IsMoreFacts v ts us → length us ≤ length ts
  pub facts : {v : List Fact} {ts us : List Lexeme} → IsFacts v ts us → length us < length ts
  pub opt_for : {v : List VarGroup} {ts us : List Lexeme} → IsOptFor v ts us → length us ≤ length ts

-- a form begins with no token of a set that has none of its first ones
pub record FormsBegin : Type 0 where
  pub sels : (k : Sort) → clear k (sort.Only class.Open) ≡ true → {v : List Sel} {ts us : List Lexeme} → IsSels v ts us → begins k us ≡ false → begins k ts ≡ false
  pub atts : (k : Sort) → clear k (sort.Only class.Left) ≡ true → {v : List Att} {ts us : List Lexeme} → IsAtts v ts us → begins k ts ≡ false
  pub opt_atts : (k : Sort) → clear k (sort.Only class.Left) ≡ true → {v : List Att} {ts us : List Lexeme} → IsOptAtts v ts us → begins k us ≡ false → begins k ts ≡ false
  pub fact : (k : Sort) → clear k sort.Name ≡ true → {v : Fact} {ts us : List Lexeme} → IsFact v ts us → begins k ts ≡ false
  pub more_facts : (k : Sort) → clear k sort.Name ≡ true → clear k (sort.Only class.And) ≡ true → {v : List Fact} {ts us : List Lexeme} → IsMoreFacts v ts us → begins k us ≡ false → begins k ts ≡ false
  pub prop : (k : Sort) → clear k sort.Term ≡ true → {v : Prop} {ts us : List Lexeme} → IsProp v ts us → begins k ts ≡ false
  pub opt_for : (k : Sort) → clear k (sort.Only class.For) ≡ true → {v : List VarGroup} {ts us : List Lexeme} → IsOptFor v ts us → begins k us ≡ false → begins k ts ≡ false

-- a place among the tokens behind a form is among those that it reads
pub record PlacesAreKept : Type 0 where
  pub tokens : (p : Pos) → {k : Sort} {v : List Token} {ts us : List Lexeme} → AreAll k v ts us → IsAmong p us → IsAmong p ts
  pub sels : (p : Pos) → {v : List Sel} {ts us : List Lexeme} → IsSels v ts us → IsAmong p us → IsAmong p ts
  pub opt_atts : (p : Pos) → {v : List Att} {ts us : List Lexeme} → IsOptAtts v ts us → IsAmong p us → IsAmong p ts
  pub more_facts : (p : Pos) → {v : List Fact} {ts us : List Lexeme} → IsMoreFacts v ts us → IsAmong p us → IsAmong p ts
  pub facts : (p : Pos) → {v : List Fact} {ts us : List Lexeme} → IsFacts v ts us → IsAmong p us → IsAmong p ts
  pub opt_label : (p : Pos) → {v : Option Label} {ts us : List Lexeme} → IsOptLabel v ts us → IsAmong p us → IsAmong p ts
  pub of_type : (p : Pos) → {v : Option Token} {ts us : List Lexeme} → IsOfType v ts us → IsAmong p us → IsAmong p ts
  pub vars : (p : Pos) → {v : List VarGroup} {ts us : List Lexeme} → IsVars v ts us → IsAmong p us → IsAmong p ts
  pub opt_for : (p : Pos) → {v : List VarGroup} {ts us : List Lexeme} → IsOptFor v ts us → IsAmong p us → IsAmong p ts

-- where a part is too deep, one of the tokens begins
pub record DeepFactsArePlaced : Type 0 where
  pub facts : {fs : List Fact} {ts us : List Lexeme} (d : IsFacts fs ts us) → Placed ts (deep_facts d)
  pub opt_label : {l : Option Label} {ts us : List Lexeme} (d : IsOptLabel l ts us) → Placed ts (deep_opt_label d)
  pub claim : {c : Claim} {ts us : List Lexeme} (d : IsClaim c ts us) → Placed ts (deep_claim d)
  pub props : {gs : List Group} {ts us : List Lexeme} (d : IsProps gs ts us) → Placed ts (deep_props d)
