-- What the laws of methods say, and what they rely on. Of this project.
use Rattle.std.specs.Prelude.{◌≡◌, true, false, List, Option}
use Rattle.iv_text.specs.declared.Pos.{Pos}
use Rattle.iv_recogniser.specs.declared.class.Class.TheVariants as class
use Rattle.iv_recogniser.specs.declared.class.Sort.{Sort}
use Rattle.iv_recogniser.specs.declared.class.Sort.TheVariants as sort
use Rattle.iv_forms.specs.declared.method.MethodText.{MethodText}
use Rattle.iv_forms.specs.declared.lexeme.Lexeme.{Lexeme}
use Rattle.iv_forms.specs.MethodForm.{IsMethod, IsOptMethod}
use Rattle.iv_facts.specs.Found.{begins, unless_deep, IsAmong, Placed}
use Rattle.iv_facts.specs.Laws.{clear, SetsAreApart, FactsAreRead, NamesAreRead, FormsAreShort, FormsBegin, PlacesAreKept, DeepFactsArePlaced}
use Rattle.iv_readmethod.specs.MethodLevels.{deep_method, deep_opt_method}
use Rattle.iv_readmethod.specs.Methods as M

-- what is known of the readers below
pub record Below : Type 0 where
  pub sets : SetsAreApart
  pub facts : FactsAreRead
  pub names : NamesAreRead
  pub lengths : FormsAreShort
  pub firsts : FormsBegin
  pub tails : PlacesAreKept
  pub places : DeepFactsArePlaced

-- what reads methods finds them, or the place of the first part that is too deep
pub record MethodsAreRead : Type 0 where
  pub one : {v : MethodText} {ts us : List Lexeme} (d : IsMethod v ts us) → begins (sort.Only class.Question) us ≡ false → begins (sort.Only class.Plus) us ≡ false → begins (sort.Only class.Left) us ≡ false → M.a_method ts ≡ unless_deep (deep_method d) v us
  pub opt : {v : Option MethodText} {ts us : List Lexeme} (d : IsOptMethod v ts us) → begins sort.Name us ≡ false → begins (sort.Only class.Minus) us ≡ false → begins (sort.Only class.Open) us ≡ false
      → begins (sort.Only class.Question) us ≡ false → begins (sort.Only class.Plus) us ≡ false → begins (sort.Only class.Left) us ≡ false → M.opt_method ts ≡ unless_deep (deep_opt_method d) v us

-- where a method may be, the first token is none of a set that has none of its first ones
pub record MethodsBegin : Type 0 where
  pub opt : (k : Sort) → clear k sort.Name ≡ true → clear k (sort.Only class.Minus) ≡ true → clear k (sort.Only class.Open) ≡ true → {v : Option MethodText} {ts us : List Lexeme} → IsOptMethod v ts us → begins k us ≡ false → begins k ts ≡ false

-- a place among the tokens behind a method is among those that it reads
pub record MethodsKeepPlaces : Type 0 where
  pub one : (p : Pos) → {v : MethodText} {ts us : List Lexeme} → IsMethod v ts us → IsAmong p us → IsAmong p ts

-- where a method, or a fact in it, is too deep, one of the tokens begins
pub record DeepMethodsArePlaced : Type 0 where
  pub one : {v : MethodText} {ts us : List Lexeme} (d : IsMethod v ts us) → Placed ts (deep_method d)
  pub opt : {v : Option MethodText} {ts us : List Lexeme} (d : IsOptMethod v ts us) → Placed ts (deep_opt_method d)
