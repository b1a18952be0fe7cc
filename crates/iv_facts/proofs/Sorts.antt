-- Sets of classes within each other and apart from each other.
use Rattle.std.proofs.Common.{◌≡◌, Bool, true, false, refl}
use Rattle.std.specs.Prelude.{not}
use Rattle.std.specs.List.{list_all}
use Rattle.iv_recogniser.specs.declared.class.Class.{Class}
use Rattle.iv_recogniser.specs.declared.class.Sort.{Sort}
use Rattle.iv_recogniser.specs.Class.{has, members}
use Rattle.iv_forms.specs.declared.lexeme.Lexeme.{Lexeme}
use Rattle.iv_forms.specs.Lexeme.{Is}
use Rattle.iv_facts.specs.Laws.{clear}

-- what holds of all members of a set holds of each class that the set has
abbrev pub Law : Type 0
Law = (k : Sort) (test : Class → Bool) → list_all test (members k) ≡ true → (c : Class) → has k c ≡ true → test c ≡ true

not_true : {b : Bool} → not b ≡ true → b ≡ false
not_true {b = true} e = cc
not_true {b = false} e = refl

module _ (law : Law) where
  pub within : (k l : Sort) → list_all (has l) (members k) ≡ true → (t : Lexeme) → Is k t → Is l t
  within k l all t h = law k (has l) all t.class h

  pub apart : (k l : Sort) → clear k l ≡ true → (c : Class) → has l c ≡ true → has k c ≡ false
  apart k l free c h = not_true (law l (λ c. not (has k c)) free c h)
