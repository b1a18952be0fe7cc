use Rattle.std.proofs.Common.{refl}
use Rattle.iv_term.specs.Term.{abs_is, cons_is}
use Rattle.iv_kernel.specs.Schematics.{variables_of, variables_of_all}
use Rattle.iv_kernel.proofs.Variables.{both_yes, first_no}
use Rattle.iv_kernel.proofs.schematics.+has_type.Goals as goal

pub has_type-returns-in-Abs : goal.has_type-returns-in-Abs
unfolding variables_of
has_type-returns-in-Abs t c = rw (c.in-Abs.is, abs_is, ← c.get.ensures) c.has_type.ensures

pub has_type-returns-then-head_has_type : goal.has_type-returns-then-head_has_type
unfolding variables_of
has_type-returns-then-head_has_type t c = rw c.in-Spine.is (both_yes _ _ _ _ _ c.head_has_type.ensures c.if-head_has_type.true c.all_have_type.ensures)

pub has_type-returns-else-head_has_type : goal.has_type-returns-else-head_has_type
unfolding variables_of
has_type-returns-else-head_has_type t c = rw c.in-Spine.is (first_no _ _ _ _ c.head_has_type.ensures c.if-head_has_type.false)

pub all_have_type-returns-in-Nil : goal.all_have_type-returns-in-Nil
unfolding variables_of_all
all_have_type-returns-in-Nil t c = rw c.in-Nil.is (λ h. tt, λ h. refl)

pub all_have_type-returns-then-has_type : goal.all_have_type-returns-then-has_type
unfolding variables_of_all
all_have_type-returns-then-has_type t c =
    rw (c.in-Cons.is, cons_is, ← c.get.ensures, ← c.get-then-has_type.ensures) (both_yes _ _ _ _ _ c.has_type.ensures c.if-has_type.true c.all_have_type.ensures)

pub all_have_type-returns-else-has_type : goal.all_have_type-returns-else-has_type
unfolding variables_of_all
all_have_type-returns-else-has_type t c = rw (c.in-Cons.is, cons_is, ← c.get.ensures) (first_no _ _ _ _ c.has_type.ensures c.if-has_type.false)
