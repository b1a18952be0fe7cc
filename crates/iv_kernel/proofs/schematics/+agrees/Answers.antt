use Rattle.std.proofs.Common.{refl}
use Rattle.iv_term.specs.Term.{abs_is, cons_is}
use Rattle.iv_kernel.specs.Schematics.{variables_of, variables_of_all}
use Rattle.iv_kernel.proofs.Variables.{both_yes, first_no}
use Rattle.iv_kernel.proofs.schematics.+agrees.Goals as goal

pub agrees-returns-in-Abs : goal.agrees-returns-in-Abs
unfolding variables_of
agrees-returns-in-Abs t c = rw (c.in-Abs.is, abs_is, ← c.get.ensures) c.agrees.ensures

pub agrees-returns-then-head_agrees : goal.agrees-returns-then-head_agrees
unfolding variables_of
agrees-returns-then-head_agrees t c = rw c.in-Spine.is (both_yes _ _ _ _ _ c.head_agrees.ensures c.if-head_agrees.true c.all_agree.ensures)

pub agrees-returns-else-head_agrees : goal.agrees-returns-else-head_agrees
unfolding variables_of
agrees-returns-else-head_agrees t c = rw c.in-Spine.is (first_no _ _ _ _ c.head_agrees.ensures c.if-head_agrees.false)

pub all_agree-returns-in-Nil : goal.all_agree-returns-in-Nil
unfolding variables_of_all
all_agree-returns-in-Nil t c = rw c.in-Nil.is (λ h. tt, λ h. refl)

pub all_agree-returns-then-agrees : goal.all_agree-returns-then-agrees
unfolding variables_of_all
all_agree-returns-then-agrees t c =
    rw (c.in-Cons.is, cons_is, ← c.get.ensures, ← c.get-then-agrees.ensures) (both_yes _ _ _ _ _ c.agrees.ensures c.if-agrees.true c.all_agree.ensures)

pub all_agree-returns-else-agrees : goal.all_agree-returns-else-agrees
unfolding variables_of_all
all_agree-returns-else-agrees t c = rw (c.in-Cons.is, cons_is, ← c.get.ensures) (first_no _ _ _ _ c.agrees.ensures c.if-agrees.false)
