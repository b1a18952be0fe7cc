use Rattle.std.proofs.Common.{◌≡◌, false, sym, ◌∙◌}
use Rattle.iv_recogniser.specs.declared.class.Class.TheVariants as class
use Rattle.iv_outer.specs.Opened.{any_case}
use Rattle.iv_outer.proofs.OpenSteps.{opened_same}
use Rattle.iv_outer.proofs.opened.opened.Goals as goal

pub returns-then-not-any_case-clause-ok : goal.returns-then-not-any_case-clause-ok
returns-then-not-any_case-clause-ok c =
    let none : any_case class.Other c.loop-left.now.items ≡ false = rw c.deref.ensures.value at (sym c.any_case.ensures ∙ c.if-not-any_case.true) in
    sym (opened_same c.loop-left.left c.loop-left.now.items none) ∙ c.loop-left.invariant
