use Rattle.std.proofs.Common.{sym, ◌∙◌, ap}
use Rattle.iv_hsub.specs.Hhf.{is_quantified}
use Rattle.iv_hsub.proofs.Terms.Moves.{stays-other, stays-plain}
use Rattle.iv_hsub.proofs.harrop.concludes_quantified.Goals as goal

pub returns-then-not-is_implication : goal.returns-then-not-is_implication
returns-then-not-is_implication c = λ e. stays-other _ _ c.is_implication.ensures c.if-not-is_implication.true

pub returns : goal.returns
returns c = λ e. stays-plain _ (ap is_quantified (sym c.consequent.ensures) ∙ sym c.is_quantified.ensures.same ∙ e)
