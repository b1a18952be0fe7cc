use Rattle.std.proofs.Common.{length, sym, ◌∙◌, ap}
use Rattle.iv_kernel.proofs.Goals.{length-premises_of}
use Rattle.iv_kernel.proofs.goal.Goal.count.Goals as goal

pub returns : goal.returns
returns c = sym (length-premises_of _ _) ∙ ap (λ g. length g.subgoals) c.self.view_is
