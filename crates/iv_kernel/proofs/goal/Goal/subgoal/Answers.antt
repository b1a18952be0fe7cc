use Rattle.std.proofs.Common.{◌≡◌, length, sym, ◌∙◌, ap, arith}
use Rattle.iv_kernel.proofs.Goals.{length-premises_of}
use Rattle.iv_kernel.proofs.goal.Goal.subgoal.Goals as goal

pub premise-requires : goal.premise-requires
premise-requires c =
    let n : c.self.inside.count ≡ length c.args.self.now.subgoals = sym (length-premises_of _ _) ∙ ap (λ g. length g.subgoals) c.self.view_is in
    omega (arith, c.requires.from, c.requires.to)
