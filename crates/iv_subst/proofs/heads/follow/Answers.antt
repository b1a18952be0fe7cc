use Rattle.iv_subst.specs.Solved.{link}
use Rattle.iv_subst.proofs.Laws.Heads.{link-default}
use Rattle.iv_subst.proofs.heads.follow.Goals as goal

pub returns-in-Schematic : goal.returns-in-Schematic
unfolding link
returns-in-Schematic c = rw c.in-Schematic.is c.get.ensures

pub returns-in_default : goal.returns-in_default
returns-in_default c = link-default _ _ c.in_default.not-Schematic
