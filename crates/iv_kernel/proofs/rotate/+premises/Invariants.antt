use Rattle.iv_kernel.proofs.rotate.+premises.Given as goal

abbrev pub decreases-premises : goal.decreases-premises
decreases-premises l = l.count
