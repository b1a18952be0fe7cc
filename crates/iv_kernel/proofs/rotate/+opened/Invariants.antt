use Rattle.iv_kernel.proofs.rotate.+opened.Given as goal

abbrev pub decreases-opened : goal.decreases-opened
decreases-opened l = l.count
