use Rattle.iv_kernel.proofs.goal.+premise.Given as goal

abbrev pub decreases-premise : goal.decreases-premise
decreases-premise l = l.count
