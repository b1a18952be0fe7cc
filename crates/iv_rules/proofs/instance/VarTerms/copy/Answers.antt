use Rattle.iv_rules.proofs.instance.VarTerms.copy.Goals as goal

pub invariant_of-result : goal.invariant_of-result
invariant_of-result c = rw c.in_ok-entries.ensures.ok c.self.invariant
