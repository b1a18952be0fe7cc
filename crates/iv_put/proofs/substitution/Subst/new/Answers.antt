use Rattle.std.proofs.Common.{ap}
use Rattle.iv_put.specs.Entries.{terms_in, AreTyped}
use Rattle.iv_put.proofs.substitution.Subst.new.Goals as goal

pub invariant_of-result : goal.invariant_of-result
unfolding AreTyped
invariant_of-result c = rw c.new.ensures tt

pub returns : goal.returns
unfolding terms_in
returns c = ap (λ es. (c.args.types, terms_in es)) c.new.ensures
