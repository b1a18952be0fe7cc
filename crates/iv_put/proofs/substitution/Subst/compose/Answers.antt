use Rattle.iv_put.proofs.Facts.Apart.{apart-under, apart-composed}
use Rattle.iv_put.proofs.substitution.Subst.compose.Goals as goal

pub add_under-requires-clause-apart : goal.add_under-requires-clause-apart
add_under-requires-clause-apart c = rw c.new-both.ensures (apart-under c.args.next.now c.args.self.now.1 c.len-entries.ensures.apart)

pub add_unhidden-requires : goal.add_unhidden-requires
add_unhidden-requires c =
    let first = rw c.new-both.ensures at c.in_ok-add_under.ensures.ok in
    rw first (apart-composed c.args.self.now c.args.next.now c.len-entries.ensures.apart c.len-next.ensures.apart)
