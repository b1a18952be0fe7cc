use Rattle.iv_subst.specs.TySubst.{at, composed}
use Rattle.iv_subst.proofs.Laws.Entries.{apart-under, apart-composed}
use Rattle.iv_subst.proofs.ty_subst.TySubst.compose.Goals as goal

pub add_under-requires : goal.add_under-requires
add_under-requires c = rw c.new-both.ensures (apart-under (at c.args.next.now) c.args.self.now c.len-entries.ensures.apart)

pub add_unhidden-requires : goal.add_unhidden-requires
unfolding composed
add_unhidden-requires c =
    let first = rw c.new-both.ensures at c.in_ok-add_under.ensures.ok in
    rw first (apart-composed c.args.self.now c.args.next.now c.len-entries.ensures.apart c.len-next.ensures.apart)

pub returns-clause-ok : goal.returns-clause-ok
unfolding composed
returns-clause-ok c =
    let first = rw c.new-both.ensures at c.in_ok-add_under.ensures.ok in
    rw first at c.in_ok-add_unhidden.ensures.ok
