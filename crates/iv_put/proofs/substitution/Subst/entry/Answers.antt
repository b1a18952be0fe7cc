use Rattle.std.proofs.Common.{length, ap, arith}
use Rattle.iv_put.proofs.Facts.Values.{length-terms, terms-at, typed-at}
use Rattle.iv_put.proofs.substitution.Subst.entry.Goals as goal

pub entry-requires : goal.entry-requires
entry-requires c =
    let f = length-terms c.self.inside.entries in
    let g = ap (λ s. length s.1) c.self.view_is in
    let h = c.requires in
    omega (arith, f, g, h)

pub returns-clause-same : goal.returns-clause-same
returns-clause-same c = rw (← c.self.view_is) (terms-at c.self.inside.entries c.args.index _ _ c.entry.ensures)

pub returns-clause-closed : goal.returns-clause-closed
returns-clause-closed c = (typed-at c.self.inside.entries c.args.index _ _ c.self.invariant c.entry.ensures).0
