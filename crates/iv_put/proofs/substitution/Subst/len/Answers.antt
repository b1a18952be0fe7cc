use Rattle.std.proofs.Common.{ap, sym, ◌∙◌, length}
use Rattle.iv_put.proofs.Facts.Values.{length-terms, closed-in, apart-in}
use Rattle.iv_put.proofs.substitution.Subst.len.Goals as goal

pub returns-clause-same : goal.returns-clause-same
returns-clause-same c = c.len.ensures.same ∙ sym (length-terms c.self.inside.entries) ∙ ap (λ s. length s.1) c.self.view_is

pub returns-clause-closed : goal.returns-clause-closed
returns-clause-closed c = rw (← c.self.view_is) (closed-in c.self.inside.entries c.self.invariant)

pub returns-clause-apart : goal.returns-clause-apart
returns-clause-apart c = rw (← c.self.view_is) (apart-in c.self.inside.entries c.len.ensures.apart)
