use Rattle.std.proofs.Common.{sym, ◌∙◌, le_of_eq}
use Rattle.iv_hsub.proofs.Terms.Closed.{raise-closed}
use Rattle.iv_hsub.proofs.substitution.raised.Goals as goal

pub returns-then-loose-eq0-clause-ok : goal.returns-then-loose-eq0-clause-ok
returns-then-loose-eq0-clause-ok c =
    rw (raise-closed c.args.by 0 c.args.v.now (le_of_eq (sym c.loose.ensures ∙ c.if-loose-eq0.true))) c.copy.ensures.ok
