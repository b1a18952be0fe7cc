use Rattle.std.proofs.Common.{sym}
use Rattle.iv_sig.proofs.Keeping.{kept-const}
use Rattle.iv_sig.proofs.sig.Sig.add_const.Goals as goal

pub invariant_of-self-2 : goal.invariant_of-self-2
invariant_of-self-2 c =
    let old = c.self.inside in
    let new = rw (← c.self.view_is) at (sym c.if-is_there.ensures) in
    rw c.in_ok-push.ensures.ok
    (kept-const (record { types = old.types; consts = old.consts; notations = old.notations; judgment = old.judgment; axioms = old.axioms }) c.self.invariant c.args.name c.args.typ new)
