use Rattle.std.proofs.Common.{sym}
use Rattle.iv_sig.proofs.Keeping.{kept-type}
use Rattle.iv_sig.proofs.sig.Sig.add_type.Goals as goal

pub invariant_of-self-2 : goal.invariant_of-self-2
invariant_of-self-2 c =
    let old = c.self.inside in
    let new = rw (← c.self.view_is) at (sym c.if-is_there.ensures) in
    rw c.in_ok-push.ensures.ok
    (kept-type (record { types = old.types; consts = old.consts; notations = old.notations; judgment = old.judgment; axioms = old.axioms }) c.self.invariant c.args.name c.args.arity new)
