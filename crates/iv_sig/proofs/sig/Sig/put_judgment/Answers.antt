use Rattle.iv_sig.proofs.Keeping.{kept-judgment}
use Rattle.iv_sig.proofs.sig.Sig.put_judgment.Goals as goal

pub invariant_of-self-2 : goal.invariant_of-self-2
invariant_of-self-2 c =
    let old = c.self.inside in
    let new = rw (← c.self.view_is) at c.requires.new in
    rw (c.in_ok-push.ensures.ok, c.in_ok-judgment.ensures.ok)
    (kept-judgment (record { types = old.types; consts = old.consts; notations = old.notations; judgment = old.judgment; axioms = old.axioms }) c.self.invariant c.args.name c.args.typ new c.requires.typed)
