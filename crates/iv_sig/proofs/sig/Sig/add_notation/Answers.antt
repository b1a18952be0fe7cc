use Rattle.std.proofs.Common.{ap, sym}
use Rattle.iv_sig.specs.Signature.{Signature}
use Rattle.iv_sig.proofs.Declaring.{none-yet, is-notation}
use Rattle.iv_sig.proofs.Keeping.{kept-notation}
use Rattle.iv_sig.proofs.sig.Sig.add_notation.Goals as goal

pub push-requires-clause-constant_is_new : goal.push-requires-clause-constant_is_new
push-requires-clause-constant_is_new c =
    let same = ap (λ (s : Signature). s.notations) c.self.view_is in
    rw (c.in_ok-copy.ensures.ok, same) (none-yet c.args.self.now c.args.name.now c.args.fixity c.requires)

pub invariant_of-self-2 : goal.invariant_of-self-2
invariant_of-self-2 c =
    let old = c.self.inside in
    let other = rw c.symbol.ensures at (sym c.if-is_delimiter.ensures) in
    let s : Signature = record { types = old.types; consts = old.consts; notations = old.notations; judgment = old.judgment; axioms = old.axioms } in
    let may = rw (← c.self.view_is) at c.requires in
    rw (c.in_ok-push.ensures.ok, c.in_ok-copy.ensures.ok) (kept-notation s c.self.invariant c.args.name.now c.args.fixity (is-notation s c.args.name.now c.args.fixity may other))
