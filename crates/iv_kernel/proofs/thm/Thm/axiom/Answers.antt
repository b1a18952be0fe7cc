use Rattle.std.proofs.Common.{◌≡◌, Some, Ok, refl, sym, subst, ap, ◌∙◌}
use Rattle.std.specs.Prelude.{IfSome}
use Rattle.std.specs.Str.{bytes_eq}
use Rattle.std.proofs.lemmas.Map.Entries.{All-lookup}
use Rattle.std.proofs.lemmas.Result.{IfOk-weaker}
use Rattle.iv_term.specs.declared.term.Term.TheBlock.{Nil}
use Rattle.iv_sig.specs.Conditions.{IsAxiom}
use Rattle.iv_sig.specs.Table.{look}
use Rattle.iv_kernel.proofs.Results.{shown-by, axiom-kept}
use Rattle.iv_kernel.proofs.thm.Thm.axiom.Goals as goal

pub by-requires : goal.by-requires
by-requires c =
    let e : Some c.in-Some.axiom.now ≡ look c.axioms.result.now c.args.name.now = rw c.in-Some.is at c.get.ensures in
    let h : IsAxiom c.in-Some.axiom.now = subst (λ o. IfSome o IsAxiom) (sym e) (All-lookup IsAxiom (bytes_eq c.args.name.now) c.axioms.result.now (rw (sym c.axioms.ensures.same) at c.axioms.ensures.closed)) in
    shown-by _ (Ok Nil) _ _ _ _ c.axiom-rule.ensures.ok refl c.copy-prop.ensures.ok (c.propositions_are_shown.ensures.axiom _ _ h.0)

pub returns-clause-prop : goal.returns-clause-prop
returns-clause-prop c =
    let e : Some c.in-Some.axiom.now ≡ look c.axioms.result.now c.args.name.now = rw c.in-Some.is at c.get.ensures in
    let h : look c.args.sig.now.axioms c.args.name.now ≡ Some c.in-Some.axiom.now = rw c.axioms.ensures.same at (sym e) in
    IfOk-weaker c.by.result _ _ (λ t p. h ∙ ap Some (sym p)) (c.by.ensures.prop _ c.copy-prop.ensures.ok)

pub returns-clause-derivation : goal.returns-clause-derivation
returns-clause-derivation c = axiom-kept _ _ _ (c.by.ensures.prop _ c.copy-prop.ensures.ok) (c.by.ensures.derivation _ c.axiom-rule.ensures.ok)
