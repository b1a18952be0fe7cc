use Rattle.std.proofs.Common.{◌∙◌, refl, ap}
use Rattle.iv_term.specs.Term.{imp, cons_is}
use Rattle.iv_rules.specs.Rules.{Proved, axioms_of}
use Rattle.iv_kernel.proofs.Results.{known}
use Rattle.iv_kernel.proofs.Orders.{part-is, hyps-in, axioms-are, in-without, none-discharged, one-discharged, intr-axioms, props-first, props-rest, listed-none, listed-more, listed-shorter}
use Rattle.iv_kernel.proofs.rotate.+discharged.Goals as goal

pub returns-in-Nil-clause-prop : goal.returns-in-Nil-clause-prop
returns-in-Nil-clause-prop t c = rw c.in-Nil.is (part-is _ (λ z. z.prop) _ _ c.copy.ensures.ok (none-discharged _))

pub returns-in-Nil-clause-hyps : goal.returns-in-Nil-clause-hyps
returns-in-Nil-clause-hyps t c = rw c.in-Nil.is (λ ts h. hyps-in _ c.args.thm.now.hyps ts (part-is _ (λ z. z.hyps) _ _ c.copy.ensures.ok refl) (listed-none c.args.thm.now.hyps ts h))

pub returns-in-Nil-clause-axioms : goal.returns-in-Nil-clause-axioms
returns-in-Nil-clause-axioms t c = part-is _ (λ z. axioms_of z.derivation) _ _ c.copy.ensures.ok refl

pub discharged-requires : goal.discharged-requires
discharged-requires t c = rw c.get.ensures (rw (← c.decreases, c.in-Cons.is, cons_is) (listed-shorter _ _), props-rest _ _ (rw (c.in-Cons.is, cons_is) at c.requires))

pub imp_intr-requires : goal.imp_intr-requires
imp_intr-requires t c = rw c.get-in-Cons.ensures (props-first _ _ (rw (c.in-Cons.is, cons_is) at c.requires))

pub returns-in_ok-inner-in-Cons-clause-prop : goal.returns-in_ok-inner-in-Cons-clause-prop
returns-in_ok-inner-in-Cons-clause-prop t c =
    rw (c.in-Cons.is, cons_is, ← c.get.ensures, ← c.get-in-Cons.ensures)
    (known {T = Proved} _ (λ z. z.prop) _ _ c.imp_intr.ensures.prop (ap (imp _) c.in_ok-inner-in-Cons.ensures.prop ∙ one-discharged _ _ _))

pub returns-in_ok-inner-in-Cons-clause-hyps : goal.returns-in_ok-inner-in-Cons-clause-hyps
returns-in_ok-inner-in-Cons-clause-hyps t c =
    rw (c.in-Cons.is, cons_is, ← c.get.ensures, ← c.get-in-Cons.ensures)
    (λ ts h. hyps-in _ _ ts c.imp_intr.ensures.hyps (in-without c.hypotheses_are_told_apart.ensures c.get-in-Cons.result.now c.in_ok-inner-in-Cons.inner.hyps ts (c.in_ok-inner-in-Cons.ensures.hyps _ (listed-more c.get-in-Cons.result.now c.get.result.now c.args.thm.now.hyps ts h))))

pub returns-in_ok-inner-in-Cons-clause-axioms : goal.returns-in_ok-inner-in-Cons-clause-axioms
returns-in_ok-inner-in-Cons-clause-axioms t c = axioms-are _ _ _ c.imp_intr.ensures.derivation (intr-axioms _ _ _ refl ∙ c.in_ok-inner-in-Cons.ensures.axioms)
