-- What a derivation concludes is a sequent, and there is one at most.
use Rattle.std.proofs.Common.{◌≡◌, sym, ◌∙◌, subst}
use Rattle.iv_rules.specs.declared.derivation.Derivation.TheBlock.{Axiom, Assume, Refl}
use Rattle.iv_rules.specs.Derivation.{imp_intr, imp_elim, all_intr, all_elim, eq_sym, eq_trans, comb, abs, eq_intr, eq_elim, conv, inst}
use Rattle.iv_rules.specs.Sequent.{Sequent}
use Rattle.iv_rules.specs.Rules.{Concludes, FollowsByImpIntr, FollowsByImpElim, FollowsByAllIntr, FollowsByAllElim, FollowsBySym, FollowsByTrans, FollowsByComb, FollowsByAbs, FollowsByEqIntr, FollowsByEqElim, FollowsByConv, FollowsByInst}
use Rattle.iv_rules.specs.Laws.{ConcludesSequents, ConcludesOne}

pub concludes_sequents : ConcludesSequents
unfolding Concludes
concludes_sequents (Axiom n a) r h = h.1
concludes_sequents (Assume a) r h = h.1
concludes_sequents (imp_intr a d) r (p, (h, f)) = f.1.1
concludes_sequents (imp_elim d e) r (p, (q, (h, k, f))) = f.1.1
concludes_sequents (all_intr x a d) r (p, (h, f)) = f.1.1
concludes_sequents (all_elim v d) r (p, (h, f)) = f.1.1
concludes_sequents (Refl v) r f = f.1.1
concludes_sequents (eq_sym d) r (p, (h, f)) = f.1.1
concludes_sequents (eq_trans d e) r (p, (q, (h, k, f))) = f.1.1
concludes_sequents (comb d e) r (p, (q, (h, k, f))) = f.1.1
concludes_sequents (abs x a d) r (p, (h, f)) = f.1.1
concludes_sequents (eq_intr d e) r (p, (q, (h, k, f))) = f.1.1
concludes_sequents (eq_elim d e) r (p, (q, (h, k, f))) = f.1.1
concludes_sequents (conv b d) r (p, (h, f)) = f.1.1
concludes_sequents (inst s d) r (p, (h, f)) = f.2.1

-- a rule's premises are the only ones
back : (F : Sequent → Type 0) (p q : Sequent) → p ≡ q → F q → F p
back F p q e h = subst F (sym e) h

back_both : (F : Sequent → Sequent → Type 0) (p p' q q' : Sequent) → p ≡ p' → q ≡ q' → F p' q' → F p q
back_both F p p' q q' e g h = back (λ z. F z q) p p' e (back (λ z. F p' z) q q' g h)

pub concludes_one : ConcludesOne
unfolding Concludes
concludes_one (Axiom n a) r u h k = h.0 ∙ sym k.0
concludes_one (Assume a) r u h k = h.0 ∙ sym k.0
concludes_one (Refl v) r u h k = h.1.0 ∙ sym k.1.0
concludes_one (imp_intr a d) r u (p, (h, f)) (p', (h', f')) =
    f.1.0 ∙ sym ((back (λ z. FollowsByImpIntr a z u) p p' (concludes_one d p p' h h') f').1.0)
concludes_one (all_intr x a d) r u (p, (h, f)) (p', (h', f')) =
    f.1.0 ∙ sym ((back (λ z. FollowsByAllIntr x a z u) p p' (concludes_one d p p' h h') f').1.0)
concludes_one (all_elim v d) r u (p, (h, f)) (p', (h', f')) =
    f.1.0 ∙ sym ((back (λ z. FollowsByAllElim v z u) p p' (concludes_one d p p' h h') f').1.0)
concludes_one (eq_sym d) r u (p, (h, f)) (p', (h', f')) =
    f.1.0 ∙ sym ((back (λ z. FollowsBySym z u) p p' (concludes_one d p p' h h') f').1.0)
concludes_one (abs x a d) r u (p, (h, f)) (p', (h', f')) =
    f.1.0 ∙ sym ((back (λ z. FollowsByAbs x a z u) p p' (concludes_one d p p' h h') f').1.0)
concludes_one (conv b d) r u (p, (h, f)) (p', (h', f')) =
    f.1.0 ∙ sym ((back (λ z. FollowsByConv b z u) p p' (concludes_one d p p' h h') f').1.0)
concludes_one (inst s d) r u (p, (h, f)) (p', (h', f')) =
    f.2.0 ∙ sym ((back (λ z. FollowsByInst s z u) p p' (concludes_one d p p' h h') f').2.0)
concludes_one (imp_elim d e) r u (p, (q, (h, k, f))) (p', (q', (h', k', f'))) =
    f.1.0 ∙ sym ((back_both (λ y z. FollowsByImpElim y z u) p p' q q' (concludes_one d p p' h h') (concludes_one e q q' k k') f').1.0)
concludes_one (eq_trans d e) r u (p, (q, (h, k, f))) (p', (q', (h', k', f'))) =
    f.1.0 ∙ sym ((back_both (λ y z. FollowsByTrans y z u) p p' q q' (concludes_one d p p' h h') (concludes_one e q q' k k') f').1.0)
concludes_one (comb d e) r u (p, (q, (h, k, f))) (p', (q', (h', k', f'))) =
    f.1.0 ∙ sym ((back_both (λ y z. FollowsByComb y z u) p p' q q' (concludes_one d p p' h h') (concludes_one e q q' k k') f').1.0)
concludes_one (eq_intr d e) r u (p, (q, (h, k, f))) (p', (q', (h', k', f'))) =
    f.1.0 ∙ sym ((back_both (λ y z. FollowsByEqIntr y z u) p p' q q' (concludes_one d p p' h h') (concludes_one e q q' k k') f').1.0)
concludes_one (eq_elim d e) r u (p, (q, (h, k, f))) (p', (q', (h', k', f'))) =
    f.1.0 ∙ sym ((back_both (λ y z. FollowsByEqElim y z u) p p' q q' (concludes_one d p p' h h') (concludes_one e q q' k k') f').1.0)
