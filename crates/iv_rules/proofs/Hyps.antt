-- Unions, and lists with a term taken out: of propositions, and without repeats.
use Rattle.std.proofs.Common.{◌≡◌, Bool, true, false, ◌||◌, refl, sym, subst}
use Rattle.std.specs.Prelude.{if◌then◌else◌}
use Rattle.iv_term.specs.declared.term.Term.{Term}
use Rattle.iv_term.specs.declared.term.Terms.{Terms}
use Rattle.iv_term.specs.declared.term.Term.TheBlock.{Nil}
use Rattle.iv_term.specs.Term.{tm_cons, same_term}
use Rattle.iv_term.specs.Hyps.{among, snoc, added, union, without, IsDistinctTerms}
use Rattle.iv_term.proofs.Laws.Same.{same_term-true, same_term-same}
use Rattle.iv_rules.specs.Sequent.{IsProp, AreProps}
use Rattle.iv_rules.specs.Laws.{SameIsEqual}

snoc-props : (ts : Terms) (t : Term) → AreProps ts → IsProp t → AreProps (snoc ts t)
unfolding AreProps snoc
snoc-props Nil t h p = (p, tt)
snoc-props (tm_cons u us) t h p = (h.0, snoc-props us t h.1 p)

added-props : (ts : Terms) (t : Term) → AreProps ts → IsProp t → AreProps (added ts t)
unfolding added
added-props ts t h p = elim (among t ts) as (λ b. AreProps (if b then ts else snoc ts t)) [ true ↦ h | false ↦ snoc-props ts t h p ]

pub union-props : (us ts : Terms) → AreProps ts → AreProps us → AreProps (union ts us)
unfolding AreProps union
union-props Nil ts h k = h
union-props (tm_cons u us) ts h k = union-props us (added ts u) (added-props ts u h k.0) k.1

pub without-props : (t : Term) (us : Terms) → AreProps us → AreProps (without t us)
unfolding AreProps without
without-props t Nil h = tt
without-props t (tm_cons u us) h =
    elim (same_term t u) as (λ b. AreProps (if b then without t us else tm_cons u (without t us))) [
      | true ↦ without-props t us h.1
      | false ↦ (h.0, without-props t us h.1)
    ]

-- neither of two tests holds where their disjunction doesn't
or-neither : (a b : Bool) → (a || b) ≡ false → (a ≡ false) × (b ≡ false)
or-neither true b h = absurd (let bad : true ≡ false = h in cc)
or-neither false b h = (refl, h)

or-none : (a b : Bool) → a ≡ false → b ≡ false → (a || b) ≡ false
or-none a b p q = rw (p, q)

differs-back : (t u : Term) (b : Bool) → same_term u t ≡ b → same_term t u ≡ false → b ≡ false
differs-back t u false e h = refl
differs-back t u true e h = absurd (let f = same_term-true u t e in let g : same_term t u ≡ true = subst (λ x. same_term t x ≡ true) (sym f) (same_term-same t) in cc)

among-snoc : (x : Term) (ts : Terms) (t : Term) → among x ts ≡ false → same_term x t ≡ false → among x (snoc ts t) ≡ false
unfolding among snoc
among-snoc x Nil t h d = or-none (same_term x t) false d refl
among-snoc x (tm_cons u us) t h d =
    let n = or-neither (same_term x u) (among x us) h in or-none (same_term x u) (among x (snoc us t)) n.0 (among-snoc x us t n.1 d)

snoc-distinct : (ts : Terms) (t : Term) → IsDistinctTerms ts → among t ts ≡ false → IsDistinctTerms (snoc ts t)
unfolding IsDistinctTerms among snoc
snoc-distinct Nil t h n = (refl, tt)
snoc-distinct (tm_cons u us) t h n =
    let k = or-neither (same_term t u) (among t us) n in
    (among-snoc u us t h.0 (differs-back t u (same_term u t) refl k.0), snoc-distinct us t h.1 k.1)

added-distinct : (ts : Terms) (t : Term) → IsDistinctTerms ts → IsDistinctTerms (added ts t)
unfolding added
added-distinct ts t h =
    elim (among t ts) as (λ b. among t ts ≡ b → IsDistinctTerms (if b then ts else snoc ts t)) [
      | true ↦ λ e. h
      | false ↦ λ e. snoc-distinct ts t h e
    ] refl

pub union-distinct : (us ts : Terms) → IsDistinctTerms ts → IsDistinctTerms (union ts us)
unfolding union
union-distinct Nil ts h = h
union-distinct (tm_cons u us) ts h = union-distinct us (added ts u) (added-distinct ts u h)

among-without : (x t : Term) (us : Terms) → among x us ≡ false → among x (without t us) ≡ false
unfolding among without
among-without x t Nil h = refl
among-without x t (tm_cons u us) h =
    let n = or-neither (same_term x u) (among x us) h in
    elim (same_term t u) as (λ b. among x (if b then without t us else tm_cons u (without t us)) ≡ false) [
      | true ↦ among-without x t us n.1
      | false ↦ or-none (same_term x u) (among x (without t us)) n.0 (among-without x t us n.1)
    ]

pub without-distinct : (t : Term) (us : Terms) → IsDistinctTerms us → IsDistinctTerms (without t us)
unfolding IsDistinctTerms without
without-distinct t Nil h = tt
without-distinct t (tm_cons u us) h =
    elim (same_term t u) as (λ b. IsDistinctTerms (if b then without t us else tm_cons u (without t us))) [
      | true ↦ without-distinct t us h.1
      | false ↦ (among-without u t us h.0, without-distinct t us h.1)
    ]

pub same-is-equal : SameIsEqual
same-is-equal t u = (same_term-true t u, λ e. subst (λ z. same_term t z ≡ true) e (same_term-same t))
