-- Which terms are in lists of hypotheses.
use Rattle.std.proofs.Common.{◌≡◌, Bool, true, false, not, ◌&&◌, ◌||◌, ◌⊎◌, inl, inr, if◌then◌else◌, Option, refl, sym, ◌∙◌, ap, subst}
use Rattle.std.proofs.lemmas.Bool.{and_parts}
use Rattle.iv_term.specs.declared.typ.Typ.{Typ}
use Rattle.iv_term.specs.declared.term.Head.{Head}
use Rattle.iv_term.specs.declared.term.Term.{Term}
use Rattle.iv_term.specs.declared.term.Terms.{Terms}
use Rattle.iv_term.specs.declared.term.Term.TheBlock.{Nil}
use Rattle.iv_term.specs.Term.{tm_cons, same_term}
use Rattle.iv_term.specs.Hyps.{among, snoc, added, union, without, IsDistinctTerms}
use Rattle.iv_term.proofs.Laws.Same.{same_term-true, same_term-same}
use Rattle.iv_hsub.specs.Hsub.{append}
use Rattle.iv_hsub.specs.Retype.{retype, retype_all}
use Rattle.iv_hsub.specs.Inst.{inst, inst_all}
use Rattle.iv_hsub.proofs.Theory.{append-append, append-nil}
use Rattle.iv_laws.specs.Among.{AreAmong, AmongItself, AmongThoseAmong, InUnion, InWithout, UnionHasFirst, UnionHasSecond, UnionIsLeast, WithoutIsLess, WithoutIsDischarged, UnionOfNothing, InstancesAreAmong}

pub among_itself : AmongItself
among_itself hs t e = e

pub among_those : AmongThoseAmong
among_those hs ks ls p q t e = q t (p t e)

-- Booleans
or-none : (b : Bool) → (b || false) ≡ b
or-none true = refl
or-none false = refl

or-shift : (a b c : Bool) → ((a || b) || c) ≡ (a || (b || c))
or-shift true b c = refl
or-shift false b c = refl

or-cases : (a b : Bool) → (a || b) ≡ true → (a ≡ true) ⊎ (b ≡ true)
or-cases true b e = inl refl
or-cases false b e = inr e

or-left : (a b : Bool) → a ≡ true → (a || b) ≡ true
or-left a b e = ap (λ z. z || b) e

or-right : (a b : Bool) → b ≡ true → (a || b) ≡ true
or-right true b e = refl
or-right false b e = e

or-have : (a b : Bool) → (b ≡ true → a ≡ true) → a ≡ (a || b)
or-have true b h = refl
or-have false true h = absurd (let bad : false ≡ true = h refl in cc)
or-have false false h = refl

-- a term at the end
in-snoc : (t : Term) (hs : Terms) (u : Term) → among t (snoc hs u) ≡ (among t hs || same_term t u)
unfolding among snoc
in-snoc t Nil u = or-none (same_term t u)
in-snoc t (tm_cons h hs) u = ap (λ z. same_term t h || z) (in-snoc t hs u) ∙ sym (or-shift (same_term t h) (among t hs) (same_term t u))

in-added_by : (t : Term) (hs : Terms) (u : Term) (v : Bool) → among u hs ≡ v → among t (if v then hs else snoc hs u) ≡ (among t hs || same_term t u)
in-added_by t hs u true e = or-have (among t hs) (same_term t u) (λ p. ap (λ z. among z hs) (same_term-true t u p) ∙ e)
in-added_by t hs u false e = in-snoc t hs u

in-added : (t : Term) (hs : Terms) (u : Term) → among t (added hs u) ≡ (among t hs || same_term t u)
unfolding added
in-added t hs u = in-added_by t hs u (among u hs) refl

pub in_union : InUnion
unfolding union among
in_union t hs Nil = sym (or-none (among t hs))
in_union t hs (tm_cons k ks) =
    in_union t (added hs k) ks ∙ ap (λ z. z || among t ks) (in-added t hs k) ∙ or-shift (among t hs) (same_term t k) (among t ks)

-- a term taken out
apart : (t a h : Term) (v : Bool) → same_term a h ≡ true → same_term t h ≡ v → same_term t a ≡ v
apart t a h v e f = ap (same_term t) (same_term-true a h e) ∙ f

out-step : (s n b : Bool) → (s ≡ true → n ≡ true) → (not n && b) ≡ (not n && (s || b))
out-step true true b h = refl
out-step true false b h = absurd (let bad : false ≡ true = h refl in cc)
out-step false n b h = refl

in-step : (s n b : Bool) → (s ≡ true → n ≡ false) → (s || (not n && b)) ≡ (not n && (s || b))
in-step true true b h = absurd (let bad : true ≡ false = h refl in cc)
in-step true false b h = refl
in-step false n b h = refl

without-step : (t a h : Term) (hs : Terms) (v : Bool) → same_term a h ≡ v → among t (without a hs) ≡ (not (same_term t a) && among t hs)
    → among t (if v then without a hs else tm_cons h (without a hs)) ≡ (not (same_term t a) && (same_term t h || among t hs))
unfolding among
without-step t a h hs true e k =
    k ∙ out-step (same_term t h) (same_term t a) (among t hs) (λ f. apart t a h true e f)
without-step t a h hs false e k =
    ap (λ z. same_term t h || z) k
    ∙ in-step (same_term t h) (same_term t a) (among t hs) (λ f. let q = same_term-true t h f in other (same_term t a) refl (ap (same_term a) q ∙ e))
  where
    other : (w : Bool) → same_term t a ≡ w → same_term a t ≡ false → w ≡ false
    other false g n = refl
    other true g n = let bad : false ≡ true = sym n ∙ ap (same_term a) (same_term-true t a g) ∙ same_term-same a in cc

pub in_without : InWithout
unfolding without among
in_without t a Nil = none (same_term t a)
  where
    none : (b : Bool) → false ≡ (not b && false)
    none true = refl
    none false = refl
in_without t a (tm_cons h hs) = without-step t a h hs (same_term a h) refl (in_without t a hs)

pub union_first : UnionHasFirst
union_first hs ks t e = in_union t hs ks ∙ or-left (among t hs) (among t ks) e

pub union_second : UnionHasSecond
union_second hs ks t e = in_union t hs ks ∙ or-right (among t hs) (among t ks) e

pub union_least : UnionIsLeast
union_least hs ks ls p q t e = go (or-cases (among t hs) (among t ks) (sym (in_union t hs ks) ∙ e))
  where
    go : (among t hs ≡ true) ⊎ (among t ks ≡ true) → among t ls ≡ true
    go (inl h) = p t h
    go (inr h) = q t h

pub without_less : WithoutIsLess
without_less a hs t e = (and_parts (not (same_term t a)) (among t hs) (sym (in_without t a hs) ∙ e)).1

pub without_discharged : WithoutIsDischarged
unfolding among
without_discharged a hs ks p t e =
    let q = and_parts (not (same_term t a)) (among t hs) (sym (in_without t a hs) ∙ e) in
    left (same_term t a) (among t ks) q.0 (p t q.1)
  where
    left : (s b : Bool) → not s ≡ true → (s || b) ≡ true → b ≡ true
    left true b n h = absurd (let bad : false ≡ true = n in cc)
    left false b n h = h

-- nothing is there twice
snoc-last : (hs : Terms) (t : Term) → snoc hs t ≡ append hs (tm_cons t Nil)
unfolding snoc append
snoc-last Nil t = refl
snoc-last (tm_cons h hs) t = ap (λ z. tm_cons h z) (snoc-last hs t)

in-append : (t : Term) (hs ks : Terms) → among t (append hs ks) ≡ (among t hs || among t ks)
unfolding among append
in-append t Nil ks = refl
in-append t (tm_cons h hs) ks = ap (λ z. same_term t h || z) (in-append t hs ks) ∙ sym (or-shift (same_term t h) (among t hs) (among t ks))

distinct-parts : (hs : Terms) (k : Term) (ks : Terms) → IsDistinctTerms (append hs (tm_cons k ks)) → among k hs ≡ false
unfolding IsDistinctTerms append among
distinct-parts Nil k ks d = refl
distinct-parts (tm_cons h hs) k ks d = none (same_term k h) (among k hs) (differs (same_term k h) refl) (distinct-parts hs k ks d.1)
  where
    none : (a b : Bool) → a ≡ false → b ≡ false → (a || b) ≡ false
    none a b e f = ap (λ z. z || b) e ∙ f

    there : among h (append hs (tm_cons k ks)) ≡ (among h hs || (same_term h k || among h ks))
    there = in-append h hs (tm_cons k ks)

    differs : (v : Bool) → same_term k h ≡ v → v ≡ false
    differs false e = refl
    differs true e =
        let f : same_term h k ≡ true = ap (λ z. same_term z k) (sym (same_term-true k h e)) ∙ same_term-same k in
        let bad : true ≡ false = sym (or-right (among h hs) (same_term h k || among h ks) (or-left (same_term h k) (among h ks) f)) ∙ sym there ∙ d.0 in cc

union-append : (hs ks : Terms) → IsDistinctTerms (append hs ks) → union hs ks ≡ append hs ks
unfolding union added append
union-append hs Nil d = sym (append-nil hs)
union-append hs (tm_cons k ks) d =
    let e : added hs k ≡ append hs (tm_cons k Nil) = ap (λ v. if v then hs else snoc hs k) (distinct-parts hs k ks d) ∙ snoc-last hs k in
    let f = append-append hs (tm_cons k Nil) ks in
    ap (λ z. union z ks) e
    ∙ union-append (append hs (tm_cons k Nil)) ks (subst IsDistinctTerms (sym (f ∙ refl)) d)
    ∙ f

pub union_nothing : UnionOfNothing
unfolding append
union_nothing hs d = union-append Nil hs d

-- instances
module _ (f : Typ → Typ) (F : Head → Option Term) where
  in-instances : (h : Term) (ks : Terms) → among h ks ≡ true → among (inst F (retype f h)) (inst_all F (retype_all f ks)) ≡ true
  unfolding among retype inst
  in-instances h Nil e = absurd (let bad : false ≡ true = e in cc)
  in-instances h (tm_cons k ks) e = go (or-cases (same_term h k) (among h ks) e) (in-instances h ks)
    where
      go : (same_term h k ≡ true) ⊎ (among h ks ≡ true) → (among h ks ≡ true → among (inst F (retype f h)) (inst_all F (retype_all f ks)) ≡ true)
          → (same_term (inst F (retype f h)) (inst F (retype f k)) || among (inst F (retype f h)) (inst_all F (retype_all f ks))) ≡ true
      go (inl p) rest =
          or-left (same_term (inst F (retype f h)) (inst F (retype f k))) (among (inst F (retype f h)) (inst_all F (retype_all f ks)))
          (ap (λ z. same_term (inst F (retype f h)) (inst F (retype f z))) (sym (same_term-true h k p)) ∙ same_term-same (inst F (retype f h)))
      go (inr p) rest = or-right (same_term (inst F (retype f h)) (inst F (retype f k))) (among (inst F (retype f h)) (inst_all F (retype_all f ks))) (rest p)

  each-instance : (hs ls : Terms) → ((h : Term) → among h hs ≡ true → among (inst F (retype f h)) ls ≡ true) → AreAmong (inst_all F (retype_all f hs)) ls
  unfolding among retype inst
  each-instance Nil ls p t e = absurd (let bad : false ≡ true = e in cc)
  each-instance (tm_cons h hs) ls p t e =
      go (or-cases (same_term t (inst F (retype f h))) (among t (inst_all F (retype_all f hs))) e)
      (each-instance hs ls (λ k r. p k (or-right (same_term k h) (among k hs) r)) t)
    where
      go : (same_term t (inst F (retype f h)) ≡ true) ⊎ (among t (inst_all F (retype_all f hs)) ≡ true)
          → (among t (inst_all F (retype_all f hs)) ≡ true → among t ls ≡ true) → among t ls ≡ true
      go (inl q) rest = ap (λ z. among z ls) (same_term-true t (inst F (retype f h)) q) ∙ p h (or-left (same_term h h) (among h hs) (same_term-same h))
      go (inr q) rest = rest q

pub instances_among : InstancesAreAmong
unfolding among
instances_among f F hs ks p =
    union_least Nil (inst_all F (retype_all f hs)) (union Nil (inst_all F (retype_all f ks))) (λ t e. absurd (let bad : false ≡ true = e in cc))
    (each-instance f F hs (union Nil (inst_all F (retype_all f ks)))
    (λ h e. union_second Nil (inst_all F (retype_all f ks)) (inst F (retype f h)) (in-instances f F h ks (p h e))))
