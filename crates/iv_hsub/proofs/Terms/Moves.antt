-- What the tests of ==> and !! say, for the code's answers.
use Rattle.std.proofs.Common.{◌≡◌, ℕ, Bool, true, false, ◌&&◌, IsTrue, ◌↔◌, List, codes, if◌then◌else◌, refl, sym, ◌∙◌, ap, subst}
use Rattle.std.proofs.lemmas.Bool.{and_parts}
use Rattle.std.proofs.lemmas.Bool.Decides.{same_from_decides}
use Rattle.std.specs.Str.{bytes_eq}
use Rattle.iv_term.specs.declared.typ.Typ.{Typ}
use Rattle.iv_term.specs.declared.term.Head.{Head}
use Rattle.iv_term.specs.declared.term.Head.TheVariants.{Const}
use Rattle.iv_term.specs.declared.term.Term.{Term}
use Rattle.iv_term.specs.declared.term.Terms.{Terms}
use Rattle.iv_term.specs.declared.term.Term.TheBlock.{Spine, Nil}
use Rattle.iv_term.specs.Typ.{prop, fun, same_typ}
use Rattle.iv_term.specs.Term.{lam, tm_cons, implies, imp_head, first_or, rest_of, are_two, antecedent, consequent, IsImplication}
use Rattle.iv_term.proofs.Laws.Same.{same_typ-same, same_typ-Decides}
use Rattle.iv_text.proofs.Same.{same_text-same}
use Rattle.iv_term.proofs.Laws.Tests.{are_two-parts, spine-parts}
use Rattle.iv_hsub.specs.Typing.{dom, cod}
use Rattle.iv_hsub.specs.Index.{contracts, eta}
use Rattle.iv_hsub.specs.Hhf.{all_typ, all_head, is_imp, is_all, bound_type, one, hhf_spine, hhf, hhf_all, push, is_quantified}
use Rattle.iv_hsub.proofs.Terms.Eta.{eta-short}
use Rattle.iv_hsub.proofs.Terms.Hhf.{imp-true, all-true, hhf_spine-same, hhf_spine-other_head}

pub predicate_when : (a : Typ) (b : Bool) → a ≡ fun (dom a) (cod a) → (IsTrue b ↔ (cod a ≡ prop)) → (IsTrue b ↔ (a ≡ fun (dom a) prop))
unfolding cod
predicate_when a b e f = (λ h. e ∙ ap (fun (dom a)) (f.0 h), λ p. f.1 (ap cod p))

pub predicate_not : (a : Typ) (b : Bool) → (IsTrue b ↔ (a ≡ fun (dom a) (cod a))) → b ≡ false → (IsTrue b ↔ (a ≡ fun (dom a) prop))
unfolding cod
predicate_not a b f e = (λ h. absurd (let bad : false ≡ true = sym e ∙ h in cc), λ p. f.1 (p ∙ ap (fun (dom a)) (sym (ap cod p))))

pub all_typ_when : (a : Typ) (b : Bool) → a ≡ fun (dom a) prop → (IsTrue b ↔ (dom a ≡ fun (dom (dom a)) prop)) → (IsTrue b ↔ (a ≡ all_typ (dom (dom a))))
unfolding dom
all_typ_when a b e f = (λ h. e ∙ ap (λ z. fun z prop) (f.0 h), λ p. f.1 (ap dom p))

pub all_typ_not : (a : Typ) (b : Bool) → (IsTrue b ↔ (a ≡ fun (dom a) prop)) → b ≡ false → (IsTrue b ↔ (a ≡ all_typ (dom (dom a))))
unfolding dom
all_typ_not a b f e = (λ h. absurd (let bad : false ≡ true = sym e ∙ h in cc), λ p. f.1 (p ∙ ap (λ z. fun z prop) (sym (ap dom p))))

pub all_test : (c : List ℕ) (a : Typ) (r : Bool) → c ≡ codes "!!" → (IsTrue r ↔ (a ≡ all_typ (dom (dom a)))) → r ≡ is_all (Const c a)
all_test c a r e d =
    let f : bytes_eq c (codes "!!") ≡ true = ap (bytes_eq c) (sym e) ∙ same_text-same c in
    let g : r ≡ same_typ a (all_typ (dom (dom a))) = same_from_decides _ _ d (same_typ-Decides a (all_typ (dom (dom a)))) in
    g ∙ ap (λ z. z && same_typ a (all_typ (dom (dom a)))) (sym f)

-- a term is !! at a predicate where the test says so
pub all-test : (a : Typ) → is_all (all_head a) ≡ true
unfolding dom
all-test a = ap (λ z. bytes_eq (codes "!!") (codes "!!") && z) (same_typ-same (all_typ a))

abbrev IsAtOne : Term → Type 0
IsAtOne t = (a : Typ) × ((f : Term) × (t ≡ Spine (all_head a) (one f)))

quantified-there : (t : Term) → is_quantified t ≡ true → IsAtOne t
quantified-there (lam c b) q = absurd (let bad : false ≡ true = q in cc)
quantified-there (Spine h Nil) q = absurd (let bad : false ≡ true = (and_parts (is_all h) false q).1 in cc)
quantified-there (Spine h (tm_cons f Nil)) q = let e = all-true h (and_parts (is_all h) true q).0 in (bound_type h, (f, λ i. Spine (e i) (one f)))
quantified-there (Spine h (tm_cons f (tm_cons g gs))) q = absurd (let bad : false ≡ true = (and_parts (is_all h) false q).1 in cc)

quantified-back : (t : Term) → IsAtOne t → is_quantified t ≡ true
quantified-back t p = ap is_quantified p.1.1 ∙ ap (λ z. z && true) (all-test p.0)

pub quantified_test : (t : Term) (r : Bool) → r ≡ is_quantified t → (IsTrue r ↔ IsAtOne t)
quantified_test t r e = (λ h. quantified-there t (sym e ∙ h), λ p. e ∙ quantified-back t p)

-- a head with arguments is an implication where the test says so
pub imp-test : is_imp imp_head ≡ true
imp-test = ap (λ z. bytes_eq (codes "==>") (codes "==>") && z) (same_typ-same implies)

pub spine_moves : (h : Head) (ts : Terms) (r : Bool) → (IsTrue r ↔ IsImplication (Spine h ts)) → r ≡ (is_imp h && are_two ts)
spine_moves h ts r d = same_from_decides r (is_imp h && are_two ts) d (there, back)
  where
    there : (is_imp h && are_two ts) ≡ true → IsImplication (Spine h ts)
    there q =
        let p = and_parts (is_imp h) (are_two ts) q in
        let e = imp-true h p.0 in
        let f = are_two-parts (Spine h ts) (Spine h ts) ts p.1 in
        λ i. Spine (e i) (f i)

    back : IsImplication (Spine h ts) → (is_imp h && are_two ts) ≡ true
    back q =
        let p = spine-parts h imp_head ts (tm_cons (first_or (Spine h ts) ts) (tm_cons (first_or (Spine h ts) (rest_of ts)) Nil)) q in
        (λ i. is_imp (p.0 i) && are_two (p.1 i)) ∙ ap (λ z. z && true) imp-test

-- what the plain terms are
pub plain-lam : (c : Typ) (b : Term) → contracts b ≡ false → hhf b ≡ b → hhf (lam c b) ≡ lam c b
unfolding hhf
plain-lam c b q e = ap (eta c) e ∙ eta-short c b q

pub plain-spine : (h : Head) (ts : Terms) → hhf_all ts ≡ ts → hhf_spine h ts ≡ Spine h ts → hhf (Spine h ts) ≡ Spine h ts
unfolding hhf
plain-spine h ts e f = ap (hhf_spine h) e ∙ f

pub plain-cons : (t : Term) (ts : Terms) → hhf t ≡ t → hhf_all ts ≡ ts → hhf_all (tm_cons t ts) ≡ tm_cons t ts
unfolding hhf_all
plain-cons t ts e f = λ i. tm_cons (e i) (f i)

pub stays-other : (t : Term) (r : Bool) → (IsTrue r ↔ IsImplication t) → r ≡ false → (h : Head) (ts : Terms) → t ≡ Spine h ts → hhf_spine h ts ≡ Spine h ts
stays-other t r d e h ts f =
    let k : r ≡ (is_imp h && are_two ts) = spine_moves h ts r (subst (λ z. IsTrue r ↔ IsImplication z) f d) in
    ap (λ z. if z then push (antecedent (Spine h ts)) (consequent (Spine h ts)) else Spine h ts) (sym k ∙ e)

pub stays-plain : (t : Term) → is_quantified (consequent t) ≡ false → (h : Head) (ts : Terms) → t ≡ Spine h ts → hhf_spine h ts ≡ Spine h ts
stays-plain t q h ts f = plain-second h ts (ap (λ z. is_quantified (consequent z)) (sym f) ∙ q)
  where
    plain-second : (k : Head) (us : Terms) → is_quantified (consequent (Spine k us)) ≡ false → hhf_spine k us ≡ Spine k us
    plain-second k Nil e = hhf_spine-other_head k Nil refl
    plain-second k (tm_cons x Nil) e = hhf_spine-other_head k (tm_cons x Nil) refl
    plain-second k (tm_cons x (tm_cons y Nil)) e = hhf_spine-same k (tm_cons x (tm_cons y Nil)) (λ r. e)
    plain-second k (tm_cons x (tm_cons y (tm_cons z zs))) e = hhf_spine-other_head k (tm_cons x (tm_cons y (tm_cons z zs))) refl
