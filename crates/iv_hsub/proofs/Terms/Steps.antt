-- How many steps hereditary substitution takes, which is why it ends.
use Rattle.std.proofs.Common.{◌≡◌, ℕ, suc, ◌+◌, ◌<◌, nat_eq, nat_lt, if◌then◌else◌, Bool, true, false, IsTrue, ◌↔◌, refl, sym, ◌∙◌, ap, subst, arith}
use Rattle.iv_term.specs.declared.typ.Typ.{Typ}
use Rattle.iv_term.specs.declared.typ.Typ.TheBlock.{Con, Nil as no_types}
use Rattle.iv_term.specs.declared.term.Head.{Head}
use Rattle.iv_term.specs.declared.term.Head.TheVariants.{Bound}
use Rattle.iv_term.specs.declared.term.Term.{Term}
use Rattle.iv_term.specs.declared.term.Term.TheBlock.{Spine, Nil}
use Rattle.iv_term.specs.declared.term.Terms.{Terms}
use Rattle.iv_term.specs.Typ.{fun, ty_cons, same_typ}
use Rattle.iv_term.specs.Term.{lam, tm_cons}
use Rattle.iv_term.proofs.Laws.Same.{same_typ-same}
use Rattle.iv_hsub.specs.Typing.{dom, cod}
use Rattle.iv_hsub.specs.Index.{raise}
use Rattle.iv_hsub.specs.Hsub.{put, put_all, happ}
use Rattle.iv_hsub.proofs.Terms.Base.{lt_false, eq_true}

-- at a head, where `steps` says how many a value at arguments takes
abbrev pub steps_put_head : (Term → Terms → ℕ) → Term → ℕ → Head → Terms → ℕ
steps_put_head steps v k (Bound n) ts = if nat_lt n k then 0 else if nat_eq n k then suc (steps (raise k 0 v) ts) else 0
steps_put_head steps v k h ts = 0

unfoldable mutual
  pub steps_put : (Term → Terms → ℕ) → (Term → Terms → Term) → Term → ℕ → Term → ℕ
  steps_put steps at v k (lam a b) = suc (steps_put steps at v (suc k) b)
  steps_put steps at v k (Spine h ts) = suc (steps_put_all steps at v k ts + steps_put_head steps v k h (put_all at v k ts))

  pub steps_put_all : (Term → Terms → ℕ) → (Term → Terms → Term) → Term → ℕ → Terms → ℕ
  steps_put_all steps at v k Nil = 0
  steps_put_all steps at v k (tm_cons t ts) = suc (steps_put steps at v k t + steps_put_all steps at v k ts)

abbrev pub steps_happ_fun : Typ → Typ → Typ → (Term → Terms → ℕ) → (Term → Terms → Term) → (Term → Terms → ℕ) → Term → Terms → ℕ
steps_happ_fun c a b steps_a at_a steps_b v Nil = 0
steps_happ_fun c a b steps_a at_a steps_b (lam d t) (tm_cons u us) = if same_typ c (fun d b) then suc (steps_put steps_a at_a u 0 t + steps_b (put at_a u 0 t) us) else 0
steps_happ_fun c a b steps_a at_a steps_b (Spine h ts) (tm_cons u us) = 0

unfoldable pub steps_happ : Typ → Term → Terms → ℕ
steps_happ (Con c (ty_cons a (ty_cons b no_types))) v ts =
    steps_happ_fun (Con c (ty_cons a (ty_cons b no_types))) a b (λ w us. steps_happ a w us) (λ w us. happ a w us) (λ w us. steps_happ b w us) v ts
steps_happ a v ts = 0

steps_happ-at_fun : (y d : Typ) (b u : Term) (us : Terms)
    → steps_happ (fun d y) (lam d b) (tm_cons u us) ≡ suc (steps_put (steps_happ d) (happ d) u 0 b + steps_happ y (put (happ d) u 0 b) us)
unfolding steps_happ
steps_happ-at_fun y d b u us = rw (same_typ-same (fun d y)) refl

pub steps_happ-lam : (a d : Typ) (b u : Term) (us : Terms) → a ≡ fun d (cod a)
    → steps_happ a (lam d b) (tm_cons u us) ≡ suc (steps_put (steps_happ d) (happ d) u 0 b + steps_happ (cod a) (put (happ d) u 0 b) us)
steps_happ-lam a d b u us e =
    subst (λ c. steps_happ c (lam d b) (tm_cons u us) ≡ suc (steps_put (steps_happ d) (happ d) u 0 b + steps_happ (cod a) (put (happ d) u 0 b) us))
    (sym e) (steps_happ-at_fun (cod a) d b u us)

pub steps-here : (steps : Term → Terms → ℕ) (v : Term) (k n : ℕ) (ts : Terms) → n ≡ k → steps_put_head steps v k (Bound n) ts ≡ suc (steps (raise k 0 v) ts)
steps-here steps v k n ts e = rw (e, lt_false k k (omega arith), eq_true k k refl) refl

-- a part takes fewer
pub fewer : (n : ℕ) → n < suc n
fewer n = omega arith

pub fewer-left : (n m : ℕ) → n < suc (n + m)
fewer-left n m = omega arith

pub fewer-right : (n m : ℕ) → m < suc (n + m)
fewer-right n m = omega arith

-- a type takes arguments of a type
pub takes_when : (a d : Typ) (b : Bool) → a ≡ fun (dom a) (cod a) → (IsTrue b ↔ (dom a ≡ d)) → (IsTrue b ↔ (a ≡ fun d (cod a)))
unfolding dom
takes_when a d b e f = (λ h. e ∙ ap (λ z. fun z (cod a)) (f.0 h), λ p. f.1 (ap dom p))

pub takes_not : (a d : Typ) (b : Bool) → (IsTrue b ↔ (a ≡ fun (dom a) (cod a))) → b ≡ false → (IsTrue b ↔ (a ≡ fun d (cod a)))
unfolding dom
takes_not a d b f e = (
  λ h. absurd (let bad : false ≡ true = sym e ∙ h in cc),
  λ p. f.1 (p ∙ ap (λ z. fun z (cod a)) (sym (ap dom p))),
)
