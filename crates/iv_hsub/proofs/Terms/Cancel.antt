-- What undoes a raise.
use Rattle.std.proofs.Common.{◌≡◌, ℕ, suc, pred, ◌+◌, ◌<◌, ◌≤◌, true, false, ◌⊎◌, inl, inr, nat_lt, refl, ◌∙◌, ap, arith}
use Rattle.iv_term.specs.declared.typ.Typ.{Typ}
use Rattle.iv_term.specs.declared.typ.Types.{Types}
use Rattle.iv_term.specs.declared.term.Head.{Head}
use Rattle.iv_term.specs.declared.term.Head.TheVariants.{Const, Free, Schematic, Bound}
use Rattle.iv_term.specs.declared.term.Term.{Term}
use Rattle.iv_term.specs.declared.term.Terms.{Terms}
use Rattle.iv_term.specs.declared.term.Term.TheBlock.{Spine, Nil}
use Rattle.iv_term.specs.Typ.{ty_cons}
use Rattle.iv_term.specs.Term.{lam, tm_cons}
use Rattle.iv_hsub.specs.Typing.{cod, head_type, IsTerm, AreArgs}
use Rattle.iv_hsub.specs.Index.{index, raise_head, raise, raise_all, eta}
use Rattle.iv_hsub.specs.Hsub.{append, put_head, put, put_all, happ}
use Rattle.iv_hsub.specs.Hhf.{expand}
use Rattle.iv_hsub.proofs.Terms.Base.{lt_cases}
use Rattle.iv_hsub.proofs.Terms.Raise.{raise-low, raise-high}
use Rattle.iv_hsub.proofs.Terms.Eta.{last, eta-short}
use Rattle.iv_hsub.proofs.Terms.Put.{happ-nil, put-low, put-here, put-high}

-- by nothing
raise_head-zero : (c : ℕ) (h : Head) → raise_head 0 c h ≡ h
raise_head-zero c (Bound n) = go (lt_cases n c)
  where
    go : ((n < c) × (nat_lt n c ≡ true)) ⊎ ((c ≤ n) × (nat_lt n c ≡ false)) → raise_head 0 c (Bound n) ≡ Bound n
    go (inl p) = raise-low 0 c n p.0
    go (inr p) = raise-high 0 c n p.0 ∙ ap Bound (omega arith)
raise_head-zero c (Const x a) = refl
raise_head-zero c (Free x a) = refl
raise_head-zero c (Schematic x a) = refl

mutual
  unfolding raise

  pub raise-zero : (c : ℕ) (t : Term) → raise 0 c t ≡ t
  raise-zero c (lam a b) = ap (λ w. lam a w) (raise-zero (suc c) b)
  raise-zero c (Spine h ts) = let e = raise_head-zero c h in let f = raise_all-zero c ts in λ i. Spine (e i) (f i)

  pub raise_all-zero : (c : ℕ) (ts : Terms) → raise_all 0 c ts ≡ ts
  raise_all-zero c Nil = refl
  raise_all-zero c (tm_cons t ts) = let e = raise-zero c t in let f = raise_all-zero c ts in λ i. tm_cons (e i) (f i)

pub put_all-append : (f : Term → Terms → Term) (v : Term) (k : ℕ) (ts us : Terms) → put_all f v k (append ts us) ≡ append (put_all f v k ts) (put_all f v k us)
unfolding put_all append
put_all-append f v k Nil us = refl
put_all-append f v k (tm_cons t ts) us = ap (λ w. tm_cons (put f v k t) w) (put_all-append f v k ts us)

-- by a substitution, in an eta-short term
module _ (f : Term → Terms → Term) (v : Term) where
  pub put_head-cancel : (k : ℕ) (h : Head) (us : Terms) → put_head f v k (raise_head 1 k h) us ≡ Spine h us
  put_head-cancel k (Bound n) us = go (lt_cases n k)
    where
      go : ((n < k) × (nat_lt n k ≡ true)) ⊎ ((k ≤ n) × (nat_lt n k ≡ false)) → put_head f v k (raise_head 1 k (Bound n)) us ≡ Spine (Bound n) us
      go (inl p) = ap (λ h. put_head f v k h us) (raise-low 1 k n p.0) ∙ put-low f v k n us p.0
      go (inr p) =
          let e : pred (n + 1) ≡ n = omega arith in
          ap (λ h. put_head f v k h us) (raise-high 1 k n p.0) ∙ put-high f v k (n + 1) us (omega (arith, p.0)) ∙ ap (λ m. Spine (Bound m) us) e
  put_head-cancel k (Const x a) us = refl
  put_head-cancel k (Free x a) us = refl
  put_head-cancel k (Schematic x a) us = refl

  mutual
    unfolding raise put

    pub put-cancel : (bs : Types) (k : ℕ) (t : Term) → IsTerm bs t → put f v k (raise 1 k t) ≡ t
    put-cancel bs k (lam a b) p = ap (eta a) (put-cancel (ty_cons a bs) (suc k) b p.0) ∙ eta-short a b p.1
    put-cancel bs k (Spine h ts) p = ap (λ us. put_head f v k (raise_head 1 k h) us) (put_all-cancel bs (head_type bs h) k ts p.1) ∙ put_head-cancel k h ts

    pub put_all-cancel : (bs : Types) (a : Typ) (k : ℕ) (ts : Terms) → AreArgs bs a ts → put_all f v k (raise_all 1 k ts) ≡ ts
    put_all-cancel bs a k Nil p = refl
    put_all-cancel bs a k (tm_cons t ts) p =
        let e = put-cancel bs k t p.1.0 in let g = put_all-cancel bs (cod a) k ts p.1.1 in λ i. tm_cons (e i) (g i)

-- a value put for the variable of an abstraction that can be contracted
pub put-expand : (a : Typ) (bs : Types) (v : Term) (h : Head) (ts : Terms) → IsTerm bs (Spine h ts) → put (happ a) v 0 (expand h ts) ≡ Spine h (last ts v)
unfolding expand put
put-expand a bs v h ts p =
    let e = put_all-cancel (happ a) v bs (head_type bs h) 0 ts p.1 in
    let f : put (happ a) v 0 (index 0) ≡ v = put-here (happ a) v 0 Nil ∙ happ-nil a (raise 0 0 v) ∙ raise-zero 0 v in
    let g = put_all-append (happ a) v 0 _ (tm_cons (index 0) Nil) ∙ (λ i. append (e i) (tm_cons (f i) Nil)) in
    ap (put_head (happ a) v 0 (raise_head 1 0 h)) g ∙ put_head-cancel (happ a) v 0 h (last ts v)
