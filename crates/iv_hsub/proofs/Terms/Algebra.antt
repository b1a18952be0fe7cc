-- How raising goes past raising, contraction and substitution.
use Rattle.std.proofs.Common.{◌≡◌, ℕ, suc, pred, ◌+◌, ◌<◌, ◌≤◌, Bool, true, false, ◌⊎◌, inl, inr, nat_lt, refl, sym, ◌∙◌, ap, arith}
use Rattle.iv_term.specs.declared.typ.Typ.{Typ}
use Rattle.iv_term.specs.declared.term.Head.{Head}
use Rattle.iv_term.specs.declared.term.Head.TheVariants.{Const, Free, Schematic, Bound}
use Rattle.iv_term.specs.declared.term.Term.{Term}
use Rattle.iv_term.specs.declared.term.Terms.{Terms}
use Rattle.iv_term.specs.declared.term.Term.TheBlock.{Spine, Nil}
use Rattle.iv_term.specs.Typ.{fun, same_typ}
use Rattle.iv_term.specs.Term.{lam, tm_cons}
use Rattle.iv_term.proofs.Laws.Same.{same_typ-true, same_typ-same}
use Rattle.iv_hsub.specs.Typing.{cod}
use Rattle.iv_hsub.specs.Index.{index, raise_head, raise, raise_all, contracts, eta}
use Rattle.iv_hsub.specs.Hsub.{append, put_head, put, put_all, happ}
use Rattle.iv_hsub.specs.Hhf.{expand}
use Rattle.iv_hsub.proofs.Terms.Base.{lt_cases, fun_induction}
use Rattle.iv_hsub.proofs.Terms.Raise.{raise-low, raise-high, contracts-raise}
use Rattle.iv_hsub.proofs.Terms.Eta.{eta_cases, EtaCase, eta-short, eta-expand}
use Rattle.iv_hsub.proofs.Terms.Put.{happ-nil, happ-spine, happ-lam, happ-stuck, put-low, put-here, put-high, index_cases}

-- two raises that meet are one
raise_head-join : (d e f b c : ℕ) (h : Head) → b ≤ c → c ≤ b + e → f ≡ e + d → raise_head d c (raise_head e b h) ≡ raise_head f b h
raise_head-join d e f b c (Bound n) p q r = go (lt_cases n b)
  where
    go : ((n < b) × (nat_lt n b ≡ true)) ⊎ ((b ≤ n) × (nat_lt n b ≡ false)) → raise_head d c (raise_head e b (Bound n)) ≡ raise_head f b (Bound n)
    go (inl s) = ap (raise_head d c) (raise-low e b n s.0) ∙ raise-low d c n (omega (arith, p, s.0)) ∙ sym (raise-low f b n s.0)
    go (inr s) = ap (raise_head d c) (raise-high e b n s.0) ∙ raise-high d c (n + e) (omega (arith, q, s.0)) ∙ ap Bound (omega (arith, r)) ∙ sym (raise-high f b n s.0)
raise_head-join d e f b c (Const x a) p q r = refl
raise_head-join d e f b c (Free x a) p q r = refl
raise_head-join d e f b c (Schematic x a) p q r = refl

mutual
  unfolding raise

  pub raise-join : (d e f b c : ℕ) (t : Term) → b ≤ c → c ≤ b + e → f ≡ e + d → raise d c (raise e b t) ≡ raise f b t
  raise-join d e f b c (lam a t) p q r = ap (λ w. lam a w) (raise-join d e f (suc b) (suc c) t (omega (arith, p)) (omega (arith, q)) r)
  raise-join d e f b c (Spine h ts) p q r = let x = raise_head-join d e f b c h p q r in let y = raise_all-join d e f b c ts p q r in λ i. Spine (x i) (y i)

  pub raise_all-join : (d e f b c : ℕ) (ts : Terms) → b ≤ c → c ≤ b + e → f ≡ e + d → raise_all d c (raise_all e b ts) ≡ raise_all f b ts
  raise_all-join d e f b c Nil p q r = refl
  raise_all-join d e f b c (tm_cons t ts) p q r = let x = raise-join d e f b c t p q r in let y = raise_all-join d e f b c ts p q r in λ i. tm_cons (x i) (y i)

-- a raise goes past one further in
raise_head-swap : (d e k c c' : ℕ) (h : Head) → k ≤ c → c' ≡ c + e → raise_head d c' (raise_head e k h) ≡ raise_head e k (raise_head d c h)
raise_head-swap d e k c c' (Bound n) p r = go (lt_cases n k) (lt_cases n c)
  where
    go : ((n < k) × (nat_lt n k ≡ true)) ⊎ ((k ≤ n) × (nat_lt n k ≡ false)) → ((n < c) × (nat_lt n c ≡ true)) ⊎ ((c ≤ n) × (nat_lt n c ≡ false))
        → raise_head d c' (raise_head e k (Bound n)) ≡ raise_head e k (raise_head d c (Bound n))
    go (inl s) (inl u) =
        ap (raise_head d c') (raise-low e k n s.0) ∙ raise-low d c' n (omega (arith, r, u.0)) ∙ sym (ap (raise_head e k) (raise-low d c n u.0) ∙ raise-low e k n s.0)
    go (inl s) (inr u) = absurd (omega (arith, p, s.0, u.0))
    go (inr s) (inl u) =
        ap (raise_head d c') (raise-high e k n s.0) ∙ raise-low d c' (n + e) (omega (arith, r, u.0)) ∙ sym (ap (raise_head e k) (raise-low d c n u.0) ∙ raise-high e k n s.0)
    go (inr s) (inr u) =
        ap (raise_head d c') (raise-high e k n s.0) ∙ raise-high d c' (n + e) (omega (arith, r, u.0)) ∙ ap Bound (omega arith)
        ∙ sym (ap (raise_head e k) (raise-high d c n u.0) ∙ raise-high e k (n + d) (omega (arith, s.0)))
raise_head-swap d e k c c' (Const x a) p r = refl
raise_head-swap d e k c c' (Free x a) p r = refl
raise_head-swap d e k c c' (Schematic x a) p r = refl

mutual
  unfolding raise

  pub raise-swap : (d e k c c' : ℕ) (t : Term) → k ≤ c → c' ≡ c + e → raise d c' (raise e k t) ≡ raise e k (raise d c t)
  raise-swap d e k c c' (lam a t) p r = ap (λ w. lam a w) (raise-swap d e (suc k) (suc c) (suc c') t (omega (arith, p)) (omega (arith, r)))
  raise-swap d e k c c' (Spine h ts) p r = let x = raise_head-swap d e k c c' h p r in let y = raise_all-swap d e k c c' ts p r in λ i. Spine (x i) (y i)

  pub raise_all-swap : (d e k c c' : ℕ) (ts : Terms) → k ≤ c → c' ≡ c + e → raise_all d c' (raise_all e k ts) ≡ raise_all e k (raise_all d c ts)
  raise_all-swap d e k c c' Nil p r = refl
  raise_all-swap d e k c c' (tm_cons t ts) p r = let x = raise-swap d e k c c' t p r in let y = raise_all-swap d e k c c' ts p r in λ i. tm_cons (x i) (y i)

pub raise_all-append : (d c : ℕ) (ts us : Terms) → raise_all d c (append ts us) ≡ append (raise_all d c ts) (raise_all d c us)
unfolding raise_all append
raise_all-append d c Nil us = refl
raise_all-append d c (tm_cons t ts) us = ap (λ w. tm_cons (raise d c t) w) (raise_all-append d c ts us)

raise-index : (d c : ℕ) → raise_all d (suc c) (tm_cons (index 0) Nil) ≡ tm_cons (index 0) Nil
unfolding raise raise_all
raise-index d c = ap (λ h. tm_cons (Spine h Nil) Nil) (raise-low d (suc c) 0 (omega arith))

raise-expand : (d c : ℕ) (h : Head) (ts : Terms) → raise d (suc c) (expand h ts) ≡ expand (raise_head d c h) (raise_all d c ts)
unfolding expand raise
raise-expand d c h ts =
    let x = raise_head-swap d 1 0 c (suc c) h (omega arith) (omega arith) in
    let y = raise_all-swap d 1 0 c (suc c) ts (omega arith) (omega arith) in
    let z = raise_all-append d (suc c) (raise_all 1 0 ts) (tm_cons (index 0) Nil) ∙ (λ i. append (y i) (raise-index d c i)) in
    λ i. Spine (x i) (z i)

-- contraction
pub raise-eta : (d c : ℕ) (a : Typ) (b : Term) → raise d c (eta a b) ≡ eta a (raise d (suc c) b)
unfolding raise
raise-eta d c a b = go (eta_cases a b)
  where
    go : ((contracts b ≡ false) × (eta a b ≡ lam a b)) ⊎ EtaCase a b → raise d c (eta a b) ≡ eta a (raise d (suc c) b)
    go (inl q) = ap (raise d c) q.1 ∙ sym (eta-short a (raise d (suc c) b) (contracts-raise d c b ∙ q.0))
    go (inr x) =
        ap (raise d c) x.eta_is ∙ sym (ap (λ z. eta a (raise d (suc c) z)) x.body_is ∙ ap (eta a) (raise-expand d c x.head x.args) ∙ eta-expand a (raise_head d c x.head) (raise_all d c x.args))

-- a function that says what values are at arguments goes past raising
unfoldable pub Raises : (Term → Terms → Term) → Type 0
Raises f = (d c : ℕ) (v : Term) (us : Terms) → f (raise d c v) (raise_all d c us) ≡ raise d c (f v us)

module _ (f : Term → Terms → Term) (raises : Raises f) where
  -- substitution further out than the raise
  above_head : (d c k k' : ℕ) (v : Term) (h : Head) (us : Terms) → c ≤ k → k' ≡ k + d
      → put_head f v k' (raise_head d c h) (raise_all d c us) ≡ raise d c (put_head f v k h us)
  unfolding Raises raise
  above_head d c k k' v (Const x a) us p r = refl
  above_head d c k k' v (Free x a) us p r = refl
  above_head d c k k' v (Schematic x a) us p r = refl
  above_head d c k k' v (Bound n) us p r = go (lt_cases n c) (index_cases n k)
    where
      go : ((n < c) × (nat_lt n c ≡ true)) ⊎ ((c ≤ n) × (nat_lt n c ≡ false)) → (n < k) ⊎ ((n ≡ k) ⊎ (k < n))
          → put_head f v k' (raise_head d c (Bound n)) (raise_all d c us) ≡ raise d c (put_head f v k (Bound n) us)
      go (inl s) (inl u) =
          let x = raise-low d c n s.0 in
          ap (λ h. put_head f v k' h (raise_all d c us)) x ∙ put-low f v k' n (raise_all d c us) (omega (arith, r, u))
          ∙ sym (ap (raise d c) (put-low f v k n us u) ∙ ap (λ h. Spine h (raise_all d c us)) x)
      go (inl s) (inr (inl u)) = absurd (omega (arith, p, s.0, u))
      go (inl s) (inr (inr u)) = absurd (omega (arith, p, s.0, u))
      go (inr s) (inl u) =
          let x = raise-high d c n s.0 in
          ap (λ h. put_head f v k' h (raise_all d c us)) x ∙ put-low f v k' (n + d) (raise_all d c us) (omega (arith, r, u))
          ∙ sym (ap (raise d c) (put-low f v k n us u) ∙ ap (λ h. Spine h (raise_all d c us)) x)
      go (inr s) (inr (inl u)) =
          let x = raise-high d c n s.0 in
          let e : n + d ≡ k' = omega (arith, r, u) in
          ap (λ h. put_head f v k' h (raise_all d c us)) x ∙ ap (λ m. put_head f v k' (Bound m) (raise_all d c us)) e
          ∙ put-here f v k' (raise_all d c us)
          ∙ ap (λ w. f w (raise_all d c us)) (sym (raise-join d k k' 0 c v (omega arith) (omega (arith, p)) r))
          ∙ raises d c (raise k 0 v) us
          ∙ sym (ap (λ m. raise d c (put_head f v k (Bound m) us)) u ∙ ap (raise d c) (put-here f v k us))
      go (inr s) (inr (inr u)) =
          let x = raise-high d c n s.0 in
          let e : pred (n + d) ≡ pred n + d = omega (arith, u) in
          ap (λ h. put_head f v k' h (raise_all d c us)) x ∙ put-high f v k' (n + d) (raise_all d c us) (omega (arith, r, u))
          ∙ ap (λ m. Spine (Bound m) (raise_all d c us)) e
          ∙ sym (ap (raise d c) (put-high f v k n us u) ∙ ap (λ h. Spine h (raise_all d c us)) (raise-high d c (pred n) (omega (arith, p, u))))

  mutual
    unfolding raise put

    pub raise-above : (d c k k' : ℕ) (v t : Term) → c ≤ k → k' ≡ k + d → put f v k' (raise d c t) ≡ raise d c (put f v k t)
    raise-above d c k k' v (lam a b) p r = ap (eta a) (raise-above d (suc c) (suc k) (suc k') v b (omega (arith, p)) (omega (arith, r))) ∙ sym (raise-eta d c a (put f v (suc k) b))
    raise-above d c k k' v (Spine h ts) p r = ap (put_head f v k' (raise_head d c h)) (raise_all-above d c k k' v ts p r) ∙ above_head d c k k' v h (put_all f v k ts) p r

    pub raise_all-above : (d c k k' : ℕ) (v : Term) (ts : Terms) → c ≤ k → k' ≡ k + d → put_all f v k' (raise_all d c ts) ≡ raise_all d c (put_all f v k ts)
    raise_all-above d c k k' v Nil p r = refl
    raise_all-above d c k k' v (tm_cons t ts) p r = let x = raise-above d c k k' v t p r in let y = raise_all-above d c k k' v ts p r in λ i. tm_cons (x i) (y i)

  -- substitution further in than the raise
  below_head : (d c k c' : ℕ) (v : Term) (h : Head) (us : Terms) → c' ≡ c + k
      → put_head f (raise d c v) k (raise_head d (suc c') h) (raise_all d c' us) ≡ raise d c' (put_head f v k h us)
  unfolding Raises raise
  below_head d c k c' v (Const x a) us r = refl
  below_head d c k c' v (Free x a) us r = refl
  below_head d c k c' v (Schematic x a) us r = refl
  below_head d c k c' v (Bound n) us r = go (lt_cases n (suc c')) (index_cases n k)
    where
      go : ((n < suc c') × (nat_lt n (suc c') ≡ true)) ⊎ ((suc c' ≤ n) × (nat_lt n (suc c') ≡ false)) → (n < k) ⊎ ((n ≡ k) ⊎ (k < n))
          → put_head f (raise d c v) k (raise_head d (suc c') (Bound n)) (raise_all d c' us) ≡ raise d c' (put_head f v k (Bound n) us)
      go (inl s) (inl u) =
          ap (λ h. put_head f (raise d c v) k h (raise_all d c' us)) (raise-low d (suc c') n s.0) ∙ put-low f (raise d c v) k n (raise_all d c' us) u
          ∙ sym (ap (raise d c') (put-low f v k n us u) ∙ ap (λ h. Spine h (raise_all d c' us)) (raise-low d c' n (omega (arith, r, u))))
      go (inl s) (inr (inl u)) =
          ap (λ h. put_head f (raise d c v) k h (raise_all d c' us)) (raise-low d (suc c') n s.0) ∙ ap (λ m. put_head f (raise d c v) k (Bound m) (raise_all d c' us)) u
          ∙ put-here f (raise d c v) k (raise_all d c' us)
          ∙ ap (λ w. f w (raise_all d c' us)) (sym (raise-swap d k 0 c c' v (omega arith) r))
          ∙ raises d c' (raise k 0 v) us
          ∙ sym (ap (λ m. raise d c' (put_head f v k (Bound m) us)) u ∙ ap (raise d c') (put-here f v k us))
      go (inl s) (inr (inr u)) =
          ap (λ h. put_head f (raise d c v) k h (raise_all d c' us)) (raise-low d (suc c') n s.0) ∙ put-high f (raise d c v) k n (raise_all d c' us) u
          ∙ sym (ap (raise d c') (put-high f v k n us u) ∙ ap (λ h. Spine h (raise_all d c' us)) (raise-low d c' (pred n) (omega (arith, s.0, u))))
      go (inr s) (inl u) = absurd (omega (arith, r, s.0, u))
      go (inr s) (inr (inl u)) = absurd (omega (arith, r, s.0, u))
      go (inr s) (inr (inr u)) =
          let e : pred (n + d) ≡ pred n + d = omega (arith, u) in
          ap (λ h. put_head f (raise d c v) k h (raise_all d c' us)) (raise-high d (suc c') n s.0) ∙ put-high f (raise d c v) k (n + d) (raise_all d c' us) (omega (arith, u))
          ∙ ap (λ m. Spine (Bound m) (raise_all d c' us)) e
          ∙ sym (ap (raise d c') (put-high f v k n us u) ∙ ap (λ h. Spine h (raise_all d c' us)) (raise-high d c' (pred n) (omega (arith, s.0))))

  mutual
    unfolding raise put

    pub raise-below : (d c k c' : ℕ) (v t : Term) → c' ≡ c + k → put f (raise d c v) k (raise d (suc c') t) ≡ raise d c' (put f v k t)
    raise-below d c k c' v (lam a b) r = ap (eta a) (raise-below d c (suc k) (suc c') v b (omega (arith, r))) ∙ sym (raise-eta d c' a (put f v (suc k) b))
    raise-below d c k c' v (Spine h ts) r = ap (put_head f (raise d c v) k (raise_head d (suc c') h)) (raise_all-below d c k c' v ts r) ∙ below_head d c k c' v h (put_all f v k ts) r

    pub raise_all-below : (d c k c' : ℕ) (v : Term) (ts : Terms) → c' ≡ c + k → put_all f (raise d c v) k (raise_all d (suc c') ts) ≡ raise_all d c' (put_all f v k ts)
    raise_all-below d c k c' v Nil r = refl
    raise_all-below d c k c' v (tm_cons t ts) r = let x = raise-below d c k c' v t r in let y = raise_all-below d c k c' v ts r in λ i. tm_cons (x i) (y i)

pub takes_cases : (a d : Typ) → (a ≡ fun d (cod a)) ⊎ (a ≡ fun d (cod a) → ⊥)
takes_cases a d = go (same_typ a (fun d (cod a))) refl
  where
    go : (v : Bool) → same_typ a (fun d (cod a)) ≡ v → (a ≡ fun d (cod a)) ⊎ (a ≡ fun d (cod a) → ⊥)
    go true e = inl (same_typ-true a (fun d (cod a)) e)
    go false e = inr (λ p. let bad : false ≡ true = sym e ∙ ap (same_typ a) (sym p) ∙ same_typ-same a in cc)

raises-step : (a : Typ) → ((x y : Typ) → a ≡ fun x y → Raises (happ x) × Raises (happ y)) → Raises (happ a)
unfolding Raises raise
raises-step a parts d c v Nil = happ-nil a (raise d c v) ∙ ap (raise d c) (sym (happ-nil a v))
raises-step a parts d c (Spine h ts) (tm_cons u us) =
    happ-spine a (raise_head d c h) (raise_all d c ts) (raise_all d c (tm_cons u us))
    ∙ ap (Spine (raise_head d c h)) (sym (raise_all-append d c ts (tm_cons u us))) ∙ ap (raise d c) (sym (happ-spine a h ts (tm_cons u us)))
raises-step a parts d c (lam x b) (tm_cons u us) = go (takes_cases a x)
  where
    go : (a ≡ fun x (cod a)) ⊎ (a ≡ fun x (cod a) → ⊥) → happ a (lam x (raise d (suc c) b)) (tm_cons (raise d c u) (raise_all d c us)) ≡ raise d c (happ a (lam x b) (tm_cons u us))
    go (inl e) =
        happ-lam a x (raise d (suc c) b) (raise d c u) (raise_all d c us) e
        ∙ ap (λ w. happ (cod a) w (raise_all d c us)) (raise-below (happ x) (parts x (cod a) e).0 d c 0 c u b (omega arith))
        ∙ (parts x (cod a) e).1 d c (put (happ x) u 0 b) us ∙ ap (raise d c) (sym (happ-lam a x b u us e))
    go (inr n) = happ-stuck a x (raise d (suc c) b) (raise d c u) (raise_all d c us) n ∙ ap (raise d c) (sym (happ-stuck a x b u us n))

pub happ-raises : (a : Typ) → Raises (happ a)
happ-raises a = fun_induction (λ c. Raises (happ c)) raises-step a
