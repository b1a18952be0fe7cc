-- A free variable turned into an index passes raising, contraction and substitution.
use Rattle.std.proofs.Common.{◌≡◌, ℕ, suc, ◌+◌, ◌-◌, pred, ◌<◌, ◌≤◌, Bool, true, false, ◌⊎◌, inl, inr, if◌then◌else◌, nat_lt, refl, sym, ◌∙◌, ap, arith}
use Rattle.std.proofs.lemmas.Bool.{or_parts}
use Rattle.iv_text.specs.declared.name.Name.{Name}
use Rattle.iv_term.specs.declared.typ.Typ.{Typ}
use Rattle.iv_term.specs.declared.typ.Types.{Types}
use Rattle.iv_term.specs.declared.term.Head.{Head}
use Rattle.iv_term.specs.declared.term.Head.TheVariants.{Const, Free, Schematic, Bound}
use Rattle.iv_term.specs.declared.term.Term.{Term}
use Rattle.iv_term.specs.declared.term.Terms.{Terms}
use Rattle.iv_term.specs.declared.term.Term.TheBlock.{Spine, Nil}
use Rattle.iv_term.specs.Typ.{fun, ty_cons}
use Rattle.iv_term.specs.Term.{lam, tm_cons, is_free, has_free, any_has_free}
use Rattle.iv_term.proofs.Laws.Same.{same_typ-same}
use Rattle.iv_text.proofs.Same.{same_name-same}
use Rattle.iv_hsub.specs.Typing.{cod, head_type, type_of, IsTerm, AreArgs, HasType}
use Rattle.iv_hsub.specs.Index.{index, raise_head, raise, raise_all, contracts, eta}
use Rattle.iv_hsub.specs.Hsub.{append, put_head, put, put_all, happ}
use Rattle.iv_hsub.specs.Hhf.{expand, one}
use Rattle.iv_hsub.specs.Abstract.{free, bind_head, bind, bind_all, abstract_over}
use Rattle.iv_hsub.proofs.Theory.{lt_cases, fun-parts, cod-fun}
use Rattle.iv_hsub.proofs.Theory.{raise-low, raise-high}
use Rattle.iv_hsub.proofs.Theory.{EtaCase, eta_cases, eta-short, eta-expand}
use Rattle.iv_hsub.proofs.Theory.{happ-nil, happ-spine, happ-lam, put-low, put-here, put-high, index_cases}
use Rattle.iv_hsub.proofs.Theory.{contracts-bind}

-- the variable itself, and any other head
pub is_free-same : (x : Name) (a : Typ) → is_free x a (Free x a) ≡ true
is_free-same x a = rw (same_name-same x, same_typ-same a) refl

-- raising passes what binds, inside of the new binder and outside of it
module _ (x : Name) (a : Typ) where
  raise-free_by : (d c k : ℕ) (y : Name) (b : Typ) (v : Bool) → k < c
      → (if v then Bound k else Free y b) ≡ raise_head d c (if v then Bound k else Free y b)
  raise-free_by d c k y b true h = sym (raise-low d c k h)
  raise-free_by d c k y b false h = refl

  above-free_by : (d c k k' : ℕ) (y : Name) (b : Typ) (v : Bool) → c ≤ k → k' ≡ k + d
      → (if v then Bound k' else Free y b) ≡ raise_head d c (if v then Bound k else Free y b)
  above-free_by d c k k' y b true h e = ap (λ n. Bound n) e ∙ sym (raise-high d c k h)
  above-free_by d c k k' y b false h e = refl

  -- d more binders within the new one
  head-above : (d c k k' : ℕ) (h : Head) → c ≤ k → k' ≡ k + d → bind_head x a k' (raise_head d c h) ≡ raise_head d c (bind_head x a k h)
  head-above d c k k' (Const y b) h e = refl
  head-above d c k k' (Free y b) h e = above-free_by d c k k' y b (is_free x a (Free y b)) h e
  head-above d c k k' (Schematic y b) h e = refl
  head-above d c k k' (Bound n) h e = go (lt_cases n c) (lt_cases n k)
    where
      go : ((n < c) × (nat_lt n c ≡ true)) ⊎ ((c ≤ n) × (nat_lt n c ≡ false)) → ((n < k) × (nat_lt n k ≡ true)) ⊎ ((k ≤ n) × (nat_lt n k ≡ false))
          → raise_head 1 k' (raise_head d c (Bound n)) ≡ raise_head d c (raise_head 1 k (Bound n))
      go (inl p) (inl q) =
          ap (raise_head 1 k') (raise-low d c n p.0) ∙ raise-low 1 k' n (omega (arith, q.0, e))
          ∙ sym (ap (raise_head d c) (raise-low 1 k n q.0) ∙ raise-low d c n p.0)
      go (inl p) (inr q) = absurd (omega (arith, p.0, q.0, h))
      go (inr p) (inl q) =
          ap (raise_head 1 k') (raise-high d c n p.0) ∙ raise-low 1 k' (n + d) (omega (arith, q.0, e))
          ∙ sym (ap (raise_head d c) (raise-low 1 k n q.0) ∙ raise-high d c n p.0)
      go (inr p) (inr q) =
          ap (raise_head 1 k') (raise-high d c n p.0) ∙ raise-high 1 k' (n + d) (omega (arith, q.0, e))
          ∙ ap (λ m. Bound m) (omega arith)
          ∙ sym (ap (raise_head d c) (raise-high 1 k n q.0) ∙ raise-high d c (n + 1) (omega (arith, p.0)))

  mutual
    unfolding bind raise

    pub bind-above : (d c k k' : ℕ) (t : Term) → c ≤ k → k' ≡ k + d → bind x a k' (raise d c t) ≡ raise d c (bind x a k t)
    bind-above d c k k' (lam b t) h e = ap (lam b) (bind-above d (suc c) (suc k) (suc k') t (omega (arith, h)) (omega (arith, e)))
    bind-above d c k k' (Spine h ts) p e = let u = head-above d c k k' h p e in let w = bind_all-above d c k k' ts p e in λ i. Spine (u i) (w i)

    pub bind_all-above : (d c k k' : ℕ) (ts : Terms) → c ≤ k → k' ≡ k + d → bind_all x a k' (raise_all d c ts) ≡ raise_all d c (bind_all x a k ts)
    bind_all-above d c k k' Nil h e = refl
    bind_all-above d c k k' (tm_cons t ts) h e = let u = bind-above d c k k' t h e in let w = bind_all-above d c k k' ts h e in λ i. tm_cons (u i) (w i)

  -- d more binders around the new one
  head-below : (d c k : ℕ) (h : Head) → k ≤ c → bind_head x a k (raise_head d c h) ≡ raise_head d (suc c) (bind_head x a k h)
  head-below d c k (Const y b) h = refl
  head-below d c k (Free y b) h = raise-free_by d (suc c) k y b (is_free x a (Free y b)) (omega (arith, h))
  head-below d c k (Schematic y b) h = refl
  head-below d c k (Bound n) h = go (lt_cases n c) (lt_cases n k)
    where
      go : ((n < c) × (nat_lt n c ≡ true)) ⊎ ((c ≤ n) × (nat_lt n c ≡ false)) → ((n < k) × (nat_lt n k ≡ true)) ⊎ ((k ≤ n) × (nat_lt n k ≡ false))
          → raise_head 1 k (raise_head d c (Bound n)) ≡ raise_head d (suc c) (raise_head 1 k (Bound n))
      go (inl p) (inl q) =
          ap (raise_head 1 k) (raise-low d c n p.0) ∙ raise-low 1 k n q.0
          ∙ sym (ap (raise_head d (suc c)) (raise-low 1 k n q.0) ∙ raise-low d (suc c) n (omega (arith, p.0)))
      go (inl p) (inr q) =
          ap (raise_head 1 k) (raise-low d c n p.0) ∙ raise-high 1 k n q.0
          ∙ sym (ap (raise_head d (suc c)) (raise-high 1 k n q.0) ∙ raise-low d (suc c) (n + 1) (omega (arith, p.0)))
      go (inr p) (inl q) = absurd (omega (arith, p.0, q.0, h))
      go (inr p) (inr q) =
          ap (raise_head 1 k) (raise-high d c n p.0) ∙ raise-high 1 k (n + d) (omega (arith, q.0))
          ∙ ap (λ m. Bound m) (omega arith)
          ∙ sym (ap (raise_head d (suc c)) (raise-high 1 k n q.0) ∙ raise-high d (suc c) (n + 1) (omega (arith, p.0)))

  mutual
    unfolding bind raise

    pub bind-below : (d c k : ℕ) (t : Term) → k ≤ c → bind x a k (raise d c t) ≡ raise d (suc c) (bind x a k t)
    bind-below d c k (lam b t) h = ap (lam b) (bind-below d (suc c) (suc k) t (omega (arith, h)))
    bind-below d c k (Spine h ts) p = let u = head-below d c k h p in let w = bind_all-below d c k ts p in λ i. Spine (u i) (w i)

    pub bind_all-below : (d c k : ℕ) (ts : Terms) → k ≤ c → bind_all x a k (raise_all d c ts) ≡ raise_all d (suc c) (bind_all x a k ts)
    bind_all-below d c k Nil h = refl
    bind_all-below d c k (tm_cons t ts) h = let u = bind-below d c k t h in let w = bind_all-below d c k ts h in λ i. tm_cons (u i) (w i)

  pub bind_all-append : (k : ℕ) (ts us : Terms) → bind_all x a k (append ts us) ≡ append (bind_all x a k ts) (bind_all x a k us)
  unfolding bind_all append
  bind_all-append k Nil us = refl
  bind_all-append k (tm_cons t ts) us = ap (λ w. tm_cons (bind x a k t) w) (bind_all-append k ts us)

  pub bind-index : (k : ℕ) → bind_all x a (suc k) (one (index 0)) ≡ one (index 0)
  unfolding bind
  bind-index k = ap (λ h. one (Spine h Nil)) (raise-low 1 (suc k) 0 (omega arith))

  pub bind-expand : (k : ℕ) (h : Head) (ts : Terms) → bind x a (suc k) (expand h ts) ≡ expand (bind_head x a k h) (bind_all x a k ts)
  unfolding bind expand
  bind-expand k h ts =
      let u = head-above 1 0 k (suc k) h (omega arith) (omega arith) in
      let w = bind_all-append (suc k) (raise_all 1 0 ts) (one (index 0))
      ∙ (λ i. append (bind_all-above 1 0 k (suc k) ts (omega arith) (omega arith) i) (bind-index k i)) in
      λ i. Spine (u i) (w i)

  pub bind-eta : (k : ℕ) (c : Typ) (b : Term) → bind x a k (eta c b) ≡ eta c (bind x a (suc k) b)
  unfolding bind
  bind-eta k c b = go (eta_cases c b)
    where
      go : ((contracts b ≡ false) × (eta c b ≡ lam c b)) ⊎ EtaCase c b → bind x a k (eta c b) ≡ eta c (bind x a (suc k) b)
      go (inl q) = ap (bind x a k) q.1 ∙ sym (eta-short c (bind x a (suc k) b) (contracts-bind x a k b ∙ q.0))
      go (inr q) =
          ap (bind x a k) q.eta_is
          ∙ sym (ap (λ z. eta c (bind x a (suc k) z)) q.body_is ∙ ap (eta c) (bind-expand k q.head q.args)
          ∙ eta-expand c (bind_head x a k q.head) (bind_all x a k q.args))

  -- where the variable doesn't stand, all is raised
  absent-head : (k : ℕ) (h : Head) → is_free x a h ≡ false → bind_head x a k h ≡ raise_head 1 k h
  absent-head k (Const y b) e = refl
  absent-head k (Free y b) e = ap (λ v. if v then Bound k else Free y b) e
  absent-head k (Schematic y b) e = refl
  absent-head k (Bound n) e = refl

  mutual
    unfolding bind raise has_free

    pub bind-absent : (k : ℕ) (t : Term) → has_free x a t ≡ false → bind x a k t ≡ raise 1 k t
    bind-absent k (lam b t) e = ap (lam b) (bind-absent (suc k) t e)
    bind-absent k (Spine h ts) e =
        let p = or_parts (is_free x a h) (any_has_free x a ts) e in
        let u = absent-head k h p.0 in let w = bind_all-absent k ts p.1 in λ i. Spine (u i) (w i)

    pub bind_all-absent : (k : ℕ) (ts : Terms) → any_has_free x a ts ≡ false → bind_all x a k ts ≡ raise_all 1 k ts
    bind_all-absent k Nil e = refl
    bind_all-absent k (tm_cons t ts) e =
        let p = or_parts (has_free x a t) (any_has_free x a ts) e in
        let u = bind-absent k t p.0 in let w = bind_all-absent k ts p.1 in λ i. tm_cons (u i) (w i)

  bind-itself : (k : ℕ) → bind_head x a k (Free x a) ≡ Bound k
  bind-itself k = ap (λ v. if v then Bound k else Free x a) (is_free-same x a)

  at_free : (k : ℕ) (us : Terms) → happ a (raise k 0 (free x a)) us ≡ Spine (Free x a) us
  unfolding raise append
  at_free k us = happ-spine a (Free x a) Nil us

  -- the variable put for an index, and bound again
  again-head : (k : ℕ) (h : Head) (us ws : Terms) → is_free x a h ≡ false → bind_all x a k us ≡ ws
      → bind x a k (put_head (happ a) (free x a) k h us) ≡ Spine h ws
  unfolding bind
  again-head k (Const y b) us ws e w = ap (Spine (Const y b)) w
  again-head k (Free y b) us ws e w = let u = absent-head k (Free y b) e in λ i. Spine (u i) (w i)
  again-head k (Schematic y b) us ws e w = ap (Spine (Schematic y b)) w
  again-head k (Bound n) us ws e w = go (index_cases n k)
    where
      go : (n < k) ⊎ ((n ≡ k) ⊎ (k < n)) → bind x a k (put_head (happ a) (free x a) k (Bound n) us) ≡ Spine (Bound n) ws
      go (inl h) = ap (bind x a k) (put-low (happ a) (free x a) k n us h) ∙ (let u = raise-low 1 k n h in λ i. Spine (u i) (w i))
      go (inr (inl h)) =
          ap (λ m. bind x a k (put_head (happ a) (free x a) k (Bound m) us)) h ∙ ap (bind x a k) (put-here (happ a) (free x a) k us ∙ at_free k us)
          ∙ (let u = bind-itself k ∙ ap (λ m. Bound m) (sym h) in λ i. Spine (u i) (w i))
      go (inr (inr h)) = ap (bind x a k) (put-high (happ a) (free x a) k n us h)
          ∙ (let u = raise-high 1 k (pred n) (omega (arith, h)) ∙ ap (λ m. Bound m) (omega (arith, h)) in λ i. Spine (u i) (w i))

  mutual
    unfolding bind put has_free

    pub again : (bs : Types) (k : ℕ) (t : Term) → IsTerm bs t → has_free x a t ≡ false → bind x a k (put (happ a) (free x a) k t) ≡ t
    again bs k (lam c b) p e = bind-eta k c (put (happ a) (free x a) (suc k) b) ∙ ap (eta c) (again (ty_cons c bs) (suc k) b p.0 e) ∙ eta-short c b p.1
    again bs k (Spine h ts) p e =
        let q = or_parts (is_free x a h) (any_has_free x a ts) e in
        again-head k h (put_all (happ a) (free x a) k ts) ts q.0 (again_all bs (head_type bs h) k ts p.1 q.1)

    pub again_all : (bs : Types) (c : Typ) (k : ℕ) (ts : Terms) → AreArgs bs c ts → any_has_free x a ts ≡ false
        → bind_all x a k (put_all (happ a) (free x a) k ts) ≡ ts
    again_all bs c k Nil p e = refl
    again_all bs c k (tm_cons t ts) p e =
        let q = or_parts (has_free x a t) (any_has_free x a ts) e in
        let u = again bs k t p.1.0 q.0 in let w = again_all bs (cod c) k ts p.1.1 q.1 in λ i. tm_cons (u i) (w i)

  -- a function at a new variable, abstracted over it, is the function
  pub abstract-at : (bs : Types) (c : Typ) (f : Term) → HasType bs (fun a c) f → has_free x a f ≡ false
      → abstract_over x a (happ (fun a c) f (one (free x a))) ≡ f
  unfolding abstract_over has_free type_of bind expand
  abstract-at bs c (lam d b) p e =
      let q = fun-parts d (type_of (ty_cons d bs) b) a c p.1 in
      let f : fun a c ≡ fun d (cod (fun a c)) = (λ i. fun (sym q.0 i) (sym (cod-fun a c) i)) in
      ap (abstract_over x a) (happ-lam (fun a c) d b (free x a) Nil f ∙ happ-nil (cod (fun a c)) (put (happ d) (free x a) 0 b)
      ∙ ap (λ z. put (happ z) (free x a) 0 b) q.0)
      ∙ ap (eta a) (again (ty_cons d bs) 0 b p.0.0 e) ∙ eta-short a b p.0.1 ∙ ap (λ z. lam z b) (sym q.0)
  abstract-at bs c (Spine h ts) p e =
      let q = or_parts (is_free x a h) (any_has_free x a ts) e in
      let v : bind_all x a 0 (one (free x a)) ≡ one (index 0) = ap (λ z. one (Spine z Nil)) (bind-itself 0) in
      let w = bind_all-append 0 ts (one (free x a)) ∙ (λ i. append (bind_all-absent 0 ts q.1 i) (v i)) in
      let u = absent-head 0 h q.0 in
      let s : bind x a 0 (Spine h (append ts (one (free x a)))) ≡ expand h ts = (λ i. Spine (u i) (w i)) in
      ap (abstract_over x a) (happ-spine (fun a c) h ts (one (free x a))) ∙ ap (eta a) s ∙ eta-expand a h ts
