-- Binding a variable passes hereditary substitution, and values put for other variables pass abstraction.
use Rattle.std.proofs.Common.{◌≡◌, ℕ, suc, pred, ◌+◌, ◌<◌, ◌≤◌, Bool, true, false, ◌⊎◌, inl, inr, Option, None, Some, if◌then◌else◌, nat_lt, refl, sym, ◌∙◌, ap, arith}
use Rattle.iv_text.specs.declared.name.Name.{Name}
use Rattle.iv_term.specs.declared.typ.Typ.{Typ}
use Rattle.iv_term.specs.declared.typ.Types.{Types}
use Rattle.iv_term.specs.declared.typ.Typ.TheBlock.{Nil as no_types}
use Rattle.iv_term.specs.declared.term.Head.{Head}
use Rattle.iv_term.specs.declared.term.Head.TheVariants.{Const, Free, Schematic, Bound}
use Rattle.iv_term.specs.declared.term.Term.{Term}
use Rattle.iv_term.specs.declared.term.Terms.{Terms}
use Rattle.iv_term.specs.declared.term.Term.TheBlock.{Spine, Nil}
use Rattle.iv_term.specs.Typ.{fun}
use Rattle.iv_term.specs.Term.{lam, tm_cons, is_free}
use Rattle.iv_hsub.specs.Typing.{cod, join, types_len, IsTerm}
use Rattle.iv_hsub.specs.Index.{raise_head, raise, eta}
use Rattle.iv_hsub.specs.Hsub.{put_head, put, put_all, happ}
use Rattle.iv_hsub.specs.Inst.{use_value, inst_head, inst, inst_all, HeadVars, Fits}
use Rattle.iv_hsub.specs.Abstract.{bind_head, bind, bind_all, abstract_over}
use Rattle.iv_hsub.proofs.Theory.{lt_cases, fun_induction, raise-low, raise-high, happ-nil, happ-spine, happ-lam, happ-stuck, index_cases, put-low, put-here, put-high, takes_cases, is_free-true, bind-term, raise-none, Typed, inst-eta}
use Rattle.iv_laws.specs.Abstracting.{IsWithout, InstPassesAbstract}
use Rattle.iv_laws.proofs.Binding.{bind-above, bind-absent, bind_all-append, bind-eta}

module _ (x : Name) (a : Typ) where
  -- what a value is at arguments passes it
  unfoldable Binds : (Term → Terms → Term) → Type 0
  Binds f = (k : ℕ) (v : Term) (us : Terms) → f (bind x a k v) (bind_all x a k us) ≡ bind x a k (f v us)

  module _ (f : Term → Terms → Term) (binds : Binds f) where
    free-there : (k c' : ℕ) (w : Term) (y : Name) (b : Typ) (us : Terms) (v : Bool) → k ≤ c'
        → put_head f w k (if v then Bound (suc c') else Free y b) us ≡ Spine (if v then Bound c' else Free y b) us
    free-there k c' w y b us true h = put-high f w k (suc c') us (omega (arith, h))
    free-there k c' w y b us false h = refl

    bind-put_head : (k c c' : ℕ) (v : Term) (h : Head) (us : Terms) → c' ≡ c + k
        → put_head f (bind x a c v) k (bind_head x a (suc c') h) (bind_all x a c' us) ≡ bind x a c' (put_head f v k h us)
    unfolding Binds bind
    bind-put_head k c c' v (Const y b) us r = refl
    bind-put_head k c c' v (Free y b) us r = free-there k c' (bind x a c v) y b (bind_all x a c' us) (is_free x a (Free y b)) (omega (arith, r))
    bind-put_head k c c' v (Schematic y b) us r = refl
    bind-put_head k c c' v (Bound n) us r = go (lt_cases n (suc c')) (index_cases n k)
      where
        go : ((n < suc c') × (nat_lt n (suc c') ≡ true)) ⊎ ((suc c' ≤ n) × (nat_lt n (suc c') ≡ false)) → (n < k) ⊎ ((n ≡ k) ⊎ (k < n))
            → put_head f (bind x a c v) k (raise_head 1 (suc c') (Bound n)) (bind_all x a c' us) ≡ bind x a c' (put_head f v k (Bound n) us)
        go (inl s) (inl u) =
            ap (λ h. put_head f (bind x a c v) k h (bind_all x a c' us)) (raise-low 1 (suc c') n s.0) ∙ put-low f (bind x a c v) k n (bind_all x a c' us) u
            ∙ sym (ap (bind x a c') (put-low f v k n us u) ∙ ap (λ h. Spine h (bind_all x a c' us)) (raise-low 1 c' n (omega (arith, r, u))))
        go (inl s) (inr (inl u)) =
            ap (λ h. put_head f (bind x a c v) k h (bind_all x a c' us)) (raise-low 1 (suc c') n s.0)
            ∙ ap (λ m. put_head f (bind x a c v) k (Bound m) (bind_all x a c' us)) u
            ∙ put-here f (bind x a c v) k (bind_all x a c' us)
            ∙ ap (λ w. f w (bind_all x a c' us)) (sym (bind-above x a k 0 c c' v (omega arith) r))
            ∙ binds c' (raise k 0 v) us
            ∙ sym (ap (λ m. bind x a c' (put_head f v k (Bound m) us)) u ∙ ap (bind x a c') (put-here f v k us))
        go (inl s) (inr (inr u)) =
            ap (λ h. put_head f (bind x a c v) k h (bind_all x a c' us)) (raise-low 1 (suc c') n s.0) ∙ put-high f (bind x a c v) k n (bind_all x a c' us) u
            ∙ sym (ap (bind x a c') (put-high f v k n us u) ∙ ap (λ h. Spine h (bind_all x a c' us)) (raise-low 1 c' (pred n) (omega (arith, s.0, u))))
        go (inr s) (inl u) = absurd (omega (arith, r, s.0, u))
        go (inr s) (inr (inl u)) = absurd (omega (arith, r, s.0, u))
        go (inr s) (inr (inr u)) =
            let e : pred (n + 1) ≡ pred n + 1 = omega (arith, u) in
            ap (λ h. put_head f (bind x a c v) k h (bind_all x a c' us)) (raise-high 1 (suc c') n s.0)
            ∙ put-high f (bind x a c v) k (n + 1) (bind_all x a c' us) (omega (arith, u))
            ∙ ap (λ m. Spine (Bound m) (bind_all x a c' us)) e
            ∙ sym (ap (bind x a c') (put-high f v k n us u) ∙ ap (λ h. Spine h (bind_all x a c' us)) (raise-high 1 c' (pred n) (omega (arith, s.0))))

    mutual
      unfolding bind put

      bind-put : (k c c' : ℕ) (v t : Term) → c' ≡ c + k → put f (bind x a c v) k (bind x a (suc c') t) ≡ bind x a c' (put f v k t)
      bind-put k c c' v (lam b t) r = ap (eta b) (bind-put (suc k) c (suc c') v t (omega (arith, r))) ∙ sym (bind-eta x a c' b (put f v (suc k) t))
      bind-put k c c' v (Spine h ts) r = ap (put_head f (bind x a c v) k (bind_head x a (suc c') h)) (bind-puts k c c' v ts r) ∙ bind-put_head k c c' v h (put_all f v k ts) r

      bind-puts : (k c c' : ℕ) (v : Term) (ts : Terms) → c' ≡ c + k → put_all f (bind x a c v) k (bind_all x a (suc c') ts) ≡ bind_all x a c' (put_all f v k ts)
      bind-puts k c c' v Nil r = refl
      bind-puts k c c' v (tm_cons t ts) r = let p = bind-put k c c' v t r in let q = bind-puts k c c' v ts r in λ i. tm_cons (p i) (q i)

  binds-step : (c : Typ) → ((y z : Typ) → c ≡ fun y z → Binds (happ y) × Binds (happ z)) → Binds (happ c)
  unfolding Binds bind
  binds-step c parts k v Nil = happ-nil c (bind x a k v) ∙ ap (bind x a k) (sym (happ-nil c v))
  binds-step c parts k (Spine h ts) (tm_cons u us) =
      happ-spine c (bind_head x a k h) (bind_all x a k ts) (bind_all x a k (tm_cons u us))
      ∙ ap (Spine (bind_head x a k h)) (sym (bind_all-append x a k ts (tm_cons u us))) ∙ ap (bind x a k) (sym (happ-spine c h ts (tm_cons u us)))
  binds-step c parts k (lam d b) (tm_cons u us) = go (takes_cases c d)
    where
      go : (c ≡ fun d (cod c)) ⊎ (c ≡ fun d (cod c) → ⊥) → happ c (lam d (bind x a (suc k) b)) (tm_cons (bind x a k u) (bind_all x a k us)) ≡ bind x a k (happ c (lam d b) (tm_cons u us))
      go (inl e) =
          happ-lam c d (bind x a (suc k) b) (bind x a k u) (bind_all x a k us) e
          ∙ ap (λ w. happ (cod c) w (bind_all x a k us)) (bind-put (happ d) (parts d (cod c) e).0 0 k k u b (omega arith))
          ∙ (parts d (cod c) e).1 k (put (happ d) u 0 b) us ∙ ap (bind x a k) (sym (happ-lam c d b u us e))
      go (inr n) = happ-stuck c d (bind x a (suc k) b) (bind x a k u) (bind_all x a k us) n ∙ ap (bind x a k) (sym (happ-stuck c d b u us n))

  happ-binds : (c : Typ) → Binds (happ c)
  happ-binds c = fun_induction (λ d. Binds (happ d)) binds-step c

  pub bind-happ : (c : Typ) (k : ℕ) (v : Term) (us : Terms) → happ c (bind x a k v) (bind_all x a k us) ≡ bind x a k (happ c v us)
  unfolding Binds
  bind-happ c k v us = happ-binds c k v us

  -- values that are put for other variables
  value-binds : (k : ℕ) (o : Option Term) (h h' : Head) (b : Typ) (us : Terms) → Fits o b → IsWithout x a o → h' ≡ bind_head x a k h
      → use_value o h' b (bind_all x a k us) ≡ bind x a k (use_value o h b us)
  unfolding bind
  value-binds k None h h' b us p q e = ap (λ z. Spine z (bind_all x a k us)) e
  value-binds k (Some v) h h' b us p q e =
      ap (λ z. happ b z (bind_all x a k us)) (sym (bind-absent x a k v q ∙ raise-none 1 k v p.0)) ∙ bind-happ b k v us

  module _ (F : Head → Option Term) (none : F (Free x a) ≡ None) (all : (h : Head) → HeadVars (λ j b. Fits (F j) b × IsWithout x a (F j)) h) where
    free-binds : (k : ℕ) (y : Name) (b : Typ) (us : Terms) (v : Bool) → is_free x a (Free y b) ≡ v
        → inst_head F (if v then Bound k else Free y b) (bind_all x a k us) ≡ bind x a k (use_value (F (Free y b)) (Free y b) b us)
    unfolding bind
    free-binds k y b us true e =
        let q : F (Free y b) ≡ None = ap F (sym (is_free-true x y a b e)) ∙ none in
        sym (ap (λ o. bind x a k (use_value o (Free y b) b us)) q ∙ ap (λ w. Spine (if w then Bound k else Free y b) (bind_all x a k us)) e)
    free-binds k y b us false e =
        let p = all (Free y b) in
        value-binds k (F (Free y b)) (Free y b) (Free y b) b us p.0 p.1 (sym (ap (λ w. if w then Bound k else Free y b) e))

    head-binds : (k : ℕ) (h : Head) (us : Terms) → inst_head F (bind_head x a k h) (bind_all x a k us) ≡ bind x a k (inst_head F h us)
    unfolding bind
    head-binds k (Const y b) us = refl
    head-binds k (Free y b) us = free-binds k y b us (is_free x a (Free y b)) refl
    head-binds k (Schematic y b) us = let p = all (Schematic y b) in value-binds k (F (Schematic y b)) (Schematic y b) (Schematic y b) b us p.0 p.1 refl
    head-binds k (Bound n) us = refl

    mutual
      unfolding inst bind

      inst-bind : (k : ℕ) (t : Term) → inst F (bind x a k t) ≡ bind x a k (inst F t)
      inst-bind k (lam b t) = ap (eta b) (inst-bind (suc k) t) ∙ sym (bind-eta x a k b (inst F t))
      inst-bind k (Spine h ts) = ap (inst_head F (bind_head x a k h)) (inst_all-bind k ts) ∙ head-binds k h (inst_all F ts)

      inst_all-bind : (k : ℕ) (ts : Terms) → inst_all F (bind_all x a k ts) ≡ bind_all x a k (inst_all F ts)
      inst_all-bind k Nil = refl
      inst_all-bind k (tm_cons t ts) = let p = inst-bind k t in let q = inst_all-bind k ts in λ i. tm_cons (p i) (q i)

    all-typed : Typed F
    unfolding Typed
    all-typed (Const y b) = tt
    all-typed (Free y b) = (all (Free y b)).0
    all-typed (Schematic y b) = (all (Schematic y b)).0
    all-typed (Bound n) = tt

    inst-abstract : (bs : Types) (t : Term) → IsTerm bs t → inst F (abstract_over x a t) ≡ abstract_over x a (inst F t)
    unfolding abstract_over join types_len
    inst-abstract bs t p =
        inst-eta F all-typed bs a (bind x a 0 t) (bind-term x a no_types bs t p).0 ∙ ap (eta a) (inst-bind 0 t)

pub inst_abstract : InstPassesAbstract
inst_abstract F x a bs t p none all = inst-abstract x a F none all bs t p
