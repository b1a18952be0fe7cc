-- What holds of the variables of a term and of what is put in it holds of those of the result.
use Rattle.std.proofs.Common.{◌≡◌, ℕ, suc, ◌<◌, Bool, true, false, ◌⊎◌, inl, inr, Option, Some, None, refl, sym, ◌∙◌, ap, subst}
use Rattle.iv_term.specs.declared.typ.Typ.{Typ}
use Rattle.iv_term.specs.declared.term.Head.{Head}
use Rattle.iv_term.specs.declared.term.Head.TheVariants.{Const, Free, Schematic, Bound}
use Rattle.iv_term.specs.declared.term.Term.{Term}
use Rattle.iv_term.specs.declared.term.Terms.{Terms}
use Rattle.iv_term.specs.declared.term.Term.TheBlock.{Spine, Nil}
use Rattle.iv_term.specs.Typ.{fun, same_typ}
use Rattle.iv_term.specs.Term.{lam, tm_cons}
use Rattle.iv_term.proofs.Laws.Same.{same_typ-true, same_typ-same}
use Rattle.iv_hsub.specs.Typing.{cod}
use Rattle.iv_hsub.specs.Index.{index, raise_head, raise, raise_all, contracts, eta}
use Rattle.iv_hsub.specs.Hsub.{append, put_head, put, put_all, happ}
use Rattle.iv_hsub.specs.Hhf.{expand}
use Rattle.iv_hsub.proofs.Theory.{fun_induction}
use Rattle.iv_hsub.proofs.Theory.{eta_cases, EtaCase}
use Rattle.iv_hsub.proofs.Theory.{happ-nil, happ-spine, happ-lam, happ-stuck, put-low, put-here, put-high, index_cases}
use Rattle.iv_hsub.specs.Inst.{use_value, inst_head, inst, inst_all, HeadVars, Vars, AllVars}

module _ (P : Head → Typ → Type 0) where
  head-raise : (d c : ℕ) (h : Head) → HeadVars P h → HeadVars P (raise_head d c h)
  head-raise d c (Const x a) p = tt
  head-raise d c (Free x a) p = p
  head-raise d c (Schematic x a) p = p
  head-raise d c (Bound n) p = tt

  head-raised : (d c : ℕ) (h : Head) → HeadVars P (raise_head d c h) → HeadVars P h
  head-raised d c (Const x a) p = tt
  head-raised d c (Free x a) p = p
  head-raised d c (Schematic x a) p = p
  head-raised d c (Bound n) p = tt

  mutual
    unfolding raise

    pub vars-raise : (d c : ℕ) (t : Term) → Vars P t → Vars P (raise d c t)
    vars-raise d c (lam a b) p = vars-raise d (suc c) b p
    vars-raise d c (Spine h ts) p = (head-raise d c h p.0, all-raise d c ts p.1)

    pub all-raise : (d c : ℕ) (ts : Terms) → AllVars P ts → AllVars P (raise_all d c ts)
    all-raise d c Nil p = tt
    all-raise d c (tm_cons t ts) p = (vars-raise d c t p.0, all-raise d c ts p.1)

  mutual
    unfolding raise

    vars-raised : (d c : ℕ) (t : Term) → Vars P (raise d c t) → Vars P t
    vars-raised d c (lam a b) p = vars-raised d (suc c) b p
    vars-raised d c (Spine h ts) p = (head-raised d c h p.0, all-raised d c ts p.1)

    all-raised : (d c : ℕ) (ts : Terms) → AllVars P (raise_all d c ts) → AllVars P ts
    all-raised d c Nil p = tt
    all-raised d c (tm_cons t ts) p = (vars-raised d c t p.0, all-raised d c ts p.1)

  pub all-append : (ts us : Terms) → AllVars P ts → AllVars P us → AllVars P (append ts us)
  unfolding append
  all-append Nil us p q = q
  all-append (tm_cons t ts) us p q = (p.0, all-append ts us p.1 q)

  all-appended : (ts us : Terms) → AllVars P (append ts us) → AllVars P ts
  unfolding append
  all-appended Nil us p = tt
  all-appended (tm_cons t ts) us p = (p.0, all-appended ts us p.1)

  pub vars-expand : (h : Head) (ts : Terms) → Vars P (expand h ts) → Vars P (Spine h ts)
  unfolding expand
  vars-expand h ts p = (head-raised 1 0 h p.0, all-raised 1 0 ts (all-appended (raise_all 1 0 ts) (tm_cons (index 0) Nil) p.1))

  pub vars-eta : (a : Typ) (b : Term) → Vars P b → Vars P (eta a b)
  vars-eta a b p = go (eta_cases a b)
    where
      go : ((contracts b ≡ false) × (eta a b ≡ lam a b)) ⊎ EtaCase a b → Vars P (eta a b)
      go (inl q) = subst (Vars P) (sym q.1) p
      go (inr x) = subst (Vars P) (sym x.eta_is) (vars-expand x.head x.args (subst (Vars P) x.body_is p))

  -- a value at arguments
  unfoldable pub Keeps : (Term → Terms → Term) → Type 0
  Keeps f = (v : Term) (us : Terms) → Vars P v → AllVars P us → Vars P (f v us)

  module _ (f : Term → Terms → Term) (keeps : Keeps f) (v : Term) (pv : Vars P v) where
    vars-put_head : (k : ℕ) (h : Head) (us : Terms) → HeadVars P h → AllVars P us → Vars P (put_head f v k h us)
    unfolding Keeps
    vars-put_head k (Const x a) us p q = (tt, q)
    vars-put_head k (Free x a) us p q = (p, q)
    vars-put_head k (Schematic x a) us p q = (p, q)
    vars-put_head k (Bound n) us p q = go (index_cases n k)
      where
        go : (n < k) ⊎ ((n ≡ k) ⊎ (k < n)) → Vars P (put_head f v k (Bound n) us)
        go (inl h) = subst (Vars P) (sym (put-low f v k n us h)) (tt, q)
        go (inr (inl h)) =
            subst (Vars P) (sym (ap (λ m. put_head f v k (Bound m) us) h ∙ put-here f v k us)) (keeps (raise k 0 v) us (vars-raise k 0 v pv) q)
        go (inr (inr h)) = subst (Vars P) (sym (put-high f v k n us h)) (tt, q)

    mutual
      unfolding put

      pub vars-put : (k : ℕ) (t : Term) → Vars P t → Vars P (put f v k t)
      vars-put k (lam a b) p = vars-eta a (put f v (suc k) b) (vars-put (suc k) b p)
      vars-put k (Spine h ts) p = vars-put_head k h (put_all f v k ts) p.0 (all-put k ts p.1)

      pub all-put : (k : ℕ) (ts : Terms) → AllVars P ts → AllVars P (put_all f v k ts)
      all-put k Nil p = tt
      all-put k (tm_cons t ts) p = (vars-put k t p.0, all-put k ts p.1)

  takes_cases : (a d : Typ) → (a ≡ fun d (cod a)) ⊎ (a ≡ fun d (cod a) → ⊥)
  takes_cases a d = go (same_typ a (fun d (cod a))) refl
    where
      go : (v : Bool) → same_typ a (fun d (cod a)) ≡ v → (a ≡ fun d (cod a)) ⊎ (a ≡ fun d (cod a) → ⊥)
      go true e = inl (same_typ-true a (fun d (cod a)) e)
      go false e = inr (λ p. let bad : false ≡ true = sym e ∙ ap (same_typ a) (sym p) ∙ same_typ-same a in cc)

  keeps-step : (a : Typ) → ((x y : Typ) → a ≡ fun x y → Keeps (happ x) × Keeps (happ y)) → Keeps (happ a)
  unfolding Keeps
  keeps-step a parts v Nil p q = subst (Vars P) (sym (happ-nil a v)) p
  keeps-step a parts (Spine h ts) (tm_cons u us) p q = subst (Vars P) (sym (happ-spine a h ts (tm_cons u us))) (p.0, all-append ts (tm_cons u us) p.1 q)
  keeps-step a parts (lam d b) (tm_cons u us) p q = go (takes_cases a d)
    where
      go : (a ≡ fun d (cod a)) ⊎ (a ≡ fun d (cod a) → ⊥) → Vars P (happ a (lam d b) (tm_cons u us))
      go (inl e) =
          let k = parts d (cod a) e in
          subst (Vars P) (sym (happ-lam a d b u us e)) (k.1 (put (happ d) u 0 b) us (vars-put (happ d) k.0 u q.0 0 b p) q.1)
      go (inr n) = subst (Vars P) (sym (happ-stuck a d b u us n)) p

  pub vars-happ : (a : Typ) → Keeps (happ a)
  vars-happ a = fun_induction (λ c. Keeps (happ c)) keeps-step a

  -- a variable that has a value, and one that has none
  pub use_value-vars : (o : Option Term) (h : Head) (a : Typ) (us : Terms) → ((v : Term) → o ≡ Some v → Vars P v) → (o ≡ None → HeadVars P h) → AllVars P us
      → Vars P (use_value o h a us)
  unfolding Keeps
  use_value-vars None h a us k n q = (n refl, q)
  use_value-vars (Some v) h a us k n q = vars-happ a v us (k v refl) q

  module _ (F : Head → Option Term) where
    -- a head's value keeps it, or the head itself
    abbrev pub Brings : Head → Typ → Type 0
    Brings h a = ((v : Term) → F h ≡ Some v → Vars P v) × (F h ≡ None → HeadVars P h)

    inst_head-vars : (h : Head) (us : Terms) → HeadVars Brings h → AllVars P us → Vars P (inst_head F h us)
    inst_head-vars (Const x a) us p q = (tt, q)
    inst_head-vars (Free x a) us p q = use_value-vars (F (Free x a)) (Free x a) a us p.0 p.1 q
    inst_head-vars (Schematic x a) us p q = use_value-vars (F (Schematic x a)) (Schematic x a) a us p.0 p.1 q
    inst_head-vars (Bound n) us p q = (tt, q)

    mutual
      unfolding inst

      pub inst-vars : (t : Term) → Vars Brings t → Vars P (inst F t)
      inst-vars (lam a b) p = vars-eta a (inst F b) (inst-vars b p)
      inst-vars (Spine h ts) p = inst_head-vars h (inst_all F ts) p.0 (inst_all-vars ts p.1)

      inst_all-vars : (ts : Terms) → AllVars Brings ts → AllVars P (inst_all F ts)
      inst_all-vars Nil p = tt
      inst_all-vars (tm_cons t ts) p = (inst-vars t p.0, inst_all-vars ts p.1)
