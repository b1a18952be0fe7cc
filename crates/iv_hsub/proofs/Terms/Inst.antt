-- Values put for variables: the result is a term of the same type; where every value fits its variable, that goes past raising
-- and contraction.
use Rattle.std.proofs.Common.{◌≡◌, ℕ, suc, ◌≤◌, false, ◌⊎◌, inl, inr, Option, Some, None, refl, sym, ◌∙◌, ap, subst, arith}
use Rattle.iv_term.specs.declared.typ.Typ.{Typ}
use Rattle.iv_term.specs.declared.typ.Types.{Types}
use Rattle.iv_term.specs.declared.typ.Typ.TheBlock.{Nil as no_types}
use Rattle.iv_term.specs.declared.term.Head.{Head}
use Rattle.iv_term.specs.declared.term.Head.TheVariants.{Const, Free, Schematic, Bound}
use Rattle.iv_term.specs.declared.term.Term.{Term}
use Rattle.iv_term.specs.declared.term.Terms.{Terms}
use Rattle.iv_term.specs.declared.term.Term.TheBlock.{Spine, Nil}
use Rattle.iv_term.specs.Typ.{fun, ty_cons}
use Rattle.iv_term.specs.Term.{lam, tm_cons}
use Rattle.iv_hsub.specs.Typing.{cod, types_len, join, head_type, result_type, type_of, IsHead, IsTerm, AreArgs, HasType}
use Rattle.iv_hsub.specs.Index.{index, loose, raise_head, raise, raise_all, contracts, eta}
use Rattle.iv_hsub.specs.Hsub.{append, put, happ}
use Rattle.iv_hsub.specs.Hhf.{expand}
use Rattle.iv_hsub.proofs.Terms.Raise.{AreArgs-raise, result-raise}
use Rattle.iv_hsub.proofs.Terms.Eta.{last, eta_cases, EtaCase, eta-expand, expand-term, IsTerm-eta}
use Rattle.iv_hsub.proofs.Terms.Put.{happ-good, Good}
use Rattle.iv_hsub.proofs.Terms.Closed.{raise-closed, loose-term, type_of-front, IsTerm-wider}
use Rattle.iv_hsub.proofs.Terms.Cancel.{put-cancel}
use Rattle.iv_hsub.proofs.Terms.Algebra.{raise-eta, happ-raises, Raises}
use Rattle.iv_hsub.proofs.Terms.Commute.{happ-append, eta-at_index}
use Rattle.iv_hsub.specs.Inst.{use_value, inst_head, inst, inst_all, HeadVars, Vars, AllVars, Fits}

-- terms without loose indices
le-zero : (n c : ℕ) → n ≤ 0 → n ≤ c
le-zero n c h = omega (arith, h)

pub closed-has : (bs : Types) (a : Typ) (v : Term) → HasType no_types a v → HasType bs a v
unfolding join types_len
closed-has bs a v p = (IsTerm-wider no_types bs v p.0, type_of-front no_types bs v (loose-term no_types v p.0) ∙ p.1)

pub raise-none : (d c : ℕ) (v : Term) → IsTerm no_types v → raise d c v ≡ v
unfolding types_len
raise-none d c v p = raise-closed d c v (le-zero (loose v) c (loose-term no_types v p))

pub put-none : (f : Term → Terms → Term) (w : Term) (k : ℕ) (v : Term) → IsTerm no_types v → put f w k v ≡ v
put-none f w k v p = ap (put f w k) (sym (raise-none 1 k v p)) ∙ put-cancel f w no_types k v p

-- a variable at arguments, where a value may be put for it
pub use_value-term : (bs : Types) (o : Option Term) (h : Head) (a : Typ) (us : Terms) → Fits o a → IsHead bs h → head_type bs h ≡ a → AreArgs bs a us
    → HasType bs (result_type a us) (use_value o h a us)
unfolding Good type_of
use_value-term bs None h a us f p e q = ((p, subst (λ z. AreArgs bs z us) (sym e) q), ap (λ z. result_type z us) e)
use_value-term bs (Some v) h a us f p e q = let k = closed-has bs a v f in happ-good a bs v us k.0 k.1 q

pub use_value-raise : (d c : ℕ) (o : Option Term) (h : Head) (a : Typ) (us : Terms) → Fits o a → raise_head d c h ≡ h
    → use_value o h a (raise_all d c us) ≡ raise d c (use_value o h a us)
unfolding Raises raise
use_value-raise d c None h a us f e = ap (λ z. Spine z (raise_all d c us)) (sym e)
use_value-raise d c (Some v) h a us f e = ap (λ z. happ a z (raise_all d c us)) (sym (raise-none d c v f.0)) ∙ happ-raises a d c v us

at_expand : (c : Typ) (h : Head) (ts : Terms) → eta c (Spine (raise_head 1 0 h) (last (raise_all 1 0 ts) (index 0))) ≡ Spine h ts
unfolding expand
at_expand c h ts = eta-expand c h ts

pub use_value-eta : (bs : Types) (c d : Typ) (o : Option Term) (h : Head) (a : Typ) (us : Terms) → Fits o a → raise_head 1 0 h ≡ h → AreArgs bs a us
    → result_type a us ≡ fun c d → eta c (use_value o h a (last (raise_all 1 0 us) (index 0))) ≡ use_value o h a us
unfolding Good Raises join types_len
use_value-eta bs c d None h a us f e q r = ap (λ z. eta c (Spine z (last (raise_all 1 0 us) (index 0)))) (sym e) ∙ at_expand c h us
use_value-eta bs c d (Some v) h a us f e q r =
    let k = closed-has bs a v f in
    let k1 = closed-has (ty_cons c bs) a v f in
    let q1 : AreArgs (ty_cons c bs) a (raise_all 1 0 us) = AreArgs-raise no_types (ty_cons c no_types) bs a us q in
    let g = happ-good a bs v us k.0 k.1 q in
    let up : happ a v (raise_all 1 0 us) ≡ raise 1 0 (happ a v us) = ap (λ z. happ a z (raise_all 1 0 us)) (sym (raise-none 1 0 v f.0)) ∙ happ-raises a 1 0 v us in
    let s : result_type a (raise_all 1 0 us) ≡ fun c d = result-raise 1 0 a us ∙ r in
    ap (eta c) (happ-append a v (raise_all 1 0 us) (tm_cons (index 0) Nil) (ty_cons c bs) k1 q1)
    ∙ (λ i. eta c (happ (s i) (up i) (tm_cons (index 0) Nil)))
    ∙ eta-at_index bs c d (happ a v us) (g.0, g.1 ∙ r)

-- the number of arguments stays, so what they lead to does
pub result-inst : (F : Head → Option Term) (a : Typ) (ts : Terms) → result_type a (inst_all F ts) ≡ result_type a ts
unfolding inst_all result_type
result-inst F a Nil = refl
result-inst F a (tm_cons t ts) = result-inst F (cod a) ts

pub inst_all-append : (F : Head → Option Term) (ts us : Terms) → inst_all F (append ts us) ≡ append (inst_all F ts) (inst_all F us)
unfolding inst_all append
inst_all-append F Nil us = refl
inst_all-append F (tm_cons t ts) us = ap (λ w. tm_cons (inst F t) w) (inst_all-append F ts us)

-- typing
module _ (F : Head → Option Term) where
  inst_head-term : (bs : Types) (h : Head) (us : Terms) → HeadVars (λ k a. Fits (F k) a) h → IsHead bs h → AreArgs bs (head_type bs h) us
      → HasType bs (result_type (head_type bs h) us) (inst_head F h us)
  unfolding type_of
  inst_head-term bs (Const c a) us f p q = ((tt, q), refl)
  inst_head-term bs (Free x a) us f p q = use_value-term bs (F (Free x a)) (Free x a) a us f tt refl q
  inst_head-term bs (Schematic x a) us f p q = use_value-term bs (F (Schematic x a)) (Schematic x a) a us f tt refl q
  inst_head-term bs (Bound n) us f p q = ((p, q), refl)

  mutual
    unfolding inst type_of

    pub inst-term : (bs : Types) (t : Term) → Vars (λ k a. Fits (F k) a) t → IsTerm bs t → HasType bs (type_of bs t) (inst F t)
    inst-term bs (lam a b) f p =
        let r = inst-term (ty_cons a bs) b f p.0 in
        let s = IsTerm-eta bs a (inst F b) r.0 in
        (s.0, s.1 ∙ ap (fun a) r.1)
    inst-term bs (Spine h ts) f p =
        let r = inst_head-term bs h (inst_all F ts) f.0 p.0 (inst-args bs (head_type bs h) ts f.1 p.1) in
        (r.0, r.1 ∙ result-inst F (head_type bs h) ts)

    pub inst-args : (bs : Types) (a : Typ) (ts : Terms) → AllVars (λ k c. Fits (F k) c) ts → AreArgs bs a ts → AreArgs bs a (inst_all F ts)
    inst-args bs a Nil f p = tt
    inst-args bs a (tm_cons t ts) f p =
        let r = inst-term bs t f.0 p.1.0 in
        (p.0 ∙ ap (λ z. fun z (cod a)) (sym r.1), (r.0, inst-args bs (cod a) ts f.1 p.1.1))

-- every value fits its variable
unfoldable pub Typed : (Head → Option Term) → Type 0
Typed F = (h : Head) → HeadVars (λ k a. Fits (F k) a) h

module _ (P : Head → Typ → Type 0) (all : (h : Head) → HeadVars P h) where
  mutual
    pub vars-all : (t : Term) → Vars P t
    vars-all (lam a b) = vars-all b
    vars-all (Spine h ts) = (all h, vars_all-all ts)

    pub vars_all-all : (ts : Terms) → AllVars P ts
    vars_all-all Nil = tt
    vars_all-all (tm_cons t ts) = (vars-all t, vars_all-all ts)

module _ (F : Head → Option Term) (typed : Typed F) where
  pub typed-term : (bs : Types) (a : Typ) (t : Term) → HasType bs a t → HasType bs a (inst F t)
  unfolding Typed
  typed-term bs a t p = let r = inst-term F bs t (vars-all _ typed t) p.0 in (r.0, r.1 ∙ p.1)

  pub typed-args : (bs : Types) (a : Typ) (ts : Terms) → AreArgs bs a ts → AreArgs bs a (inst_all F ts)
  unfolding Typed
  typed-args bs a ts p = inst-args F bs a ts (vars_all-all _ typed ts) p

  inst_head-raise : (d c : ℕ) (h : Head) (us : Terms) → inst_head F (raise_head d c h) (raise_all d c us) ≡ raise d c (inst_head F h us)
  unfolding Typed raise
  inst_head-raise d c (Const x a) us = refl
  inst_head-raise d c (Free x a) us = use_value-raise d c (F (Free x a)) (Free x a) a us (typed (Free x a)) refl
  inst_head-raise d c (Schematic x a) us = use_value-raise d c (F (Schematic x a)) (Schematic x a) a us (typed (Schematic x a)) refl
  inst_head-raise d c (Bound n) us = refl

  mutual
    unfolding inst raise

    pub inst-raise : (d c : ℕ) (t : Term) → inst F (raise d c t) ≡ raise d c (inst F t)
    inst-raise d c (lam a b) = ap (eta a) (inst-raise d (suc c) b) ∙ sym (raise-eta d c a (inst F b))
    inst-raise d c (Spine h ts) = ap (inst_head F (raise_head d c h)) (inst_all-raise d c ts) ∙ inst_head-raise d c h (inst_all F ts)

    pub inst_all-raise : (d c : ℕ) (ts : Terms) → inst_all F (raise_all d c ts) ≡ raise_all d c (inst_all F ts)
    inst_all-raise d c Nil = refl
    inst_all-raise d c (tm_cons t ts) = let x = inst-raise d c t in let y = inst_all-raise d c ts in λ i. tm_cons (x i) (y i)

  inst_head-eta : (bs : Types) (c d : Typ) (h : Head) (us : Terms) → AreArgs bs (head_type bs h) us → result_type (head_type bs h) us ≡ fun c d
      → eta c (inst_head F (raise_head 1 0 h) (last (raise_all 1 0 us) (index 0))) ≡ inst_head F h us
  unfolding Typed
  inst_head-eta bs c d (Const x a) us q r = at_expand c (Const x a) us
  inst_head-eta bs c d (Free x a) us q r = use_value-eta bs c d (F (Free x a)) (Free x a) a us (typed (Free x a)) refl q r
  inst_head-eta bs c d (Schematic x a) us q r = use_value-eta bs c d (F (Schematic x a)) (Schematic x a) a us (typed (Schematic x a)) refl q r
  inst_head-eta bs c d (Bound n) us q r = at_expand c (Bound n) us

  inst-expand : (h : Head) (ts : Terms) → inst F (expand h ts) ≡ inst_head F (raise_head 1 0 h) (last (raise_all 1 0 (inst_all F ts)) (index 0))
  unfolding expand inst
  inst-expand h ts =
      ap (inst_head F (raise_head 1 0 h)) (inst_all-append F (raise_all 1 0 ts) (tm_cons (index 0) Nil) ∙ ap (λ z. last z (index 0)) (inst_all-raise 1 0 ts))

  pub inst-eta : (bs : Types) (c : Typ) (t : Term) → IsTerm (ty_cons c bs) t → inst F (eta c t) ≡ eta c (inst F t)
  unfolding inst type_of
  inst-eta bs c t p = go (eta_cases c t)
    where
      go : ((contracts t ≡ false) × (eta c t ≡ lam c t)) ⊎ EtaCase c t → inst F (eta c t) ≡ eta c (inst F t)
      go (inl q) = ap (inst F) q.1
      go (inr x) =
          let q = expand-term bs c x.head x.args (subst (IsTerm (ty_cons c bs)) x.body_is p) in
          let us = inst_all F x.args in
          ap (inst F) x.eta_is
          ∙ sym (ap (λ z. eta c (inst F z)) x.body_is ∙ ap (eta c) (inst-expand x.head x.args)
          ∙ inst_head-eta bs c (type_of (ty_cons c bs) (expand x.head x.args)) x.head us (typed-args bs (head_type bs x.head) x.args q.0.1)
          (result-inst F (head_type bs x.head) x.args ∙ q.1))
