-- Types and terms put one substitution after the other are one substitution: the law over functions of names.
use Rattle.std.proofs.Common.{◌≡◌, Bool, true, false, Option, Some, None, if◌then◌else◌, refl, sym, ◌∙◌, ap, subst}
use Rattle.iv_text.specs.declared.name.Name.{Name}
use Rattle.iv_term.specs.declared.typ.Typ.{Typ}
use Rattle.iv_term.specs.declared.typ.Types.{Types}
use Rattle.iv_term.specs.declared.typ.Typ.TheBlock.{Nil as no_types}
use Rattle.iv_term.specs.declared.term.Head.{Head}
use Rattle.iv_term.specs.declared.term.Head.TheVariants.{Const, Free, Schematic, Bound}
use Rattle.iv_term.specs.declared.term.Term.{Term}
use Rattle.iv_term.specs.declared.term.Terms.{Terms}
use Rattle.iv_term.specs.declared.term.Term.TheBlock.{Spine, Nil}
use Rattle.iv_term.specs.Typ.{ty_cons, same_typ}
use Rattle.iv_term.specs.Term.{lam, tm_cons}
use Rattle.iv_term.proofs.Laws.Same.{same_typ-true, same_typ-same}
use Rattle.iv_hsub.specs.Typing.{cod, head_type, type_of, IsTerm, AreArgs, HasType}
use Rattle.iv_hsub.specs.Index.{eta}
use Rattle.iv_hsub.specs.Retype.{map_typ, map_typs, retype_head, retype, retype_all}
use Rattle.iv_hsub.specs.Inst.{use_value, inst_head, inst, inst_all, HeadVars, Vars, AllVars, Fits}
use Rattle.iv_put.specs.Subst.{by_name}
use Rattle.iv_put.specs.Putting.{then_value}
use Rattle.iv_hsub.proofs.Theory.{retype-eta, retype-term, retype-has}
use Rattle.iv_put.proofs.Facts.RetypeUse.{retype-happ}
use Rattle.iv_hsub.proofs.Theory.{closed-has, inst-term, inst-args, Typed}
use Rattle.iv_put.proofs.Facts.Vars.{Brings, inst-vars}
use Rattle.iv_put.proofs.Facts.InstUse.{then_inst, inst-inst}

-- conditions on the variables of a term
module _ (P Q R : Head → Typ → Type 0) (both : (h : Head) → HeadVars P h → HeadVars Q h → HeadVars R h) where
  mutual
    pub vars-both : (t : Term) → Vars P t → Vars Q t → Vars R t
    vars-both (lam a b) p q = vars-both b p q
    vars-both (Spine h ts) p q = (both h p.0 q.0, vars_all-both ts p.1 q.1)

    pub vars_all-both : (ts : Terms) → AllVars P ts → AllVars Q ts → AllVars R ts
    vars_all-both Nil p q = tt
    vars_all-both (tm_cons t ts) p q = (vars-both t p.0 q.0, vars_all-both ts p.1 q.1)

pub vars-one : (P R : Head → Typ → Type 0) → ((h : Head) → HeadVars P h → HeadVars R h) → (t : Term) → Vars P t → Vars R t
vars-one P R one t p = vars-both P P R (λ h x y. one h x) t p p

module _ (f : Typ → Typ) (P Q : Head → Typ → Type 0) (there : (h : Head) → HeadVars P h → HeadVars Q (retype_head f h)) where
  mutual
    unfolding retype

    pub vars-retype : (t : Term) → Vars P t → Vars Q (retype f t)
    vars-retype (lam a b) p = vars-retype b p
    vars-retype (Spine h ts) p = (there h p.0, vars_all-retype ts p.1)

    vars_all-retype : (ts : Terms) → AllVars P ts → AllVars Q (retype_all f ts)
    vars_all-retype Nil p = tt
    vars_all-retype (tm_cons t ts) p = (vars-retype t p.0, vars_all-retype ts p.1)

-- functions that agree on the variables of a term
module _ (F G : Head → Option Term) where
  inst_head-agree : (h : Head) (us : Terms) → HeadVars (λ k a. F k ≡ G k) h → inst_head F h us ≡ inst_head G h us
  inst_head-agree (Const x a) us e = refl
  inst_head-agree (Free x a) us e = ap (λ o. use_value o (Free x a) a us) e
  inst_head-agree (Schematic x a) us e = ap (λ o. use_value o (Schematic x a) a us) e
  inst_head-agree (Bound n) us e = refl

  mutual
    unfolding inst

    pub inst-agree : (t : Term) → Vars (λ k a. F k ≡ G k) t → inst F t ≡ inst G t
    inst-agree (lam a b) e = ap (eta a) (inst-agree b e)
    inst-agree (Spine h ts) e = ap (inst_head F h) (inst_all-agree ts e.1) ∙ inst_head-agree h (inst_all G ts) e.0

    pub inst_all-agree : (ts : Terms) → AllVars (λ k a. F k ≡ G k) ts → inst_all F ts ≡ inst_all G ts
    inst_all-agree Nil e = refl
    inst_all-agree (tm_cons t ts) e = let x = inst-agree t e.0 in let y = inst_all-agree ts e.1 in λ i. tm_cons (x i) (y i)

-- types put in a value, if there is one
unfoldable pub retype_value : (Typ → Typ) → Option Term → Option Term
retype_value f None = None
retype_value f (Some v) = Some (retype f v)

pub Fits-retype : (f : Typ → Typ) (o : Option Term) (a : Typ) → Fits o a → Fits (retype_value f o) (map_typ f a)
unfolding retype_value map_typs
Fits-retype f None a p = tt
Fits-retype f (Some v) a p = retype-has f no_types a v p

-- types go past values: by name only, since types put in may make two keys of a name and a type equal
module _ (f : Typ → Typ) (V : Name → Option Term) where
  use_value-retype : (bs : Types) (o : Option Term) (h : Head) (a : Typ) (us : Terms) → Fits o a → AreArgs bs a us
      → retype f (use_value o h a us) ≡ use_value (retype_value f o) (retype_head f h) (map_typ f a) (retype_all f us)
  unfolding retype retype_value
  use_value-retype bs None h a us p q = refl
  use_value-retype bs (Some v) h a us p q = retype-happ f a bs v us (closed-has bs a v p) q

  inst_head-retype : (bs : Types) (h : Head) (us : Terms) → HeadVars (λ k a. Fits (by_name V k) a) h → AreArgs bs (head_type bs h) us
      → retype f (inst_head (by_name V) h us) ≡ inst_head (by_name (λ x. retype_value f (V x))) (retype_head f h) (retype_all f us)
  unfolding retype retype_value
  inst_head-retype bs (Const x a) us p q = refl
  inst_head-retype bs (Free x a) us p q = refl
  inst_head-retype bs (Schematic x a) us p q = use_value-retype bs (V x) (Schematic x a) a us p q
  inst_head-retype bs (Bound n) us p q = refl

  mutual
    unfolding inst retype

    pub retype-inst : (bs : Types) (t : Term) → Vars (λ k a. Fits (by_name V k) a) t → IsTerm bs t
        → retype f (inst (by_name V) t) ≡ inst (by_name (λ x. retype_value f (V x))) (retype f t)
    retype-inst bs (lam a b) p q = retype-eta f a (inst (by_name V) b) ∙ ap (eta (map_typ f a)) (retype-inst (ty_cons a bs) b p q.0)
    retype-inst bs (Spine h ts) p q =
        inst_head-retype bs h (inst_all (by_name V) ts) p.0 (inst-args (by_name V) bs (head_type bs h) ts p.1 q.1)
        ∙ ap (inst_head (by_name (λ x. retype_value f (V x))) (retype_head f h)) (retype-insts bs (head_type bs h) ts p.1 q.1)

    retype-insts : (bs : Types) (c : Typ) (ts : Terms) → AllVars (λ k a. Fits (by_name V k) a) ts → AreArgs bs c ts
        → retype_all f (inst_all (by_name V) ts) ≡ inst_all (by_name (λ x. retype_value f (V x))) (retype_all f ts)
    retype-insts bs c Nil p q = refl
    retype-insts bs c (tm_cons t ts) p q = let x = retype-inst bs t p.0 q.1.0 in let y = retype-insts bs (cod c) ts p.1 q.1.1 in λ i. tm_cons (x i) (y i)

pub some-parts : (x y : Term) → Some x ≡ Some y → x ≡ y
some-parts x y e = cc

-- a value only where it has the variable's type
unfoldable pub fit : Option Term → Typ → Option Term
fit None a = None
fit (Some v) a = if same_typ (type_of no_types v) a then Some v else None

abbrev pub fitting : (Name → Option Term) → Head → Option Term
fitting V (Schematic x a) = fit (V x) a
fitting V h = None

unfoldable pub Closed : (Name → Option Term) → Type 0
Closed V = (x : Name) (v : Term) → V x ≡ Some v → IsTerm no_types v

pub fit-typed : (o : Option Term) (a : Typ) → ((v : Term) → o ≡ Some v → IsTerm no_types v) → Fits (fit o a) a
unfolding fit
fit-typed None a c = tt
fit-typed (Some v) a c = go (same_typ (type_of no_types v) a) refl
  where
    go : (b : Bool) → same_typ (type_of no_types v) a ≡ b → Fits (if b then Some v else None) a
    go true e = (c v refl, same_typ-true (type_of no_types v) a e)
    go false e = tt

pub fitting-typed : (V : Name → Option Term) → Closed V → Typed (fitting V)
unfolding Closed Typed
fitting-typed V c (Const x a) = tt
fitting-typed V c (Free x a) = tt
fitting-typed V c (Schematic x a) = fit-typed (V x) a (c x)
fitting-typed V c (Bound n) = tt

pub fit-same : (o : Option Term) (a : Typ) → Fits o a → o ≡ fit o a
unfolding fit
fit-same None a p = refl
fit-same (Some v) a p =
    let e : same_typ (type_of no_types v) a ≡ true = ap (λ z. same_typ z a) p.1 ∙ same_typ-same a in
    sym (ap (λ b. if b then Some v else None) e)

-- where the values fit, nothing is left out
pub fitting-same : (V : Name → Option Term) (t : Term) → Vars (λ k a. Fits (by_name V k) a) t → Vars (λ k a. by_name V k ≡ fitting V k) t
fitting-same V = vars-one (λ k a. Fits (by_name V k) a) (λ k a. by_name V k ≡ fitting V k) head
  where
    head : (h : Head) → HeadVars (λ k a. Fits (by_name V k) a) h → HeadVars (λ k a. by_name V k ≡ fitting V k) h
    head (Const x a) p = tt
    head (Free x a) p = refl
    head (Schematic x a) p = fit-same (V x) a p
    head (Bound n) p = tt

pub inst-fitting : (V : Name → Option Term) (t : Term) → Vars (λ k a. Fits (by_name V k) a) t → inst (by_name V) t ≡ inst (fitting V) t
inst-fitting V t p = inst-agree (by_name V) (fitting V) t (fitting-same V t p)

-- the first value under the second, or the second's
unfoldable pub then_by_value : (Typ → Typ) → (Name → Option Term) → Option Term → Name → Option Term
then_by_value g W None x = W x
then_by_value g W (Some v) x = Some (inst (by_name W) (retype g v))

module _ (g : Typ → Typ) (V W : Name → Option Term) where
  unfoldable pub then_by : Name → Option Term
  then_by x = then_by_value g W (V x) x

  -- the second fits what the first brings
  unfoldable pub Follows : Type 0
  Follows = (x : Name) (v : Term) → V x ≡ Some v → Vars (λ k a. Fits (by_name W k) a) (retype g v)

  pub typed_then : Closed V → Follows → (x : Name) (v : Term) (a : Typ) → V x ≡ Some v → HasType no_types a v → HasType no_types (map_typ g a) (inst (by_name W) (retype g v))
  unfolding Follows map_typs
  typed_then cv fol x v a e p =
      let q = retype-has g no_types a v p in
      let r = inst-term (by_name W) no_types (retype g v) (fol x v e) q.0 in
      (r.0, r.1 ∙ q.1)

  then-value : Closed V → Follows → (x : Name) (o : Option Term) (a : Typ) → V x ≡ o → Fits o a → (o ≡ None → Fits (W x) (map_typ g a)) → Fits (then_by_value g W o x) (map_typ g a)
  unfolding then_by_value
  then-value cv fol x None a e p q = q refl
  then-value cv fol x (Some v) a e p q = typed_then cv fol x v a e p

  then-head : Closed V → Follows → (h : Head) → HeadVars (λ k a. Fits (by_name V k) a) h → HeadVars (λ k a. by_name V k ≡ None → Fits (by_name W k) a) (retype_head g h)
      → HeadVars (λ k a. Fits (by_name then_by k) a) (retype_head g h)
  unfolding then_by
  then-head cv fol (Const x a) p q = tt
  then-head cv fol (Free x a) p q = tt
  then-head cv fol (Schematic x a) p q = then-value cv fol x (V x) a refl p q
  then-head cv fol (Bound n) p q = tt

  -- where the second's values fit what the first leaves, those of both do
  mutual
    unfolding retype

    pub fits-then : Closed V → Follows → (t : Term) → Vars (λ k a. Fits (by_name V k) a) t
        → Vars (λ k a. by_name V k ≡ None → Fits (by_name W k) a) (retype g t) → Vars (λ k a. Fits (by_name then_by k) a) (retype g t)
    fits-then cv fol (lam a b) p q = fits-then cv fol b p q
    fits-then cv fol (Spine h ts) p q = (then-head cv fol h p.0 q.0, fits_all-then cv fol ts p.1 q.1)

    fits_all-then : Closed V → Follows → (ts : Terms) → AllVars (λ k a. Fits (by_name V k) a) ts
        → AllVars (λ k a. by_name V k ≡ None → Fits (by_name W k) a) (retype_all g ts) → AllVars (λ k a. Fits (by_name then_by k) a) (retype_all g ts)
    fits_all-then cv fol Nil p q = tt
    fits_all-then cv fol (tm_cons t ts) p q = (fits-then cv fol t p.0 q.0, fits_all-then cv fol ts p.1 q.1)

  -- the first values with types put in
  mid : Name → Option Term
  mid x = retype_value g (V x)

  fits-mid : (h : Head) → HeadVars (λ k a. Fits (by_name V k) a) h → HeadVars (λ k a. Fits (by_name mid k) a) (retype_head g h)
  unfolding mid
  fits-mid (Const x a) q = tt
  fits-mid (Free x a) q = tt
  fits-mid (Schematic x a) q = Fits-retype g (V x) a q
  fits-mid (Bound n) q = tt

  closed-value : (o : Option Term) (v : Term) → ((w : Term) → o ≡ Some w → IsTerm no_types w) → retype_value g o ≡ Some v → IsTerm no_types v
  unfolding retype_value map_typs
  closed-value None v c e = absurd (let bad : None ≡ Some v = e in cc)
  closed-value (Some w) v c e = subst (IsTerm no_types) (some-parts (retype g w) v e) (retype-term g no_types w (c w refl)).0

  closed-mid : Closed V → Closed mid
  unfolding Closed mid
  closed-mid cv x v e = closed-value (V x) v (cv x) e

  -- where the second's values fit what the first leaves, they fit what is left after it
  mid-brings_some : Follows → (x : Name) (o : Option Term) (v : Term) → V x ≡ o → retype_value g o ≡ Some v → Vars (λ k a. Fits (by_name W k) a) v
  unfolding Follows retype_value
  mid-brings_some fol x None v e q = absurd (let bad : None ≡ Some v = q in cc)
  mid-brings_some fol x (Some w) v e q = subst (Vars (λ k a. Fits (by_name W k) a)) (some-parts (retype g w) v q) (fol x w e)

  mid-none : (o : Option Term) → retype_value g o ≡ None → o ≡ None
  unfolding retype_value
  mid-none None q = refl
  mid-none (Some w) q = absurd (let bad : Some (retype g w) ≡ None = q in cc)

  follows-head : Follows → (h : Head) → HeadVars (λ k a. by_name V k ≡ None → Fits (by_name W k) a) h
      → HeadVars (Brings (λ k a. Fits (by_name W k) a) (by_name mid)) h
  unfolding mid
  follows-head fol (Const x a) q = tt
  follows-head fol (Free x a) q = (λ v e. absurd (let bad : None ≡ Some v = e in cc), λ e. tt)
  follows-head fol (Schematic x a) q = (λ v e. mid-brings_some fol x (V x) v refl e, λ e. q (mid-none (V x) e))
  follows-head fol (Bound n) q = tt

  pub follows-can : (bs : Types) (t : Term) → IsTerm bs t → Vars (λ k a. Fits (by_name V k) a) t → Follows
      → Vars (λ k a. by_name V k ≡ None → Fits (by_name W k) a) (retype g t) → Vars (λ k a. Fits (by_name W k) a) (retype g (inst (by_name V) t))
  unfolding mid
  follows-can bs t p fv fol q =
      let brings = vars-one (λ k a. by_name V k ≡ None → Fits (by_name W k) a) (Brings (λ k a. Fits (by_name W k) a) (by_name mid)) (follows-head fol) (retype g t) q in
      subst (Vars (λ k a. Fits (by_name W k) a)) (sym (retype-inst g V bs t fv p)) (inst-vars (λ k a. Fits (by_name W k) a) (by_name mid) (retype g t) brings)

  agree-value : Follows → (x : Name) (o : Option Term) (a : Typ) → V x ≡ o → Fits (retype_value g o) a → Fits (then_by_value g W o x) a
      → then_by_value g W o x ≡ then_value (fitting W) (fit (retype_value g o) a) (Schematic x a)
  unfolding Follows then_by_value then_value retype_value fit
  agree-value fol x None a e q r = fit-same (W x) a r
  agree-value fol x (Some v) a e q r =
      ap Some (inst-fitting W (retype g v) (fol x v e)) ∙ ap (λ o. then_value (fitting W) o (Schematic x a)) (fit-same (Some (retype g v)) a q)

  agree-head : Follows → (h : Head) → HeadVars (λ k a. Fits (by_name mid k) a) h → HeadVars (λ k a. Fits (by_name then_by k) a) h
      → HeadVars (λ k a. by_name then_by k ≡ then_inst (fitting mid) (fitting W) k) h
  unfolding mid then_by then_value
  agree-head fol (Const x a) q r = tt
  agree-head fol (Free x a) q r = refl
  agree-head fol (Schematic x a) q r = agree-value fol x (V x) a refl q r
  agree-head fol (Bound n) q r = tt

  -- the law
  pub inst-then : (bs : Types) (t : Term) → IsTerm bs t → Closed V → Closed W → Vars (λ k a. Fits (by_name V k) a) t → Follows
      → Vars (λ k a. Fits (by_name W k) a) (retype g (inst (by_name V) t)) → Vars (λ k a. Fits (by_name then_by k) a) (retype g t)
      → inst (by_name then_by) (retype g t) ≡ inst (by_name W) (retype g (inst (by_name V) t))
  unfolding mid
  inst-then bs t p cv cw fv fol fw fc =
      let u = retype g t in
      let pu = (retype-term g bs t p).0 in
      let fu : Vars (λ k a. Fits (by_name mid k) a) u = vars-retype g (λ k a. Fits (by_name V k) a) (λ k a. Fits (by_name mid k) a) fits-mid t fv in
      let same = retype-inst g V bs t fv p ∙ inst-fitting mid u fu in
      let fw' = subst (Vars (λ k a. Fits (by_name W k) a)) same fw in
      let agree = vars-both (λ k a. Fits (by_name mid k) a) (λ k a. Fits (by_name then_by k) a) (λ k a. by_name then_by k ≡ then_inst (fitting mid) (fitting W) k) (agree-head fol) u fu fc in
      inst-agree (by_name then_by) (then_inst (fitting mid) (fitting W)) u agree
      ∙ sym (ap (inst (by_name W)) same ∙ inst-fitting W (inst (fitting mid) u) fw'
      ∙ inst-inst (fitting mid) (fitting W) (fitting-typed mid (closed-mid cv)) (fitting-typed W cw) (map_typs g bs) u pu)
