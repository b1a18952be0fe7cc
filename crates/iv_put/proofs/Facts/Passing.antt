-- What putting types and terms passes, for any function of variables.
use Rattle.std.proofs.Common.{◌≡◌, Option, Some, None, refl, sym, ◌∙◌, ap, subst}
use Rattle.iv_text.specs.declared.name.Name.{Name}
use Rattle.iv_term.specs.declared.typ.Typ.{Typ}
use Rattle.iv_term.specs.declared.typ.Types.{Types}
use Rattle.iv_term.specs.declared.typ.Typ.TheBlock.{Con, Fixed, Schematic as Variable, Nil as no_types}
use Rattle.iv_term.specs.declared.term.Head.{Head}
use Rattle.iv_term.specs.declared.term.Head.TheVariants.{Const, Free, Schematic, Bound}
use Rattle.iv_term.specs.declared.term.Term.{Term}
use Rattle.iv_term.specs.declared.term.Terms.{Terms}
use Rattle.iv_term.specs.declared.term.Term.TheBlock.{Spine, Nil}
use Rattle.iv_term.specs.Typ.{ty_cons}
use Rattle.iv_term.specs.Term.{lam, tm_cons}
use Rattle.iv_hsub.specs.Typing.{cod, types_len, join, head_type, IsTerm, AreArgs}
use Rattle.iv_hsub.specs.Index.{raise, eta}
use Rattle.iv_hsub.specs.Hsub.{put, happ, hsub}
use Rattle.iv_hsub.specs.Retype.{map_typ, map_typs, retype_head, retype, retype_all}
use Rattle.iv_hsub.specs.Inst.{use_value, inst_head, inst, inst_all, HeadVars, Vars, AllVars, Fits}
use Rattle.iv_subst.specs.TySubst.{put_typ, put_typs}
use Rattle.iv_put.specs.Putting.{by_function, TypeVars, AllTypeVars, HeadTypeVars, TermTypeVars, AllTermTypeVars, TypesStay, RetypeStays, RetypePassesRaise, RetypePassesEta, RetypePassesHapp, RetypePassesPut, RetypePassesHsub, InstsAgree, InstStays, AreValuesClosed, InstPassesRaise, InstPassesEta, InstPassesHapp, InstPassesPut, InstPassesHsub, then_value, FitsAfter, InstTwice}
use Rattle.iv_hsub.proofs.Theory.{eta-short, Typed, inst-raise, inst-eta, raise-retype, retype-eta}
use Rattle.iv_put.proofs.Facts.RetypeUse.{retype-passes, retype-put, retype-happ}
use Rattle.iv_put.proofs.Facts.InstUse.{inst-passes, inst-put, inst-happ, then_inst, inst-inst}
use Rattle.iv_put.proofs.Facts.Vars.{vars-raise, vars-eta, vars-put, vars-happ, Keeps, Brings, inst-vars}
use Rattle.iv_put.proofs.Facts.Composed.{vars-one, vars_all-both, inst-agree, inst_all-agree, some-parts, fit, fit-typed, fit-same}

-- functions of type variables
module _ (f g k : Typ → Typ) where
  mutual
    unfolding map_typ map_typs

    pub types-twice : (a : Typ) → TypeVars (λ v. map_typ g (f v) ≡ k v) a → map_typ g (map_typ f a) ≡ map_typ k a
    types-twice (Con c ts) p = ap (Con c) (all_types-twice ts p)
    types-twice (Fixed a) p = p
    types-twice (Variable x) p = p

    all_types-twice : (ts : Types) → AllTypeVars (λ v. map_typ g (f v) ≡ k v) ts → map_typs g (map_typs f ts) ≡ map_typs k ts
    all_types-twice no_types p = refl
    all_types-twice (ty_cons t ts) p = let x = types-twice t p.0 in let y = all_types-twice ts p.1 in λ i. ty_cons (x i) (y i)

  head-twice : (h : Head) → HeadTypeVars (λ v. map_typ g (f v) ≡ k v) h → retype_head g (retype_head f h) ≡ retype_head k h
  head-twice (Const c a) p = ap (Const c) (types-twice a p)
  head-twice (Free x a) p = ap (Free x) (types-twice a p)
  head-twice (Schematic x a) p = ap (Schematic x) (types-twice a p)
  head-twice (Bound n) p = refl

  mutual
    unfolding retype

    pub retype-twice : (t : Term) → TermTypeVars (λ v. map_typ g (f v) ≡ k v) t → retype g (retype f t) ≡ retype k t
    retype-twice (lam a b) p = let x = types-twice a p.0 in let y = retype-twice b p.1 in λ i. lam (x i) (y i)
    retype-twice (Spine h ts) p = let x = head-twice h p.0 in let y = retype_all-twice ts p.1 in λ i. Spine (x i) (y i)

    retype_all-twice : (ts : Terms) → AllTermTypeVars (λ v. map_typ g (f v) ≡ k v) ts → retype_all g (retype_all f ts) ≡ retype_all k ts
    retype_all-twice Nil p = refl
    retype_all-twice (tm_cons t ts) p = let x = retype-twice t p.0 in let y = retype_all-twice ts p.1 in λ i. tm_cons (x i) (y i)

module _ (f g : Typ → Typ) where
  mutual
    unfolding map_typ map_typs

    pub types-agree : (a : Typ) → TypeVars (λ v. f v ≡ g v) a → map_typ f a ≡ map_typ g a
    types-agree (Con c ts) p = ap (Con c) (all_types-agree ts p)
    types-agree (Fixed a) p = p
    types-agree (Variable x) p = p

    all_types-agree : (ts : Types) → AllTypeVars (λ v. f v ≡ g v) ts → map_typs f ts ≡ map_typs g ts
    all_types-agree no_types p = refl
    all_types-agree (ty_cons t ts) p = let x = types-agree t p.0 in let y = all_types-agree ts p.1 in λ i. ty_cons (x i) (y i)

  head-agrees : (h : Head) → HeadTypeVars (λ v. f v ≡ g v) h → retype_head f h ≡ retype_head g h
  head-agrees (Const c a) p = ap (Const c) (types-agree a p)
  head-agrees (Free x a) p = ap (Free x) (types-agree a p)
  head-agrees (Schematic x a) p = ap (Schematic x) (types-agree a p)
  head-agrees (Bound n) p = refl

  mutual
    unfolding retype

    pub retypes-agree : (t : Term) → TermTypeVars (λ v. f v ≡ g v) t → retype f t ≡ retype g t
    retypes-agree (lam a b) p = let x = types-agree a p.0 in let y = retypes-agree b p.1 in λ i. lam (x i) (y i)
    retypes-agree (Spine h ts) p = let x = head-agrees h p.0 in let y = retype_alls-agree ts p.1 in λ i. Spine (x i) (y i)

    retype_alls-agree : (ts : Terms) → AllTermTypeVars (λ v. f v ≡ g v) ts → retype_all f ts ≡ retype_all g ts
    retype_alls-agree Nil p = refl
    retype_alls-agree (tm_cons t ts) p = let x = retypes-agree t p.0 in let y = retype_alls-agree ts p.1 in λ i. tm_cons (x i) (y i)

-- a function of schematic type variables
mutual
  unfolding map_typ map_typs put_typ put_typs

  pub functions-put : (g : Name → Typ) (a : Typ) → map_typ (by_function g) a ≡ put_typ g a
  functions-put g (Con c ts) = ap (Con c) (all-functions g ts)
  functions-put g (Fixed a) = refl
  functions-put g (Variable x) = refl

  all-functions : (g : Name → Typ) (ts : Types) → map_typs (by_function g) ts ≡ put_typs g ts
  all-functions g no_types = refl
  all-functions g (ty_cons t ts) = let x = functions-put g t in let y = all-functions g ts in λ i. ty_cons (x i) (y i)

-- each type variable put for itself
mutual
  unfolding map_typ map_typs

  pub map-self : (a : Typ) → map_typ (λ v. v) a ≡ a
  map-self (Con c ts) = ap (Con c) (maps-self ts)
  map-self (Fixed a) = refl
  map-self (Variable x) = refl

  maps-self : (ts : Types) → map_typs (λ v. v) ts ≡ ts
  maps-self no_types = refl
  maps-self (ty_cons t ts) = let x = map-self t in let y = maps-self ts in λ i. ty_cons (x i) (y i)

head-self : (h : Head) → retype_head (λ v. v) h ≡ h
head-self (Const c a) = ap (Const c) (map-self a)
head-self (Free x a) = ap (Free x) (map-self a)
head-self (Schematic x a) = ap (Schematic x) (map-self a)
head-self (Bound n) = refl

mutual
  unfolding retype

  pub retype-self : (t : Term) → retype (λ v. v) t ≡ t
  retype-self (lam a b) = let x = map-self a in let y = retype-self b in λ i. lam (x i) (y i)
  retype-self (Spine h ts) = let x = head-self h in let y = retype_all-self ts in λ i. Spine (x i) (y i)

  retype_all-self : (ts : Terms) → retype_all (λ v. v) ts ≡ ts
  retype_all-self Nil = refl
  retype_all-self (tm_cons t ts) = let x = retype-self t in let y = retype_all-self ts in λ i. tm_cons (x i) (y i)

pub types_stay : TypesStay
types_stay f a p = types-agree f (λ v. v) a p ∙ map-self a

pub retype_stays : RetypeStays
retype_stays f t p = retypes-agree f (λ v. v) t p ∙ retype-self t

pub retype_raise : RetypePassesRaise
retype_raise = raise-retype

pub retype_eta : RetypePassesEta
retype_eta = retype-eta

pub retype_happ : RetypePassesHapp
retype_happ f bs a v us p q = retype-happ f a bs v us p q

pub retype_put : RetypePassesPut
retype_put f es bs a v t p q = retype-put f a (retype-passes f a) bs v p es t q

pub retype_hsub : RetypePassesHsub
unfolding hsub join types_len
retype_hsub f bs a v t p q = retype-put f a (retype-passes f a) bs v p no_types t q

-- no value is put
module _ (F : Head → Option Term) where
  none-head : (h : Head) (us : Terms) → HeadVars (λ k a. F k ≡ None) h → inst_head F h us ≡ Spine h us
  none-head (Const x a) us e = refl
  none-head (Free x a) us e = ap (λ o. use_value o (Free x a) a us) e
  none-head (Schematic x a) us e = ap (λ o. use_value o (Schematic x a) a us) e
  none-head (Bound n) us e = refl

  mutual
    unfolding inst

    pub inst-none : (bs : Types) (t : Term) → IsTerm bs t → Vars (λ h a. F h ≡ None) t → inst F t ≡ t
    inst-none bs (lam a b) p e = ap (eta a) (inst-none (ty_cons a bs) b p.0 e) ∙ eta-short a b p.1
    inst-none bs (Spine h ts) p e = ap (inst_head F h) (inst_all-none bs (head_type bs h) ts p.1 e.1) ∙ none-head h ts e.0

    inst_all-none : (bs : Types) (c : Typ) (ts : Terms) → AreArgs bs c ts → AllVars (λ h a. F h ≡ None) ts → inst_all F ts ≡ ts
    inst_all-none bs c Nil p e = refl
    inst_all-none bs c (tm_cons t ts) p e = let x = inst-none bs t p.1.0 e.0 in let y = inst_all-none bs (cod c) ts p.1.1 e.1 in λ i. tm_cons (x i) (y i)

-- values that fit, and no others
abbrev pub fitted : (Head → Option Term) → Head → Option Term
fitted F (Free x a) = fit (F (Free x a)) a
fitted F (Schematic x a) = fit (F (Schematic x a)) a
fitted F h = None

module _ (F : Head → Option Term) where
  pub fitted-typed : AreValuesClosed F → Typed (fitted F)
  unfolding Typed
  fitted-typed c (Const x a) = tt
  fitted-typed c (Free x a) = fit-typed (F (Free x a)) a (c (Free x a))
  fitted-typed c (Schematic x a) = fit-typed (F (Schematic x a)) a (c (Schematic x a))
  fitted-typed c (Bound n) = tt

  head-fitted : (h : Head) → HeadVars (λ k a. Fits (F k) a) h → HeadVars (λ k a. F k ≡ fitted F k) h
  head-fitted (Const x a) p = tt
  head-fitted (Free x a) p = fit-same (F (Free x a)) a p
  head-fitted (Schematic x a) p = fit-same (F (Schematic x a)) a p
  head-fitted (Bound n) p = tt

  pub inst-fitted : (t : Term) → Vars (λ k a. Fits (F k) a) t → inst F t ≡ inst (fitted F) t
  inst-fitted t p = inst-agree F (fitted F) t (vars-one (λ k a. Fits (F k) a) (λ k a. F k ≡ fitted F k) head-fitted t p)

  pub inst_all-fitted : (ts : Terms) → AllVars (λ k a. Fits (F k) a) ts → inst_all F ts ≡ inst_all (fitted F) ts
  inst_all-fitted ts p =
      inst_all-agree F (fitted F) ts
      (vars_all-both (λ k a. Fits (F k) a) (λ k a. Fits (F k) a) (λ k a. F k ≡ fitted F k) (λ h x y. head-fitted h x) ts p p)

pub insts_agree : InstsAgree
insts_agree = inst-agree

pub inst_stays : InstStays
inst_stays F bs t p e = inst-none F bs t p e

pub inst_raise : InstPassesRaise
inst_raise F d c t k p =
    inst-fitted F (raise d c t) (vars-raise (λ h a. Fits (F h) a) d c t p)
    ∙ inst-raise (fitted F) (fitted-typed F k) d c t ∙ ap (raise d c) (sym (inst-fitted F t p))

pub inst_eta : InstPassesEta
inst_eta F bs a b k q p =
    inst-fitted F (eta a b) (vars-eta (λ h a. Fits (F h) a) a b p)
    ∙ inst-eta (fitted F) (fitted-typed F k) bs a b q ∙ ap (eta a) (sym (inst-fitted F b p))

pub inst_happ : InstPassesHapp
unfolding Keeps
inst_happ F bs a v us k q r p pu =
    inst-fitted F (happ a v us) (vars-happ (λ h a. Fits (F h) a) a v us p pu)
    ∙ inst-happ (fitted F) (fitted-typed F k) a bs v us q r
    ∙ (let x = sym (inst-fitted F v p) in let y = sym (inst_all-fitted F us pu) in λ i. happ a (x i) (y i))

pub inst_put : InstPassesPut
inst_put F es bs a v t k q r p pt =
    inst-fitted F (put (happ a) v (types_len es) t)
    (vars-put (λ h a. Fits (F h) a) (happ a) (vars-happ (λ h a. Fits (F h) a) a) v p (types_len es) t pt)
    ∙ inst-put (fitted F) (fitted-typed F k) a (inst-passes (fitted F) (fitted-typed F k) a) bs v q es t r
    ∙ (let x = sym (inst-fitted F v p) in let y = sym (inst-fitted F t pt) in λ i. put (happ a) (x i) (types_len es) (y i))

pub inst_hsub : InstPassesHsub
unfolding hsub join types_len
inst_hsub F bs a v t k q r p pt = inst_put F no_types bs a v t k q r p pt

-- one after the other
module _ (F G : Head → Option Term) (closed_F : AreValuesClosed F) (closed_G : AreValuesClosed G) where
  brings : (o p : Option Term) (h : Head) (a : Typ) → o ≡ p → FitsAfter G p h a
      → ((v : Term) → o ≡ Some v → Vars (λ k b. Fits (G k) b) v) × (o ≡ None → Fits (G h) a)
  brings o None h a e q = (λ v k. absurd (let bad : None ≡ Some v = sym e ∙ k in cc), λ k. q)
  brings o (Some w) h a e q =
      (λ v k. subst (Vars (λ k b. Fits (G k) b)) (some-parts w v (sym e ∙ k)) q, λ k. absurd (let bad : Some w ≡ None = sym e ∙ k in cc))

  head-brings : (h : Head) → HeadVars (λ k a. Fits (F k) a × FitsAfter G (F k) k a) h → HeadVars (Brings (λ k b. Fits (G k) b) (fitted F)) h
  head-brings (Const x a) p = tt
  head-brings (Free x a) p = brings (fitted F (Free x a)) (F (Free x a)) (Free x a) a (sym (fit-same (F (Free x a)) a p.0)) p.1
  head-brings (Schematic x a) p = brings (fitted F (Schematic x a)) (F (Schematic x a)) (Schematic x a) a (sym (fit-same (F (Schematic x a)) a p.0)) p.1
  head-brings (Bound n) p = tt

  agrees : (o p : Option Term) (h : Head) (a : Typ) → o ≡ p → fitted G h ≡ fit (G h) a → FitsAfter G p h a
      → then_value (fitted G) o h ≡ then_value G p h
  unfolding then_value
  agrees o None h a e g q = ap (λ z. then_value (fitted G) z h) e ∙ g ∙ sym (fit-same (G h) a q)
  agrees o (Some w) h a e g q = ap (λ z. then_value (fitted G) z h) e ∙ ap Some (sym (inst-fitted G w q))

  head-agree : (h : Head) → HeadVars (λ k a. Fits (F k) a × FitsAfter G (F k) k a) h
      → HeadVars (λ k a. then_inst (fitted F) (fitted G) k ≡ then_value G (F k) k) h
  head-agree (Const x a) p = tt
  head-agree (Free x a) p = agrees (fitted F (Free x a)) (F (Free x a)) (Free x a) a (sym (fit-same (F (Free x a)) a p.0)) refl p.1
  head-agree (Schematic x a) p = agrees (fitted F (Schematic x a)) (F (Schematic x a)) (Schematic x a) a (sym (fit-same (F (Schematic x a)) a p.0)) refl p.1
  head-agree (Bound n) p = tt

  head-fits : (h : Head) → HeadVars (λ k a. Fits (F k) a × FitsAfter G (F k) k a) h → HeadVars (λ k a. Fits (F k) a) h
  head-fits (Const x a) p = tt
  head-fits (Free x a) p = p.0
  head-fits (Schematic x a) p = p.0
  head-fits (Bound n) p = tt

  pub inst-twice : (bs : Types) (t : Term) → IsTerm bs t → Vars (λ h a. Fits (F h) a × FitsAfter G (F h) h a) t
      → inst G (inst F t) ≡ inst (λ h. then_value G (F h) h) t
  inst-twice bs t q p =
      let P : Head → Typ → Type 0 = λ h a. Fits (F h) a × FitsAfter G (F h) h a in
      ap (inst G) (inst-fitted F t (vars-one P (λ k a. Fits (F k) a) head-fits t p))
      ∙ inst-fitted G (inst (fitted F) t) (inst-vars (λ k b. Fits (G k) b) (fitted F) t (vars-one P (Brings (λ k b. Fits (G k) b) (fitted F)) head-brings t p))
      ∙ inst-inst (fitted F) (fitted G) (fitted-typed F closed_F) (fitted-typed G closed_G) bs t q
      ∙ inst-agree (then_inst (fitted F) (fitted G)) (λ h. then_value G (F h) h) t (vars-one P (λ k a. then_inst (fitted F) (fitted G) k ≡ then_value G (F k) k) head-agree t p)

pub inst_twice : InstTwice
inst_twice F G bs t cF cG q p = inst-twice F G cF cG bs t q p
