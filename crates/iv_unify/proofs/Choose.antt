-- Projections and imitations lead from the scope of the pairs to that with the new variables.
use Rattle.std.proofs.Common.{◌≡◌, ℕ, zero, suc, ◌+◌, ◌<◌, ◌≤◌, Bool, true, false, nat_eq, if◌then◌else◌, List, [], ◌∷◌, ◌++◌, Option, Some, None, refl, sym, ◌∙◌, ap, subst, arith}
use Rattle.iv_text.specs.declared.name.Name.{Name}
use Rattle.iv_text.specs.Name.{same_name}
use Rattle.iv_text.proofs.Same.{same_name-true}
use Rattle.iv_term.specs.declared.typ.Typ.{Typ}
use Rattle.iv_term.specs.declared.typ.Types.{Types}
use Rattle.iv_term.specs.declared.typ.Typ.TheBlock.{Con, Fixed, Schematic as TypeVariable, Nil as no_types}
use Rattle.iv_term.specs.declared.term.Head.{Head}
use Rattle.iv_term.specs.declared.term.Head.TheVariants.{Const, Free, Schematic, Bound}
use Rattle.iv_term.specs.declared.term.Term.{Term}
use Rattle.iv_term.specs.declared.term.Terms.{Terms}
use Rattle.iv_term.specs.declared.term.Term.TheBlock.{Spine, Nil}
use Rattle.iv_term.specs.Typ.{fun, ty_cons}
use Rattle.iv_term.specs.Term.{lam, tm_cons}
use Rattle.iv_hsub.specs.Typing.{dom, cod, types_len, type_at, head_type, result_type, type_of, IsHead, IsTerm, AreArgs, HasType}
use Rattle.iv_hsub.specs.Retype.{map_typs, retype_head, retype}
use Rattle.iv_hsub.specs.Inst.{HeadVars, Vars, AllVars}
use Rattle.iv_hsub.proofs.Theory.{IsTerm-eta, retype-has, eq_true, eq_false}
use Rattle.iv_laws.specs.Spines.{functions}
use Rattle.iv_subst.specs.TySubst.{TyMap, put_typ, put_typs, at}
use Rattle.iv_subst.specs.Unifier.{unified}
use Rattle.iv_subst.proofs.Laws.Solve.{unified-solved, solved-equal}
use Rattle.iv_put.specs.Subst.{by_map, value_of, Values}
use Rattle.iv_put.proofs.Theory.{map-by, vars-eta, vars-retype, vars_all-both}
use Rattle.iv_unify.specs.Simplify.{is_function}
use Rattle.iv_unify.specs.Values.{numbered, taken, domains, target, lams, own, new_variables, candidate, Choice, projected, how_many, projections, imitated, imitation, choices_at}
use Rattle.iv_unify.specs.Scope.{Scope, InScope, Over}
use Rattle.iv_unify.proofs.Sound.{EachChoice, LeadsChoice, ChoosesAll}
use Rattle.iv_unify.proofs.Readied.{function-name}
use Rattle.iv_unify.proofs.Assign.{retype-nothing}

-- the bounds under abstractions
pub inside : Types → Types → Types
inside no_types bs = bs
inside (ty_cons d ds) bs = inside ds (ty_cons d bs)

inside-len : (ds bs : Types) → types_len (inside ds bs) ≡ types_len ds + types_len bs
unfolding inside types_len
inside-len no_types bs = omega arith
inside-len (ty_cons d ds) bs = let e = inside-len ds (ty_cons d bs) in omega (arith, e)

inside-at : (ds bs : Types) (k : ℕ) → type_at (inside ds bs) (types_len ds + k) ≡ type_at bs k
unfolding inside types_len type_at
inside-at no_types bs k = let e : 0 + k ≡ k = omega arith in ap (type_at bs) e
inside-at (ty_cons d ds) bs k =
    let e : suc (types_len ds) + k ≡ types_len ds + suc k = omega arith in
    ap (type_at (inside ds (ty_cons d bs))) e ∙ inside-at ds (ty_cons d bs) (suc k)

pub inside-here : (ds bs : Types) (d : Typ) → type_at (inside ds (ty_cons d bs)) (types_len ds) ≡ d
unfolding type_at
inside-here ds bs d = let e : types_len ds ≡ types_len ds + 0 = omega arith in ap (type_at (inside ds (ty_cons d bs))) e ∙ inside-at ds (ty_cons d bs) 0

pub lams-has : (ds bs : Types) (c : Typ) (t : Term) → HasType (inside ds bs) c t → HasType bs (functions ds c) (lams ds t)
unfolding inside lams functions
lams-has no_types bs c t p = p
lams-has (ty_cons d ds) bs c t p =
    let r = lams-has ds (ty_cons d bs) c t p in
    let s = IsTerm-eta bs d (lams ds t) r.0 in
    (s.0, s.1 ∙ ap (fun d) r.1)

pub lams-vars : (P : Head → Typ → Type 0) (ds : Types) (t : Term) → Vars P t → Vars P (lams ds t)
unfolding lams
lams-vars P no_types t p = p
lams-vars P (ty_cons d ds) t p = vars-eta P d (lams ds t) (lams-vars P ds t p)

pub own-args : (ds bs : Types) (c : Typ) → AreArgs (inside ds bs) (functions ds c) (own (types_len ds)) × (result_type (functions ds c) (own (types_len ds)) ≡ c)
unfolding inside own functions types_len result_type type_of cod
own-args no_types bs c = (tt, refl)
own-args (ty_cons d ds) bs c =
    let r = own-args ds (ty_cons d bs) c in
    let n = inside-len ds (ty_cons d bs) in
    ((ap (λ z. fun z (functions ds c)) (sym (inside-here ds bs d)), (((let e : types_len ds < types_len (inside ds (ty_cons d bs)) = omega (arith, n) in e), tt), r.0)), r.1)

-- new variables
module _ (x : Name) (ds : Types) where
  news-args : (m : ℕ) (bs : Types) (c : Typ) → AreArgs (inside ds no_types) (functions bs c) (new_variables x m ds bs) × (result_type (functions bs c) (new_variables x m ds bs) ≡ c)
  unfolding new_variables functions result_type type_of cod
  news-args m no_types c = (tt, refl)
  news-args m (ty_cons b bs) c =
      let r = news-args (suc m) bs c in
      let o = own-args ds no_types b in
      ((ap (λ z. fun z (functions bs c)) (sym o.1), ((tt, o.0), r.0)), r.1)

  -- the types of variables where those of the new ones come before
  widen : (Name → Typ) → ℕ → Types → Name → Typ
  widen f m no_types y = f y
  widen f m (ty_cons b bs) y = if nat_eq y.number m then functions ds b else widen f (suc m) bs y

  widen-below : (f : Name → Typ) (m : ℕ) (bs : Types) (y : Name) → y.number < m → widen f m bs y ≡ f y
  unfolding widen
  widen-below f m no_types y q = refl
  widen-below f m (ty_cons b bs) y q =
      ap (λ v. if v then functions ds b else widen f (suc m) bs y) (eq_false y.number m (λ e. omega (arith, q, e))) ∙ widen-below f (suc m) bs y (omega (arith, q))

  abbrev New : (Name → Typ) → ℕ → Types → Head → Typ → Type 0
  New f m bs (Schematic y a) b = (m ≤ y.number) × ((y.number < m + types_len bs) × (a ≡ widen f m bs y))
  New f m bs h b = Unit {0}

  own-vars : (P : Head → Typ → Type 0) (n : ℕ) → AllVars P (own n)
  unfolding own
  own-vars P zero = tt
  own-vars P (suc n) = ((tt, tt), own-vars P n)

  new-later : (f : Name → Typ) (m : ℕ) (b : Typ) (bs : Types) (ts : Terms) → AllVars (New f (suc m) bs) ts → AllVars (New f m (ty_cons b bs)) ts
  unfolding widen types_len
  new-later f m b bs ts p = vars_all-both (New f (suc m) bs) (New f (suc m) bs) (New f m (ty_cons b bs)) (λ h u v. head h u) ts p p
    where
      head : (h : Head) → HeadVars (New f (suc m) bs) h → HeadVars (New f m (ty_cons b bs)) h
      head (Const c a) p = tt
      head (Free y a) p = tt
      head (Schematic y a) p =
          let l = p.0 in
          let u = p.1.0 in (
            omega (arith, l),
            (
              omega (arith, u),
              p.1.1 ∙ sym (ap (λ v. if v then functions ds b else widen f (suc m) bs y) (eq_false y.number m (λ e. omega (arith, l, e)))),
            ),
          )
      head (Bound n) p = tt

  news-vars : (f : Name → Typ) (m : ℕ) (bs : Types) → AllVars (New f m bs) (new_variables x m ds bs)
  unfolding new_variables widen types_len
  news-vars f m no_types = tt
  news-vars f m (ty_cons b bs) = (
    ((omega arith, (omega arith, sym (ap (λ v. if v then functions ds b else widen f (suc m) bs (numbered x m)) (eq_true m m refl)))), own-vars (New f m (ty_cons b bs)) (types_len ds)),
    new-later f m b bs (new_variables x (suc m) ds bs) (news-vars f (suc m) bs),
  )

-- a head that isn't a schematic variable
abbrev IsRigid : Head → Type 0
IsRigid (Schematic x a) = ⊥
IsRigid h = Unit {0}

rigid-vars : (P : Name → Typ → Type 0) (x : Name) (ds : Types) (f : Name → Typ) (m : ℕ) (bs : Types) (h : Head) → IsRigid h → HeadVars (New x ds f m bs) h
rigid-vars P x ds f m bs (Const c a) r = tt
rigid-vars P x ds f m bs (Free y a) r = tt
rigid-vars P x ds f m bs (Schematic y a) r = absurd r
rigid-vars P x ds f m bs (Bound n) r = tt

put-functions : (f : Name → Typ) (ds : Types) (c d : Typ) → put_typ f c ≡ put_typ f d → put_typ f (functions ds c) ≡ put_typ f (functions ds d)
unfolding functions put_typ put_typs
put-functions f no_types c d e = e
put-functions f (ty_cons a ds) c d e = ap (fun (put_typ f a)) (put-functions f ds c d e)

module _ (G : Scope) (x : Name) (ds bs : Types) (c : Typ) (h : Head) (rigid : IsRigid h) (is_head : IsHead (inside ds no_types) h) (of_type : head_type (inside ds no_types) h ≡ functions bs c)
    (r : TyMap) (below : x.number < G.below) (type_is : put_typ (at r) (functions ds c) ≡ put_typ (at r) (G.typ x)) where
  abbrev value : Term
  value = candidate x G.below ds h bs

  abbrev choice : Choice
  choice = ((r, (x, retype (by_map r) value) ∷ []), G.below + types_len bs)

  abbrev wider : Scope
  wider = record { typ = λ y. put_typ (at r) (widen x ds G.typ G.below bs y); below = G.below + types_len bs }

  value-has : HasType no_types (functions ds c) value
  unfolding type_of
  value-has =
      let n = news-args x ds G.below bs c in
      lams-has ds no_types c (Spine h (new_variables x G.below ds bs))
      ((is_head, subst (λ z. AreArgs (inside ds no_types) z (new_variables x G.below ds bs)) (sym of_type) n.0), ap (λ z. result_type z (new_variables x G.below ds bs)) of_type ∙ n.1)

  value-vars : Vars (New x ds G.typ G.below bs) value
  value-vars =
      lams-vars (New x ds G.typ G.below bs) ds (Spine h (new_variables x G.below ds bs))
      (rigid-vars (λ y a. Unit {0}) x ds G.typ G.below bs h rigid, news-vars x ds G.typ G.below bs)

  value-over : Over wider (retype (by_map r) value)
  value-over = vars-retype (by_map r) (New x ds G.typ G.below bs) (InScope wider) head value value-vars
    where
      head : (k : Head) → HeadVars (New x ds G.typ G.below bs) k → HeadVars (InScope wider) (retype_head (by_map r) k)
      head (Const d a) p = tt
      head (Free y a) p = tt
      head (Schematic y a) p = (p.1.0, map-by r a ∙ ap (put_typ (at r)) p.1.1)
      head (Bound n) p = tt

  value-of-it : (y : Name) (v w : Term) → value_of ((x, v) ∷ []) y ≡ Some w → (y ≡ x) × (v ≡ w)
  unfolding value_of
  value-of-it y v w q = go (same_name y x) refl q
    where
      go : (b : Bool) → same_name y x ≡ b → (if b then Some v else None) ≡ Some w → (y ≡ x) × (v ≡ w)
      go true h k = (same_name-true y x h, let e : v ≡ w = cc in e)
      go false h k = absurd (let bad : None ≡ Some w = k in cc)

  choice-leads : LeadsChoice G choice
  unfolding Values map_typs
  choice-leads =
      let t = retype-has (by_map r) no_types (functions ds c) value value-has in (
        wider,
        (
          record {
            closed = (t.0, tt);
            over = (value-over, tt);
            typed = λ y w n q.
                let k = value-of-it y (retype (by_map r) value) w q in
                ap (type_of no_types) (sym k.1) ∙ t.1 ∙ map-by r (functions ds c) ∙ type_is ∙ ap (λ z. put_typ (at r) (G.typ z)) (sym k.0);
            stays = λ y n q. ap (put_typ (at r)) (widen-below x ds G.typ G.below bs y n);
            grows = omega arith;
          },
          refl,
        ),
      )

-- the argument types that a type shows
functions-shown : (a : Typ) → a ≡ functions (domains a) (target a)
unfolding domains target functions
functions-shown (Con c (ty_cons a (ty_cons b no_types))) = go (is_function c) refl (functions-shown b)
  where
    go : (v : Bool) → is_function c ≡ v → b ≡ functions (domains b) (target b)
        → Con c (ty_cons a (ty_cons b no_types)) ≡ functions (if v then ty_cons a (domains b) else no_types) (if v then target b else Con c (ty_cons a (ty_cons b no_types)))
    go true h e = function-name c a b h ∙ ap (fun a) e
    go false h e = refl
functions-shown (Con c no_types) = refl
functions-shown (Con c (ty_cons a no_types)) = refl
functions-shown (Con c (ty_cons a (ty_cons b (ty_cons d ds)))) = refl
functions-shown (Fixed c) = refl
functions-shown (TypeVariable c) = refl

-- the types that are taken
pub taken-functions : (bs : Types) (a : Typ) (ts : Terms) → AreArgs bs a ts → a ≡ functions (taken a ts) (result_type a ts)
unfolding taken functions result_type dom type_of
taken-functions bs a Nil p = refl
taken-functions bs a (tm_cons t ts) p = p.0 ∙ (let e = ap dom p.0 in let k = taken-functions bs (cod a) ts p.1.1 in λ i. fun (sym e i) (k i))

taken-len : (a : Typ) (ts : Terms) → types_len (taken a ts) ≡ how_many ts
unfolding taken types_len how_many
taken-len a Nil = refl
taken-len a (tm_cons t ts) = ap suc (taken-len (cod a) ts)

each-append : (P : Choice → Type 0) (cs ds : List Choice) → EachChoice P cs → EachChoice P ds → EachChoice P (cs ++ ds)
unfolding EachChoice
each-append P [] ds p q = q
each-append P (c ∷ cs) ds p q = (p.0, each-append P cs ds p.1 q)

module _ (G : Scope) (x : Name) (ds bs : Types) (c : Typ) (below : x.number < G.below) (type_is : functions ds c ≡ G.typ x) where
  projected-leads : (t : Term) (k : ℕ) → IsHead (inside ds no_types) (Bound k) → type_at (inside ds no_types) k ≡ type_of bs t → (o : Option TyMap) → unified (target (type_of bs t)) c [] ≡ o
      → (cs : List Choice) → EachChoice (LeadsChoice G) cs → EachChoice (LeadsChoice G) (projected x G.below ds k (domains (type_of bs t)) o cs)
  unfolding EachChoice
  projected-leads t k i y None u cs p = p
  projected-leads t k i y (Some r) u cs p =
      let e = solved-equal (target (type_of bs t)) c [] r (unified-solved (target (type_of bs t)) c [] r u) in (
        choice-leads G x ds (domains (type_of bs t)) (target (type_of bs t)) (Bound k) tt i (y ∙ functions-shown (type_of bs t)) r below
            (put-functions (at r) ds (target (type_of bs t)) c e ∙ ap (put_typ (at r)) type_is),
        p,
      )

  projections-lead : (a : Typ) (ts : Terms) (outer : Types) → inside ds no_types ≡ inside (taken a ts) outer → AreArgs bs a ts → EachChoice (LeadsChoice G) (projections x G.below ds bs c ts)
  unfolding EachChoice projections taken inside how_many types_len type_of dom
  projections-lead a Nil outer q p = tt
  projections-lead a (tm_cons t ts) outer q p =
      let n = taken-len (cod a) ts in
      let l = ap types_len q ∙ inside-len (taken (cod a) ts) (ty_cons (dom a) outer) in
      let d = ap dom p.0 in
      projected-leads t (how_many ts)
      (omega (arith, n, l))
      (ap (λ z. type_at z (how_many ts)) q ∙ ap (type_at (inside (taken (cod a) ts) (ty_cons (dom a) outer))) (sym n) ∙ inside-here (taken (cod a) ts) outer (dom a) ∙ d)
      (unified (target (type_of bs t)) c []) refl (projections x G.below ds bs c ts)
      (projections-lead (cod a) ts (ty_cons (dom a) outer) q p.1.1)

  imitated-leads : (h : Head) (es : Types) → IsRigid h → IsHead (inside ds no_types) h → head_type (inside ds no_types) h ≡ functions es c → EachChoice (LeadsChoice G) (imitated x G.below ds h es)
  unfolding EachChoice
  imitated-leads h es r i y = (
    subst (λ z. LeadsChoice G (([], (x, z) ∷ []), G.below + types_len es)) (retype-nothing (candidate x G.below ds h es))
        (choice-leads G x ds es c h r i y [] below (ap (put_typ (at [])) type_is)),
    tt,
  )

  imitation-leads : (t : Term) → IsTerm bs t → type_of bs t ≡ c → EachChoice (LeadsChoice G) (imitation x G.below ds t)
  unfolding EachChoice type_of
  imitation-leads (lam a b) p q = tt
  imitation-leads (Spine (Const d a) us) p q = imitated-leads (Const d a) (taken a us) tt tt (taken-functions bs a us p.1 ∙ ap (functions (taken a us)) q)
  imitation-leads (Spine (Free y a) us) p q = imitated-leads (Free y a) (taken a us) tt tt (taken-functions bs a us p.1 ∙ ap (functions (taken a us)) q)
  imitation-leads (Spine (Schematic y a) us) p q = tt
  imitation-leads (Spine (Bound n) us) p q = tt

chooses-by : (G : Scope) (bs : Types) (l t : Term) → IsTerm bs l → IsTerm bs t → Over G l → type_of bs l ≡ type_of bs t → EachChoice (LeadsChoice G) (choices_at G.below bs l t)
unfolding EachChoice type_of
chooses-by G bs (lam a b) t p q v s = tt
chooses-by G bs (Spine (Const d a) ts) t p q v s = tt
chooses-by G bs (Spine (Free y a) ts) t p q v s = tt
chooses-by G bs (Spine (Bound n) ts) t p q v s = tt
chooses-by G bs (Spine (Schematic x a) ts) t p q v s =
    let c = type_of bs t in
    let ds = taken a ts in
    let y : functions ds c ≡ G.typ x = ap (functions ds) (sym s) ∙ sym (taken-functions bs a ts p.1) ∙ v.0.1 in
    each-append (LeadsChoice G) (projections x G.below ds bs c ts) (imitation x G.below ds t)
    (projections-lead G x ds bs c v.0.0 y a ts no_types refl p.1) (imitation-leads G x ds bs c v.0.0 y t q refl)

pub chooses_all : ChoosesAll
chooses_all G p r = chooses-by G p.bounds p.left p.right r.over.left_term r.over.right_term r.over.left_over r.same
