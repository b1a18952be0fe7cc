-- Finite maps: what composition and the empty map do.
use Rattle.std.proofs.Common.{◌≡◌, Bool, true, false, [], ◌∷◌, ◌++◌, Option, Some, None, if◌then◌else◌, refl, sym, ◌∙◌, ap, subst}
use Rattle.iv_text.specs.declared.name.Name.{Name}
use Rattle.iv_term.specs.declared.typ.Typ.{Typ}
use Rattle.iv_term.specs.declared.typ.Types.{Types}
use Rattle.iv_term.specs.declared.typ.Typ.TheBlock.{Con, Fixed, Schematic as Variable, Nil as no_types}
use Rattle.iv_term.specs.declared.term.Head.{Head}
use Rattle.iv_term.specs.declared.term.Head.TheVariants.{Const, Free, Schematic, Bound}
use Rattle.iv_term.specs.declared.term.Term.{Term}
use Rattle.iv_term.specs.declared.term.Terms.{Terms}
use Rattle.iv_term.specs.declared.term.Term.TheBlock.{Spine, Nil}
use Rattle.iv_term.specs.Typ.{ty_cons}
use Rattle.iv_text.specs.Name.{same_name}
use Rattle.iv_term.specs.Term.{lam, tm_cons}
use Rattle.iv_text.proofs.Same.{same_name-true}
use Rattle.iv_hsub.specs.Typing.{cod, head_type, type_of, IsTerm, AreArgs, HasType}
use Rattle.iv_hsub.specs.Index.{eta}
use Rattle.iv_hsub.proofs.Theory.{eta-short}
use Rattle.iv_subst.specs.TySubst.{TyMap, at, put_typ, put_typs}
use Rattle.iv_subst.specs.TySubst as types_specs
use Rattle.iv_subst.proofs.Laws.Put.{put-composed}
use Rattle.iv_hsub.specs.Retype.{map_typ, map_typs, retype_head, retype, retype_all}
use Rattle.iv_hsub.specs.Inst.{inst_head, inst, inst_all, Vars, Fits}
use Rattle.iv_put.specs.Subst.{TermMap, Substitution, value_of, has_value, by_map, by_name, values, applied, CanApply, Values, AreClosed, under, unhidden, composed, CanCompose, CanFollow}
use Rattle.iv_hsub.proofs.Theory.{retype-term}
use Rattle.iv_hsub.proofs.Theory.{inst-term}
use Rattle.iv_put.proofs.Facts.Composed.{then_by_value, then_by, inst-then, fits-then, follows-can, Closed, Follows}

-- a map of types as a function
mutual
  unfolding map_typ map_typs put_typ put_typs

  pub map-by : (s : TyMap) (a : Typ) → map_typ (by_map s) a ≡ put_typ (at s) a
  map-by s (Con c ts) = ap (Con c) (maps-by s ts)
  map-by s (Fixed a) = refl
  map-by s (Variable x) = refl

  pub maps-by : (s : TyMap) (ts : Types) → map_typs (by_map s) ts ≡ put_typs (at s) ts
  maps-by s no_types = refl
  maps-by s (ty_cons a ts) = let e = map-by s a in let f = maps-by s ts in λ i. ty_cons (e i) (f i)

pub map-composed : (s r : TyMap) (a : Typ) → map_typ (by_map (types_specs.composed s r)) a ≡ map_typ (by_map r) (map_typ (by_map s) a)
map-composed s r a =
    map-by (types_specs.composed s r) a ∙ put-composed s r a ∙ ap (put_typ (at r)) (sym (map-by s a)) ∙ sym (map-by r (map_typ (by_map s) a))

-- types put one after the other
module _ (f g k : Typ → Typ) (both : (a : Typ) → map_typ k a ≡ map_typ g (map_typ f a)) where
  retype_head-then : (h : Head) → retype_head k h ≡ retype_head g (retype_head f h)
  retype_head-then (Const c a) = ap (Const c) (both a)
  retype_head-then (Free x a) = ap (Free x) (both a)
  retype_head-then (Schematic x a) = ap (Schematic x) (both a)
  retype_head-then (Bound n) = refl

  mutual
    unfolding retype

    pub retype-then : (t : Term) → retype k t ≡ retype g (retype f t)
    retype-then (lam a b) = let x = both a in let y = retype-then b in λ i. lam (x i) (y i)
    retype-then (Spine h ts) = let x = retype_head-then h in let y = retype_all-then ts in λ i. Spine (x i) (y i)

    retype_all-then : (ts : Terms) → retype_all k ts ≡ retype_all g (retype_all f ts)
    retype_all-then Nil = refl
    retype_all-then (tm_cons t ts) = let x = retype-then t in let y = retype_all-then ts in λ i. tm_cons (x i) (y i)

-- the entries of a composition
module _ (s : Substitution) where
  after : Option Term → Name → Option Term
  after = then_by_value (by_map s.0) (value_of s.1)

  behind_by : (e : Name × Term) (y : Name) (o b : Option Term) (v : Bool) → (v ≡ false → b ≡ after o y)
      → (if v then Some (applied s e.1) else b) ≡ after (if v then Some e.1 else o) y
  unfolding then_by_value after
  behind_by e y o b true k = refl
  behind_by e y o b false k = k refl

  absent_by : (e : Name × Term) (es : TermMap) (y : Name) → same_name y e.0 ≡ false → has_value es y ≡ false → has_value (e ∷ es) y ≡ false
  unfolding has_value
  absent_by e es y h k = rw h k

  value-behind : (es rs : TermMap) (y : Name) → (has_value es y ≡ false → value_of rs y ≡ value_of s.1 y) → value_of (under s es ++ rs) y ≡ after (value_of es y) y
  unfolding value_of under has_value after then_by_value
  value-behind [] rs y k = k refl
  value-behind (e ∷ es) rs y k = go (value-behind es rs y) (same_name y e.0) refl
    where
      go : ((has_value es y ≡ false → value_of rs y ≡ value_of s.1 y) → value_of (under s es ++ rs) y ≡ after (value_of es y) y) → (v : Bool) → same_name y e.0 ≡ v
          → (if v then Some (applied s e.1) else value_of (under s es ++ rs) y) ≡ after (if v then Some e.1 else value_of es y) y
      go rest v h = behind_by e y (value_of es y) (value_of (under s es ++ rs) y) v (λ q. rest (λ z. k (absent_by e es y (h ∙ q) z)))

unhidden_by : (es rs : TermMap) (e : Name × Term) (y : Name) → has_value es y ≡ false → value_of (unhidden es rs) y ≡ value_of rs y
    → (v w : Bool) → has_value es e.0 ≡ v → same_name y e.0 ≡ w
    → value_of (if v then unhidden es rs else e ∷ unhidden es rs) y ≡ (if w then Some e.1 else value_of rs y)
unfolding value_of
unhidden_by es rs e y n k true true h q = absurd (let z : y ≡ e.0 = same_name-true y e.0 q in
    let bad : true ≡ false = sym h ∙ ap (has_value es) (sym z) ∙ n in cc)
unhidden_by es rs e y n k true false h q = k
unhidden_by es rs e y n k false true h q = rw q
unhidden_by es rs e y n k false false h q = rw q k

value-unhidden : (es rs : TermMap) (y : Name) → has_value es y ≡ false → value_of (unhidden es rs) y ≡ value_of rs y
unfolding value_of unhidden
value-unhidden es [] y n = refl
value-unhidden es (e ∷ rs) y n = unhidden_by es rs e y n (value-unhidden es rs y n) (has_value es e.0) (same_name y e.0) refl refl

pub value-composed : (f g : Substitution) (y : Name) → value_of (composed f g).1 y ≡ then_by (by_map g.0) (value_of f.1) (value_of g.1) y
unfolding then_by after
value-composed f g y = value-behind g f.1 (unhidden f.1 g.1) y (value-unhidden f.1 g.1 y)

pub values-composed : (f g : Substitution) → value_of (composed f g).1 ≡ then_by (by_map g.0) (value_of f.1) (value_of g.1)
values-composed f g = λ i. λ (y : Name). value-composed f g y i

-- what holds of each value
module _ (P : Term → Type 0) where
  value-in_by : (e : Name × Term) (o : Option Term) (v : Term) (b : Bool) → P e.1 → (o ≡ Some v → P v) → (if b then Some e.1 else o) ≡ Some v → P v
  value-in_by e o v true p k q = subst P (some-parts e.1 v q) p
    where
      some-parts : (y z : Term) → Some y ≡ Some z → y ≡ z
      some-parts y z e = cc
  value-in_by e o v false p k q = k q

  pub value-in : (es : TermMap) (x : Name) (v : Term) → Values P es → value_of es x ≡ Some v → P v
  unfolding Values value_of
  value-in [] x v p q = absurd (let bad : None ≡ Some v = q in cc)
  value-in (e ∷ es) x v p q = value-in_by e (value_of es x) v (same_name x e.0) p.0 (value-in es x v p.1) q

  pub Values-append : (es rs : TermMap) → Values P es → Values P rs → Values P (es ++ rs)
  unfolding Values
  Values-append [] rs p q = q
  Values-append (e ∷ es) rs p q = (p.0, Values-append es rs p.1 q)

  kept_by : (es : TermMap) (e : Name × Term) (rs : TermMap) (b : Bool) → P e.1 → Values P rs → Values P (if b then rs else e ∷ rs)
  unfolding Values
  kept_by es e rs true p q = q
  kept_by es e rs false p q = (p, q)

  pub Values-unhidden : (es rs : TermMap) → Values P rs → Values P (unhidden es rs)
  unfolding Values unhidden
  Values-unhidden es [] p = tt
  Values-unhidden es (e ∷ rs) p = kept_by es e (unhidden es rs) (has_value es e.0) p.0 (Values-unhidden es rs p.1)

-- what the laws say of two substitutions
module _ (f g : Substitution) where
  as_follows : CanCompose f g → Follows (by_map g.0) (value_of f.1) (value_of g.1)
  unfolding Follows
  as_follows k x v e = value-in (CanApply g) f.1 x v k e

  as_closed : (s : Substitution) → AreClosed s.1 → Closed (value_of s.1)
  unfolding Closed
  as_closed s k x v e = value-in (IsTerm no_types) s.1 x v k e

  types-then : (t : Term) → retype (by_map (composed f g).0) t ≡ retype (by_map g.0) (retype (by_map f.0) t)
  types-then t = retype-then (by_map f.0) (by_map g.0) (by_map (composed f g).0) (map-composed f.0 g.0) t

  can_there : (t : Term) → CanApply (composed f g) t
      → Vars (λ k a. Fits (by_name (then_by (by_map g.0) (value_of f.1) (value_of g.1)) k) a) (retype (by_map g.0) (retype (by_map f.0) t))
  can_there t p =
      subst (λ V. Vars (λ k a. Fits (by_name V k) a) (retype (by_map g.0) (retype (by_map f.0) t))) (values-composed f g)
      (subst (Vars (λ k a. Fits (values (composed f g) k) a)) (types-then t) p)

  can_back : (t : Term) → Vars (λ k a. Fits (by_name (then_by (by_map g.0) (value_of f.1) (value_of g.1)) k) a) (retype (by_map g.0) (retype (by_map f.0) t))
      → CanApply (composed f g) t
  can_back t p =
      subst (Vars (λ k a. Fits (values (composed f g) k) a)) (sym (types-then t))
      (subst (λ V. Vars (λ k a. Fits (by_name V k) a) (retype (by_map g.0) (retype (by_map f.0) t))) (sym (values-composed f g)) p)

  pub apply-compose : (bs : Types) (t : Term) → IsTerm bs t → AreClosed f.1 → AreClosed g.1 → CanCompose f g → CanApply f t → CanApply g (applied f t)
      → CanApply (composed f g) t → applied (composed f g) t ≡ applied g (applied f t)
  apply-compose bs t p cf cg k a b c =
      let e = values-composed f g in
      let r = types-then t in
      (λ i. inst (by_name (e i)) (r i))
      ∙ inst-then (by_map g.0) (value_of f.1) (value_of g.1) (map_typs (by_map f.0) bs) (retype (by_map f.0) t) (retype-term (by_map f.0) bs t p).0
      (as_closed f cf) (as_closed g cg) a (as_follows k) b (can_there t c)

  pub can_apply-compose : (t : Term) → AreClosed f.1 → CanCompose f g → CanApply f t → CanFollow f g t → CanApply (composed f g) t
  can_apply-compose t cf k a q =
      can_back t (fits-then (by_map g.0) (value_of f.1) (value_of g.1) (as_closed f cf) (as_follows k) (retype (by_map f.0) t) a q)

  pub can_apply-next : (bs : Types) (t : Term) → IsTerm bs t → CanCompose f g → CanApply f t → CanFollow f g t → CanApply g (applied f t)
  can_apply-next bs t p k a q =
      follows-can (by_map g.0) (value_of f.1) (value_of g.1) (map_typs (by_map f.0) bs) (retype (by_map f.0) t) (retype-term (by_map f.0) bs t p).0 a (as_follows k) q

  -- the values of a composition are terms without loose indices
  pub closed-applied : (v : Term) → IsTerm no_types v → CanApply g v → IsTerm no_types (applied g v)
  unfolding map_typs
  closed-applied v p k =
      let r = retype-term (by_map g.0) no_types v p in
      (inst-term (values g) no_types (retype (by_map g.0) v) k r.0).0

  closed-under : (es : TermMap) → AreClosed es → Values (CanApply g) es → AreClosed (under g es)
  unfolding Values under
  closed-under [] p k = tt
  closed-under (e ∷ es) p k = (closed-applied e.1 p.0 k.0, closed-under es p.1 k.1)

  pub closed-composed : AreClosed f.1 → AreClosed g.1 → CanCompose f g → AreClosed (composed f g).1
  closed-composed cf cg k =
      Values-append (IsTerm no_types) (under g f.1) (unhidden f.1 g.1) (closed-under f.1 cf k) (Values-unhidden (IsTerm no_types) f.1 g.1 cg)

-- typing
pub applied-term : (s : Substitution) (bs : Types) (t : Term) → IsTerm bs t → CanApply s t
    → HasType (map_typs (by_map s.0) bs) (map_typ (by_map s.0) (type_of bs t)) (applied s t)
applied-term s bs t p k =
    let r = retype-term (by_map s.0) bs t p in
    let q = inst-term (values s) (map_typs (by_map s.0) bs) (retype (by_map s.0) t) k r.0 in
    (q.0, q.1 ∙ r.1)

-- nothing put changes nothing
mutual
  unfolding map_typ map_typs at

  pub map-nothing : (a : Typ) → map_typ (by_map []) a ≡ a
  map-nothing (Con c ts) = ap (Con c) (maps-nothing ts)
  map-nothing (Fixed a) = refl
  map-nothing (Variable x) = refl

  pub maps-nothing : (ts : Types) → map_typs (by_map []) ts ≡ ts
  maps-nothing no_types = refl
  maps-nothing (ty_cons a ts) = let e = map-nothing a in let f = maps-nothing ts in λ i. ty_cons (e i) (f i)

head-nothing : (h : Head) → retype_head (by_map []) h ≡ h
head-nothing (Const c a) = ap (Const c) (map-nothing a)
head-nothing (Free x a) = ap (Free x) (map-nothing a)
head-nothing (Schematic x a) = ap (Schematic x) (map-nothing a)
head-nothing (Bound n) = refl

inst-nothing : (h : Head) (us : Terms) → inst_head (values ([], [])) h us ≡ Spine h us
unfolding value_of
inst-nothing (Const c a) us = refl
inst-nothing (Free x a) us = refl
inst-nothing (Schematic x a) us = refl
inst-nothing (Bound n) us = refl

mutual
  unfolding retype inst

  pub applied-nothing : (bs : Types) (t : Term) → IsTerm bs t → applied ([], []) t ≡ t
  applied-nothing bs (lam a b) p =
      (λ i. eta (map-nothing a i) (applied-nothing (ty_cons a bs) b p.0 i)) ∙ eta-short a b p.1
  applied-nothing bs (Spine h ts) p =
      (λ i. inst_head (values ([], [])) (head-nothing h i) (applied_all-nothing bs (head_type bs h) ts p.1 i)) ∙ inst-nothing h ts

  applied_all-nothing : (bs : Types) (c : Typ) (ts : Terms) → AreArgs bs c ts → inst_all (values ([], [])) (retype_all (by_map []) ts) ≡ ts
  applied_all-nothing bs c Nil p = refl
  applied_all-nothing bs c (tm_cons t ts) p =
      let x = applied-nothing bs t p.1.0 in let y = applied_all-nothing bs (cod c) ts p.1.1 in λ i. tm_cons (x i) (y i)
