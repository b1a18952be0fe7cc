-- Closing: both sides of a flex-flex pair become the new variable at the same arguments.
use Rattle.std.proofs.Common.{◌≡◌, ℕ, suc, ◌<◌, Bool, true, false, ◌&&◌, ◌||◌, ◌⊎◌, inl, inr, nat_eq, if◌then◌else◌, List, [], ◌∷◌, Option, Some, None, eqb-true, refl, sym, ◌∙◌, ap, subst, arith}
use Rattle.std.proofs.lemmas.Bool.{and_parts}
use Rattle.iv_text.specs.declared.name.Name.{Name}
use Rattle.iv_text.specs.Name.{same_name}
use Rattle.iv_text.proofs.Same.{same_name-true, same_name-same}
use Rattle.iv_term.specs.declared.typ.Typ.{Typ}
use Rattle.iv_term.specs.declared.typ.Types.{Types}
use Rattle.iv_term.specs.declared.typ.Typ.TheBlock.{Nil as no_types}
use Rattle.iv_term.specs.declared.term.Head.{Head}
use Rattle.iv_term.specs.declared.term.Head.TheVariants.{Const, Free, Schematic, Bound}
use Rattle.iv_term.specs.declared.term.Term.{Term}
use Rattle.iv_term.specs.declared.term.Terms.{Terms}
use Rattle.iv_term.specs.declared.term.Term.TheBlock.{Spine, Nil}
use Rattle.iv_term.specs.Typ.{fun, ty_cons}
use Rattle.iv_term.specs.Term.{lam, tm_cons}
use Rattle.iv_hsub.specs.Typing.{dom, cod, types_len, join, result_type, type_of, IsTerm, AreArgs, HasType}
use Rattle.iv_hsub.specs.Index.{occurs}
use Rattle.iv_hsub.specs.Hsub.{put, happ}
use Rattle.iv_hsub.specs.Retype.{map_typ, retype, retype_all}
use Rattle.iv_hsub.specs.Inst.{use_value, inst, inst_all, AllVars}
use Rattle.iv_hsub.proofs.Stated.{bounds_shrink}
use Rattle.iv_hsub.proofs.Theory.{eq_true, eq_false, fun-parts, cod-fun, closed-has, put-none, happ-nil, happ-eta}
use Rattle.iv_laws.specs.Spines.{functions}
use Rattle.iv_subst.specs.TySubst.{put_typ, put_typs, at}
use Rattle.iv_put.specs.Subst.{TermMap, Substitution, by_map, value_of, values, applied, Values}
use Rattle.iv_put.proofs.Theory.{maps-by}
use Rattle.iv_put.proofs.Facts.Entries.{map-nothing}
use Rattle.iv_unify.specs.declared.pair.Pair.{Pair}
use Rattle.iv_unify.specs.Pairs.{under, is_flexible, is_flex_flex}
use Rattle.iv_unify.specs.Values.{single, numbered, abstracted, among, indices, taken, lams, common, agreeing, types_at, indexed, new_at, both, kept_places, closing_by, closing_of, closing}
use Rattle.iv_unify.specs.Scope.{Scope, InScope, Over, Leads}
use Rattle.iv_unify.proofs.Scopes.{leads-term}
use Rattle.iv_unify.proofs.States.{over-under}
use Rattle.iv_unify.proofs.Sound.{IsReady, ClosesAll}
use Rattle.iv_unify.proofs.Bind.{abstracted-has, abstracted-back, abstracted-vars}
use Rattle.iv_unify.proofs.Assign.{indices-is, indexed-type, put-nothing, indexed-stays}
use Rattle.iv_unify.proofs.Choose.{inside, lams-has, lams-vars, taken-functions}
use Rattle.iv_unify.proofs.Flexible.{blank-variable, IsBlank, blank-abstracted, blank-lams, blank-applied, plain-flexible}
use Rattle.iv_unify.proofs.Gone.{abstracted-closed, common-left, common-right, agreeing-left, agreeing-right, indexed-among, indices-apart, same-abstracted}

-- the scope with one new variable
abbrev wider : Scope → Typ → Scope
wider G N = record { typ = λ n. if nat_eq n.number G.below then N else G.typ n; below = suc G.below }

wider-below : (G : Scope) (N : Typ) (z : Name) → z.number < G.below → (wider G N).typ z ≡ put_typ (at []) (G.typ z)
wider-below G N z q = ap (λ v. if v then N else G.typ z) (eq_false z.number G.below (λ e. omega (arith, q, e))) ∙ sym (put-nothing (G.typ z))

-- a variable at arguments
at-value : (es : TermMap) (x : Name) (v : Term) (a : Typ) (ts : Terms) → value_of es x ≡ Some v
    → applied ([], es) (Spine (Schematic x a) ts) ≡ happ a v (inst_all (values ([], es)) (retype_all (by_map []) ts))
unfolding inst retype
at-value es x v a ts q = let e = map-nothing a in λ i. use_value (q i) (Schematic x (e i)) (e i) (inst_all (values ([], es)) (retype_all (by_map []) ts))

-- values for one variable or two
pub record Both (G : Scope) (N : Typ) (x : Name) (v : Term) (y : Name) (w : Term) (e : Substitution) : Type 0 where
  pub none : e ≡ ([], e.1)
  pub leads : Leads e G (wider G N)
  pub blanks : Values IsBlank e.1
  pub first : value_of e.1 x ≡ Some v
  pub second : (same_name x y ≡ false) → value_of e.1 y ≡ Some w

module _ (G : Scope) (N : Typ) (x : Name) (v : Term) (y : Name) (w : Term) (has_v : HasType no_types (G.typ x) v) (has_w : HasType no_types (G.typ y) w) (over_v : Over (wider G N) v) (over_w : Over (wider G N) w)
    (blank_v : IsBlank v) (blank_w : IsBlank w) where
  Typed : TermMap → Type 0
  Typed es = (z : Name) (u : Term) → z.number < G.below → value_of es z ≡ Some u → type_of no_types u ≡ put_typ (at []) (G.typ z)

  typed-cons : (k : Name) (t : Term) (es : TermMap) → HasType no_types (G.typ k) t → Typed es → Typed ((k, t) ∷ es)
  unfolding Typed value_of
  typed-cons k t es h rest z u n q = go (same_name z k) refl q
    where
      go : (b : Bool) → same_name z k ≡ b → (if b then Some t else value_of es z) ≡ Some u → type_of no_types u ≡ put_typ (at []) (G.typ z)
      go true e r =
          let s : t ≡ u = cc in
          ap (type_of no_types) (sym s) ∙ h.1 ∙ ap G.typ (sym (same_name-true z k e)) ∙ sym (put-nothing (G.typ z))
      go false e r = rest z u n r

  typed-nil : Typed []
  unfolding Typed value_of
  typed-nil z u n q = absurd (let bad : None ≡ Some u = q in cc)

  both-is : (b : Bool) → same_name x y ≡ b → Both G N x v y w (if b then single x v else ([], (x, v) ∷ (y, w) ∷ []))
  unfolding Values Typed value_of
  both-is true h = record {
    none = refl;
    leads = record {
      closed = (has_v.0, tt);
      over = (over_v, tt);
      typed = typed-cons x v [] has_v typed-nil;
      stays = λ z n q. wider-below G N z n;
      grows = omega arith;
    };
    blanks = (blank_v, tt);
    first = ap (λ b. if b then Some v else None) (same_name-same x);
    second = λ q. absurd (let bad : true ≡ false = sym h ∙ q in cc);
  }
  both-is false h = record {
    none = refl;
    leads = record {
      closed = (has_v.0, (has_w.0, tt));
      over = (over_v, (over_w, tt));
      typed = typed-cons x v ((y, w) ∷ []) has_v (typed-cons y w [] has_w typed-nil);
      stays = λ z n q. wider-below G N z n;
      grows = omega arith;
    };
    blanks = (blank_v, (blank_w, tt));
    first = ap (λ b. if b then Some v else value_of ((y, w) ∷ []) x) (same_name-same x);
    second = λ q. ap (λ b. if b then Some v else value_of ((y, w) ∷ []) y) (other q) ∙ ap (λ b. if b then Some w else None) (same_name-same y);
  }
    where
      other : same_name x y ≡ false → same_name y x ≡ false
      other q = go (same_name y x) refl
        where
          go : (b : Bool) → same_name y x ≡ b → same_name y x ≡ false
          go false e = e
          go true e = absurd (let bad : true ≡ false = sym (same_name-same x) ∙ ap (λ z. same_name x z) (sym (same_name-true y x e)) ∙ q in cc)

  pub both-leads : Both G N x v y w (both x v y w)
  both-leads = both-is (same_name x y) refl

-- other pairs
under-ready : (G D : Scope) (e : Substitution) → e ≡ ([], e.1) → Leads e G D → Values IsBlank e.1 → (q : Pair) → IsReady G q → is_flex_flex q ≡ true → IsReady D (under e q) × (is_flex_flex (under e q) ≡ true)
under-ready G D e n l b q r f =
    let side : (t : Term) → IsTerm q.bounds t → Over G t → type_of (put_typs (at e.0) q.bounds) (applied e t) ≡ type_of q.bounds t =
    λ t p o.
    ap (λ z. type_of z (applied e t)) (sym (maps-by e.0 q.bounds)) ∙ (leads-term e G D l q.bounds t p o).1
    ∙ ap (λ z. map_typ (by_map z.0) (type_of q.bounds t)) n ∙ map-nothing (type_of q.bounds t) in
    let left = side q.left r.over.left_term r.over.left_over in
    let right = side q.right r.over.right_term r.over.right_over in
    let flex = and_parts (is_flexible q.left) (is_flexible q.right) f in
    let fl = plain-flexible (put_typs (at e.0) q.bounds) (applied e q.left) (blank-applied e b q.left flex.0) (λ a c h. r.plain a c (sym left ∙ h)) in
    let fr = plain-flexible (put_typs (at e.0) q.bounds) (applied e q.right) (blank-applied e b q.right flex.1) (λ a c h. r.plain a c (r.same ∙ sym right ∙ h)) in
    (record { over = over-under e G D l q r.over; same = left ∙ r.same ∙ sym right; plain = λ a c h. r.plain a c (sym left ∙ h) }, λ z. fl z && fr z)

-- the new variable at indices that are bound
Within : Types → List ℕ → Type 0
Within bs is = (n : ℕ) → among n is ≡ true → n < types_len bs

within-args : (is : List ℕ) (bs : Types) (a : Typ) → AreArgs bs a (indexed is) → Within bs is
unfolding Within indexed
within-args [] bs a p n q = absurd (let bad : false ≡ true = q in cc)
within-args (i ∷ is) bs a p n q = go (nat_eq n i) refl (λ r. within-args is bs (cod a) p.1.1 n r) q
  where
    go : (v : Bool) → nat_eq n i ≡ v → (among n is ≡ true → n < types_len bs) → (v || among n is) ≡ true → n < types_len bs
    go true h rec r = subst (λ z. z < types_len bs) (sym (eqb-true n i h)) p.1.0.0
    go false h rec r = rec r

or-r : (v y : Bool) → y ≡ true → (v || y) ≡ true
or-r true y q = refl
or-r false y q = q

indexed-has : (is : List ℕ) (bs : Types) (c : Typ) → Within bs is → AreArgs bs (functions (types_at bs is) c) (indexed is) × (result_type (functions (types_at bs is) c) (indexed is) ≡ c)
unfolding Within indexed types_at functions result_type type_of cod
indexed-has [] bs c k = (tt, refl)
indexed-has (i ∷ is) bs c k =
    let r = indexed-has is bs c (λ n q. k n (or-r (nat_eq n i) (among n is) q)) in
    ((refl, (((k i (ap (λ v. v || among i is) (eq_true i i refl))), tt), r.0)), r.1)

indexed-vars : (P : Head → Typ → Type 0) (is : List ℕ) → AllVars P (indexed is)
unfolding indexed
indexed-vars P [] = tt
indexed-vars P (i ∷ is) = ((tt, tt), indexed-vars P is)

module _ (G : Scope) (x : Name) (bs : Types) (c : Typ) (is : List ℕ) (within : Within bs is) where
  abbrev N : Typ
  N = functions (types_at bs is) c

  abbrev new : Term
  new = new_at x G.below bs is c

  new-has : HasType bs c new
  unfolding type_of
  new-has = let r = indexed-has is bs c within in ((tt, r.0), r.1)

  new-over : Over (wider G N) new
  new-over = ((omega arith, sym (ap (λ v. if v then N else G.typ (numbered x G.below)) (eq_true G.below G.below refl))), indexed-vars (InScope (wider G N)) is)

  new-index : (n : ℕ) → (among n is ≡ true) ⊎ (occurs n new ≡ false)
  unfolding occurs
  new-index n = indexed-among n is

  -- abstracted over indices that hold all of them
  held-has : (js : List ℕ) → ((n : ℕ) → among n is ≡ true → among n js ≡ true) → HasType no_types (functions (types_at bs js) c) (abstracted js bs new)
  unfolding types_len join
  held-has js k =
      let h = abstracted-has js bs c new new-has in
      bounds_shrink no_types bs (functions (types_at bs js) c) (abstracted js bs new) (abstracted-closed js bs new (λ n. which n (new-index n))) h
    where
      which : (n : ℕ) → (among n is ≡ true) ⊎ (occurs n new ≡ false) → (among n js ≡ true) ⊎ (occurs n new ≡ false)
      which n (inl q) = inl (k n q)
      which n (inr q) = inr q

-- constant functions
constant : (bs : Types) (a c : Typ) (k : Term) (e : Substitution) (ts : Terms) → HasType no_types c k
    → happ (functions (taken a ts) c) (lams (taken a ts) k) (inst_all (values e) (retype_all (by_map e.0) ts)) ≡ k
unfolding inst retype functions taken lams
constant bs a c k e Nil h = happ-nil c k
constant bs a c k e (tm_cons t ts) h =
    let d = dom a in
    let A = functions (taken (cod a) ts) c in
    let w = lams (taken (cod a) ts) k in
    let hw = lams-has (taken (cod a) ts) no_types c k (closed-has (inside (taken (cod a) ts) no_types) c k h) in
    let u = inst (values e) (retype (by_map e.0) t) in
    let us = inst_all (values e) (retype_all (by_map e.0) ts) in
    happ-eta (fun d A) d bs w u us (ap (fun d) (sym (cod-fun d A))) (closed-has (ty_cons d bs) A w hw).0
    ∙ ap (λ z. happ z (put (happ d) u 0 w) us) (cod-fun d A) ∙ ap (λ z. happ A z us) (put-none (happ d) u 0 w hw.0)
    ∙ constant bs (cod a) c k e ts h

same-types : (ds es : Types) (c : Typ) → ((a b : Typ) → c ≡ fun a b → ⊥) → functions ds c ≡ functions es c → ds ≡ es
unfolding functions
same-types no_types no_types c n q = refl
same-types no_types (ty_cons e es) c n q = absurd (n e (functions es c) q)
same-types (ty_cons d ds) no_types c n q = absurd (n d (functions ds c) (sym q))
same-types (ty_cons d ds) (ty_cons e es) c n q =
    let f = fun-parts d (functions ds c) e (functions es c) q in
    let t = same-types ds es c n f.1 in
    λ i. ty_cons (f.0 i) (t i)

-- what closing owes
record Owed (G : Scope) (bs : Types) (l t : Term) (e : Substitution) : Type 0 where
  scope : Scope
  below : scope.below ≡ suc G.below
  none : e ≡ ([], e.1)
  leads : Leads e G scope
  blanks : Values IsBlank e.1
  alike : applied e l ≡ applied e t

-- a value at arguments, where no types are put
applied-value : (e : Substitution) (x : Name) (v : Term) (a : Typ) (ts : Terms) → e ≡ ([], e.1) → value_of e.1 x ≡ Some v
    → applied e (Spine (Schematic x a) ts) ≡ happ a v (inst_all (values ([], e.1)) (retype_all (by_map []) ts))
applied-value e x v a ts n q = ap (λ z. applied z (Spine (Schematic x a) ts)) n ∙ at-value e.1 x v a ts q

module _ (G : Scope) (bs : Types) (c : Typ) (plain : (a b : Typ) → c ≡ fun a b → ⊥) (x : Name) (a : Typ) (ts : Terms) (y : Name) (b : Typ) (us : Terms)
    (p : IsTerm bs (Spine (Schematic x a) ts)) (q : IsTerm bs (Spine (Schematic y b) us)) (v : Over G (Spine (Schematic x a) ts)) (w : Over G (Spine (Schematic y b) us))
    (tl : result_type a ts ≡ c) (tr : result_type b us ≡ c) where
  same-typ-of : same_name x y ≡ true → a ≡ b
  same-typ-of h = v.0.1 ∙ ap G.typ (same_name-true x y h) ∙ sym w.0.1

  -- both sides become constant
  constants-owe : Owed G bs (Spine (Schematic x a) ts) (Spine (Schematic y b) us) (both x (lams (taken a ts) (new_at x G.below bs [] c)) y (lams (taken b us) (new_at x G.below bs [] c)))
  unfolding Within types_at functions indexed type_of result_type
  constants-owe =
      let k = new_at x G.below bs [] c in
      let hk : HasType no_types c k = ((tt, tt), refl) in
      let ok = new-over G x bs c [] (λ n r. absurd (let bad : false ≡ true = r in cc)) in
      let fa = taken-functions bs a ts p.1 ∙ ap (functions (taken a ts)) tl in
      let fb = taken-functions bs b us q.1 ∙ ap (functions (taken b us)) tr in
      let lv = lams-has (taken a ts) no_types c k (closed-has (inside (taken a ts) no_types) c k hk) in
      let lw = lams-has (taken b us) no_types c k (closed-has (inside (taken b us) no_types) c k hk) in
      let val = lams (taken a ts) k in
      let wal = lams (taken b us) k in
      let B = both-leads G c x val y wal (lv.0, lv.1 ∙ sym fa ∙ v.0.1) (lw.0, lw.1 ∙ sym fb ∙ w.0.1) (lams-vars (InScope (wider G c)) (taken a ts) k ok)
      (lams-vars (InScope (wider G c)) (taken b us) k ok) (blank-lams (taken a ts) k (blank-variable (numbered x G.below) c Nil)) (blank-lams (taken b us) k (blank-variable (numbered x G.below) c Nil)) in
      let e = both x val y wal in
      let left = applied-value e x val a ts B.none B.first ∙ ap (λ z. happ z val (inst_all (values ([], e.1)) (retype_all (by_map []) ts))) fa ∙ constant bs a c k ([], e.1) ts hk in
      let right : value_of e.1 y ≡ Some wal → applied e (Spine (Schematic y b) us) ≡ k =
      λ h. applied-value e y wal b us B.none h ∙ ap (λ z. happ z wal (inst_all (values ([], e.1)) (retype_all (by_map []) us))) fb ∙ constant bs b c k ([], e.1) us hk in
      let found : (s : Bool) → same_name x y ≡ s → value_of e.1 y ≡ Some wal = second-found e val wal B.first B.second
      (λ h. ap (λ z. lams z k) (same-types (taken a ts) (taken b us) c plain (sym fa ∙ same-typ-of h ∙ fb))) in
      record {
        scope = wider G c;
        below = refl;
        none = B.none;
        leads = B.leads;
        blanks = B.blanks;
        alike = left ∙ sym (right (found (same_name x y) refl));
      }
    where
      second-found : (e : Substitution) (val wal : Term) → value_of e.1 x ≡ Some val → (same_name x y ≡ false → value_of e.1 y ≡ Some wal) → (same_name x y ≡ true → val ≡ wal)
          → (s : Bool) → same_name x y ≡ s → value_of e.1 y ≡ Some wal
      second-found e val wal f g h true s = ap (value_of e.1) (sym (same_name-true x y s)) ∙ f ∙ ap Some (h s)
      second-found e val wal f g h false s = g s

  -- both sides are cut to the places that are kept
  cuts-owe : (is js : List ℕ) → indices ts ≡ Some is → indices us ≡ Some js
      → Owed G bs (Spine (Schematic x a) ts) (Spine (Schematic y b) us)
      (both x (abstracted is bs (new_at x G.below bs (kept_places x y is js) c)) y (abstracted js bs (new_at x G.below bs (kept_places x y is js) c)))
  unfolding Within
  cuts-owe is js r s =
      let ti = indices-is ts is r in
      let uj = indices-is us js s in
      let K = kept_places x y is js in
      let left-in : (n : ℕ) → among n K ≡ true → among n is ≡ true = λ n. kept-left (same_name x y) is js n in
      let right-in : (n : ℕ) → among n K ≡ true → among n js ≡ true = λ n. kept-right (same_name x y) is js n in
      let ai : AreArgs bs a (indexed is) = subst (AreArgs bs a) ti p.1 in
      let bj : AreArgs bs b (indexed js) = subst (AreArgs bs b) uj q.1 in
      let inside_all : (n : ℕ) → among n K ≡ true → n < types_len bs = λ n h. within-args is bs a ai n (left-in n h) in
      let k = new_at x G.below bs K c in
      let M = functions (types_at bs K) c in
      let fa = indexed-type is bs a c ai (ap (result_type a) (sym ti) ∙ tl) in
      let fb = indexed-type js bs b c bj (ap (result_type b) (sym uj) ∙ tr) in
      let hk = new-has G x bs c K inside_all in
      let ok = new-over G x bs c K inside_all in
      let lv = held-has G x bs c K inside_all is left-in in
      let lw = held-has G x bs c K inside_all js right-in in
      let val = abstracted is bs k in
      let wal = abstracted js bs k in
      let B = both-leads G M x val y wal (lv.0, lv.1 ∙ sym fa ∙ v.0.1) (lw.0, lw.1 ∙ sym fb ∙ w.0.1) (abstracted-vars (InScope (wider G M)) is bs k ok)
      (abstracted-vars (InScope (wider G M)) js bs k ok) (blank-abstracted is bs k (blank-variable (numbered x G.below) M (indexed K))) (blank-abstracted js bs k (blank-variable (numbered x G.below) M (indexed K))) in
      let e = both x val y wal in
      let at-indices : (z : Name) (t : Term) (d : Typ) (ls : List ℕ) (vs : Terms) → vs ≡ indexed ls → d ≡ functions (types_at bs ls) c → t ≡ abstracted ls bs k → value_of e.1 z ≡ Some t
      → applied e (Spine (Schematic z d) vs) ≡ k =
      λ z t d ls vs m f g h.
      applied-value e z t d vs B.none h ∙ ap (λ o. happ d t (inst_all (values ([], e.1)) (retype_all (by_map []) o))) m
      ∙ ap (happ d t) (indexed-stays ([], e.1) ls) ∙ (λ i. happ (f i) (g i) (indexed ls)) ∙ abstracted-back ls bs c k hk in
      let found = second-found e val wal B.first B.second (λ h.
      same-abstracted is js bs c k plain (indices-apart ts is r) (indices-apart us js s) (sym fa ∙ same-typ-of h ∙ fb)
      (λ n. placed (same_name x y) h is js n (occurs n k) (new-index G x bs c K inside_all n))) in
      record {
        scope = wider G M;
        below = refl;
        none = B.none;
        leads = B.leads;
        blanks = B.blanks;
        alike = at-indices x val a is ts ti fa refl B.first ∙ sym (at-indices y wal b js us uj fb refl (found (same_name x y) refl));
      }
    where
      second-found : (e : Substitution) (val wal : Term) → value_of e.1 x ≡ Some val → (same_name x y ≡ false → value_of e.1 y ≡ Some wal) → (same_name x y ≡ true → val ≡ wal)
          → (s : Bool) → same_name x y ≡ s → value_of e.1 y ≡ Some wal
      second-found e val wal f g h true s = ap (value_of e.1) (sym (same_name-true x y s)) ∙ f ∙ ap Some (h s)
      second-found e val wal f g h false s = g s

      kept-left : (s : Bool) (is js : List ℕ) (n : ℕ) → among n (if s then agreeing is js else common is js) ≡ true → among n is ≡ true
      kept-left true is js n h = agreeing-left is js n h
      kept-left false is js n h = common-left is js n h

      kept-right : (s : Bool) (is js : List ℕ) (n : ℕ) → among n (if s then agreeing is js else common is js) ≡ true → among n js ≡ true
      kept-right true is js n h = agreeing-right is js n h
      kept-right false is js n h = common-right is js n h

      placed : (s : Bool) → s ≡ true → (is js : List ℕ) (n : ℕ) (k : Bool) → (among n (if s then agreeing is js else common is js) ≡ true) ⊎ (k ≡ false)
          → (k ≡ false) ⊎ ((among n (agreeing is js) ≡ true) ⊎ ((among n is ≡ false) × (among n js ≡ false)))
      placed true h is js n k (inl o) = inr (inl o)
      placed true h is js n k (inr o) = inl o
      placed false h is js n k o = absurd (let bad : false ≡ true = h in cc)

  by-indices : (o u : Option (List ℕ)) → indices ts ≡ o → indices us ≡ u → Owed G bs (Spine (Schematic x a) ts) (Spine (Schematic y b) us) (closing_by G.below bs c x (taken a ts) y (taken b us) o u)
  by-indices (Some is) (Some js) r s = cuts-owe is js r s
  by-indices None u r s = constants-owe
  by-indices (Some is) None r s = constants-owe

closes-by : (G : Scope) (bs : Types) (c : Typ) (l t : Term) → ((a b : Typ) → c ≡ fun a b → ⊥) → IsTerm bs l → IsTerm bs t → Over G l → Over G t → type_of bs l ≡ c → type_of bs t ≡ c
    → is_flexible l ≡ true → is_flexible t ≡ true → Owed G bs l t (closing_of G.below bs c l t)
unfolding type_of
closes-by G bs c (Spine (Schematic x a) ts) (Spine (Schematic y b) us) n p q v w s r f g =
    by-indices G bs c n x a ts y b us p q v w s r (indices ts) (indices us) refl refl
closes-by G bs c (lam a b) t n p q v w s r f g = absurd (let bad : false ≡ true = f in cc)
closes-by G bs c (Spine (Const x a) ts) t n p q v w s r f g = absurd (let bad : false ≡ true = f in cc)
closes-by G bs c (Spine (Free x a) ts) t n p q v w s r f g = absurd (let bad : false ≡ true = f in cc)
closes-by G bs c (Spine (Bound m) ts) t n p q v w s r f g = absurd (let bad : false ≡ true = f in cc)
closes-by G bs c (Spine (Schematic x a) ts) (lam d b) n p q v w s r f g = absurd (let bad : false ≡ true = g in cc)
closes-by G bs c (Spine (Schematic x a) ts) (Spine (Const y b) us) n p q v w s r f g = absurd (let bad : false ≡ true = g in cc)
closes-by G bs c (Spine (Schematic x a) ts) (Spine (Free y b) us) n p q v w s r f g = absurd (let bad : false ≡ true = g in cc)
closes-by G bs c (Spine (Schematic x a) ts) (Spine (Bound m) us) n p q v w s r f g = absurd (let bad : false ≡ true = g in cc)

pub closes_all : ClosesAll
closes_all G p r f =
    let flex = and_parts (is_flexible p.left) (is_flexible p.right) f in
    let k = closes-by G p.bounds (type_of p.bounds p.left) p.left p.right r.plain r.over.left_term r.over.right_term r.over.left_over r.over.right_over refl (sym r.same) flex.0 flex.1 in
    record {
      scope = k.scope;
      below = k.below;
      leads = k.leads;
      alike = k.alike;
      others = λ q o g. under-ready G k.scope (closing G.below p) k.none k.leads k.blanks q o g;
    }
