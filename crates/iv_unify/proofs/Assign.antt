-- Assignment: the value of a variable at distinct bound variables makes both sides equal.
use Rattle.std.proofs.Common.{◌≡◌, ℕ, Bool, true, false, not, ◌&&◌, nat_eq, if◌then◌else◌, List, [], ◌∷◌, ◌++◌, Option, Some, None, eqb-true, refl, sym, ◌∙◌, ap, subst, arith}
use Rattle.std.specs.List.{list_any}
use Rattle.std.proofs.lemmas.Bool.{and_parts, or_parts}
use Rattle.std.proofs.lemmas.List.Folds.{list_any-append}
use Rattle.iv_text.specs.declared.name.Name.{Name}
use Rattle.iv_text.specs.Name.{same_name}
use Rattle.iv_text.proofs.Same.{same_name-true, same_name-same}
use Rattle.iv_term.specs.declared.typ.Typ.{Typ}
use Rattle.iv_term.specs.declared.typ.Types.{Types}
use Rattle.iv_term.specs.declared.typ.Typ.TheBlock.{Con, Fixed, Schematic as TypeVariable, Nil as no_types}
use Rattle.iv_term.specs.declared.term.Head.{Head}
use Rattle.iv_term.specs.declared.term.Head.TheVariants.{Const, Free, Schematic, Bound}
use Rattle.iv_term.specs.declared.term.Term.{Term}
use Rattle.iv_term.specs.declared.term.Terms.{Terms}
use Rattle.iv_term.specs.declared.term.Term.TheBlock.{Spine, Nil}
use Rattle.iv_term.specs.Typ.{fun}
use Rattle.iv_term.specs.Term.{lam, tm_cons}
use Rattle.iv_hsub.specs.Typing.{cod, types_len, type_at, join, result_type, type_of, IsTerm, AreArgs, HasType}
use Rattle.iv_hsub.specs.Index.{index, loose}
use Rattle.iv_hsub.specs.Hsub.{happ}
use Rattle.iv_hsub.specs.Retype.{retype, retype_all}
use Rattle.iv_hsub.specs.Inst.{use_value, inst, inst_all, HeadVars, Vars, AllVars}
use Rattle.iv_hsub.proofs.Stated.{bounds_shrink}
use Rattle.iv_laws.specs.Spines.{functions}
use Rattle.iv_subst.specs.TySubst.{put_typ, at}
use Rattle.iv_subst.proofs.Laws.Put.{same_name-turned}
use Rattle.iv_put.specs.Subst.{Substitution, by_map, value_of, values, applied, Values}
use Rattle.iv_put.proofs.Theory.{map-by}
use Rattle.iv_put.proofs.Facts.Entries.{map-nothing}
use Rattle.iv_put.proofs.Facts.Passing.{retype-self, inst_stays}
use Rattle.iv_variables.specs.declared.kind.Kind.TheVariants.{Schematics}
use Rattle.iv_variables.specs.declared.variable.Variable.{Variable}
use Rattle.iv_variables.specs.Firsts.{of_kind, has_name}
use Rattle.iv_variables.specs.Variables.{typ_variables, head_variables, variables, terms_variables}
use Rattle.iv_unify.specs.Pairs.{has_schematic}
use Rattle.iv_unify.specs.Values.{single, abstracted, among, and_new, index_of, and_index, indices, assigned_at, assigned, types_at, indexed}
use Rattle.iv_unify.specs.Scope.{Scope, InScope, Over, Leads}
use Rattle.iv_unify.specs.Laws.{AssignedIsAbsent}
use Rattle.iv_unify.proofs.Sound.{AssignsAll}
use Rattle.iv_unify.proofs.Bind.{abstracted-has, abstracted-back, abstracted-vars}

-- terms that are distinct bound variables are their indices
some-list : (x y : List ℕ) → Some x ≡ Some y → x ≡ y
some-list x y e = cc

some-index : (x y : ℕ) → Some x ≡ Some y → x ≡ y
some-index x y e = cc

index-is : (t : Term) (i : ℕ) → index_of t ≡ Some i → t ≡ index i
index-is (lam a b) i q = absurd (let bad : None ≡ Some i = q in cc)
index-is (Spine (Bound n) Nil) i q = ap index (some-index n i q)
index-is (Spine (Bound n) (tm_cons u us)) i q = absurd (let bad : None ≡ Some i = q in cc)
index-is (Spine (Const c a) ts) i q = absurd (let bad : None ≡ Some i = q in cc)
index-is (Spine (Free x a) ts) i q = absurd (let bad : None ≡ Some i = q in cc)
index-is (Spine (Schematic x a) ts) i q = absurd (let bad : None ≡ Some i = q in cc)

new-is : (i : ℕ) (o : Option (List ℕ)) (is : List ℕ) → and_new i o ≡ Some is → (js : List ℕ) × ((o ≡ Some js) × (is ≡ i ∷ js))
new-is i None is q = absurd (let bad : None ≡ Some is = q in cc)
new-is i (Some js) is q = go (among i js) q
  where
    go : (v : Bool) → (if v then None else Some (i ∷ js)) ≡ Some is → (ks : List ℕ) × ((Some js ≡ Some ks) × (is ≡ i ∷ ks))
    go true h = absurd (let bad : None ≡ Some is = h in cc)
    go false h = (js, (refl, sym (some-list (i ∷ js) is h)))

pub indices-is : (ts : Terms) (is : List ℕ) → indices ts ≡ Some is → ts ≡ indexed is
unfolding indices indexed
indices-is Nil is q = ap indexed (some-list [] is q)
indices-is (tm_cons t ts) is q = go (index_of t) refl (λ js r. indices-is ts js r) q
  where
    go : (o : Option ℕ) → index_of t ≡ o → ((js : List ℕ) → indices ts ≡ Some js → ts ≡ indexed js) → and_index o (indices ts) ≡ Some is → tm_cons t ts ≡ indexed is
    go None e rec h = absurd (let bad : None ≡ Some is = h in cc)
    go (Some i) e rec h =
        let n = new-is i (indices ts) is h in
        let x = index-is t i e in
        let y = rec n.0 n.1.0 in
        (λ z. tm_cons (x z) (y z)) ∙ ap indexed (sym n.1.1)

-- the type of what has them as arguments
pub indexed-type : (is : List ℕ) (bs : Types) (a c : Typ) → AreArgs bs a (indexed is) → result_type a (indexed is) ≡ c → a ≡ functions (types_at bs is) c
unfolding indexed types_at functions result_type type_of
indexed-type [] bs a c p q = q
indexed-type (i ∷ is) bs a c p q = p.0 ∙ ap (fun (type_at bs i)) (indexed-type is bs (cod a) c p.1.1 q)

-- no types put
by-nothing : (v : Typ) → by_map [] v ≡ v
unfolding at
by-nothing (Con c ts) = refl
by-nothing (Fixed a) = refl
by-nothing (TypeVariable x) = refl

pub retype-nothing : (t : Term) → retype (by_map []) t ≡ t
retype-nothing t = (λ i. retype (λ (v : Typ). by-nothing v i) t) ∙ retype-self t

pub put-nothing : (a : Typ) → put_typ (at []) a ≡ a
put-nothing a = sym (map-by [] a) ∙ map-nothing a

-- indices stay
pub indexed-stays : (s : Substitution) (is : List ℕ) → inst_all (values s) (retype_all (by_map s.0) (indexed is)) ≡ indexed is
unfolding inst retype indexed
indexed-stays s [] = refl
indexed-stays s (i ∷ is) = ap (λ z. tm_cons (index i) z) (indexed-stays s is)

-- a variable that isn't in a term
module _ (x : Name) (v : Term) where
  abbrev put_here : Head → Typ → Type 0
  put_here h a = values (single x v) h ≡ None

  absent-head : (h : Head) → list_any (λ w. of_kind Schematics w && has_name x w) (head_variables h) ≡ false → HeadVars put_here h
  unfolding value_of
  absent-head (Const c a) q = tt
  absent-head (Free y a) q = refl
  absent-head (Schematic y a) q =
      let r = (or_parts (same_name x y) (list_any (λ w. of_kind Schematics w && has_name x w) (typ_variables a)) q).0 in
      ap (λ b. if b then Some v else None) (same_name-turned x y r)
  absent-head (Bound n) q = tt

  two-parts : (vs ws : List Variable) → list_any (λ w. of_kind Schematics w && has_name x w) (vs ++ ws) ≡ false
      → (list_any (λ w. of_kind Schematics w && has_name x w) vs ≡ false) × (list_any (λ w. of_kind Schematics w && has_name x w) ws ≡ false)
  two-parts vs ws q =
      or_parts (list_any (λ w. of_kind Schematics w && has_name x w) vs) (list_any (λ w. of_kind Schematics w && has_name x w) ws)
      (sym (list_any-append (λ w. of_kind Schematics w && has_name x w) vs ws) ∙ q)

  mutual
    unfolding variables

    absent-vars : (t : Term) → has_schematic x t ≡ false → Vars put_here t
    absent-vars (lam a b) q = absent-vars b (two-parts (typ_variables a) (variables b) q).1
    absent-vars (Spine h ts) q = let r = two-parts (head_variables h) (terms_variables ts) q in (absent-head h r.0, absent-all_vars ts r.1)

    absent-all_vars : (ts : Terms) → list_any (λ w. of_kind Schematics w && has_name x w) (terms_variables ts) ≡ false → AllVars put_here ts
    absent-all_vars Nil q = tt
    absent-all_vars (tm_cons t ts) q = let r = two-parts (variables t) (terms_variables ts) q in (absent-vars t r.0, absent-all_vars ts r.1)

  pub absent-stays : (bs : Types) (t : Term) → IsTerm bs t → has_schematic x t ≡ false → applied (single x v) t ≡ t
  absent-stays bs t p q = ap (inst (values (single x v))) (retype-nothing t) ∙ inst_stays (values (single x v)) bs t p (absent-vars t q)

  -- the variable at arguments
  pub single-at : (a : Typ) (is : List ℕ) → applied (single x v) (Spine (Schematic x a) (indexed is)) ≡ happ a v (indexed is)
  unfolding inst retype value_of
  single-at a is =
      let e = map-nothing a in
      let n = ap (λ b. if b then Some v else None) (same_name-same x) in
      let k = indexed-stays (single x v) is in
      λ i. use_value (n i) (Schematic x (e i)) (e i) (k i)

  -- one value of the variable's type leads from a scope to itself
  value-of-single : (y : Name) (w : Term) → value_of ((x, v) ∷ []) y ≡ Some w → (y ≡ x) × (v ≡ w)
  unfolding value_of
  value-of-single y w q = go (same_name y x) refl q
    where
      go : (b : Bool) → same_name y x ≡ b → (if b then Some v else None) ≡ Some w → (y ≡ x) × (v ≡ w)
      go true h k = (same_name-true y x h, let e : v ≡ w = cc in e)
      go false h k = absurd (let bad : None ≡ Some w = k in cc)

  pub single-leads : (G : Scope) → HasType no_types (G.typ x) v → Over G v → Leads (single x v) G G
  unfolding Values
  single-leads G p o = record {
    closed = (p.0, tt);
    over = (o, tt);
    typed = λ y w n q.
        let k = value-of-single y w q in
        ap (type_of no_types) (sym k.1) ∙ p.1 ∙ ap G.typ (sym k.0) ∙ sym (put-nothing (G.typ y));
    stays = λ y n q. sym (put-nothing (G.typ y));
    grows = omega arith;
  }

not-true : (b : Bool) → not b ≡ true → b ≡ false
not-true true q = sym q
not-true false q = refl

some-substitution : (x y : Substitution) → Some x ≡ Some y → x ≡ y
some-substitution x y e = cc

closed-has : (bs : Types) (c : Typ) (t : Term) → loose t ≡ 0 → HasType bs c t → HasType no_types c t
unfolding types_len join
closed-has bs c t q p = bounds_shrink no_types bs c t (omega (arith, q)) p

assigned-alike : (G : Scope) (bs : Types) (x : Name) (a : Typ) (ts : Terms) (t : Term) (e : Substitution) → IsTerm bs (Spine (Schematic x a) ts) → IsTerm bs t
    → Over G (Spine (Schematic x a) ts) → Over G t → result_type a ts ≡ type_of bs t → (o : Option (List ℕ)) → indices ts ≡ o → assigned_at bs x o t ≡ Some e
    → Leads e G G × (applied e (Spine (Schematic x a) ts) ≡ applied e t)
assigned-alike G bs x a ts t e p q v w s None i r = absurd (let bad : None ≡ Some e = r in cc)
assigned-alike G bs x a ts t e p q v w s (Some is) i r =
    go (nat_eq (loose (abstracted is bs t)) 0 && not (has_schematic x t)) refl r
  where
    go : (b : Bool) → (nat_eq (loose (abstracted is bs t)) 0 && not (has_schematic x t)) ≡ b → (if b then Some (single x (abstracted is bs t)) else None) ≡ Some e
        → Leads e G G × (applied e (Spine (Schematic x a) ts) ≡ applied e t)
    go false h k = absurd (let bad : None ≡ Some e = k in cc)
    go true h k =
        let value = abstracted is bs t in
        let parts = and_parts (nat_eq (loose value) 0) (not (has_schematic x t)) h in
        let listed = indices-is ts is i in
        let c = type_of bs t in
        let args : AreArgs bs a (indexed is) = subst (AreArgs bs a) listed p.1 in
        let type_is : a ≡ functions (types_at bs is) c = indexed-type is bs a c args (ap (result_type a) (sym listed) ∙ s) in
        let has = abstracted-has is bs c t (q, refl) in
        let closed = closed-has bs (functions (types_at bs is) c) value (eqb-true (loose value) 0 parts.0) has in
        let leads = single-leads x value G (closed.0, closed.1 ∙ sym type_is ∙ v.0.1) (abstracted-vars (InScope G) is bs t w) in
        let left = ap (λ z. applied (single x value) (Spine (Schematic x a) z)) listed ∙ single-at x value a is ∙ ap (λ z. happ z value (indexed is)) type_is ∙ abstracted-back is bs c t (q, refl) in
        let right = absent-stays x value bs t q (not-true (has_schematic x t) parts.1) in
        subst (λ z. Leads z G G × (applied z (Spine (Schematic x a) ts) ≡ applied z t)) (some-substitution (single x value) e k) (leads, left ∙ sym right)

assigns-by : (G : Scope) (bs : Types) (l t : Term) (e : Substitution) → IsTerm bs l → IsTerm bs t → Over G l → Over G t → type_of bs l ≡ type_of bs t → assigned bs l t ≡ Some e
    → Leads e G G × (applied e l ≡ applied e t)
unfolding type_of
assigns-by G bs (lam a b) t e p q v w s r = absurd (let bad : None ≡ Some e = r in cc)
assigns-by G bs (Spine (Const c a) ts) t e p q v w s r = absurd (let bad : None ≡ Some e = r in cc)
assigns-by G bs (Spine (Free x a) ts) t e p q v w s r = absurd (let bad : None ≡ Some e = r in cc)
assigns-by G bs (Spine (Bound n) ts) t e p q v w s r = absurd (let bad : None ≡ Some e = r in cc)
assigns-by G bs (Spine (Schematic x a) ts) t e p q v w s r = assigned-alike G bs x a ts t e p q v w s (indices ts) refl r

pub assigns_all : AssignsAll
assigns_all G p e r q = assigns-by G p.bounds p.left p.right e r.over.left_term r.over.right_term r.over.left_over r.over.right_over r.same q

-- the assigned variable is in no value
absent-at : (bs : Types) (x : Name) (o : Option (List ℕ)) (t : Term) (e : Substitution) → assigned_at bs x o t ≡ Some e → Values (Vars (λ h a. values e h ≡ None)) e.1
unfolding Values
absent-at bs x None t e r = absurd (let bad : None ≡ Some e = r in cc)
absent-at bs x (Some is) t e r = go (nat_eq (loose (abstracted is bs t)) 0 && not (has_schematic x t)) refl r
  where
    go : (b : Bool) → (nat_eq (loose (abstracted is bs t)) 0 && not (has_schematic x t)) ≡ b → (if b then Some (single x (abstracted is bs t)) else None) ≡ Some e → Values (Vars (λ h a. values e h ≡ None)) e.1
    go false h k = absurd (let bad : None ≡ Some e = k in cc)
    go true h k =
        let v = abstracted is bs t in
        let q = not-true (has_schematic x t) (and_parts (nat_eq (loose v) 0) (not (has_schematic x t)) h).1 in
        subst (λ z. Values (Vars (λ h a. values z h ≡ None)) z.1) (some-substitution (single x v) e k)
        (abstracted-vars (λ h a. values (single x v) h ≡ None) is bs t (absent-vars x v t q), tt)

pub assigned_absent : AssignedIsAbsent
assigned_absent bs (lam a b) t e r = absurd (let bad : None ≡ Some e = r in cc)
assigned_absent bs (Spine (Const c a) ts) t e r = absurd (let bad : None ≡ Some e = r in cc)
assigned_absent bs (Spine (Free x a) ts) t e r = absurd (let bad : None ≡ Some e = r in cc)
assigned_absent bs (Spine (Bound n) ts) t e r = absurd (let bad : None ≡ Some e = r in cc)
assigned_absent bs (Spine (Schematic x a) ts) t e r = absent-at bs x (indices ts) t e r
