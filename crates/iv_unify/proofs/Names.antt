-- The names of a leaf's variables.
use Rattle.std.proofs.Common.{◌≡◌, ℕ, zero, suc, ◌+◌, ◌≤◌, Bool, true, false, ◌&&◌, nat_eq, nat_lt, not, if◌then◌else◌, List, [], ◌∷◌, ◌++◌, length, Option, Some, None, refl, subst, arith}
use Rattle.std.specs.Str.{bytes_eq}
use Rattle.iv_text.specs.declared.name.Name.{Name}
use Rattle.iv_text.specs.Name.{same_name}
use Rattle.iv_term.specs.declared.typ.Typ.{Typ}
use Rattle.iv_term.specs.declared.typ.Types.{Types}
use Rattle.iv_term.specs.declared.typ.Typ.TheBlock.{Con, Fixed, Schematic as TypeVariable, Nil as no_types}
use Rattle.iv_term.specs.declared.term.Head.{Head}
use Rattle.iv_term.specs.declared.term.Head.TheVariants.{Const, Free, Schematic, Bound}
use Rattle.iv_term.specs.declared.term.Term.{Term}
use Rattle.iv_term.specs.declared.term.Terms.{Terms}
use Rattle.iv_term.specs.declared.term.Term.TheBlock.{Spine, Nil}
use Rattle.iv_term.specs.Typ.{prop, ty_cons, same_typ}
use Rattle.iv_term.specs.Term.{lam, tm_cons}
use Rattle.iv_hsub.specs.Typing.{types_len, type_of}
use Rattle.iv_hsub.specs.Index.{loose}
use Rattle.iv_hsub.specs.Retype.{retype_head, retype}
use Rattle.iv_hsub.specs.Inst.{HeadVars, Vars, AllVars}
use Rattle.iv_laws.specs.Forms.{body}
use Rattle.iv_subst.specs.TySubst.{TyMap}
use Rattle.iv_subst.specs.Unifier.{unified}
use Rattle.iv_put.specs.Subst.{TermMap, Substitution, by_map, value_of, has_value, values, under as under_values, unhidden, applied, composed}
use Rattle.iv_put.proofs.Theory.{vars-retype, Brings, inst-vars}
use Rattle.iv_seq.specs.SearchTree.{SearchTree, none, one, large}
use Rattle.iv_unify.specs.declared.pair.Pair.{Pair}
use Rattle.iv_unify.specs.Pairs.{pair, typed, all_under, all_typed, is_flexible, is_flex_flex, turned, first_rigid, others, has_schematic, variables_in}
use Rattle.iv_unify.specs.Simplify.{in_pairs, and_first, Look, stays, clash, opens, opened, look_heads, look, Simple, kept, with_types, looked, turn, simplify, total, simplified, is_function, long, all_long}
use Rattle.iv_unify.specs.Values.{single, numbered, abstracted, indices, assigned_at, assigned, taken, domains, target, lams, own, new_variables, candidate, Choice, projected, how_many, projections, imitation, choices_at, choices, indexed, new_at, both, kept_places, closing_by, closing_of, closing}
use Rattle.iv_unify.specs.Unifiers.{Settled, clashed, stuck, flexible, assigning, settling, with_simple, settle, settled, close, numbered_to, next_of_all, branches, settled_tree, chosen, grown}
use Rattle.iv_unify.specs.Laws.{EachLeaf}
use Rattle.iv_unify.specs.Names.{Named, AreNamed, HasNames, LeavesKeepNames}
use Rattle.iv_unify.proofs.Sound.{EachChoice}
use Rattle.iv_unify.proofs.Bodies.{body-vars}
use Rattle.iv_unify.proofs.Bind.{abstracted-vars}
use Rattle.iv_unify.proofs.Choose.{lams-vars}

module _ (P : Name → Type 0) where
  abbrev Good : Term → Type 0
  Good t = Vars (Named P) t

  abbrev Pairs : Pair → Type 0
  Pairs p = Good p.left × Good p.right

  typed-good : (s : TyMap) (t : Term) → Good t → Good (retype (by_map s) t)
  typed-good s t p = vars-retype (by_map s) (Named P) (Named P) head t p
    where
      head : (h : Head) → HeadVars (Named P) h → HeadVars (Named P) (retype_head (by_map s) h)
      head (Const c a) p = tt
      head (Free x a) p = tt
      head (Schematic x a) p = p
      head (Bound n) p = tt

  value-good : (es : TermMap) (x : Name) (v : Term) → HasNames P es → value_of es x ≡ Some v → Good v
  unfolding HasNames value_of
  value-good [] x v k q = absurd (let bad : None ≡ Some v = q in cc)
  value-good (e ∷ es) x v k q = go (same_name x e.0) (λ r. value-good es x v k.1 r) q
    where
      go : (b : Bool) → (value_of es x ≡ Some v → Good v) → (if b then Some e.1 else value_of es x) ≡ Some v → Good v
      go true rec r = let s : e.1 ≡ v = cc in subst Good s k.0.1
      go false rec r = rec r

  applied-good : (e : Substitution) → HasNames P e.1 → (t : Term) → Good t → Good (applied e t)
  applied-good e k t p =
      inst-vars (Named P) (values e) (retype (by_map e.0) t) (vars-retype (by_map e.0) (Named P) (Brings (Named P) (values e)) head t p)
    where
      head : (h : Head) → HeadVars (Named P) h → HeadVars (Brings (Named P) (values e)) (retype_head (by_map e.0) h)
      head (Const c a) p = tt
      head (Free x a) p = (λ v q. absurd (let bad : None ≡ Some v = q in cc), λ q. tt)
      head (Schematic x a) p = (λ v q. value-good e.1 x v k q, λ q. p)
      head (Bound n) p = tt

  all_under-good : (e : Substitution) → HasNames P e.1 → (ps : List Pair) → AreNamed P ps → AreNamed P (all_under e ps)
  unfolding AreNamed all_under
  all_under-good e k [] o = tt
  all_under-good e k (p ∷ ps) o = ((applied-good e k p.left o.0.0, applied-good e k p.right o.0.1), all_under-good e k ps o.1)

  -- compositions
  names-under : (e : Substitution) → HasNames P e.1 → (es : TermMap) → HasNames P es → HasNames P (under_values e es)
  unfolding HasNames under_values
  names-under e k [] o = tt
  names-under e k (x ∷ es) o = ((o.0.0, applied-good e k x.1 o.0.1), names-under e k es o.1)

  names-append : (es fs : TermMap) → HasNames P es → HasNames P fs → HasNames P (es ++ fs)
  unfolding HasNames
  names-append [] fs p q = q
  names-append (e ∷ es) fs p q = (p.0, names-append es fs p.1 q)

  names-unhidden : (es fs : TermMap) → HasNames P fs → HasNames P (unhidden es fs)
  unfolding HasNames unhidden
  names-unhidden es [] p = tt
  names-unhidden es (f ∷ fs) p = go (has_value es f.0) (names-unhidden es fs p.1)
    where
      go : (b : Bool) → HasNames P (unhidden es fs) → HasNames P (if b then unhidden es fs else f ∷ unhidden es fs)
      go true r = r
      go false r = (p.0, r)

  names-composed : (s e : Substitution) → HasNames P s.1 → HasNames P e.1 → HasNames P (composed s e).1
  names-composed s e p q = names-append (under_values e s.1) (unhidden s.1 e.1) (names-under e q s.1 p) (names-unhidden s.1 e.1 q)

  -- simplification
  abbrev IfPairs : Option (List Pair) → Type 0
  IfPairs None = Unit {0}
  IfPairs (Some ps) = AreNamed P ps

  pairs-good : (bs : Types) (ts us : Terms) → AllVars (Named P) ts → AllVars (Named P) us → IfPairs (in_pairs bs ts us)
  unfolding AreNamed in_pairs
  pairs-good bs Nil Nil p q = tt
  pairs-good bs Nil (tm_cons u us) p q = tt
  pairs-good bs (tm_cons t ts) Nil p q = tt
  pairs-good bs (tm_cons t ts) (tm_cons u us) p q = go (in_pairs bs ts us) (pairs-good bs ts us p.1 q.1)
    where
      go : (o : Option (List Pair)) → IfPairs o → IfPairs (and_first (pair bs t u) o)
      go None k = tt
      go (Some ps) k = ((p.0, q.0), k)

  abbrev IfOpens : Look → Type 0
  IfOpens stays = Unit {0}
  IfOpens clash = Unit {0}
  IfOpens (opens a b ps) = AreNamed P ps

  opened-good : (v : Bool) (a b : Typ) (o : Option (List Pair)) → IfPairs o → IfOpens (opened v a b o)
  opened-good true a b None k = tt
  opened-good true a b (Some ps) k = k
  opened-good false a b o k = tt

  heads-good : (bs : Types) (h k : Head) (ts us : Terms) → AllVars (Named P) ts → AllVars (Named P) us → IfOpens (look_heads bs h ts k us)
  heads-good bs (Schematic x a) k ts us p q = tt
  heads-good bs (Const c a) (Schematic y b) ts us p q = tt
  heads-good bs (Const c a) (Const d b) ts us p q = opened-good (bytes_eq c d) a b (in_pairs bs ts us) (pairs-good bs ts us p q)
  heads-good bs (Const c a) (Free y b) ts us p q = tt
  heads-good bs (Const c a) (Bound m) ts us p q = tt
  heads-good bs (Free x a) (Schematic y b) ts us p q = tt
  heads-good bs (Free x a) (Const d b) ts us p q = tt
  heads-good bs (Free x a) (Free y b) ts us p q = opened-good (same_name x y && same_typ a b) a b (in_pairs bs ts us) (pairs-good bs ts us p q)
  heads-good bs (Free x a) (Bound m) ts us p q = tt
  heads-good bs (Bound n) (Schematic y b) ts us p q = tt
  heads-good bs (Bound n) (Const d b) ts us p q = tt
  heads-good bs (Bound n) (Free y b) ts us p q = tt
  heads-good bs (Bound n) (Bound m) ts us p q = opened-good (nat_eq n m) prop prop (in_pairs bs ts us) (pairs-good bs ts us p q)

  look-good : (bs : Types) (t u : Term) → Good t → Good u → IfOpens (look bs t u)
  unfolding AreNamed
  look-good bs (lam a b) u p q = ((p, body-vars (Named P) u q), tt)
  look-good bs (Spine h ts) (lam a b) p q = ((body-vars (Named P) (Spine h ts) p, q), tt)
  look-good bs (Spine h ts) (Spine k us) p q = heads-good bs h k ts us p.1 q.1

  abbrev IfSimple : Simple → Type 0
  IfSimple None = Unit {0}
  IfSimple (Some r) = AreNamed P r.1

  types-good : (o : Option TyMap) (next : TyMap → Simple) → ((r : TyMap) → IfSimple (next r)) → IfSimple (with_types o next)
  types-good None next k = tt
  types-good (Some r) next k = k r

  named-append : (ps qs : List Pair) → AreNamed P ps → AreNamed P qs → AreNamed P (ps ++ qs)
  unfolding AreNamed
  named-append [] qs p q = q
  named-append (x ∷ ps) qs p q = (p.0, named-append ps qs p.1 q)

  kept-good : (p : Pair) (o : Simple) → Pairs p → IfSimple o → IfSimple (kept p o)
  unfolding AreNamed
  kept-good p None g k = tt
  kept-good p (Some r) g k = (g, k)

  looked-good : (next : TyMap → List Pair → Simple) → ((r : TyMap) (qs : List Pair) → AreNamed P qs → IfSimple (next r qs)) → (s : TyMap) (p : Pair) (ps : List Pair) → Pairs p → AreNamed P ps
      → (l : Look) → IfOpens l → IfSimple (looked next s p ps l)
  looked-good next ok s p ps g o stays k = kept-good p (next s ps) g (ok s ps o)
  looked-good next ok s p ps g o clash k = tt
  looked-good next ok s p ps g o (opens a b qs) k = types-good (unified a b s) (λ r. next r (qs ++ ps)) (λ r. ok r (qs ++ ps) (named-append qs ps k o))

  typed-pair : (s : TyMap) (p : Pair) → Pairs p → Pairs (typed s p)
  typed-pair s p g = (typed-good s p.left g.0, typed-good s p.right g.1)

  turn-good : (next : TyMap → List Pair → Simple) → ((r : TyMap) (qs : List Pair) → AreNamed P qs → IfSimple (next r qs)) → (s : TyMap) (p : Pair) (ps : List Pair) → Pairs p → AreNamed P ps
      → IfSimple (turn next s p ps)
  turn-good next ok s p ps g o =
      types-good (unified (type_of p.bounds p.left) (type_of p.bounds p.right) s) (λ r. looked next r (typed r p) ps (look (typed r p).bounds (typed r p).left (typed r p).right))
      (λ r. let k = typed-pair r p g in
      looked-good next ok r (typed r p) ps k o (look (typed r p).bounds (typed r p).left (typed r p).right) (look-good (typed r p).bounds (typed r p).left (typed r p).right k.0 k.1))

  simplify-good : (n : ℕ) (s : TyMap) (ps : List Pair) → AreNamed P ps → IfSimple (simplify n s ps)
  unfolding AreNamed simplify
  simplify-good zero s [] o = tt
  simplify-good (suc n) s [] o = tt
  simplify-good zero s (p ∷ ps) o = tt
  simplify-good (suc n) s (p ∷ ps) o = turn-good (simplify n) (λ r qs k. simplify-good n r qs k) s (typed s p) ps (typed-pair s p o.0) o.1

  long-good : (a : Typ) (bs : Types) (t u : Term) → Good t → Good u → Pairs (long a bs t u)
  unfolding long
  long-good (Con c (ty_cons a (ty_cons b no_types))) bs t u p q =
      go (is_function c) (long-good b (ty_cons a bs) (body t) (body u) (body-vars (Named P) t p) (body-vars (Named P) u q))
    where
      go : (v : Bool) → Pairs (long b (ty_cons a bs) (body t) (body u)) → Pairs (if v then long b (ty_cons a bs) (body t) (body u) else pair bs t u)
      go true k = k
      go false k = (p, q)
  long-good (Con c no_types) bs t u p q = (p, q)
  long-good (Con c (ty_cons a no_types)) bs t u p q = (p, q)
  long-good (Con c (ty_cons a (ty_cons b (ty_cons d ds)))) bs t u p q = (p, q)
  long-good (Fixed c) bs t u p q = (p, q)
  long-good (TypeVariable c) bs t u p q = (p, q)

  ready-good : (r : TyMap) (qs : List Pair) → AreNamed P qs → AreNamed P (all_long (all_typed r qs))
  unfolding AreNamed all_long all_typed
  ready-good r [] o = tt
  ready-good r (q ∷ qs) o =
      let k = typed-pair r q o.0 in
      (long-good (type_of (typed r q).bounds (typed r q).left) (typed r q).bounds (typed r q).left (typed r q).right k.0 k.1, ready-good r qs o.1)

  -- the first pair that isn't flex-flex
  turned-good : (p : Pair) → Pairs p → Pairs (turned p)
  turned-good p g = go (is_flexible p.left)
    where
      go : (v : Bool) → Pairs (if v then p else pair p.bounds p.right p.left)
      go true = g
      go false = (g.1, g.0)

  first-good : (qs : List Pair) (p : Pair) → AreNamed P qs → first_rigid qs ≡ Some p → Pairs p
  unfolding AreNamed first_rigid
  first-good [] p o q = absurd (let bad : None ≡ Some p = q in cc)
  first-good (x ∷ qs) p o q = go (is_flex_flex x) (λ r. first-good qs p o.1 r) q
    where
      go : (v : Bool) → (first_rigid qs ≡ Some p → Pairs p) → (if v then first_rigid qs else Some (turned x)) ≡ Some p → Pairs p
      go true rec r = rec r
      go false rec r = let s : turned x ≡ p = cc in subst Pairs s (turned-good x o.0)

  others-good : (qs : List Pair) → AreNamed P qs → AreNamed P (others qs)
  unfolding AreNamed others
  others-good [] o = tt
  others-good (x ∷ qs) o = go (is_flex_flex x) (others-good qs o.1)
    where
      go : (v : Bool) → AreNamed P (others qs) → AreNamed P (if v then x ∷ others qs else qs)
      go true k = (o.0, k)
      go false k = o.1

  -- assignment
  assigned_at-good : (bs : Types) (x : Name) (o : Option (List ℕ)) (t : Term) (e : Substitution) → P x → Good t → assigned_at bs x o t ≡ Some e → HasNames P e.1
  unfolding HasNames
  assigned_at-good bs x None t e p q r = absurd (let bad : None ≡ Some e = r in cc)
  assigned_at-good bs x (Some is) t e p q r = go (nat_eq (loose (abstracted is bs t)) 0 && not (has_schematic x t)) r
    where
      go : (v : Bool) → (if v then Some (single x (abstracted is bs t)) else None) ≡ Some e → HasNames P e.1
      go false k = absurd (let bad : None ≡ Some e = k in cc)
      go true k = let s : single x (abstracted is bs t) ≡ e = cc in subst (λ z. HasNames P z.1) s ((p, abstracted-vars (Named P) is bs t q), tt)

  assigned-good : (bs : Types) (l t : Term) (e : Substitution) → Good l → Good t → assigned bs l t ≡ Some e → HasNames P e.1
  assigned-good bs (lam a b) t e p q r = absurd (let bad : None ≡ Some e = r in cc)
  assigned-good bs (Spine (Const c a) ts) t e p q r = absurd (let bad : None ≡ Some e = r in cc)
  assigned-good bs (Spine (Free x a) ts) t e p q r = absurd (let bad : None ≡ Some e = r in cc)
  assigned-good bs (Spine (Bound n) ts) t e p q r = absurd (let bad : None ≡ Some e = r in cc)
  assigned-good bs (Spine (Schematic x a) ts) t e p q r = assigned_at-good bs x (indices ts) t e p.0 q r

  -- settling
  abbrev Fine : Settled → Type 0
  Fine clashed = Unit {0}
  Fine (stuck p ps s) = Pairs p × (AreNamed P ps × HasNames P s.1)
  Fine (flexible ps s) = AreNamed P ps × HasNames P s.1

  module _ (next : List Pair → Substitution → Settled) (fine : (ps : List Pair) (s : Substitution) → AreNamed P ps → HasNames P s.1 → Fine (next ps s)) where
    assigning-fine : (qs : List Pair) (s : Substitution) (p : Pair) (o : Option Substitution) → AreNamed P qs → HasNames P s.1 → first_rigid qs ≡ Some p → assigned p.bounds p.left p.right ≡ o
        → Fine (assigning (λ e. next (all_under e (others qs)) (composed s e)) p qs s o)
    assigning-fine qs s p None g k q a = (first-good qs p g q, (g, k))
    assigning-fine qs s p (Some e) g k q a =
        let h = first-good qs p g q in
        let n = assigned-good p.bounds p.left p.right e h.0 h.1 a in
        fine (all_under e (others qs)) (composed s e) (all_under-good e n (others qs) (others-good qs g)) (names-composed s e k n)

    settling-fine : (qs : List Pair) (s : Substitution) (o : Option Pair) → AreNamed P qs → HasNames P s.1 → first_rigid qs ≡ o → Fine (settling next qs s o)
    settling-fine qs s None g k q = (g, k)
    settling-fine qs s (Some p) g k q = assigning-fine qs s p (assigned p.bounds p.left p.right) g k q refl

    simple-fine : (s : Substitution) (o : Simple) → HasNames P s.1 → IfSimple o → Fine (with_simple next s o)
    unfolding HasNames
    simple-fine s None k g = tt
    simple-fine s (Some r) k g =
        settling-fine (all_long (all_typed r.0 r.1)) (composed s (r.0, [])) (first_rigid (all_long (all_typed r.0 r.1))) (ready-good r.0 r.1 g) (names-composed s (r.0, []) k tt) refl

  settle-fine : (n : ℕ) (ps : List Pair) (s : Substitution) → AreNamed P ps → HasNames P s.1 → Fine (settle n ps s)
  unfolding settle
  settle-fine zero ps s g k = tt
  settle-fine (suc n) ps s g k = simple-fine (settle n) (λ qs r o h. settle-fine n qs r o h) s (simplified ps) k (simplify-good (total ps) [] ps g)

  -- new variables
  abbrev Above : ℕ → Type 0
  Above m = (x : Name) → m ≤ x.number → P x

  own-good : (n : ℕ) → AllVars (Named P) (own n)
  unfolding own
  own-good zero = tt
  own-good (suc n) = ((tt, tt), own-good n)

  news-good : (x : Name) (m : ℕ) (ds bs : Types) → Above m → AllVars (Named P) (new_variables x m ds bs)
  unfolding new_variables
  news-good x m ds no_types k = tt
  news-good x m ds (ty_cons b bs) k = ((k (numbered x m) (omega arith), own-good (types_len ds)), news-good x (suc m) ds bs (λ y q. k y (omega (arith, q))))

  candidate-good : (x : Name) (m : ℕ) (ds : Types) (h : Head) (bs : Types) → Above m → HeadVars (Named P) h → Good (candidate x m ds h bs)
  candidate-good x m ds h bs k p = lams-vars (Named P) ds (Spine h (new_variables x m ds bs)) (p, news-good x m ds bs k)

  abbrev Chosen : ℕ → Choice → Type 0
  Chosen m c = HasNames P c.0.1 × (m ≤ c.1)

  each-append : (Q : Choice → Type 0) (cs ds : List Choice) → EachChoice Q cs → EachChoice Q ds → EachChoice Q (cs ++ ds)
  unfolding EachChoice
  each-append Q [] ds p q = q
  each-append Q (c ∷ cs) ds p q = (p.0, each-append Q cs ds p.1 q)

  projected-good : (x : Name) (m : ℕ) (ds : Types) (k : ℕ) (bs : Types) (o : Option TyMap) (cs : List Choice) → Above m → P x → EachChoice (Chosen m) cs → EachChoice (Chosen m) (projected x m ds k bs o cs)
  unfolding EachChoice HasNames
  projected-good x m ds k bs None cs a p e = e
  projected-good x m ds k bs (Some r) cs a p e = ((((p, typed-good r (candidate x m ds (Bound k) bs) (candidate-good x m ds (Bound k) bs a tt)), tt), omega arith), e)

  projections-good : (x : Name) (m : ℕ) (ds bs : Types) (c : Typ) (ts : Terms) → Above m → P x → EachChoice (Chosen m) (projections x m ds bs c ts)
  unfolding EachChoice projections
  projections-good x m ds bs c Nil a p = tt
  projections-good x m ds bs c (tm_cons t ts) a p =
      projected-good x m ds (how_many ts) (domains (type_of bs t)) (unified (target (type_of bs t)) c []) (projections x m ds bs c ts) a p (projections-good x m ds bs c ts a p)

  imitation-good : (x : Name) (m : ℕ) (ds : Types) (t : Term) → Above m → P x → EachChoice (Chosen m) (imitation x m ds t)
  unfolding EachChoice HasNames
  imitation-good x m ds (lam a b) k p = tt
  imitation-good x m ds (Spine (Const c a) us) k p = ((((p, candidate-good x m ds (Const c a) (taken a us) k tt), tt), omega arith), tt)
  imitation-good x m ds (Spine (Free y a) us) k p = ((((p, candidate-good x m ds (Free y a) (taken a us) k tt), tt), omega arith), tt)
  imitation-good x m ds (Spine (Schematic y a) us) k p = tt
  imitation-good x m ds (Spine (Bound n) us) k p = tt

  choices-good : (m : ℕ) (bs : Types) (l t : Term) → Above m → Good l → EachChoice (Chosen m) (choices_at m bs l t)
  unfolding EachChoice
  choices-good m bs (lam a b) t k p = tt
  choices-good m bs (Spine (Const c a) ts) t k p = tt
  choices-good m bs (Spine (Free x a) ts) t k p = tt
  choices-good m bs (Spine (Bound n) ts) t k p = tt
  choices-good m bs (Spine (Schematic x a) ts) t k p =
      each-append (Chosen m) (projections x m (taken a ts) bs (type_of bs t) ts) (imitation x m (taken a ts) t)
      (projections-good x m (taken a ts) bs (type_of bs t) ts k p.0) (imitation-good x m (taken a ts) t k p.0)

  -- closing
  both-good : (x : Name) (v : Term) (y : Name) (w : Term) → P x → P y → Good v → Good w → HasNames P (both x v y w).1
  unfolding HasNames
  both-good x v y w p q g h = go (same_name x y)
    where
      go : (b : Bool) → HasNames P (if b then single x v else ([], (x, v) ∷ (y, w) ∷ [])).1
      go true = ((p, g), tt)
      go false = ((p, g), ((q, h), tt))

  indexed-good : (is : List ℕ) → AllVars (Named P) (indexed is)
  unfolding indexed
  indexed-good [] = tt
  indexed-good (i ∷ is) = ((tt, tt), indexed-good is)

  new-good : (x : Name) (m : ℕ) (bs : Types) (is : List ℕ) (c : Typ) → Above m → Good (new_at x m bs is c)
  new-good x m bs is c k = (k (numbered x m) (omega arith), indexed-good is)

  closing_by-good : (m : ℕ) (bs : Types) (c : Typ) (x : Name) (ds : Types) (y : Name) (es : Types) (o u : Option (List ℕ)) → Above m → P x → P y → HasNames P (closing_by m bs c x ds y es o u).1
  closing_by-good m bs c x ds y es (Some is) (Some js) k p q =
      let n = new-good x m bs (kept_places x y is js) c k in
      both-good x (abstracted is bs (new_at x m bs (kept_places x y is js) c)) y (abstracted js bs (new_at x m bs (kept_places x y is js) c)) p q
      (abstracted-vars (Named P) is bs (new_at x m bs (kept_places x y is js) c) n) (abstracted-vars (Named P) js bs (new_at x m bs (kept_places x y is js) c) n)
  closing_by-good m bs c x ds y es None u k p q =
      let n = new-good x m bs [] c k in
      both-good x (lams ds (new_at x m bs [] c)) y (lams es (new_at x m bs [] c)) p q (lams-vars (Named P) ds (new_at x m bs [] c) n) (lams-vars (Named P) es (new_at x m bs [] c) n)
  closing_by-good m bs c x ds y es (Some is) None k p q =
      let n = new-good x m bs [] c k in
      both-good x (lams ds (new_at x m bs [] c)) y (lams es (new_at x m bs [] c)) p q (lams-vars (Named P) ds (new_at x m bs [] c) n) (lams-vars (Named P) es (new_at x m bs [] c) n)

  closing-good : (m : ℕ) (bs : Types) (c : Typ) (l t : Term) → Above m → Good l → Good t → HasNames P (closing_of m bs c l t).1
  unfolding HasNames
  closing-good m bs c (Spine (Schematic x a) ts) (Spine (Schematic y b) us) k p q = closing_by-good m bs c x (taken a ts) y (taken b us) (indices ts) (indices us) k p.0 q.0
  closing-good m bs c (lam a b) t k p q = tt
  closing-good m bs c (Spine (Const d a) ts) t k p q = tt
  closing-good m bs c (Spine (Free d a) ts) t k p q = tt
  closing-good m bs c (Spine (Bound d) ts) t k p q = tt
  closing-good m bs c (Spine (Schematic x a) ts) (lam d b) k p q = tt
  closing-good m bs c (Spine (Schematic x a) ts) (Spine (Const d b) us) k p q = tt
  closing-good m bs c (Spine (Schematic x a) ts) (Spine (Free d b) us) k p q = tt
  closing-good m bs c (Spine (Schematic x a) ts) (Spine (Bound d) us) k p q = tt

  close-good : (n m : ℕ) (ps : List Pair) (s : Substitution) → Above m → AreNamed P ps → HasNames P s.1 → HasNames P (close n m ps s).1
  unfolding AreNamed close
  close-good zero m ps s a g k = k
  close-good (suc n) m [] s a g k = k
  close-good (suc n) m (p ∷ ps) s a g k =
      let e = closing m p in
      let h = closing-good m p.bounds (type_of p.bounds p.left) p.left p.right a g.0.0 g.0.1 in
      close-good n (suc m) (all_under e ps) (composed s e) (λ y q. a y (omega (arith, q))) (all_under-good e h ps g.1) (names-composed s e k h)

  -- the tree
  abbrev Holds : SearchTree Substitution → Type 0
  Holds t = EachLeaf (λ s. HasNames P s.1) t

  numbered-holds : (n : ℕ) (t : SearchTree Substitution) → Holds t → Holds (numbered_to n t)
  unfolding EachLeaf
  numbered-holds n t h = go (nat_lt 4294967295 n)
    where
      go : (v : Bool) → Holds (if v then large else t)
      go true = tt
      go false = h

  module _ (grow : ℕ → List Pair → Substitution → SearchTree Substitution) (holds : (m : ℕ) (ps : List Pair) (s : Substitution) → Above m → AreNamed P ps → HasNames P s.1 → Holds (grow m ps s)) where
    branches-hold : (m : ℕ) (ps : List Pair) (s : Substitution) (cs : List Choice) → Above m → AreNamed P ps → HasNames P s.1 → EachChoice (Chosen m) cs → Holds (branches grow ps s cs)
    unfolding EachLeaf EachChoice
    branches-hold m ps s [] a g k e = tt
    branches-hold m ps s (c ∷ cs) a g k e = (
      holds c.1 (all_under c.0 ps) (composed s c.0) (λ y q. a y (let h = e.0.1 in omega (arith, q, h))) (all_under-good c.0 e.0.0 ps g) (names-composed s c.0 k e.0.0),
      branches-hold m ps s cs a g k e.1,
    )

    chosen-holds : (m : ℕ) (p : Pair) (ps : List Pair) (s : Substitution) → Above m → Pairs p → AreNamed P ps → HasNames P s.1 → Holds (chosen grow m p ps s)
    unfolding EachLeaf
    chosen-holds m p ps s a h g k =
        numbered-holds (next_of_all m (choices m p)) (branches grow ps s (choices m p)) (branches-hold m ps s (choices m p) a g k (choices-good m p.bounds p.left p.right a h.0))

  tree-holds : (m : ℕ) (choose : Pair → List Pair → Substitution → SearchTree Substitution) → Above m
      → ((p : Pair) (ps : List Pair) (s : Substitution) → Pairs p → AreNamed P ps → HasNames P s.1 → Holds (choose p ps s)) → (r : Settled) → Fine r → Holds (settled_tree choose m r)
  unfolding EachLeaf
  tree-holds m choose a k clashed g = tt
  tree-holds m choose a k (stuck p ps s) g = k p ps s g.0 g.1.0 g.1.1
  tree-holds m choose a k (flexible ps s) g = numbered-holds (m + length ps) (one (close (length ps) m ps s)) (close-good (length ps) m ps s a g.0 g.1)

  grown-holds : (k m : ℕ) (ps : List Pair) (s : Substitution) → Above m → AreNamed P ps → HasNames P s.1 → Holds (grown k m ps s)
  unfolding EachLeaf grown
  grown-holds zero m ps s a g h = tree-holds m (λ p qs r. none) a (λ p qs r x y z. tt) (settled ps s) (settle-fine (suc (length (variables_in ps))) ps s g h)
  grown-holds (suc k) m ps s a g h =
      tree-holds m (chosen (grown k) m) a (λ p qs r x y z. chosen-holds (grown k) (λ n rs u b v w. grown-holds k n rs u b v w) m p qs r a x y z) (settled ps s)
      (settle-fine (suc (length (variables_in ps))) ps s g h)

pub leaves_keep_names : LeavesKeepNames
unfolding HasNames
leaves_keep_names test depth m ps a g = grown-holds (λ x. test x ≡ true) depth m ps ([], []) a g tt
