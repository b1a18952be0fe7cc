-- Simplification: what makes the pairs that stay alike makes the given ones alike.
use Rattle.std.proofs.Common.{◌≡◌, ℕ, zero, suc, ◌<◌, Bool, true, false, ◌&&◌, nat_eq, List, [], ◌∷◌, ◌++◌, Option, Some, None, refl, sym, ◌∙◌, ap, subst}
use Rattle.std.specs.Str.{bytes_eq}
use Rattle.std.proofs.Common.{eqb-true}
use Rattle.std.proofs.lemmas.Bool.{and_parts}
use Rattle.iv_text.specs.declared.name.Name.{Name}
use Rattle.iv_text.specs.Name.{same_name}
use Rattle.iv_text.proofs.Same.{same_text-true, same_name-true}
use Rattle.iv_term.specs.declared.typ.Typ.{Typ}
use Rattle.iv_term.specs.declared.typ.Types.{Types}
use Rattle.iv_term.specs.declared.typ.Typ.TheBlock.{Nil as no_types}
use Rattle.iv_term.specs.declared.term.Head.{Head}
use Rattle.iv_term.specs.declared.term.Head.TheVariants.{Const, Free, Schematic, Bound}
use Rattle.iv_term.specs.declared.term.Term.{Term}
use Rattle.iv_term.specs.declared.term.Terms.{Terms}
use Rattle.iv_term.specs.declared.term.Term.TheBlock.{Spine, Nil}
use Rattle.iv_term.specs.Typ.{prop, fun, ty_cons, same_typ}
use Rattle.iv_term.specs.Term.{lam, tm_cons}
use Rattle.iv_hsub.specs.Typing.{cod, head_type, type_of, IsTerm, AreArgs, HasType}
use Rattle.iv_hsub.specs.Retype.{map_typ, retype_head, retype, retype_all}
use Rattle.iv_hsub.specs.Inst.{inst_head, inst, inst_all, HeadVars, Vars, AllVars, Fits}
use Rattle.iv_hsub.proofs.Theory.{retype-has}
use Rattle.iv_laws.specs.Forms.{body}
use Rattle.iv_subst.specs.TySubst.{TyMap, put_typ, put_typs, then_put, at, IsIdempotent}
use Rattle.iv_subst.specs.Unifier.{unified}
use Rattle.iv_subst.specs.Laws.{Absorbs}
use Rattle.iv_subst.proofs.Laws.Put.{put-put, put-same}
use Rattle.iv_subst.proofs.Laws.Solve.{unified-solved, solved-equal}
use Rattle.iv_subst.proofs.Laws.Stays.{solved_idempotent, solved_absorbed}
use Rattle.iv_put.specs.Subst.{Substitution, by_map, value_of, values, applied, CanApply}
use Rattle.iv_put.proofs.Theory.{map-by, maps-by, vars-retype, value-in}
use Rattle.iv_put.proofs.Facts.Composed.{vars-one}
use Rattle.iv_put.proofs.Facts.Entries.{retype-then}
use Rattle.iv_unify.specs.declared.pair.Pair.{Pair}
use Rattle.iv_unify.specs.Pairs.{pair, typed}
use Rattle.iv_unify.specs.Simplify.{in_pairs, and_first, Look, stays, clash, opens, opened, look_heads, look, Simple, kept, with_types, looked, turn, simplify}
use Rattle.iv_unify.specs.Scope.{Scope, InScope, Over, Leads}
use Rattle.iv_unify.specs.Laws.{IsAlike, AreAlike}
use Rattle.iv_unify.proofs.Bodies.{body-has, body-vars, bodies-alike}

-- what absorbs a map puts the same after it
pub absorbs-all : (g : Name → Typ) (s : TyMap) → Absorbs g s → (a : Typ) → put_typ g (put_typ (at s) a) ≡ put_typ g a
absorbs-all g s k a = put-put (at s) g a ∙ put-same (then_put (at s) g) g k a

-- the types of variables are those of the scope, once a map's types are put
abbrev pub InTyped : Scope → (Name → Typ) → Head → Typ → Type 0
InTyped G f (Schematic x a) b = (x.number < G.below) × (put_typ f a ≡ put_typ f (G.typ x))
InTyped G f h b = Unit {0}

module _ (G : Scope) where
  pub over-typed : (f : Name → Typ) (t : Term) → Over G t → Vars (InTyped G f) t
  over-typed f = vars-one (InScope G) (InTyped G f) head
    where
      head : (h : Head) → HeadVars (InScope G) h → HeadVars (InTyped G f) h
      head (Const c a) p = tt
      head (Free x a) p = tt
      head (Schematic x a) p = (p.0, ap (put_typ f) p.1)
      head (Bound n) p = tt

  -- a later map
  pub typed-later : (s : TyMap) (g : Name → Typ) → Absorbs g s → (t : Term) → Vars (InTyped G (at s)) t → Vars (InTyped G g) t
  typed-later s g k = vars-one (InTyped G (at s)) (InTyped G g) head
    where
      head : (h : Head) → HeadVars (InTyped G (at s)) h → HeadVars (InTyped G g) h
      head (Const c a) p = tt
      head (Free x a) p = tt
      head (Schematic x a) p = (p.0, sym (absorbs-all g s k a) ∙ ap (put_typ g) p.1 ∙ absorbs-all g s k (G.typ x))
      head (Bound n) p = tt

  -- types put in
  pub typed-put : (s : TyMap) (g : Name → Typ) → Absorbs g s → (t : Term) → Vars (InTyped G g) t → Vars (InTyped G g) (retype (by_map s) t)
  typed-put s g k t p = vars-retype (by_map s) (InTyped G g) (InTyped G g) head t p
    where
      head : (h : Head) → HeadVars (InTyped G g) h → HeadVars (InTyped G g) (retype_head (by_map s) h)
      head (Const c a) p = tt
      head (Free x a) p = tt
      head (Schematic x a) p = (p.0, ap (put_typ g) (map-by s a) ∙ absorbs-all g s k a ∙ p.1)
      head (Bound n) p = tt

  -- what leads from the scope and absorbs the map can be applied
  typed-can : (e : Substitution) (E : Scope) → Leads e G E → (t : Term) → Vars (InTyped G (at e.0)) t → CanApply e t
  typed-can e E l t p = vars-retype (by_map e.0) (InTyped G (at e.0)) (λ k a. Fits (values e k) a) head t p
    where
      by : (x : Name) (a : Typ) (o : Option Term) → value_of e.1 x ≡ o → InTyped G (at e.0) (Schematic x a) a → Fits o (map_typ (by_map e.0) a)
      by x a None q p = tt
      by x a (Some v) q p = (value-in (IsTerm no_types) e.1 x v l.closed q, l.typed x v p.0 q ∙ sym p.1 ∙ sym (map-by e.0 a))

      head : (h : Head) → HeadVars (InTyped G (at e.0)) h → HeadVars (λ k a. Fits (values e k) a) (retype_head (by_map e.0) h)
      head (Const c a) p = tt
      head (Free x a) p = tt
      head (Schematic x a) p = by x a (value_of e.1 x) refl p
      head (Bound n) p = tt

-- types put first make no difference to what absorbs them
pub applied-typed : (e : Substitution) (s : TyMap) → Absorbs (at e.0) s → (t : Term) → applied e (retype (by_map s) t) ≡ applied e t
applied-typed e s k t =
    ap (inst (values e)) (sym (retype-then (by_map s) (by_map e.0) (by_map e.0)
    (λ a. map-by e.0 a ∙ sym (absorbs-all (at e.0) s k a) ∙ ap (put_typ (at e.0)) (sym (map-by s a)) ∙ sym (map-by e.0 (map_typ (by_map s) a))) t))

-- a pair under the types of a map
pub record IsTyped (G : Scope) (f : Name → Typ) (p : Pair) : Type 0 where
  pub left_term : IsTerm p.bounds p.left
  pub right_term : IsTerm p.bounds p.right
  pub left_in : Vars (InTyped G f) p.left
  pub right_in : Vars (InTyped G f) p.right

unfoldable pub AreIn : Scope → (Name → Typ) → List Pair → Type 0
AreIn G f [] = Unit {0}
AreIn G f (p ∷ ps) = IsTyped G f p × AreIn G f ps

all-later : (G : Scope) (s : TyMap) (g : Name → Typ) → Absorbs g s → (ps : List Pair) → AreIn G (at s) ps → AreIn G g ps
unfolding AreIn
all-later G s g k [] o = tt
all-later G s g k (p ∷ ps) o = (
  record { left_term = o.0.left_term; right_term = o.0.right_term; left_in = typed-later G s g k p.left o.0.left_in; right_in = typed-later G s g k p.right o.0.right_in },
  all-later G s g k ps o.1,
)

in-append : (G : Scope) (f : Name → Typ) (ps qs : List Pair) → AreIn G f ps → AreIn G f qs → AreIn G f (ps ++ qs)
unfolding AreIn
in-append G f [] qs o k = k
in-append G f (p ∷ ps) qs o k = (o.0, in-append G f ps qs o.1 k)

alike-first : (e : Substitution) (ps qs : List Pair) → AreAlike e (ps ++ qs) → AreAlike e ps × AreAlike e qs
unfolding AreAlike
alike-first e [] qs a = (tt, a)
alike-first e (p ∷ ps) qs a = let k = alike-first e ps qs a.1 in ((a.0, k.0), k.1)

pub retype-in : (s : TyMap) (bs : Types) (t : Term) → IsTerm bs t → HasType (put_typs (at s) bs) (put_typ (at s) (type_of bs t)) (retype (by_map s) t)
retype-in s bs t p =
    let r = retype-has (by_map s) bs (type_of bs t) t (p, refl) in
    subst (λ z. HasType z (put_typ (at s) (type_of bs t)) (retype (by_map s) t)) (maps-by s bs) (r.0, r.1 ∙ map-by s (type_of bs t))

typed-pair : (G : Scope) (s : TyMap) (g : Name → Typ) → Absorbs g s → (p : Pair) → IsTyped G g p → IsTyped G g (typed s p)
typed-pair G s g k p o = record {
  left_term = (retype-in s p.bounds p.left o.left_term).0;
  right_term = (retype-in s p.bounds p.right o.right_term).0;
  left_in = typed-put G s g k p.left o.left_in;
  right_in = typed-put G s g k p.right o.right_in;
}

abbrev applied_head : Substitution → Head → Terms → Term
applied_head e h vs = inst_head (values e) (retype_head (by_map e.0) h) vs

-- what is owed of a look: the pairs that come are terms, and where they are alike and the types equal, so are the sides
module _ (G : Scope) (f : Name → Typ) where
  pub record Owes (t u : Term) (a b : Typ) (qs : List Pair) : Type 0 where
    pub inside : AreIn G f qs
    pub back : (e : Substitution) (E : Scope) → Leads e G E → ((v : Term) → Vars (InTyped G f) v → Vars (InTyped G (at e.0)) v) → put_typ (at e.0) a ≡ put_typ (at e.0) b → AreAlike e qs → applied e t ≡ applied e u

  abbrev pub IfOpens : Term → Term → Look → Type 0
  IfOpens t u stays = Unit {0}
  IfOpens t u clash = Unit {0}
  IfOpens t u (opens a b qs) = Owes t u a b qs

  -- arguments
  record Lines (ts us : Terms) (qs : List Pair) : Type 0 where
    inside : AreIn G f qs
    back : (e : Substitution) → AreAlike e qs → inst_all (values e) (retype_all (by_map e.0) ts) ≡ inst_all (values e) (retype_all (by_map e.0) us)

  abbrev IfPairs : Terms → Terms → Option (List Pair) → Type 0
  IfPairs ts us None = Unit {0}
  IfPairs ts us (Some qs) = Lines ts us qs

  and-pairs : (bs : Types) (t u : Term) (ts us : Terms) → IsTerm bs t → IsTerm bs u → Vars (InTyped G f) t → Vars (InTyped G f) u → (o : Option (List Pair)) → IfPairs ts us o
      → IfPairs (tm_cons t ts) (tm_cons u us) (and_first (pair bs t u) o)
  unfolding AreIn AreAlike inst retype
  and-pairs bs t u ts us p q v w None k = tt
  and-pairs bs t u ts us p q v w (Some qs) k = record {
    inside = (record { left_term = p; right_term = q; left_in = v; right_in = w }, k.inside);
    back = λ e a. let x = a.0 in let y = k.back e a.1 in λ i. tm_cons (x i) (y i);
  }

  pairs-owe : (bs : Types) (a b : Typ) (ts us : Terms) → AreArgs bs a ts → AreArgs bs b us → AllVars (InTyped G f) ts → AllVars (InTyped G f) us → IfPairs ts us (in_pairs bs ts us)
  unfolding AreIn AreAlike in_pairs
  pairs-owe bs a b Nil Nil p q v w = record { inside = tt; back = λ e k. refl }
  pairs-owe bs a b Nil (tm_cons u us) p q v w = tt
  pairs-owe bs a b (tm_cons t ts) Nil p q v w = tt
  pairs-owe bs a b (tm_cons t ts) (tm_cons u us) p q v w =
      and-pairs bs t u ts us p.1.0 q.1.0 v.0 w.0 (in_pairs bs ts us) (pairs-owe bs (cod a) (cod b) ts us p.1.1 q.1.1 v.1 w.1)

  -- heads that are the same once the types are equal
  abbrev Same : Head → Head → Typ → Typ → Type 0
  Same h k a b = (e : Substitution) (vs : Terms) → put_typ (at e.0) a ≡ put_typ (at e.0) b → applied_head e h vs ≡ applied_head e k vs

  heads-owe : (h k : Head) (ts us : Terms) (a b : Typ) (same : Bool) → (same ≡ true → Same h k a b)
      → (o : Option (List Pair)) → IfPairs ts us o → IfOpens (Spine h ts) (Spine k us) (opened same a b o)
  unfolding inst retype
  heads-owe h k ts us a b true s None p = tt
  heads-owe h k ts us a b true s (Some qs) p = record {
    inside = p.inside;
    back = λ e E l m q x. ap (applied_head e h) (p.back e x) ∙ s refl e (inst_all (values e) (retype_all (by_map e.0) us)) q;
  }
  heads-owe h k ts us a b false s o p = tt

  const-same : (c d : List ℕ) (a b : Typ) → bytes_eq c d ≡ true → Same (Const c a) (Const d b) a b
  const-same c d a b h e vs q =
      let x = same_text-true c d h in
      let y = map-by e.0 a ∙ q ∙ sym (map-by e.0 b) in
      λ i. Spine (Const (x i) (y i)) vs

  free-same : (x y : Name) (a b : Typ) → (same_name x y && same_typ a b) ≡ true → Same (Free x a) (Free y b) a b
  free-same x y a b h e vs q =
      let n = same_name-true x y (and_parts (same_name x y) (same_typ a b) h).0 in
      let t = map-by e.0 a ∙ q ∙ sym (map-by e.0 b) in
      λ i. Spine (Free (n i) (t i)) vs

  bound-same : (n m : ℕ) → nat_eq n m ≡ true → Same (Bound n) (Bound m) prop prop
  bound-same n m h e vs q = ap (λ z. Spine (Bound z) vs) (eqb-true n m h)

  spines-owe : (bs : Types) (h k : Head) (ts us : Terms) → AreArgs bs (head_type bs h) ts → AreArgs bs (head_type bs k) us → AllVars (InTyped G f) ts → AllVars (InTyped G f) us
      → IfOpens (Spine h ts) (Spine k us) (look_heads bs h ts k us)
  spines-owe bs (Schematic x a) k ts us p q v w = tt
  spines-owe bs (Const c a) (Schematic y b) ts us p q v w = tt
  spines-owe bs (Const c a) (Const d b) ts us p q v w =
      heads-owe (Const c a) (Const d b) ts us a b (bytes_eq c d) (λ h. const-same c d a b h) (in_pairs bs ts us) (pairs-owe bs a b ts us p q v w)
  spines-owe bs (Const c a) (Free y b) ts us p q v w = tt
  spines-owe bs (Const c a) (Bound m) ts us p q v w = tt
  spines-owe bs (Free x a) (Schematic y b) ts us p q v w = tt
  spines-owe bs (Free x a) (Const d b) ts us p q v w = tt
  spines-owe bs (Free x a) (Free y b) ts us p q v w =
      heads-owe (Free x a) (Free y b) ts us a b (same_name x y && same_typ a b) (λ h. free-same x y a b h) (in_pairs bs ts us) (pairs-owe bs a b ts us p q v w)
  spines-owe bs (Free x a) (Bound m) ts us p q v w = tt
  spines-owe bs (Bound n) (Schematic y b) ts us p q v w = tt
  spines-owe bs (Bound n) (Const d b) ts us p q v w = tt
  spines-owe bs (Bound n) (Free y b) ts us p q v w = tt
  spines-owe bs (Bound n) (Bound m) ts us p q v w =
      heads-owe (Bound n) (Bound m) ts us prop prop (nat_eq n m) (λ h. bound-same n m h) (in_pairs bs ts us)
      (pairs-owe bs (head_type bs (Bound n)) (head_type bs (Bound m)) ts us p q v w)

  -- an abstraction and any other function: the pair of bodies
  bodies-owe : (bs : Types) (c d : Typ) (t u : Term) → HasType bs (fun c d) t → HasType bs (fun c d) u → Vars (InTyped G f) t → Vars (InTyped G f) u
      → Owes t u prop prop (pair (ty_cons c bs) (body t) (body u) ∷ [])
  unfolding AreIn AreAlike
  bodies-owe bs c d t u p q v w =
      let vt = body-vars (InTyped G f) t v in
      let wu = body-vars (InTyped G f) u w in
      record {
        inside = (record { left_term = (body-has bs c d t p).0; right_term = (body-has bs c d u q).0; left_in = vt; right_in = wu }, tt);
        back = λ e E l m x a. bodies-alike e bs c d t u l.closed p q (typed-can G e E l (body t) (m (body t) vt)) (typed-can G e E l (body u) (m (body u) wu)) a.0;
      }

  pub look-owes : (bs : Types) (t u : Term) → IsTerm bs t → IsTerm bs u → type_of bs t ≡ type_of bs u → Vars (InTyped G f) t → Vars (InTyped G f) u → IfOpens t u (look bs t u)
  unfolding type_of
  look-owes bs (lam a b) u p q s v w = bodies-owe bs a (type_of (ty_cons a bs) b) (lam a b) u (p, refl) (q, sym s) v w
  look-owes bs (Spine h ts) (lam a b) p q s v w = bodies-owe bs a (type_of (ty_cons a bs) b) (Spine h ts) (lam a b) (p, s) (q, refl) v w
  look-owes bs (Spine h ts) (Spine k us) p q s v w = spines-owe bs h k ts us p.1 q.1 v.1 w.1

-- both sides have one type under a map
unfoldable pub AreSame : TyMap → List Pair → Type 0
AreSame s [] = Unit {0}
AreSame s (p ∷ ps) = (put_typ (at s) (type_of p.bounds p.left) ≡ put_typ (at s) (type_of p.bounds p.right)) × AreSame s ps

-- what is owed of simplification
pub record Simpl (G : Scope) (s : TyMap) (ps : List Pair) (r : TyMap) (qs : List Pair) : Type 0 where
  pub idempotent : IsIdempotent (at r)
  pub later : (g : Name → Typ) → Absorbs g r → Absorbs g s
  pub inside : AreIn G (at r) qs
  pub same : AreSame r qs
  pub back : (e : Substitution) (E : Scope) → Leads e G E → Absorbs (at e.0) r → AreAlike e qs → AreAlike e ps

abbrev pub IfSimple : Scope → TyMap → List Pair → Simple → Type 0
IfSimple G s ps None = Unit {0}
IfSimple G s ps (Some r) = Simpl G s ps r.0 r.1

module _ (G : Scope) where
  types-simple : (s : TyMap) (ps : List Pair) (o : Option TyMap) (next : TyMap → Simple) → ((r : TyMap) → o ≡ Some r → IfSimple G s ps (next r)) → IfSimple G s ps (with_types o next)
  types-simple s ps None next k = tt
  types-simple s ps (Some r) next k = k r refl

  module _ (s r : TyMap) (p : Pair) (ps : List Pair) (idem_r : IsIdempotent (at r)) (later : (g : Name → Typ) → Absorbs g r → Absorbs g s) (in_p : IsTyped G (at r) (typed r (typed s p)))
      (same : type_of (typed r (typed s p)).bounds (typed r (typed s p)).left ≡ type_of (typed r (typed s p)).bounds (typed r (typed s p)).right) (in_ps : AreIn G (at r) ps) where
    abbrev now : Pair
    now = typed r (typed s p)

    from-now : (e : Substitution) → Absorbs (at e.0) r → IsAlike e now → IsAlike e p
    from-now e k a =
        let side : (t : Term) → applied e (retype (by_map r) (retype (by_map s) t)) ≡ applied e t =
        λ t. applied-typed e r k (retype (by_map s) t) ∙ applied-typed e s (later (at e.0) k) t in
        sym (side p.left) ∙ a ∙ side p.right

    pair-later : (q : TyMap) → Absorbs (at q) r → IsTyped G (at q) now
    pair-later q k = record {
      left_term = in_p.left_term;
      right_term = in_p.right_term;
      left_in = typed-later G r (at q) k now.left in_p.left_in;
      right_in = typed-later G r (at q) k now.right in_p.right_in;
    }

    kept-simple : (o : Simple) → IfSimple G r ps o → IfSimple G s (p ∷ ps) (kept now o)
    unfolding AreIn AreSame AreAlike
    kept-simple None k = tt
    kept-simple (Some q) k = record {
      idempotent = k.idempotent;
      later = λ g x. later g (k.later g x);
      inside = (pair-later q.0 (k.later (at q.0) k.idempotent), k.inside);
      same = (ap (put_typ (at q.0)) same, k.same);
      back = λ e E l x a. (from-now e (k.later (at e.0) x) a.0, k.back e E l x a.1);
    }

    opens-simple : (a b : Typ) (qs : List Pair) (r1 : TyMap) → unified a b r ≡ Some r1 → Owes G (at r) now.left now.right a b qs → (o : Simple) → IfSimple G r1 (qs ++ ps) o → IfSimple G s (p ∷ ps) o
    unfolding AreAlike
    opens-simple a b qs r1 u w None k = tt
    opens-simple a b qs r1 u w (Some q) k =
        let x = unified-solved a b r r1 u in
        let after : (g : Name → Typ) → Absorbs g r1 → Absorbs g r = λ g y. solved_absorbed r r1 (put_typ (at r) a) (put_typ (at r) b) g idem_r x y in
        record {
          idempotent = k.idempotent;
          later = λ g y. later g (after g (k.later g y));
          inside = k.inside;
          same = k.same;
          back = λ e E l y al.
              let y1 = k.later (at e.0) y in
              let y2 = after (at e.0) y1 in
              let both = alike-first e qs ps (k.back e E l y al) in
              let eq = sym (absorbs-all (at e.0) r1 y1 a) ∙ ap (put_typ (at e.0)) (solved-equal a b r r1 x) ∙ absorbs-all (at e.0) r1 y1 b in
              (from-now e y2 (w.back e E l (λ v z. typed-later G r (at e.0) y2 v z) eq both.0), both.1);
        }

    looked-simple : (next : TyMap → List Pair → Simple) → ((q : TyMap) (rs : List Pair) → IsIdempotent (at q) → AreIn G (at q) rs → IfSimple G q rs (next q rs))
        → (l : Look) → IfOpens G (at r) now.left now.right l → IfSimple G s (p ∷ ps) (looked next r now ps l)
    looked-simple next ok stays w = kept-simple (next r ps) (ok r ps idem_r in_ps)
    looked-simple next ok clash w = tt
    looked-simple next ok (opens a b qs) w =
        types-simple s (p ∷ ps) (unified a b r) (λ r1. next r1 (qs ++ ps))
        (λ r1 u.
        let x = unified-solved a b r r1 u in
        let i1 = solved_idempotent r r1 a b idem_r x in
        let y = solved_absorbed r r1 (put_typ (at r) a) (put_typ (at r) b) (at r1) idem_r x i1 in
        opens-simple a b qs r1 u w (next r1 (qs ++ ps)) (ok r1 (qs ++ ps) i1
        (in-append G (at r1) qs ps (all-later G r (at r1) y qs w.inside) (all-later G r (at r1) y ps in_ps))))

  turn-simple : (next : TyMap → List Pair → Simple) → ((q : TyMap) (rs : List Pair) → IsIdempotent (at q) → AreIn G (at q) rs → IfSimple G q rs (next q rs))
      → (s : TyMap) (p : Pair) (ps : List Pair) → IsIdempotent (at s) → IsTyped G (at s) p → AreIn G (at s) ps → IfSimple G s (p ∷ ps) (turn next s (typed s p) ps)
  turn-simple next ok s p ps idem o os =
      let p1 = typed s p in
      let o1 = typed-pair G s (at s) idem p o in
      let a = type_of p1.bounds p1.left in
      let b = type_of p1.bounds p1.right in
      types-simple s (p ∷ ps) (unified a b s) (λ r. looked next r (typed r p1) ps (look (typed r p1).bounds (typed r p1).left (typed r p1).right))
      (λ r u.
      let x = unified-solved a b s r u in
      let i = solved_idempotent s r a b idem x in
      let after : (g : Name → Typ) → Absorbs g r → Absorbs g s = λ g y. solved_absorbed s r (put_typ (at s) a) (put_typ (at s) b) g idem x y in
      let k = after (at r) i in
      let p1r : IsTyped G (at r) p1 = record { left_term = o1.left_term; right_term = o1.right_term; left_in = typed-later G s (at r) k p1.left o1.left_in; right_in = typed-later G s (at r) k p1.right o1.right_in } in
      let p2 = typed-pair G r (at r) i p1 p1r in
      let same = (retype-in r p1.bounds p1.left o1.left_term).1 ∙ solved-equal a b s r x ∙ sym (retype-in r p1.bounds p1.right o1.right_term).1 in
      let now = typed r p1 in
      looked-simple s r p ps i after p2 same (all-later G s (at r) k ps os) next ok (look now.bounds now.left now.right)
      (look-owes G (at r) now.bounds now.left now.right p2.left_term p2.right_term same p2.left_in p2.right_in))

  pub simplify-simple : (n : ℕ) (s : TyMap) (ps : List Pair) → IsIdempotent (at s) → AreIn G (at s) ps → IfSimple G s ps (simplify n s ps)
  unfolding AreIn AreSame AreAlike simplify
  simplify-simple zero s [] idem o = record { idempotent = idem; later = λ g x. x; inside = tt; same = tt; back = λ e E l x a. tt }
  simplify-simple (suc n) s [] idem o = record { idempotent = idem; later = λ g x. x; inside = tt; same = tt; back = λ e E l x a. tt }
  simplify-simple zero s (p ∷ ps) idem o = tt
  simplify-simple (suc n) s (p ∷ ps) idem o = turn-simple (simplify n) (λ q rs i k. simplify-simple n q rs i k) s p ps idem o.0 o.1
