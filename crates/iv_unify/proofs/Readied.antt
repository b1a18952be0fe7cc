-- Pairs as simplification leaves them: under all types that were found, and with no function type.
use Rattle.std.proofs.Common.{◌≡◌, ℕ, Bool, true, false, if◌then◌else◌, List, [], ◌∷◌, Some, None, refl, sym, ◌∙◌, ap, subst, codes, arith}
use Rattle.std.specs.Str.{bytes_eq}
use Rattle.iv_text.specs.declared.name.Name.{Name}
use Rattle.iv_text.proofs.Same.{same_text-true, same_text-same}
use Rattle.iv_term.specs.declared.typ.Typ.{Typ}
use Rattle.iv_term.specs.declared.typ.Types.{Types}
use Rattle.iv_term.specs.declared.typ.Typ.TheBlock.{Con, Fixed, Schematic as Variable, Nil as no_types}
use Rattle.iv_term.specs.declared.term.Head.{Head}
use Rattle.iv_term.specs.declared.term.Head.TheVariants.{Const, Free, Schematic, Bound}
use Rattle.iv_term.specs.declared.term.Term.{Term}
use Rattle.iv_term.specs.Typ.{fun, ty_cons}
use Rattle.iv_hsub.specs.Typing.{type_of, HasType}
use Rattle.iv_hsub.specs.Retype.{retype_head, retype}
use Rattle.iv_hsub.specs.Inst.{inst, HeadVars, Vars}
use Rattle.iv_laws.specs.Forms.{body}
use Rattle.iv_subst.specs.TySubst.{TyMap, put_typ, at, IsIdempotent}
use Rattle.iv_subst.specs.TySubst as types_specs
use Rattle.iv_subst.specs.Laws.{Absorbs}
use Rattle.iv_subst.proofs.Laws.Put.{at-composed, put-composed}
use Rattle.iv_put.specs.Subst.{TermMap, Substitution, by_map, by_name, value_of, has_value, under as under_values, unhidden, applied, composed, Values}
use Rattle.iv_put.proofs.Theory.{map-by, map-composed, vars-retype}
use Rattle.iv_put.proofs.Facts.Entries.{retype-then}
use Rattle.iv_unify.specs.declared.pair.Pair.{Pair}
use Rattle.iv_unify.specs.Pairs.{pair, typed, all_typed}
use Rattle.iv_unify.specs.Simplify.{total, is_function, long, all_long}
use Rattle.iv_unify.specs.Scope.{Scope, InScope, Over, Leads}
use Rattle.iv_unify.specs.Laws.{AreOver, IsAlike, AreAlike}
use Rattle.iv_unify.proofs.Scopes.{leads-can, leads-composed}
use Rattle.iv_unify.proofs.States.{alike-after}
use Rattle.iv_unify.proofs.Sound.{IsReady, AreReady, SimplifiesAll}
use Rattle.iv_unify.proofs.Bodies.{body-has, body-vars, bodies-alike}
use Rattle.iv_unify.proofs.Simple.{InTyped, over-typed, IsTyped, AreIn, AreSame, retype-in, Simpl, IfSimple, simplify-simple}

-- a type of two arguments
shape : Typ → ℕ
shape (Con c (ty_cons a (ty_cons b no_types))) = 1
shape a = 0

not-fun : (a x y : Typ) → shape a ≡ 0 → a ≡ fun x y → ⊥
unfolding shape
not-fun a x y s e = absurd (let bad : 0 ≡ 1 = sym s ∙ ap shape e in cc)

-- what the pair without function type owes to two terms of a type
record Longs (D : Scope) (t u : Term) (p : Pair) : Type 0 where
  ready : IsReady D p
  back : (e : Substitution) (E : Scope) → Leads e D E → IsAlike e p → applied e t ≡ applied e u

stays-long : (D : Scope) (a : Typ) (bs : Types) (t u : Term) → ((x y : Typ) → a ≡ fun x y → ⊥) → HasType bs a t → HasType bs a u → Over D t → Over D u → Longs D t u (pair bs t u)
stays-long D a bs t u n p q v w = record {
  ready = record {
    over = record { left_term = p.0; right_term = q.0; left_over = v; right_over = w };
    same = p.1 ∙ sym q.1;
    plain = λ x y e. n x y (sym p.1 ∙ e);
  };
  back = λ e E l a. a;
}

pub function-name : (c : List ℕ) (a b : Typ) → is_function c ≡ true → Con c (ty_cons a (ty_cons b no_types)) ≡ fun a b
function-name c a b h = ap (λ z. Con z (ty_cons a (ty_cons b no_types))) (same_text-true c (codes "fun") h)

name-of : Typ → List ℕ
name-of (Con c ts) = c
name-of a = []

no-function : (c : List ℕ) (a b x y : Typ) → is_function c ≡ false → Con c (ty_cons a (ty_cons b no_types)) ≡ fun x y → ⊥
unfolding name-of
no-function c a b x y h e =
    let q : is_function c ≡ true = ap (λ z. bytes_eq z (codes "fun")) (ap name-of e) ∙ same_text-same (codes "fun") in
    absurd (let bad : false ≡ true = sym h ∙ q in cc)

long-owes : (D : Scope) (a : Typ) (bs : Types) (t u : Term) → HasType bs a t → HasType bs a u → Over D t → Over D u → Longs D t u (long a bs t u)
unfolding long shape
long-owes D (Con c (ty_cons a (ty_cons b no_types))) bs t u p q v w =
    go (is_function c) refl (λ x y. long-owes D b (ty_cons a bs) (body t) (body u) x y (body-vars (InScope D) t v) (body-vars (InScope D) u w))
  where
    go : (k : Bool) → is_function c ≡ k → (HasType (ty_cons a bs) b (body t) → HasType (ty_cons a bs) b (body u) → Longs D (body t) (body u) (long b (ty_cons a bs) (body t) (body u)))
        → Longs D t u (if k then long b (ty_cons a bs) (body t) (body u) else pair bs t u)
    go true h rec =
        let n = function-name c a b h in
        let pt : HasType bs (fun a b) t = (p.0, p.1 ∙ n) in
        let qu : HasType bs (fun a b) u = (q.0, q.1 ∙ n) in
        let k = rec (body-has bs a b t pt) (body-has bs a b u qu) in
        record {
          ready = k.ready;
          back = λ e E l x. bodies-alike e bs a b t u l.closed pt qu (leads-can e D E l (body t) (body-vars (InScope D) t v)) (leads-can e D E l (body u) (body-vars (InScope D) u w)) (k.back e E l x);
        }
    go false h rec = stays-long D (Con c (ty_cons a (ty_cons b no_types))) bs t u (λ x y. no-function c a b x y h) p q v w
long-owes D (Con c no_types) bs t u p q v w = stays-long D (Con c no_types) bs t u (λ x y. not-fun (Con c no_types) x y refl) p q v w
long-owes D (Con c (ty_cons a no_types)) bs t u p q v w = stays-long D (Con c (ty_cons a no_types)) bs t u (λ x y. not-fun (Con c (ty_cons a no_types)) x y refl) p q v w
long-owes D (Con c (ty_cons a (ty_cons b (ty_cons d ds)))) bs t u p q v w =
    stays-long D (Con c (ty_cons a (ty_cons b (ty_cons d ds)))) bs t u (λ x y. not-fun (Con c (ty_cons a (ty_cons b (ty_cons d ds)))) x y refl) p q v w
long-owes D (Fixed c) bs t u p q v w = stays-long D (Fixed c) bs t u (λ x y. not-fun (Fixed c) x y refl) p q v w
long-owes D (Variable c) bs t u p q v w = stays-long D (Variable c) bs t u (λ x y. not-fun (Variable c) x y refl) p q v w

-- types alone
unhidden-none : (es : TermMap) → unhidden [] es ≡ es
unfolding unhidden has_value
unhidden-none [] = refl
unhidden-none (e ∷ es) = ap (λ z. e ∷ z) (unhidden-none es)

types-first : (r : TyMap) (e : Substitution) (t : Term) → applied (composed (r, []) e) t ≡ applied e (retype (by_map r) t)
unfolding under_values
types-first r e t =
    let v = unhidden-none e.1 in
    let y = retype-then (by_map r) (by_map e.0) (by_map (types_specs.composed r e.0)) (λ a. map-composed r e.0 a) t in
    λ i. inst (by_name (value_of (v i))) (y i)

module _ (G : Scope) (r : TyMap) (idem : IsIdempotent (at r)) where
  abbrev after : Scope
  after = record { typ = λ x. put_typ (at r) (G.typ x); below = G.below }

  types-lead : Leads (r, []) G after
  unfolding Values value_of
  types-lead = record {
    closed = tt;
    over = tt;
    typed = λ x v n q. absurd (let bad : None ≡ Some v = q in cc);
    stays = λ x n q. refl;
    grows = omega arith;
  }

  over-after : (t : Term) → Vars (InTyped G (at r)) t → Over after (retype (by_map r) t)
  over-after t p = vars-retype (by_map r) (InTyped G (at r)) (InScope after) head t p
    where
      head : (h : Head) → HeadVars (InTyped G (at r)) h → HeadVars (InScope after) (retype_head (by_map r) h)
      head (Const c a) p = tt
      head (Free x a) p = tt
      head (Schematic x a) p = (p.0, map-by r a ∙ p.1)
      head (Bound n) p = tt

  pair-owes : (q : Pair) → IsTyped G (at r) q → put_typ (at r) (type_of q.bounds q.left) ≡ put_typ (at r) (type_of q.bounds q.right)
      → Longs after (typed r q).left (typed r q).right (long (type_of (typed r q).bounds (typed r q).left) (typed r q).bounds (typed r q).left (typed r q).right)
  pair-owes q o s =
      let x = retype-in r q.bounds q.left o.left_term in
      let y = retype-in r q.bounds q.right o.right_term in
      long-owes after (type_of (typed r q).bounds (typed r q).left) (typed r q).bounds (typed r q).left (typed r q).right
      (x.0, refl) (y.0, y.1 ∙ sym s ∙ sym x.1) (over-after q.left o.left_in) (over-after q.right o.right_in)

  all-ready : (qs : List Pair) → AreIn G (at r) qs → AreSame r qs → AreReady after (all_long (all_typed r qs))
  unfolding AreIn AreSame AreReady all_long all_typed
  all-ready [] o s = tt
  all-ready (q ∷ qs) o s = ((pair-owes q o.0 s.0).ready, all-ready qs o.1 s.1)

  all-back : (e : Substitution) (E : Scope) → Leads e after E → (qs : List Pair) → AreIn G (at r) qs → AreSame r qs → AreAlike e (all_long (all_typed r qs)) → AreAlike (composed (r, []) e) qs
  unfolding AreIn AreSame AreAlike all_long all_typed
  all-back e E l [] o s a = tt
  all-back e E l (q ∷ qs) o s a =
      (types-first r e q.left ∙ (pair-owes q o.0 s.0).back e E l a.0 ∙ sym (types-first r e q.right), all-back e E l qs o.1 s.1 a.1)

  absorbs-first : (e : Substitution) → Absorbs (at (composed (r, []) e).0) r
  absorbs-first e x = put-composed r e.0 (at r x) ∙ ap (put_typ (at e.0)) (idem x) ∙ sym (at-composed r e.0 x)

all-over-typed : (G : Scope) (f : Name → Typ) (ps : List Pair) → AreOver G ps → AreIn G f ps
unfolding AreOver AreIn
all-over-typed G f [] o = tt
all-over-typed G f (p ∷ ps) o = (
  record { left_term = o.0.left_term; right_term = o.0.right_term; left_in = over-typed G f p.left o.0.left_over; right_in = over-typed G f p.right o.0.right_over },
  all-over-typed G f ps o.1,
)

nothing-idempotent : IsIdempotent (at [])
unfolding at put_typ
nothing-idempotent x = refl

pub simplifies_all : SimplifiesAll
simplifies_all G ps r qs o q =
    let k : Simpl G [] ps r qs = subst (IfSimple G [] ps) q (simplify-simple G (total ps) [] ps nothing-idempotent (all-over-typed G (at []) ps o)) in
    let D = after G r k.idempotent in
    let l = types-lead G r k.idempotent in
    record {
      scope = D;
      below = refl;
      leads = l;
      ready = all-ready G r k.idempotent qs k.inside k.same;
      back = λ e E m a.
          alike-after (r, []) e G D E l m ps o
          (k.back (composed (r, []) e) E (leads-composed (r, []) e G D E l m) (absorbs-first G r k.idempotent e) (all-back G r k.idempotent e E m qs k.inside k.same a));
    }
