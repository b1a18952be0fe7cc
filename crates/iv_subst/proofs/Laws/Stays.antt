-- Which variables decide what is put, and what unification leaves of a map that it goes on from.
use Rattle.std.proofs.Common.{◌≡◌, Bool, true, false, ◌||◌, ℕ, List, refl, sym, ◌∙◌, ap}
use Rattle.iv_text.specs.declared.name.Name.{Name}
use Rattle.iv_text.specs.Name.{same_name}
use Rattle.iv_text.proofs.Same.{same_name-true, same_name-same}
use Rattle.iv_term.specs.declared.typ.Typ.{Typ}
use Rattle.iv_term.specs.declared.typ.Types.{Types}
use Rattle.iv_term.specs.declared.typ.Typ.TheBlock.{Con, Fixed, Schematic, Nil}
use Rattle.iv_term.specs.Typ.{ty_cons}
use Rattle.iv_subst.specs.TySubst.{put_typ, put_typs, then_put, occurs, occurs_any, TyMap, at, IsIdempotent}
use Rattle.iv_subst.specs.Unifier.{IsSolved}
use Rattle.iv_subst.specs.Laws.{PutsAgree, TypeStays, VariablesStay, VariablesComeFrom, SolvedIsIdempotent, SolvedIsAbsorbed}
use Rattle.iv_subst.proofs.Laws.Put.{put-none, put-put, put-same}

or-left : (a b : Bool) → a ≡ true → (a || b) ≡ true
or-left a b e = ap (λ z. z || b) e

or-right : (a b : Bool) → b ≡ true → (a || b) ≡ true
or-right true b e = refl
or-right false b e = e

module _ (f g : Name → Typ) where
  mutual
    unfolding put_typ put_typs occurs occurs_any

    puts-agree : (t : Typ) → ((x : Name) → occurs x t ≡ true → f x ≡ g x) → put_typ f t ≡ put_typ g t
    puts-agree (Con c ts) h = ap (Con c) (all-agree ts h)
    puts-agree (Fixed a) h = refl
    puts-agree (Schematic x) h = h x (same_name-same x)

    all-agree : (ts : Types) → ((x : Name) → occurs_any x ts ≡ true → f x ≡ g x) → put_typs f ts ≡ put_typs g ts
    all-agree Nil h = refl
    all-agree (ty_cons t ts) h =
        let e = puts-agree t (λ x p. h x (or-left (occurs x t) (occurs_any x ts) p)) in
        let k = all-agree ts (λ x p. h x (or-right (occurs x t) (occurs_any x ts) p)) in
        λ i. ty_cons (e i) (k i)

pub puts_agree : PutsAgree
puts_agree = puts-agree

pub type_stays : TypeStays
type_stays f t h = puts-agree f Schematic t h ∙ put-none t

con-parts : (c d : List ℕ) (ts us : Types) → Con c ts ≡ Con d us → ts ≡ us
con-parts c d ts us e = cc

unfoldable first_of : Typ → Types → Typ
first_of d Nil = d
first_of d (ty_cons t ts) = t

unfoldable rest_of : Types → Types
rest_of Nil = Nil
rest_of (ty_cons t ts) = ts

cons-parts : (t u : Typ) (ts us : Types) → ty_cons t ts ≡ ty_cons u us → (t ≡ u) × (ts ≡ us)
unfolding first_of rest_of
cons-parts t u ts us e = (ap (first_of t) e, ap rest_of e)

stay-cases : (a b : Bool) (P : Type 0) → (a || b) ≡ true → (a ≡ true → P) → (b ≡ true → P) → P
stay-cases true b P e p q = p refl
stay-cases false b P e p q = q e

module _ (f : Name → Typ) where
  mutual
    unfolding put_typ put_typs occurs occurs_any

    variables-stay : (t : Typ) → put_typ f t ≡ t → (x : Name) → occurs x t ≡ true → f x ≡ Schematic x
    variables-stay (Con c ts) e x p = all-stay ts (con-parts c c (put_typs f ts) ts e) x p
    variables-stay (Fixed a) e x p = absurd (let bad : false ≡ true = p in cc)
    variables-stay (Schematic y) e x p = let n = same_name-true x y p in ap f n ∙ e ∙ ap (λ z. Schematic z) (sym n)

    all-stay : (ts : Types) → put_typs f ts ≡ ts → (x : Name) → occurs_any x ts ≡ true → f x ≡ Schematic x
    all-stay Nil e x p = absurd (let bad : false ≡ true = p in cc)
    all-stay (ty_cons t ts) e x p =
        let q = cons-parts (put_typ f t) t (put_typs f ts) ts e in
        stay-cases (occurs x t) (occurs_any x ts) (f x ≡ Schematic x) p (λ h. variables-stay t q.0 x h) (λ h. all-stay ts q.1 x h)

  mutual
    unfolding put_typ put_typs occurs occurs_any

    come-from : (t : Typ) (y : Name) → occurs y (put_typ f t) ≡ true → (x : Name) × ((occurs x t ≡ true) × (occurs y (f x) ≡ true))
    come-from (Con c ts) y p = all-come ts y p
    come-from (Fixed a) y p = absurd (let bad : false ≡ true = p in cc)
    come-from (Schematic x) y p = (x, (same_name-same x, p))

    all-come : (ts : Types) (y : Name) → occurs_any y (put_typs f ts) ≡ true → (x : Name) × ((occurs_any x ts ≡ true) × (occurs y (f x) ≡ true))
    all-come Nil y p = absurd (let bad : false ≡ true = p in cc)
    all-come (ty_cons t ts) y p =
        stay-cases (occurs y (put_typ f t)) (occurs_any y (put_typs f ts)) ((x : Name) × ((occurs_any x (ty_cons t ts) ≡ true) × (occurs y (f x) ≡ true))) p
        (λ h. let r = come-from t y h in (r.0, (or-left (occurs r.0 t) (occurs_any r.0 ts) r.1.0, r.1.1)))
        (λ h. let r = all-come ts y h in (r.0, (or-right (occurs r.0 t) (occurs_any r.0 ts) r.1.0, r.1.1)))

pub variables_stay : VariablesStay
variables_stay = variables-stay

pub variables_come : VariablesComeFrom
variables_come = come-from

-- unification
idempotent-put : (f : Name → Typ) → IsIdempotent f → (t : Typ) → put_typ f (put_typ f t) ≡ put_typ f t
idempotent-put f k t = put-put f f t ∙ put-same (then_put f f) f k t

module _ (s r : TyMap) (a b : Typ) (k : IsIdempotent (at s)) (q : IsSolved s (put_typ (at s) a) (put_typ (at s) b) r) where
  in-range : (t : Typ) (y : Name) → occurs y (put_typ (at s) t) ≡ true → at s y ≡ Schematic y
  in-range t y p = variables-stay (at s) (put_typ (at s) t) (idempotent-put (at s) k t) y p

  of-value : (x y : Name) → occurs y (put_typ q.by_map (at s x)) ≡ true → at s y ≡ Schematic y
  of-value x y p = let c = come-from q.by_map (at s x) y p in go c.0 c.1.0 c.1.1 (same_name y c.0) refl
    where
      none : (z : Name) → same_name y z ≡ false → (v w : Bool) → occurs y (put_typ (at s) a) ≡ v → occurs y (put_typ (at s) b) ≡ w → occurs y (q.by_map z) ≡ true
          → at s y ≡ Schematic y
      none z n true w e f o = in-range a y e
      none z n false true e f o = in-range b y f
      none z n false false e f o = absurd (let bad : false ≡ true = sym (q.most_general.no_new y e f z n) ∙ o in cc)

      go : (z : Name) → occurs z (at s x) ≡ true → occurs y (q.by_map z) ≡ true → (v : Bool) → same_name y z ≡ v → at s y ≡ Schematic y
      go z i o true e = let n = same_name-true y z e in variables-stay (at s) (at s x) (k x) y (ap (λ w. occurs w (at s x)) n ∙ i)
      go z i o false e = none z e (occurs y (put_typ (at s) a)) (occurs y (put_typ (at s) b)) refl refl o

  solved-once : IsIdempotent (at r)
  unfolding put_typ
  solved-once x =
      let f = q.by_map in
      ap (put_typ (at r)) (q.after x)
      ∙ puts-agree (at r) f (put_typ f (at s x)) (λ y p. q.after y ∙ ap (put_typ f) (of-value x y p))
      ∙ idempotent-put f q.most_general.idempotent (at s x)
      ∙ sym (q.after x)

pub solved_idempotent : SolvedIsIdempotent
solved_idempotent = solved-once

pub solved_absorbed : SolvedIsAbsorbed
unfolding put_typ
solved_absorbed s r a b g k q h x =
    let f = q.by_map in
    puts-agree g (then_put f g) (at s x)
    (λ z p. sym (h z) ∙ ap (put_typ g) (q.after z ∙ ap (put_typ f) (variables-stay (at s) (at s x) (k x) z p)))
    ∙ sym (put-put f g (at s x)) ∙ ap (put_typ g) (sym (q.after x)) ∙ h x
