-- Laws of putting types for variables.
use Rattle.std.proofs.Common.{◌≡◌, Bool, true, false, refl, sym, ◌∙◌, ap, [], ◌∷◌, ◌++◌, if◌then◌else◌}
use Rattle.std.specs.Prelude.{◌||◌}
use Rattle.iv_text.specs.declared.name.Name.{Name}
use Rattle.iv_term.specs.declared.typ.Typ.{Typ}
use Rattle.iv_term.specs.declared.typ.Types.{Types}
use Rattle.iv_term.specs.declared.typ.Typ.TheBlock.{Con, Fixed, Schematic, Nil}
use Rattle.iv_term.specs.Typ.{ty_cons}
use Rattle.iv_text.specs.Name.{same_name}
use Rattle.iv_text.proofs.Same.{same_name-true, same_name-same}
use Rattle.iv_subst.specs.TySubst.{put_typ, put_typs, then_put, single, occurs, occurs_any, TyMap, at, under, has, unhidden, composed, assign, IsIdempotent}

mutual
  unfolding put_typ put_typs

  pub put-none : (t : Typ) → put_typ Schematic t ≡ t
  put-none (Con c ts) = ap (Con c) (put_all-none ts)
  put-none (Fixed a) = refl
  put-none (Schematic x) = refl

  pub put_all-none : (ts : Types) → put_typs Schematic ts ≡ ts
  put_all-none Nil = refl
  put_all-none (ty_cons t ts) = let e = put-none t in let f = put_all-none ts in λ i. ty_cons (e i) (f i)

mutual
  unfolding put_typ put_typs

  pub put-put : (f g : Name → Typ) (t : Typ) → put_typ g (put_typ f t) ≡ put_typ (then_put f g) t
  put-put f g (Con c ts) = ap (Con c) (put_all-put f g ts)
  put-put f g (Fixed a) = refl
  put-put f g (Schematic x) = refl

  pub put_all-put : (f g : Name → Typ) (ts : Types) → put_typs g (put_typs f ts) ≡ put_typs (then_put f g) ts
  put_all-put f g Nil = refl
  put_all-put f g (ty_cons t ts) = let e = put-put f g t in let h = put_all-put f g ts in λ i. ty_cons (e i) (h i)

pub put-same : (f g : Name → Typ) → ((x : Name) → f x ≡ g x) → (t : Typ) → put_typ f t ≡ put_typ g t
put-same f g e t = λ i. put_typ (λ (x : Name). e x i) t

pub put_all-same : (f g : Name → Typ) → ((x : Name) → f x ≡ g x) → (ts : Types) → put_typs f ts ≡ put_typs g ts
put_all-same f g e ts = λ i. put_typs (λ (x : Name). e x i) ts

pub put-variable : (f : Name → Typ) (x : Name) → put_typ f (Schematic x) ≡ f x
unfolding put_typ
put-variable f x = refl

pub single-here : (x : Name) (t : Typ) → single x t x ≡ t
unfolding single
single-here x t = rw (same_name-same x)

pub single-other : (x y : Name) (t : Typ) → same_name y x ≡ false → single x t y ≡ Schematic y
unfolding single
single-other x y t h = rw h

instance_by : (g : Name → Typ) (x : Name) (t : Typ) → g x ≡ put_typ g t → (y : Name) (v : Bool) → same_name y x ≡ v
    → put_typ g (if v then t else Schematic y) ≡ g y
unfolding put_typ
instance_by g x t e y true h = sym e ∙ ap g (sym (same_name-true y x h))
instance_by g x t e y false h = refl

-- what puts the same for x as for t goes through t for x
pub single-absorbed : (g : Name → Typ) (x : Name) (t : Typ) → g x ≡ put_typ g t → (y : Name) → put_typ g (single x t y) ≡ g y
unfolding single
single-absorbed g x t e y = instance_by g x t e y (same_name y x) refl

pub single-instance : (g : Name → Typ) (x : Name) (t : Typ) → g x ≡ put_typ g t → (a : Typ) → put_typ g (put_typ (single x t) a) ≡ put_typ g a
single-instance g x t e a = put-put (single x t) g a ∙ put-same _ _ (single-absorbed g x t e) a

pub or-left : (a b : Bool) → (a || b) ≡ false → a ≡ false
or-left false b h = refl
or-left true b h = h

pub or-right : (a b : Bool) → (a || b) ≡ false → b ≡ false
or-right false b h = h
or-right true b h = absurd (let bad : true ≡ false = h in cc)

turned : (x y : Name) → same_name x y ≡ false → (v : Bool) → same_name y x ≡ v → v ≡ false
turned x y h true k = absurd (let e : x ≡ y = sym (same_name-true y x k) in
    let bad : true ≡ false = sym (same_name-same x) ∙ ap (same_name x) e ∙ h in cc)
turned x y h false k = refl

pub same_name-turned : (x y : Name) → same_name x y ≡ false → same_name y x ≡ false
same_name-turned x y h = turned x y h (same_name y x) refl

mutual
  unfolding put_typ put_typs occurs occurs_any

  pub single-absent : (x : Name) (u t : Typ) → occurs x t ≡ false → put_typ (single x u) t ≡ t
  single-absent x u (Con c ts) h = ap (Con c) (single_all-absent x u ts h)
  single-absent x u (Fixed a) h = refl
  single-absent x u (Schematic y) h = single-other x y u (same_name-turned x y h)

  pub single_all-absent : (x : Name) (u : Typ) (ts : Types) → occurs_any x ts ≡ false → put_typs (single x u) ts ≡ ts
  single_all-absent x u Nil h = refl
  single_all-absent x u (ty_cons t ts) h =
      let e = single-absent x u t (or-left (occurs x t) (occurs_any x ts) h) in
      let f = single_all-absent x u ts (or-right (occurs x t) (occurs_any x ts) h) in
      λ i. ty_cons (e i) (f i)

-- a map under f, with another behind that is f where the first has no entry
behind_by : (f : Name → Typ) (e : Name × Typ) (y : Name) (a : Typ) (b : Typ) (v : Bool) → same_name y e.0 ≡ v
    → (v ≡ false → b ≡ put_typ f a) → (if v then put_typ f e.1 else b) ≡ put_typ f (if v then e.1 else a)
behind_by f e y a b true h k = refl
behind_by f e y a b false h k = k refl

absent_by : (e : Name × Typ) (s : TyMap) (y : Name) → same_name y e.0 ≡ false → has s y ≡ false → has (e ∷ s) y ≡ false
unfolding has
absent_by e s y h k = rw h k

pub at-behind : (f : Name → Typ) (s r : TyMap) (y : Name) → (has s y ≡ false → at r y ≡ f y) → at (under f s ++ r) y ≡ put_typ f (at s y)
unfolding at under has put_typ
at-behind f [] r y k = k refl
at-behind f (e ∷ s) r y k = behind_by f e y (at s y) (at (under f s ++ r) y) (same_name y e.0) refl
    (λ h. at-behind f s r y (λ q. k (absent_by e s y h q)))

pub at-assign : (s : TyMap) (x : Name) (t : Typ) (y : Name) → at (assign s x t) y ≡ put_typ (single x t) (at s y)
unfolding assign at single
at-assign s x t y = at-behind (single x t) s ((x, t) ∷ []) y (λ h. refl)

unhidden_by : (s r : TyMap) (e : Name × Typ) (y : Name) → has s y ≡ false → at (unhidden s r) y ≡ at r y
    → (v w : Bool) → has s e.0 ≡ v → same_name y e.0 ≡ w
    → at (if v then unhidden s r else e ∷ unhidden s r) y ≡ (if w then e.1 else at r y)
unfolding at
unhidden_by s r e y n k true true h q = absurd (let z : y ≡ e.0 = same_name-true y e.0 q in
    let bad : true ≡ false = sym h ∙ ap (has s) (sym z) ∙ n in cc)
unhidden_by s r e y n k true false h q = k
unhidden_by s r e y n k false true h q = rw q
unhidden_by s r e y n k false false h q = rw q k

pub at-unhidden : (s r : TyMap) (y : Name) → has s y ≡ false → at (unhidden s r) y ≡ at r y
unfolding at unhidden
at-unhidden s [] y n = refl
at-unhidden s (e ∷ r) y n = unhidden_by s r e y n (at-unhidden s r y n) (has s e.0) (same_name y e.0) refl refl

pub at-composed : (s r : TyMap) (y : Name) → at (composed s r) y ≡ put_typ (at r) (at s y)
unfolding composed
at-composed s r y = at-behind (at r) s (unhidden s r) y (at-unhidden s r y)

-- one after the other
pub put-composed : (s r : TyMap) (t : Typ) → put_typ (at (composed s r)) t ≡ put_typ (at r) (put_typ (at s) t)
put-composed s r t = put-same _ _ (at-composed s r) t ∙ sym (put-put (at s) (at r) t)

pub put-assign : (s : TyMap) (x : Name) (u : Typ) (t : Typ) → put_typ (at (assign s x u)) t ≡ put_typ (single x u) (put_typ (at s) t)
put-assign s x u t = put-same _ _ (at-assign s x u) t ∙ sym (put-put (at s) (single x u) t)

pub then-assign : (s : TyMap) (x : Name) (u : Typ) (g : Name → Typ) (y : Name)
    → then_put (at (assign s x u)) g y ≡ then_put (at s) (then_put (single x u) g) y
then-assign s x u g y = ap (put_typ g) (at-assign s x u y) ∙ put-put (single x u) g (at s y)

pass_by : (s : TyMap) (x : Name) (t : Typ) → at s x ≡ Schematic x → put_typ (at s) t ≡ t → occurs x t ≡ false
    → (z : Name) (v : Bool) → same_name z x ≡ v
    → put_typ (single x t) (put_typ (at s) (if v then t else Schematic z)) ≡ put_typ (single x t) (at s z)
pass_by s x t free own out z true h =
    let e : z ≡ x = same_name-true z x h in
    let l : put_typ (single x t) (put_typ (at s) t) ≡ t = ap (put_typ (single x t)) own ∙ single-absent x t t out in
    let r : put_typ (single x t) (at s z) ≡ t =
    ap (put_typ (single x t)) (ap (at s) e ∙ free) ∙ put-variable (single x t) x ∙ single-here x t in
    l ∙ sym r
pass_by s x t free own out z false h = ap (put_typ (single x t)) (put-variable (at s) z)

pub pass-single : (s : TyMap) (x : Name) (t : Typ) → at s x ≡ Schematic x → put_typ (at s) t ≡ t → occurs x t ≡ false
    → (w : Typ) → put_typ (single x t) (put_typ (at s) (put_typ (single x t) w)) ≡ put_typ (single x t) (put_typ (at s) w)
unfolding single
pass-single s x t free own out w =
    let f = single x t in
    let e : put_typ f (put_typ (at s) (put_typ f w)) ≡ put_typ (then_put (then_put f (at s)) f) w =
    ap (put_typ f) (put-put f (at s) w) ∙ put-put (then_put f (at s)) f w in
    e ∙ put-same _ _ (λ z. pass_by s x t free own out z (same_name z x) refl) w ∙ sym (put-put (at s) f w)

-- an idempotent map stays so when a variable that it leaves is assigned a type without it, both under the map
pub idempotent-assign : (s : TyMap) (x : Name) (t : Typ) → IsIdempotent (at s) → at s x ≡ Schematic x → put_typ (at s) t ≡ t
    → occurs x t ≡ false → IsIdempotent (at (assign s x t))
idempotent-assign s x t k free own out y =
    let f = single x t in
    ap (put_typ (at (assign s x t))) (at-assign s x t y) ∙ put-assign s x t (put_typ f (at s y))
    ∙ pass-single s x t free own out (at s y) ∙ ap (put_typ f) (k y) ∙ sym (at-assign s x t y)

-- what has no variable of a map stays

none-by : (e : Name × Typ) (y : Name) (h : Bool) (a : Typ) (v : Bool) → (if v then true else h) ≡ false → (h ≡ false → a ≡ Schematic y)
    → (if v then e.1 else a) ≡ Schematic y
none-by e y h a true k q = absurd (let bad : true ≡ false = k in cc)
none-by e y h a false k q = q k

pub at-none : (s : TyMap) (y : Name) → has s y ≡ false → at s y ≡ Schematic y
unfolding at has
at-none [] y h = refl
at-none (e ∷ s) y h = none-by e y (has s y) (at s y) (same_name y e.0) h (at-none s y)

kept_by : (s : TyMap) (y : Name) (v : Bool) → has s y ≡ v → (v ≡ true → same_name y y ≡ false) → at s y ≡ Schematic y
kept_by s y true h k = absurd (let bad : true ≡ false = sym (same_name-same y) ∙ k refl in cc)
kept_by s y false h k = at-none s y h

mutual
  unfolding put_typ put_typs occurs occurs_any

  pub put-kept : (s : TyMap) (t : Typ) → ((y : Name) → has s y ≡ true → occurs y t ≡ false) → put_typ (at s) t ≡ t
  put-kept s (Con c ts) k = ap (Con c) (put_all-kept s ts k)
  put-kept s (Fixed a) k = refl
  put-kept s (Schematic y) k = kept_by s y (has s y) refl (k y)

  pub put_all-kept : (s : TyMap) (ts : Types) → ((y : Name) → has s y ≡ true → occurs_any y ts ≡ false) → put_typs (at s) ts ≡ ts
  put_all-kept s Nil k = refl
  put_all-kept s (ty_cons t ts) k =
      let e = put-kept s t (λ y h. or-left (occurs y t) (occurs_any y ts) (k y h)) in
      let f = put_all-kept s ts (λ y h. or-right (occurs y t) (occurs_any y ts) (k y h)) in
      λ i. ty_cons (e i) (f i)
