-- Laws of assignments in triangular form.
use Rattle.std.proofs.Common.{◌≡◌, ℕ, Bool, true, false, refl, sym, ◌∙◌, ap, subst, [], ◌∷◌, ◌++◌, Option, None, Some, if◌then◌else◌, ◌≤◌, ◌<◌, suc, arith, length}
use Rattle.iv_text.specs.declared.name.Name.{Name}
use Rattle.iv_term.specs.declared.typ.Typ.{Typ}
use Rattle.iv_term.specs.declared.typ.Typ.TheBlock.{Schematic}
use Rattle.iv_text.specs.Name.{same_name}
use Rattle.iv_text.proofs.Same.{same_name-true, same_name-same}
use Rattle.iv_subst.specs.TySubst.{put_typ, then_put, single, occurs, TyMap, seek, at, under, assign, IsIdempotent}
use Rattle.iv_subst.specs.Solved.{grown, solved, rank, AreSolved, IsHead}
use Rattle.iv_subst.proofs.Laws.Put.{put-variable, put-put, put-same, single-absent, at-assign, idempotent-assign, same_name-turned}

pub grown-push : (s es : TyMap) (x : Name) (t : Typ) → grown s (es ++ (x, t) ∷ []) ≡ assign (grown s es) x (put_typ (at (grown s es)) t)
unfolding grown
grown-push s [] x t = refl
grown-push s (e ∷ es) x t = grown-push (assign s e.0 (put_typ (at s) e.1)) es x t

-- look-ups

under-append : (f : Name → Typ) (s r : TyMap) → under f (s ++ r) ≡ under f s ++ under f r
unfolding under
under-append f [] r = refl
under-append f (e ∷ s) r = ap (λ z. (e.0, put_typ f e.1) ∷ z) (under-append f s r)

under-under : (f g : Name → Typ) (s : TyMap) → under g (under f s) ≡ under (then_put f g) s
unfolding under
under-under f g [] = refl
under-under f g (e ∷ s) = let h = put-put f g e.1 in let k = under-under f g s in λ i. (e.0, h i) ∷ k i

under-same : (f g : Name → Typ) → ((x : Name) → f x ≡ g x) → (s : TyMap) → under f s ≡ under g s
under-same f g e s = λ i. under (λ (x : Name). e x i) s

under-some-by : (f : Name → Typ) (e : Name × Typ) (y : Name) (t : Typ) (o : Option Typ) (b : Typ) (v : Bool)
    → (if v then Some e.1 else o) ≡ Some t → (o ≡ Some t → b ≡ put_typ f t) → (if v then put_typ f e.1 else b) ≡ put_typ f t
under-some-by f e y t o b true h k = let q : Some e.1 ≡ Some t = h in let r : e.1 ≡ t = cc in ap (put_typ f) r
under-some-by f e y t o b false h k = k h

pub at-under-some : (f : Name → Typ) (s : TyMap) (y : Name) (t : Typ) → seek s y ≡ Some t → at (under f s) y ≡ put_typ f t
unfolding seek at under
at-under-some f [] y t h = absurd (let bad : None ≡ Some t = h in cc)
at-under-some f (e ∷ s) y t h = under-some-by f e y t (seek s y) (at (under f s) y) (same_name y e.0) h (at-under-some f s y t)

under-none-by : (e : Name × Typ) (y : Name) (o : Option Typ) (a b : Typ) (v : Bool) → (if v then Some e.1 else o) ≡ None
    → (o ≡ None → b ≡ Schematic y) → (if v then a else b) ≡ Schematic y
under-none-by e y o a b true h k = absurd (let bad : Some e.1 ≡ None = h in cc)
under-none-by e y o a b false h k = k h

pub at-under-none : (f : Name → Typ) (s : TyMap) (y : Name) → seek s y ≡ None → at (under f s) y ≡ Schematic y
unfolding seek at under
at-under-none f [] y h = refl
at-under-none f (e ∷ s) y h = under-none-by e y (seek s y) (put_typ f e.1) (at (under f s) y) (same_name y e.0) h (at-under-none f s y)

-- a variable with an assignment is, under the map, the assigned type under the map; any other is itself
pub link-some : (es : TyMap) → AreSolved es → (y : Name) (t : Typ) → seek es y ≡ Some t → at (solved es) y ≡ put_typ (at (solved es)) t
link-some es k y t h = ap (λ s. at s y) k.fixed ∙ at-under-some (at (solved es)) es y t h

pub link-none : (es : TyMap) → AreSolved es → (y : Name) → seek es y ≡ None → at (solved es) y ≡ Schematic y
link-none es k y h = ap (λ s. at s y) k.fixed ∙ at-under-none (at (solved es)) es y h

-- ranks

seek-push-by : (e : Name × Typ) (o p : Option Typ) (v : Bool) (a : Option Typ) → (o ≡ None → p ≡ a) → (if v then Some e.1 else o) ≡ None
    → (if v then Some e.1 else p) ≡ a
seek-push-by e o p true a k h = absurd (let bad : Some e.1 ≡ None = h in cc)
seek-push-by e o p false a k h = k h

pub seek-push-none : (es r : TyMap) (y : Name) → seek es y ≡ None → seek (es ++ r) y ≡ seek r y
unfolding seek
seek-push-none [] r y h = refl
seek-push-none (e ∷ es) r y h = seek-push-by e (seek es y) (seek (es ++ r) y) (same_name y e.0) (seek r y) (seek-push-none es r y) h

seek-some-by : (e : Name × Typ) (t : Typ) (o p : Option Typ) (v : Bool) → (o ≡ Some t → p ≡ Some t) → (if v then Some e.1 else o) ≡ Some t
    → (if v then Some e.1 else p) ≡ Some t
seek-some-by e t o p true k h = h
seek-some-by e t o p false k h = k h

pub seek-push-some : (es r : TyMap) (y : Name) (t : Typ) → seek es y ≡ Some t → seek (es ++ r) y ≡ Some t
unfolding seek
seek-push-some [] r y t h = absurd (let bad : None ≡ Some t = h in cc)
seek-push-some (e ∷ es) r y t h = seek-some-by e t (seek es y) (seek (es ++ r) y) (same_name y e.0) (seek-push-some es r y t) h

length-push : (es : TyMap) (e : Name × Typ) → length (es ++ e ∷ []) ≡ suc (length es)
length-push [] e = refl
length-push (d ∷ es) e = ap suc (length-push es e)

rank-some-by : (e : Name × Typ) (t : Typ) (o : Option Typ) (n m l k : ℕ) (v : Bool) → (if v then Some e.1 else o) ≡ Some t → (o ≡ Some t → m ≡ suc n)
    → k ≡ suc l → (if v then suc k else m) ≡ suc (if v then suc l else n)
rank-some-by e t o n m l k true h q r = ap suc r
rank-some-by e t o n m l k false h q r = q h

rank-push-some : (es : TyMap) (d : Name × Typ) (y : Name) (t : Typ) → seek es y ≡ Some t → rank (es ++ d ∷ []) y ≡ suc (rank es y)
unfolding seek rank
rank-push-some [] d y t h = absurd (let bad : None ≡ Some t = h in cc)
rank-push-some (e ∷ es) d y t h = rank-some-by e t (seek es y) (rank es y) (rank (es ++ d ∷ []) y) (length es) (length (es ++ d ∷ [])) (same_name y e.0) h
    (rank-push-some es d y t) (length-push es d)

rank-none-by : (e : Name × Typ) (o : Option Typ) (m l n : ℕ) (v : Bool) → (if v then Some e.1 else o) ≡ None → (o ≡ None → m ≡ n) → (if v then l else m) ≡ n
rank-none-by e o m l n true h q = absurd (let bad : Some e.1 ≡ None = h in cc)
rank-none-by e o m l n false h q = q h

rank-push-none : (es : TyMap) (d : Name × Typ) (y : Name) → seek es y ≡ None → rank (es ++ d ∷ []) y ≡ rank (d ∷ []) y
unfolding seek rank
rank-push-none [] d y h = refl
rank-push-none (e ∷ es) d y h = rank-none-by e (seek es y) (rank (es ++ d ∷ []) y) (suc (length (es ++ d ∷ []))) (rank (d ∷ []) y) (same_name y e.0) h (rank-push-none es d y)

pub rank-none : (es : TyMap) (y : Name) → seek es y ≡ None → rank es y ≡ 0
unfolding seek rank
rank-none [] y h = refl
rank-none (e ∷ es) y h = rank-none-by e (seek es y) (rank es y) (suc (length es)) 0 (same_name y e.0) h (rank-none es y)

rank-some-pos : (e : Name × Typ) (t : Typ) (o : Option Typ) (n l : ℕ) (v : Bool) → (if v then Some e.1 else o) ≡ Some t → (o ≡ Some t → 0 < n) → 0 < (if v then suc l else n)
rank-some-pos e t o n l true h k = omega arith
rank-some-pos e t o n l false h k = k h

pub rank-some : (es : TyMap) (y : Name) (t : Typ) → seek es y ≡ Some t → 0 < rank es y
unfolding seek rank
rank-some [] y t h = absurd (let bad : None ≡ Some t = h in cc)
rank-some (e ∷ es) y t h = rank-some-pos e t (seek es y) (rank es y) (length es) (same_name y e.0) h (rank-some es y t)

one-rank-by : (v : Bool) → (if v then 1 else 0) ≤ 1
one-rank-by true = omega arith
one-rank-by false = omega arith

one-rank : (d : Name × Typ) (y : Name) → rank (d ∷ []) y ≤ 1
unfolding rank
one-rank d y = one-rank-by (same_name y d.0)

other-rank : (x y : Name) (t : Typ) → same_name y x ≡ false → rank ((x, t) ∷ []) y ≡ 0
unfolding rank
other-rank x y t h = rw h refl

-- the rank of any variable after one more assignment
rank-after : (es : TyMap) (d : Name × Typ) (z : Name) (o : Option Typ) → seek es z ≡ o → rank (es ++ d ∷ []) z ≤ suc (rank es z)
rank-after es d z None h = let e = rank-push-none es d z h in let l = one-rank d z in omega arith
rank-after es d z (Some t) h = let e = rank-push-some es d z t h in omega arith

found-new : (es : TyMap) (x y z : Name) (t : Typ) → seek ((x, t) ∷ []) y ≡ Some (Schematic z) → (v : Bool) → same_name y x ≡ v → (y ≡ x) × (t ≡ Schematic z)
unfolding seek
found-new es x y z t h true q = let g : Some t ≡ Some (Schematic z) = rw q at h in (same_name-true y x q, (let r : t ≡ Schematic z = cc in r))
found-new es x y z t h false q = absurd (let bad : None ≡ Some (Schematic z) = rw q at h in cc)

rank-here : (x y : Name) (t : Typ) → y ≡ x → rank ((x, t) ∷ []) y ≡ 1
unfolding rank
rank-here x y t e = let q : same_name y x ≡ true = ap (λ n. same_name n x) e ∙ same_name-same x in rw q refl

variable-apart : (x z : Name) (v : Bool) → same_name x z ≡ v → v ≡ false → same_name z x ≡ false
variable-apart x z v h q = same_name-turned x z (h ∙ q)

linked-by : (es : TyMap) (x : Name) (t : Typ) → AreSolved es → seek es x ≡ None → IsHead es t → occurs x (put_typ (at (solved es)) t) ≡ false
    → (y z : Name) (o : Option Typ) → seek es y ≡ o → seek (es ++ (x, t) ∷ []) y ≡ Some (Schematic z)
    → rank (es ++ (x, t) ∷ []) z < rank (es ++ (x, t) ∷ []) y
unfolding occurs
linked-by es x t k free top out y z (Some u) p h =
    let same : Some u ≡ Some (Schematic z) = sym (seek-push-some es ((x, t) ∷ []) y u p) ∙ h in
    let l = k.linked y z (p ∙ same) in
    let e = rank-push-some es (x, t) y u p in
    let f = rank-after es (x, t) z (seek es z) refl in
    omega arith
linked-by es x t k free top out y z None p h =
    let new = found-new es x y z t (sym (seek-push-none es ((x, t) ∷ []) y p) ∙ h) (same_name y x) refl in
    let none : seek es z ≡ None = top z new.1 in
    let is : put_typ (at (solved es)) t ≡ Schematic z = ap (put_typ (at (solved es))) new.1 ∙ put-variable (at (solved es)) z ∙ link-none es k z none in
    let apart : same_name x z ≡ false = subst (λ u. occurs x u ≡ false) is out in
    let e : rank (es ++ (x, t) ∷ []) z ≡ 0 = rank-push-none es (x, t) z none ∙ other-rank x z t (same_name-turned x z apart) in
    let f : rank (es ++ (x, t) ∷ []) y ≡ 1 = rank-push-none es (x, t) y p ∙ rank-here x y t new.0 in
    omega arith

-- one more assignment

fixed-push : (es : TyMap) (x : Name) (t : Typ) → AreSolved es → occurs x (put_typ (at (solved es)) t) ≡ false
    → assign (solved es) x (put_typ (at (solved es)) t) ≡ under (at (assign (solved es) x (put_typ (at (solved es)) t))) (es ++ (x, t) ∷ [])
unfolding assign under
fixed-push es x t k out =
    let s = solved es in
    let u = put_typ (at s) t in
    let f = at (assign s x u) in
    let pass : (y : Name) → f y ≡ then_put (at s) (single x u) y = at-assign s x u in
    let front : under (single x u) s ≡ under f es =
    ap (under (single x u)) k.fixed ∙ under-under (at s) (single x u) es ∙ under-same _ _ (λ y. sym (pass y)) es in
    let value : put_typ f t ≡ u = put-same _ _ pass t ∙ sym (put-put (at s) (single x u) t) ∙ single-absent x u u out in
    (λ i. front i ++ (x, sym value i) ∷ []) ∙ sym (under-append f es ((x, t) ∷ []))

pub solved-push : (es : TyMap) (x : Name) (t : Typ) → AreSolved es → seek es x ≡ None → IsHead es t → occurs x (put_typ (at (solved es)) t) ≡ false
    → AreSolved (es ++ (x, t) ∷ [])
solved-push es x t k free top out =
    let s = solved es in
    let u = put_typ (at s) t in
    let e : solved (es ++ (x, t) ∷ []) ≡ assign s x u = grown-push [] es x t in
    let own : put_typ (at s) u ≡ u = put-put (at s) (at s) t ∙ put-same _ _ k.clean t in
    let clean : IsIdempotent (at (assign s x u)) = idempotent-assign s x u k.clean (link-none es k x free) own out in
    let fixed : assign s x u ≡ under (at (assign s x u)) (es ++ (x, t) ∷ []) = fixed-push es x t k out in
    record {
      fixed = subst (λ m. m ≡ under (at m) (es ++ (x, t) ∷ [])) (sym e) fixed;
      linked = λ y z h. linked-by es x t k free top out y z (seek es y) refl h;
      clean = subst (λ m. IsIdempotent (at m)) (sym e) clean;
    }

pub solved-none : AreSolved []
unfolding grown under seek at put_typ
solved-none = record { fixed = refl; linked = λ y z h. absurd (let bad : None ≡ Some (Schematic z) = h in cc); clean = λ x. refl }
