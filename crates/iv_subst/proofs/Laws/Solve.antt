-- Laws of the turns: what they find is a most general unifier, and they find one where there is one.
use Rattle.std.proofs.Common.{◌≡◌, ℕ, Bool, true, false, refl, sym, ◌∙◌, ap, subst, List, [], ◌∷◌, ◌++◌, Option, None, Some, if◌then◌else◌, ◌<◌, zero, suc, arith, length}
use Rattle.iv_text.specs.declared.name.Name.{Name}
use Rattle.iv_term.specs.declared.typ.Typ.{Typ}
use Rattle.iv_term.specs.declared.typ.Types.{Types}
use Rattle.iv_term.specs.declared.typ.Typ.TheBlock.{Con, Fixed, Schematic, Nil}
use Rattle.iv_term.specs.Typ.{ty_cons}
use Rattle.iv_text.specs.Name.{same_name}
use Rattle.iv_text.proofs.Same.{same_name-true, same_name-same}
use Rattle.std.specs.Prelude.{Result, Ok, Err, OnOk, IfErr}
use Rattle.iv_subst.specs.declared.no_unify.NoUnify.{NoUnify}
use Rattle.iv_subst.specs.declared.no_unify.NoUnify.TheVariants.{Clash}
use Rattle.iv_subst.specs.TySubst.{put_typ, put_typs, then_put, single, occurs, occurs_any, TyMap, at, assign, composed}
use Rattle.std.specs.Prelude.{◌||◌}
use Rattle.iv_subst.specs.Unifier.{IsUnifier, IsMostGeneral, IsSolved, followed, unified_under, Difference, nowhere, clash, variable, differ, variables, variables_all, turn, stuck, solve, unified}
use Rattle.iv_subst.proofs.Laws.Put.{put-variable, put-none, put-put, put-same, single-absorbed, single-instance, same_name-turned, or-left, or-right, at-assign, at-composed, single-other}
use Rattle.iv_subst.proofs.Laws.Differ.{differ-nowhere, differ-needs, Needs, differ-apart, Apart, Each, EachOf, Each-put, EachIn, differ-each, occurs-apart}

-- soundness and generality

-- r is s and then m, where m makes both types equal and every unifier goes through m
pub record Solution (s : TyMap) (a b : Typ) (r : TyMap) : Type 0 where
  pub by_map : Name → Typ
  pub after : (y : Name) → at r y ≡ put_typ by_map (at s y)
  pub unifier : put_typ by_map a ≡ put_typ by_map b
  pub absorbed : (g : Name → Typ) → put_typ g a ≡ put_typ g b → (y : Name) → put_typ g (by_map y) ≡ g y
  pub stays : (y : Name) → occurs y a ≡ false → occurs y b ≡ false → by_map y ≡ Schematic y
  pub no_new : (y : Name) → occurs y a ≡ false → occurs y b ≡ false → (z : Name) → same_name y z ≡ false → occurs y (by_map z) ≡ false

abbrev pub Sound : (TyMap → Typ → Typ → Option TyMap) → Type 0
Sound next = (s : TyMap) (a b : Typ) (r : TyMap) → next s a b ≡ Some r → Solution s a b r

some-is : (s r : TyMap) → Some s ≡ Some r → s ≡ r
some-is s r e = cc

or-both : (a b : Bool) → a ≡ false → b ≡ false → (a || b) ≡ false
or-both false b h k = k
or-both true b h k = h

-- a variable that doesn't stand in a type, nor in what is put for another, doesn't stand in the type under f
mutual
  unfolding occurs occurs_any put_typ put_typs

  lacks-put : (y : Name) (f : Name → Typ) → ((z : Name) → same_name y z ≡ false → occurs y (f z) ≡ false) → (t : Typ) → occurs y t ≡ false
      → occurs y (put_typ f t) ≡ false
  lacks-put y f k (Con c ts) h = lacks_all-put y f k ts h
  lacks-put y f k (Fixed a) h = refl
  lacks-put y f k (Schematic z) h = k z h

  lacks_all-put : (y : Name) (f : Name → Typ) → ((z : Name) → same_name y z ≡ false → occurs y (f z) ≡ false) → (ts : Types) → occurs_any y ts ≡ false
      → occurs_any y (put_typs f ts) ≡ false
  lacks_all-put y f k Nil h = refl
  lacks_all-put y f k (ty_cons t ts) h =
      or-both (occurs y (put_typ f t)) (occurs_any y (put_typs f ts)) (lacks-put y f k t (or-left (occurs y t) (occurs_any y ts) h))
      (lacks_all-put y f k ts (or-right (occurs y t) (occurs_any y ts) h))

lacks-single-by : (y x : Name) (t : Typ) → occurs y t ≡ false → (z : Name) → same_name y z ≡ false → (v : Bool) → occurs y (if v then t else Schematic z) ≡ false
unfolding occurs
lacks-single-by y x t h z n true = h
lacks-single-by y x t h z n false = n

lacks-single : (y x : Name) (t : Typ) → occurs y t ≡ false → (z : Name) → same_name y z ≡ false → occurs y (single x t z) ≡ false
unfolding single
lacks-single y x t h z n = lacks-single-by y x t h z n (same_name z x)

-- the first difference has variables of both types alone
mutual
  unfolding Each EachOf occurs occurs_any

  each-lacks : (y : Name) (t : Typ) → occurs y t ≡ false → Each (λ z. same_name y z ≡ false) t
  each-lacks y (Con c ts) h = each_all-lacks y ts h
  each-lacks y (Fixed a) h = tt
  each-lacks y (Schematic z) h = h

  each_all-lacks : (y : Name) (ts : Types) → occurs_any y ts ≡ false → EachOf (λ z. same_name y z ≡ false) ts
  each_all-lacks y Nil h = tt
  each_all-lacks y (ty_cons t ts) h =
      (each-lacks y t (or-left (occurs y t) (occurs_any y ts) h), each_all-lacks y ts (or-right (occurs y t) (occurs_any y ts) h))

mutual
  unfolding Each EachOf occurs occurs_any

  lacks-each : (y : Name) (t : Typ) → Each (λ z. same_name y z ≡ false) t → occurs y t ≡ false
  lacks-each y (Con c ts) h = lacks_all-each y ts h
  lacks-each y (Fixed a) h = refl
  lacks-each y (Schematic z) h = h

  lacks_all-each : (y : Name) (ts : Types) → EachOf (λ z. same_name y z ≡ false) ts → occurs_any y ts ≡ false
  lacks_all-each y Nil h = refl
  lacks_all-each y (ty_cons t ts) h = or-both (occurs y t) (occurs_any y ts) (lacks-each y t h.0) (lacks_all-each y ts h.1)

differ-lacks : (a b : Typ) (x : Name) (t : Typ) → differ a b ≡ variable x t → (y : Name) → occurs y a ≡ false → occurs y b ≡ false
    → (same_name y x ≡ false) × (occurs y t ≡ false)
differ-lacks a b x t e y h k =
    let p : EachIn (λ z. same_name y z ≡ false) (variable x t) =
    subst (EachIn (λ z. same_name y z ≡ false)) e (differ-each (λ z. same_name y z ≡ false) a b (each-lacks y a h) (each-lacks y b k)) in
    (p.0, lacks-each y t p.1)

later : (s : TyMap) (x : Name) (t a b : Typ) (r : TyMap) → ((g : Name → Typ) → put_typ g a ≡ put_typ g b → g x ≡ put_typ g t)
    → ((y : Name) → occurs y a ≡ false → occurs y b ≡ false → (same_name y x ≡ false) × (occurs y t ≡ false))
    → Solution (assign s x t) (put_typ (single x t) a) (put_typ (single x t) b) r → Solution s a b r
later s x t a b r needs lacks q = record {
  by_map = then_put (single x t) q.by_map;
  after = λ y. q.after y ∙ ap (put_typ q.by_map) (at-assign s x t y) ∙ put-put (single x t) q.by_map (at s y);
  unifier = sym (put-put (single x t) q.by_map a) ∙ q.unifier ∙ put-put (single x t) q.by_map b;
  absorbed = λ g u y.
      let n = needs g u in
      let w : put_typ g (put_typ (single x t) a) ≡ put_typ g (put_typ (single x t) b) =
      single-instance g x t n a ∙ u ∙ sym (single-instance g x t n b) in
      put-put q.by_map g (single x t y) ∙ put-same (then_put q.by_map g) g (q.absorbed g w) (single x t y) ∙ single-absorbed g x t n y;
  stays = λ y h k.
      let l = lacks y h k in
      ap (put_typ q.by_map) (single-other x y t l.0) ∙ put-variable q.by_map y
      ∙ q.stays y (lacks-put y (single x t) (lacks-single y x t l.1) a h) (lacks-put y (single x t) (lacks-single y x t l.1) b k);
  no_new = λ y h k z n.
      let l = lacks y h k in
      let single_lacks : (v : Name) → same_name y v ≡ false → occurs y (single x t v) ≡ false = lacks-single y x t l.1 in
      lacks-put y q.by_map (q.no_new y (lacks-put y (single x t) single_lacks a h) (lacks-put y (single x t) single_lacks b k))
      (single x t z) (single_lacks z n);
}

if-some : (next : Option TyMap) (r : TyMap) (v : Bool) → (if v then None else next) ≡ Some r → next ≡ Some r
if-some next r true h = absurd (let bad : None ≡ Some r = h in cc)
if-some next r false h = h

turn-sound : (next : TyMap → Typ → Typ → Option TyMap) → Sound next → (s : TyMap) (a b : Typ) (r : TyMap) (d : Difference)
    → differ a b ≡ d → turn next s a b d ≡ Some r → Solution s a b r
unfolding turn occurs
turn-sound next k s a b r nowhere e h = record {
  by_map = Schematic;
  after = λ y. ap (λ m. at m y) (sym (some-is s r h)) ∙ sym (put-none (at s y));
  unifier = ap (put_typ Schematic) (differ-nowhere a b e);
  absorbed = λ g u y. put-variable g y;
  stays = λ y h k. refl;
  no_new = λ y h k z n. n;
}
turn-sound next k s a b r clash e h = absurd (let bad : None ≡ Some r = h in cc)
turn-sound next k s a b r (variable x t) e h =
    let n : (g : Name → Typ) → put_typ g a ≡ put_typ g b → g x ≡ put_typ g t =
    λ g u. subst (Needs g) e (differ-needs g a b u) in
    later s x t a b r n (differ-lacks a b x t e) (k _ _ _ r (if-some _ r (occurs x t) h))

stuck-sound : Sound stuck
stuck-sound s a b r h = absurd (let bad : None ≡ Some r = h in cc)

pub solve-sound : (n : ℕ) → Sound (solve n)
unfolding solve
solve-sound zero s a b r h = turn-sound stuck stuck-sound s a b r (differ a b) refl h
solve-sound (suc n) s a b r h = turn-sound (solve n) (solve-sound n) s a b r (differ a b) refl h

-- names in a list, and without one of them
unfoldable pub among : Name → List Name → Bool
among x [] = false
among x (y ∷ vs) = if same_name x y then true else among x vs

unfoldable pub without : Name → List Name → List Name
without x [] = []
without x (y ∷ vs) = if same_name x y then vs else y ∷ without x vs

abbrev pub In : List Name → Name → Type 0
In vs x = among x vs ≡ true

without-by : (x y : Name) (vs : List Name) (v : Bool) → (v ≡ false → suc (length (without x vs)) ≡ length vs)
    → suc (length (if v then vs else y ∷ without x vs)) ≡ suc (length vs)
without-by x y vs true k = refl
without-by x y vs false k = ap suc (k refl)

in-by : (x y : Name) (vs : List Name) (v : Bool) → (if v then true else among x vs) ≡ true → v ≡ false → among x vs ≡ true
in-by x y vs true h q = absurd (let bad : true ≡ false = q in cc)
in-by x y vs false h q = h

pub without-shorter : (x : Name) (vs : List Name) → In vs x → suc (length (without x vs)) ≡ length vs
unfolding among without
without-shorter x [] h = absurd (let bad : false ≡ true = h in cc)
without-shorter x (y ∷ vs) h = without-by x y vs (same_name x y) (λ q. without-shorter x vs (in-by x y vs (same_name x y) h q))

pub in-here : (y : Name) (vs : List Name) → among y (y ∷ vs) ≡ true
unfolding among
in-here y vs = rw (same_name-same y)

in-behind-by : (v w : Bool) → w ≡ true → (if v then true else w) ≡ true
in-behind-by true w h = refl
in-behind-by false w h = h

pub in-behind : (z y : Name) (vs : List Name) → among z vs ≡ true → among z (y ∷ vs) ≡ true
unfolding among
in-behind z y vs h = in-behind-by (same_name z y) (among z vs) h

-- another name stays
still-by : (z x y : Name) (vs : List Name) → same_name z x ≡ false → (among z vs ≡ true → among z (without x vs) ≡ true)
    → (v : Bool) → same_name x y ≡ v → (w : Bool) → same_name z y ≡ w → (if w then true else among z vs) ≡ true
    → among z (if v then vs else y ∷ without x vs) ≡ true
unfolding among
still-by z x y vs n k true e true f h = absurd (let p : z ≡ y = same_name-true z y f in let q : x ≡ y = same_name-true x y e in
    let bad : true ≡ false = sym (same_name-same z) ∙ ap (same_name z) (p ∙ sym q) ∙ n in cc)
still-by z x y vs n k true e false f h = h
still-by z x y vs n k false e true f h = rw f
still-by z x y vs n k false e false f h = rw f (k h)

pub without-still : (z x : Name) (vs : List Name) → same_name z x ≡ false → In vs z → In (without x vs) z
unfolding without among
without-still z x [] n h = h
without-still z x (y ∷ vs) n h = still-by z x y vs n (without-still z x vs n) (same_name x y) refl (same_name z y) refl h

-- the variables of a type without x
mutual
  unfolding Each EachOf occurs occurs_any

  pub each-without : (x : Name) (vs : List Name) (t : Typ) → occurs x t ≡ false → Each (In vs) t → Each (In (without x vs)) t
  each-without x vs (Con c ts) n h = each_all-without x vs ts n h
  each-without x vs (Fixed a) n h = tt
  each-without x vs (Schematic y) n h = without-still y x vs (same_name-turned x y n) h

  pub each_all-without : (x : Name) (vs : List Name) (ts : Types) → occurs_any x ts ≡ false → EachOf (In vs) ts → EachOf (In (without x vs)) ts
  each_all-without x vs Nil n h = tt
  each_all-without x vs (ty_cons t ts) n h =
      (each-without x vs t (or-left (occurs x t) (occurs_any x ts) n) h.0, each_all-without x vs ts (or-right (occurs x t) (occurs_any x ts) n) h.1)

single_by : (x : Name) (t : Typ) (vs : List Name) → Each (In (without x vs)) t → (y : Name) → In vs y → (v : Bool) → same_name y x ≡ v
    → Each (In (without x vs)) (if v then t else Schematic y)
unfolding Each
single_by x t vs k y h true e = k
single_by x t vs k y h false e = without-still y x vs e h

-- once t without x is put for x, x is gone
pub each-single : (x : Name) (t : Typ) (vs : List Name) → occurs x t ≡ false → Each (In vs) t → (a : Typ) → Each (In vs) a
    → Each (In (without x vs)) (put_typ (single x t) a)
unfolding single
each-single x t vs n h a k = Each-put (In vs) (In (without x vs)) (single x t) a
    (λ y q. single_by x t vs (each-without x vs t n h) y q (same_name y x) refl) k

-- enough turns

abbrev pub Complete : ℕ → (TyMap → Typ → Typ → Option TyMap) → Type 0
Complete n next = (vs : List Name) (s : TyMap) (a b : Typ) → length vs < n → Each (In vs) a → Each (In vs) b → next s a b ≡ None
    → (g : Name → Typ) → put_typ g a ≡ put_typ g b → ⊥

if-none : (next : Option TyMap) (v : Bool) → (if v then None else next) ≡ None → v ≡ false → next ≡ None
if-none next true h q = absurd (let bad : true ≡ false = q in cc)
if-none next false h q = h

more-turns : (next : TyMap → Typ → Typ → Option TyMap) (n : ℕ) → Complete n next → (vs : List Name) (s : TyMap) (x : Name) (t a b : Typ)
    → length vs < suc n → Each (In vs) a → Each (In vs) b → In vs x → Each (In vs) t → (g : Name → Typ) → put_typ g a ≡ put_typ g b → g x ≡ put_typ g t
    → (t ≡ Schematic x → ⊥) → (v : Bool) → occurs x t ≡ v
    → (if v then None else next (assign s x t) (put_typ (single x t) a) (put_typ (single x t) b)) ≡ None → ⊥
more-turns next n k vs s x t a b l p q i j g u e apart true o h = occurs-apart g x t apart o e
more-turns next n k vs s x t a b l p q i j g u e apart false o h =
    let shorter = without-shorter x vs i in
    k (without x vs) (assign s x t) (put_typ (single x t) a) (put_typ (single x t) b) (omega arith)
    (each-single x t vs o j a p) (each-single x t vs o j b q) h
    g (single-instance g x t e a ∙ u ∙ sym (single-instance g x t e b))

turn-complete : (next : TyMap → Typ → Typ → Option TyMap) (n : ℕ) → Complete n next → (vs : List Name) (s : TyMap) (a b : Typ)
    → length vs < suc n → Each (In vs) a → Each (In vs) b → (d : Difference) → differ a b ≡ d → turn next s a b d ≡ None
    → (g : Name → Typ) → put_typ g a ≡ put_typ g b → ⊥
unfolding turn
turn-complete next n k vs s a b l p q nowhere e h g u = let bad : Some s ≡ None = h in cc
turn-complete next n k vs s a b l p q clash e h g u = subst (Needs g) e (differ-needs g a b u)
turn-complete next n k vs s a b l p q (variable x t) e h g u =
    let each : EachIn (In vs) (variable x t) = subst (EachIn (In vs)) e (differ-each (In vs) a b p q) in
    let apart : Apart (variable x t) = subst Apart e (differ-apart a b) in
    let needs : Needs g (variable x t) = subst (Needs g) e (differ-needs g a b u) in
    more-turns next n k vs s x t a b l p q each.0 each.1 g u needs apart (occurs x t) refl h

none-shorter : Complete 0 stuck
none-shorter vs s a b l p q h g u = absurd (omega arith)

pub solve-complete : (n : ℕ) → Complete (suc n) (solve n)
unfolding solve
solve-complete zero vs s a b l p q h g u = turn-complete stuck 0 none-shorter vs s a b l p q (differ a b) refl h g u
solve-complete (suc n) vs s a b l p q h g u = turn-complete (solve n) (suc n) (solve-complete n) vs s a b l p q (differ a b) refl h g u

-- all variables of a type are among its variables
left-by : (v : Bool) (w z : Bool) → (w ≡ true → z ≡ true) → (if v then true else w) ≡ true → (if v then true else z) ≡ true
left-by true w z k h = refl
left-by false w z k h = k h

among-left : (x : Name) (vs us : List Name) → among x vs ≡ true → among x (vs ++ us) ≡ true
unfolding among
among-left x [] us h = absurd (let bad : false ≡ true = h in cc)
among-left x (y ∷ vs) us h = left-by (same_name x y) (among x vs) (among x (vs ++ us)) (among-left x vs us) h

pub among-right : (x : Name) (vs us : List Name) → among x us ≡ true → among x (vs ++ us) ≡ true
unfolding among
among-right x [] us h = h
among-right x (y ∷ vs) us h = in-behind-by (same_name x y) (among x (vs ++ us)) (among-right x vs us h)

mutual
  unfolding Each EachOf

  pub Each-more : (P Q : Name → Type 0) → ((x : Name) → P x → Q x) → (t : Typ) → Each P t → Each Q t
  Each-more P Q k (Con c ts) h = EachOf-more P Q k ts h
  Each-more P Q k (Fixed a) h = tt
  Each-more P Q k (Schematic x) h = k x h

  pub EachOf-more : (P Q : Name → Type 0) → ((x : Name) → P x → Q x) → (ts : Types) → EachOf P ts → EachOf Q ts
  EachOf-more P Q k Nil h = tt
  EachOf-more P Q k (ty_cons t ts) h = (Each-more P Q k t h.0, EachOf-more P Q k ts h.1)

mutual
  unfolding Each EachOf variables variables_all

  pub each-variables : (t : Typ) → Each (In (variables t)) t
  each-variables (Con c ts) = each_all-variables ts
  each-variables (Fixed a) = tt
  each-variables (Schematic x) = in-here x []

  pub each_all-variables : (ts : Types) → EachOf (In (variables_all ts)) ts
  each_all-variables Nil = tt
  each_all-variables (ty_cons t ts) = (
    Each-more (In (variables t)) (In (variables t ++ variables_all ts)) (λ x h. among-left x (variables t) (variables_all ts) h) t (each-variables t),
    EachOf-more (In (variables_all ts)) (In (variables t ++ variables_all ts)) (λ x h. among-right x (variables t) (variables_all ts) h) ts (each_all-variables ts),
  )

pub each-left : (a b : Typ) → Each (In (variables a ++ variables b)) a
each-left a b = Each-more (In (variables a)) (In (variables a ++ variables b)) (λ x h. among-left x (variables a) (variables b) h) a (each-variables a)

pub each-right : (a b : Typ) → Each (In (variables a ++ variables b)) b
each-right a b = Each-more (In (variables b)) (In (variables a ++ variables b)) (λ x h. among-right x (variables a) (variables b) h) b (each-variables b)

-- what the laws say of the unification of two types under a map

solved-by : (s : TyMap) (a b : Typ) (r : TyMap) → Solution s a b r → IsSolved s a b r
solved-by s a b r q = record {
  by_map = q.by_map;
  after = q.after;
  most_general = record {
    unifier = q.unifier;
    general = λ g u. (g, λ x. sym (q.absorbed g u x));
    absorbed = q.absorbed;
    idempotent = q.absorbed q.by_map q.unifier;
    stays = q.stays;
    no_new = q.no_new;
  };
}

pub unified-solved : (a b : Typ) (s r : TyMap) → unified a b s ≡ Some r → IsSolved s (put_typ (at s) a) (put_typ (at s) b) r
unfolding unified
unified-solved a b s r h = solved-by s _ _ r (solve-sound _ s _ _ r h)

pub solved-equal : (a b : Typ) (s r : TyMap) → IsSolved s (put_typ (at s) a) (put_typ (at s) b) r → put_typ (at r) a ≡ put_typ (at r) b
solved-equal a b s r q =
    let go : (t : Typ) → put_typ (at r) t ≡ put_typ q.by_map (put_typ (at s) t) =
    λ t. put-same _ _ q.after t ∙ sym (put-put (at s) q.by_map t) in
    go a ∙ q.most_general.unifier ∙ sym (go b)

pub unified-none : (a b : Typ) (s : TyMap) → unified a b s ≡ None → (g : Name → Typ) → IsUnifier g (put_typ (at s) a) (put_typ (at s) b) → ⊥
unfolding unified
unified-none a b s h g u =
    solve-complete _ _ s _ _ (omega arith) (each-left (put_typ (at s) a) (put_typ (at s) b)) (each-right (put_typ (at s) a) (put_typ (at s) b)) h g u

-- the same for any map: what is found from nothing, put behind it

nothing-at : (t : Typ) → put_typ (at []) t ≡ t
unfolding at
nothing-at t = put-none t

pub under-solved : (a b : Typ) (s r : TyMap) → unified (put_typ (at s) a) (put_typ (at s) b) [] ≡ Some r
    → IsSolved s (put_typ (at s) a) (put_typ (at s) b) (composed s r)
unfolding at
under-solved a b s r h =
    let left = put_typ (at s) a in
    let right = put_typ (at s) b in
    let q = unified-solved left right [] r h in
    let by : (y : Name) → at r y ≡ q.by_map y = λ y. q.after y ∙ put-variable q.by_map y in
    let m : IsMostGeneral q.by_map left right =
    subst (λ z. IsMostGeneral q.by_map z right) (nothing-at left) (subst (IsMostGeneral q.by_map (put_typ (at []) left)) (nothing-at right) q.most_general) in
    record { by_map = q.by_map; after = λ y. at-composed s r y ∙ put-same (at r) q.by_map by (at s y); most_general = m }

pub under-none : (a b : Typ) → unified a b [] ≡ None → (g : Name → Typ) → IsUnifier g a b → ⊥
under-none a b h g u =
    unified-none a b [] h g (ap (put_typ g) (nothing-at a) ∙ u ∙ ap (put_typ g) (sym (nothing-at b)))

-- what the laws say of a call's result

pub ok-equal : {E : Type 0} (r : Result (Unit {0}) E) (a b : Typ) (s s2 : TyMap) → OnOk r (unified a b s ≡ Some s2) → OnOk r (put_typ (at s2) a ≡ put_typ (at s2) b)
ok-equal (Ok u) a b s s2 h = solved-equal a b s s2 (unified-solved a b s s2 h)
ok-equal (Err e) a b s s2 h = tt

pub ok-solved : {E : Type 0} (r : Result (Unit {0}) E) (a b : Typ) (s s2 : TyMap) → OnOk r (unified a b s ≡ Some s2)
    → OnOk r (IsSolved s (put_typ (at s) a) (put_typ (at s) b) s2)
ok-solved (Ok u) a b s s2 h = unified-solved a b s s2 h
ok-solved (Err e) a b s s2 h = tt

pub clash-none : {T : Type 0} (r : Result T NoUnify) (a b : Typ) (s : TyMap) → IfErr r (λ e. e ≡ Clash → unified a b s ≡ None)
    → IfErr r (λ e. e ≡ Clash → (g : Name → Typ) → IsUnifier g (put_typ (at s) a) (put_typ (at s) b) → ⊥)
clash-none (Ok u) a b s h = tt
clash-none (Err e) a b s h = λ z. unified-none a b s (h z)

pub start-is : (a b left right : Typ) (s : TyMap) → left ≡ a → right ≡ b → s ≡ [] → (o : Option TyMap) → unified left right s ≡ o → unified a b [] ≡ o
start-is a b left right s l r z o h = (λ i. unified (sym l i) (sym r i) (sym z i)) ∙ h

pub under-ok : (a b : Typ) (s now both : TyMap) → unified (put_typ (at s) a) (put_typ (at s) b) [] ≡ Some now → both ≡ composed s now
    → unified_under a b s ≡ Some both
unfolding followed
under-ok a b s now both h e = ap (followed s) h ∙ ap Some (sym e)

pub under-clash : (a b : Typ) (s : TyMap) → unified (put_typ (at s) a) (put_typ (at s) b) [] ≡ None → unified_under a b s ≡ None
unfolding followed
under-clash a b s h = ap (followed s) h
