-- An instance that is made of a substitution does what the substitution does.
use Rattle.std.proofs.Common.{◌≡◌, ℕ, zero, suc, length, slice_get, option_map, Bool, true, false, ◌&&◌, ◌||◌, if◌then◌else◌, [], ◌∷◌, Option, Some, None, is_some, refl, ◌∙◌, ap}
use Rattle.std.specs.List.{IsDistinct, AllByRecursion}
use Rattle.std.specs.Map.{keys_of}
use Rattle.std.specs.Option.{unwrap_or}
use Rattle.iv_text.specs.declared.name.Name.{Name}
use Rattle.iv_text.specs.Name.{same_name, same_name-equiv}
use Rattle.iv_term.specs.declared.typ.Typ.{Typ}
use Rattle.iv_term.specs.declared.typ.Types.{Types}
use Rattle.iv_term.specs.declared.typ.Typ.TheBlock.{Con, Fixed, Schematic as Variable, Nil as no_types}
use Rattle.iv_term.specs.declared.term.Head.{Head}
use Rattle.iv_term.specs.declared.term.Head.TheVariants.{Const, Free, Schematic, Bound}
use Rattle.iv_term.specs.declared.term.Term.{Term}
use Rattle.iv_term.specs.declared.term.Terms.{Terms}
use Rattle.iv_term.specs.declared.term.Term.TheBlock.{Spine, Nil}
use Rattle.iv_term.specs.Typ.{ty_cons, same_typ}
use Rattle.iv_term.specs.Term.{lam, tm_cons}
use Rattle.iv_term.specs.Hyps.{union}
use Rattle.iv_term.proofs.Laws.Same.{same_typ-same}
use Rattle.iv_hsub.specs.Typing.{type_of, HasType}
use Rattle.iv_hsub.specs.Retype.{retype, retype_all}
use Rattle.iv_hsub.specs.Inst.{inst, inst_all, HeadVars, AllVars, Fits}
use Rattle.iv_subst.specs.TySubst.{TyMap, at}
use Rattle.iv_put.specs.Subst.{TermMap, Substitution, value_of, by_map, values, applied, CanApply, Values, AreClosed}
use Rattle.iv_put.specs.Putting.{TypeVars, AllTypeVars, HeadTypeVars, TermTypeVars, AllTermTypeVars, RetypeStays, InstsAgree, InstStays}
use Rattle.iv_put.proofs.Theory.{vars-one}
use Rattle.iv_laws.specs.Among.{UnionOfNothing}
use Rattle.iv_rules.specs.Entries.{same_var, schematic_at, term_at}
use Rattle.iv_rules.specs.Instance.{types_of, values_of, instanced, AreTyped, changes_typ, changes_typs, is_changed, changes, changes_any}
use Rattle.iv_rules.specs.Sequent.{AreProps}
use Rattle.iv_instance.specs.Converted.{typed_entries, as_instance}
use Rattle.iv_instance.specs.Laws.{InstanceIsApplied, InstanceIsTyped, InstanceIsApart, IsFixedType, IsFreeHead, FixedAreFresh, FixedStay}

-- types
type-step : (v w : Bool) (a b : Typ) (o : Option Typ) → v ≡ w → unwrap_or o b ≡ a → (c : Typ) → unwrap_or (if v then Some c else o) b ≡ (if w then c else a)
type-step v true a b o e k c = ap (λ z. unwrap_or (if z then Some c else o) b) e
type-step v false a b o e k c = ap (λ z. unwrap_or (if z then Some c else o) b) e ∙ k

type-at : (m : TyMap) (x : Name) → unwrap_or (schematic_at m x) (Variable x) ≡ at m x
unfolding at
type-at [] x = refl
type-at (e ∷ m) x = type-step (same_name e.0 x) (same_name x e.0) (at m x) (Variable x) (schematic_at m x) (same_name-equiv.symm e.0 x) (type-at m x) e.1

module _ (s : Substitution) where
  same-types : (a : Typ) → types_of (as_instance s) a ≡ by_map s.0 a
  same-types (Con c ts) = refl
  same-types (Fixed a) = refl
  same-types (Variable x) = type-at s.0 x

  same-retype : (t : Term) → retype (types_of (as_instance s)) t ≡ retype (by_map s.0) t
  same-retype t = λ i. retype (λ a. same-types a i) t

-- terms
term-step : (n w t : Bool) (o p : Option Term) (v : Term) (a : Typ) → n ≡ w → (HasType no_types a v → t ≡ true) → (Fits o a → p ≡ o)
    → Fits (if w then Some v else o) a → (if n && t then Some v else p) ≡ (if w then Some v else o)
term-step n true t o p v a e typed rest k = let q = typed k in (λ i. if e i && q i then Some v else p)
term-step n false t o p v a e typed rest k = ap (λ z. if z && t then Some v else p) e ∙ rest k

term-there : (m : TermMap) (x : Name) (a : Typ) → Fits (value_of m x) a → term_at (typed_entries m) x a ≡ value_of m x
unfolding value_of typed_entries
term-there [] x a k = refl
term-there (e ∷ m) x a k =
    term-step (same_name e.0 x) (same_name x e.0) (same_typ (type_of no_types e.1) a) (value_of m x) (term_at (typed_entries m) x a) e.1 a
    (same_name-equiv.symm e.0 x) (λ q. ap (λ z. same_typ z a) q.1 ∙ same_typ-same a) (term-there m x a) k

module _ (s : Substitution) where
  same-value : (h : Head) → HeadVars (λ k a. Fits (values s k) a) h → HeadVars (λ k a. values_of (as_instance s) k ≡ values s k) h
  same-value (Const x a) k = tt
  same-value (Free x a) k = refl
  same-value (Schematic x a) k = term-there s.1 x a k
  same-value (Bound n) k = tt

  pub instance-applied : InstsAgree → (t : Term) → CanApply s t → instanced (as_instance s) t ≡ applied s t
  instance-applied agree t k =
      ap (inst (values_of (as_instance s))) (same-retype s t)
      ∙ agree (values_of (as_instance s)) (values s) (retype (by_map s.0) t)
      (vars-one (λ h a. Fits (values s h) a) (λ h a. values_of (as_instance s) h ≡ values s h) same-value (retype (by_map s.0) t) k)

pub instance_applied : InstsAgree → InstanceIsApplied
instance_applied agree s = instance-applied s agree

typed-there : (m : TermMap) → AreClosed m → AreTyped (typed_entries m)
unfolding AreTyped typed_entries Values
typed-there [] k = tt
typed-there (e ∷ m) k = ((k.0, refl), typed-there m k.1)

pub instance_typed : InstanceIsTyped
unfolding AreTyped
instance_typed s k = (tt, typed-there s.1 k)

-- keys
and-left : (a b : Bool) → a ≡ false → (a && b) ≡ false
and-left a b e = ap (λ z. z && b) e

new-there : (x : Name) (a : Typ) (m : TermMap) → AllByRecursion (λ y. same_name x y ≡ false) (keys_of m)
    → AllByRecursion (λ y. same_var (x, a) y ≡ false) (keys_of (typed_entries m))
unfolding typed_entries
new-there x a [] h = tt
new-there x a (e ∷ m) h = (and-left (same_name x e.0) (same_typ a (type_of no_types e.1)) h.0, new-there x a m h.1)

pub apart-there : (m : TermMap) → IsDistinct same_name (keys_of m) → IsDistinct same_var (keys_of (typed_entries m))
unfolding IsDistinct typed_entries
apart-there [] h = tt
apart-there (e ∷ m) h = (new-there e.0 (type_of no_types e.1) m h.0, apart-there m h.1)

-- entries, one by one
pub entry-there : (m : TermMap) (i : ℕ) (x : Name) (v : Term) → slice_get m i ≡ Some (x, v) → slice_get (typed_entries m) i ≡ Some ((x, type_of no_types v), v)
unfolding typed_entries
entry-there [] i x v h = absurd (let bad : None ≡ Some (x, v) = h in cc)
entry-there (e ∷ m) zero x v h = ap (option_map (λ p. ((p.0, type_of no_types p.1), p.1))) h
entry-there (e ∷ m) (suc i) x v h = entry-there m i x v h

pub length-there : (m : TermMap) → length (typed_entries m) ≡ length m
unfolding typed_entries
length-there [] = refl
length-there (e ∷ m) = ap suc (length-there m)

pub instance_apart : InstanceIsApart
unfolding IsDistinct
instance_apart s p q = (tt, p, tt, apart-there s.1 q)

-- what is fixed stays
or-none : (a b : Bool) → a ≡ false → b ≡ false → (a || b) ≡ false
or-none a b e f = rw (e, f) refl

module _ (s : Substitution) where
  mutual
    unfolding changes_typ changes_typs

    fixed-typ : (a : Typ) → TypeVars IsFixedType a → changes_typ (as_instance s) a ≡ false
    fixed-typ (Con c ts) p = fixed-typs ts p
    fixed-typ (Fixed a) p = refl
    fixed-typ (Variable x) p = absurd p

    fixed-typs : (ts : Types) → AllTypeVars IsFixedType ts → changes_typs (as_instance s) ts ≡ false
    fixed-typs no_types p = refl
    fixed-typs (ty_cons t ts) p = or-none (changes_typ (as_instance s) t) (changes_typs (as_instance s) ts) (fixed-typ t p.0) (fixed-typs ts p.1)

  fixed-head : (h : Head) → HeadTypeVars IsFixedType h → is_changed (as_instance s) h ≡ false
  fixed-head (Const c a) p = fixed-typ a p
  fixed-head (Free x a) p = or-none (changes_typ (as_instance s) a) (is_some (term_at (as_instance s).frees x a)) (fixed-typ a p) refl
  fixed-head (Schematic x a) p = fixed-typ a p
  fixed-head (Bound n) p = refl

  mutual
    unfolding changes changes_any

    fixed-term : (t : Term) → TermTypeVars IsFixedType t → changes (as_instance s) t ≡ false
    fixed-term (lam a b) p = or-none (changes_typ (as_instance s) a) (changes (as_instance s) b) (fixed-typ a p.0) (fixed-term b p.1)
    fixed-term (Spine h ts) p = or-none (is_changed (as_instance s) h) (changes_any (as_instance s) ts) (fixed-head h p.0) (fixed-terms ts p.1)

    fixed-terms : (ts : Terms) → AllTermTypeVars IsFixedType ts → changes_any (as_instance s) ts ≡ false
    fixed-terms Nil p = refl
    fixed-terms (tm_cons t ts) p = or-none (changes (as_instance s) t) (changes_any (as_instance s) ts) (fixed-term t p.0) (fixed-terms ts p.1)

  -- types that are put change no fixed type variable
  mutual
    self-typ : (a : Typ) → TypeVars IsFixedType a → TypeVars (λ v. types_of (as_instance s) v ≡ v) a
    self-typ (Con c ts) p = self-typs ts p
    self-typ (Fixed a) p = refl
    self-typ (Variable x) p = absurd p

    self-typs : (ts : Types) → AllTypeVars IsFixedType ts → AllTypeVars (λ v. types_of (as_instance s) v ≡ v) ts
    self-typs no_types p = tt
    self-typs (ty_cons t ts) p = (self-typ t p.0, self-typs ts p.1)

  self-head : (h : Head) → HeadTypeVars IsFixedType h → HeadTypeVars (λ v. types_of (as_instance s) v ≡ v) h
  self-head (Const c a) p = self-typ a p
  self-head (Free x a) p = self-typ a p
  self-head (Schematic x a) p = self-typ a p
  self-head (Bound n) p = tt

  mutual
    self-term : (t : Term) → TermTypeVars IsFixedType t → TermTypeVars (λ v. types_of (as_instance s) v ≡ v) t
    self-term (lam a b) p = (self-typ a p.0, self-term b p.1)
    self-term (Spine h ts) p = (self-head h p.0, self-terms ts p.1)

    self-terms : (ts : Terms) → AllTermTypeVars IsFixedType ts → AllTermTypeVars (λ v. types_of (as_instance s) v ≡ v) ts
    self-terms Nil p = tt
    self-terms (tm_cons t ts) p = (self-term t p.0, self-terms ts p.1)

  none-head : (h : Head) → HeadVars (λ k a. IsFreeHead k) h → HeadVars (λ k a. values_of (as_instance s) k ≡ None) h
  none-head (Const c a) p = tt
  none-head (Free x a) p = refl
  none-head (Schematic x a) p = absurd p
  none-head (Bound n) p = tt

  stays-all : RetypeStays → InstStays → (hs : Terms) → AreProps hs → AllTermTypeVars IsFixedType hs → AllVars (λ k a. IsFreeHead k) hs
      → inst_all (values_of (as_instance s)) (retype_all (types_of (as_instance s)) hs) ≡ hs
  unfolding AreProps inst retype
  stays-all types insts Nil q p f = refl
  stays-all types insts (tm_cons h hs) q p f =
      let e = types (types_of (as_instance s)) h (self-term h p.0) in
      let x = ap (inst (values_of (as_instance s))) e
      ∙ insts (values_of (as_instance s)) no_types h q.0.0 (vars-one (λ k a. IsFreeHead k) (λ k a. values_of (as_instance s) k ≡ None) none-head h f.0) in
      let y = stays-all types insts hs q.1 p.1 f.1 in
      λ i. tm_cons (x i) (y i)

pub fixed_fresh : FixedAreFresh
fixed_fresh s hs p = fixed-terms s hs p.types

pub fixed_stay : RetypeStays → InstStays → UnionOfNothing → FixedStay
fixed_stay types insts once s hs q d p = ap (union Nil) (stays-all s types insts hs q p.types p.terms) ∙ once hs d
