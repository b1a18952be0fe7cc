-- What the laws on putting types and terms say, for any function of variables.
use Rattle.std.specs.Prelude.{◌≡◌, ℕ, Option, None, Some}
use Rattle.iv_text.specs.declared.name.Name.{Name}
use Rattle.iv_term.specs.declared.typ.Typ.{Typ}
use Rattle.iv_term.specs.declared.typ.Types.{Types}
use Rattle.iv_term.specs.declared.typ.Typ.TheBlock.{Con, Fixed, Schematic as Variable, Nil as no_types}
use Rattle.iv_term.specs.declared.term.Head.{Head}
use Rattle.iv_term.specs.declared.term.Head.TheVariants.{Const, Free, Schematic, Bound}
use Rattle.iv_term.specs.declared.term.Term.{Term}
use Rattle.iv_term.specs.declared.term.Terms.{Terms}
use Rattle.iv_term.specs.declared.term.Term.TheBlock.{Spine, Nil}
use Rattle.iv_term.specs.Typ.{ty_cons}
use Rattle.iv_term.specs.Term.{lam, tm_cons}
use Rattle.iv_hsub.specs.Typing.{types_len, join, IsTerm, AreArgs, HasType}
use Rattle.iv_hsub.specs.Index.{raise, eta}
use Rattle.iv_hsub.specs.Hsub.{put, happ, hsub}
use Rattle.iv_hsub.specs.Retype.{map_typ, retype, retype_all}
use Rattle.iv_subst.specs.TySubst.{put_typ}
use Rattle.iv_hsub.specs.Inst.{inst, inst_all, Vars, AllVars, Fits}

abbrev mutual
  -- what holds of each type variable in a type
  pub TypeVars : (Typ → Type 0) → Typ → Type 0
  TypeVars P (Con c ts) = AllTypeVars P ts
  TypeVars P (Fixed a) = P (Fixed a)
  TypeVars P (Variable x) = P (Variable x)

  pub AllTypeVars : (Typ → Type 0) → Types → Type 0
  AllTypeVars P no_types = Unit {0}
  AllTypeVars P (ty_cons t ts) = TypeVars P t × AllTypeVars P ts

abbrev pub HeadTypeVars : (Typ → Type 0) → Head → Type 0
HeadTypeVars P (Const c a) = TypeVars P a
HeadTypeVars P (Free x a) = TypeVars P a
HeadTypeVars P (Schematic x a) = TypeVars P a
HeadTypeVars P (Bound n) = Unit {0}

abbrev mutual
  -- what holds of each type variable in a term
  pub TermTypeVars : (Typ → Type 0) → Term → Type 0
  TermTypeVars P (lam a b) = TypeVars P a × TermTypeVars P b
  TermTypeVars P (Spine h ts) = HeadTypeVars P h × AllTermTypeVars P ts

  pub AllTermTypeVars : (Typ → Type 0) → Terms → Type 0
  AllTermTypeVars P Nil = Unit {0}
  AllTermTypeVars P (tm_cons t ts) = TermTypeVars P t × AllTermTypeVars P ts

-- a function of schematic type variables as one of all: fixed ones stay
abbrev pub by_function : (Name → Typ) → Typ → Typ
by_function g (Variable x) = g x
by_function g a = a

-- its types are put as it puts them
abbrev pub FunctionsPut : Type 0
FunctionsPut = (g : Name → Typ) (a : Typ) → map_typ (by_function g) a ≡ put_typ g a

-- functions that agree on the type variables of a type or of a term put the same there
abbrev pub TypesAgree : Type 0
TypesAgree = (f g : Typ → Typ) (a : Typ) → TypeVars (λ v. f v ≡ g v) a → map_typ f a ≡ map_typ g a

abbrev pub RetypesAgree : Type 0
RetypesAgree = (f g : Typ → Typ) (t : Term) → TermTypeVars (λ v. f v ≡ g v) t → retype f t ≡ retype g t

-- what stays in a type or in a term
abbrev pub TypesStay : Type 0
TypesStay = (f : Typ → Typ) (a : Typ) → TypeVars (λ v. f v ≡ v) a → map_typ f a ≡ a

abbrev pub RetypeStays : Type 0
RetypeStays = (f : Typ → Typ) (t : Term) → TermTypeVars (λ v. f v ≡ v) t → retype f t ≡ t

-- types put twice are put once, each under what is put second
abbrev pub TypesTwice : Type 0
TypesTwice = (f g k : Typ → Typ) (a : Typ) → TypeVars (λ v. map_typ g (f v) ≡ k v) a → map_typ g (map_typ f a) ≡ map_typ k a

abbrev pub RetypeTwice : Type 0
RetypeTwice = (f g k : Typ → Typ) (t : Term) → TermTypeVars (λ v. map_typ g (f v) ≡ k v) t → retype g (retype f t) ≡ retype k t

-- types put pass raising, contraction, values at arguments, and hereditary substitution
abbrev pub RetypePassesRaise : Type 0
RetypePassesRaise = (f : Typ → Typ) (d c : ℕ) (t : Term) → retype f (raise d c t) ≡ raise d c (retype f t)

abbrev pub RetypePassesEta : Type 0
RetypePassesEta = (f : Typ → Typ) (a : Typ) (b : Term) → retype f (eta a b) ≡ eta (map_typ f a) (retype f b)

abbrev pub RetypePassesHapp : Type 0
RetypePassesHapp = (f : Typ → Typ) (bounds : Types) (a : Typ) (v : Term) (us : Terms) → HasType bounds a v → AreArgs bounds a us
    → retype f (happ a v us) ≡ happ (map_typ f a) (retype f v) (retype_all f us)

abbrev pub RetypePassesPut : Type 0
RetypePassesPut = (f : Typ → Typ) (inner bounds : Types) (a : Typ) (v t : Term) → HasType bounds a v → IsTerm (join inner (ty_cons a bounds)) t
    → retype f (put (happ a) v (types_len inner) t) ≡ put (happ (map_typ f a)) (retype f v) (types_len inner) (retype f t)

abbrev pub RetypePassesHsub : Type 0
RetypePassesHsub = (f : Typ → Typ) (bounds : Types) (a : Typ) (v t : Term) → HasType bounds a v → IsTerm (ty_cons a bounds) t
    → retype f (hsub a v t) ≡ hsub (map_typ f a) (retype f v) (retype f t)

-- functions that agree on the variables of a term put the same there; where no value is put, all stays
abbrev pub InstsAgree : Type 0
InstsAgree = (F G : Head → Option Term) (t : Term) → Vars (λ h a. F h ≡ G h) t → inst F t ≡ inst G t

abbrev pub InstStays : Type 0
InstStays = (F : Head → Option Term) (bounds : Types) (t : Term) → IsTerm bounds t → Vars (λ h a. F h ≡ None) t → inst F t ≡ t

-- each value is a term without loose indices
abbrev pub AreValuesClosed : (Head → Option Term) → Type 0
AreValuesClosed F = (h : Head) (v : Term) → F h ≡ Some v → IsTerm no_types v

-- values that fit the variables of a term pass raising, contraction, values at arguments, and hereditary substitution
abbrev pub InstPassesRaise : Type 0
InstPassesRaise = (F : Head → Option Term) (d c : ℕ) (t : Term) → AreValuesClosed F → Vars (λ h a. Fits (F h) a) t
    → inst F (raise d c t) ≡ raise d c (inst F t)

abbrev pub InstPassesEta : Type 0
InstPassesEta = (F : Head → Option Term) (bounds : Types) (a : Typ) (b : Term) → AreValuesClosed F → IsTerm (ty_cons a bounds) b → Vars (λ h a. Fits (F h) a) b
    → inst F (eta a b) ≡ eta a (inst F b)

abbrev pub InstPassesHapp : Type 0
InstPassesHapp = (F : Head → Option Term) (bounds : Types) (a : Typ) (v : Term) (us : Terms) → AreValuesClosed F → HasType bounds a v → AreArgs bounds a us
    → Vars (λ h a. Fits (F h) a) v → AllVars (λ h a. Fits (F h) a) us → inst F (happ a v us) ≡ happ a (inst F v) (inst_all F us)

abbrev pub InstPassesPut : Type 0
InstPassesPut = (F : Head → Option Term) (inner bounds : Types) (a : Typ) (v t : Term) → AreValuesClosed F → HasType bounds a v
    → IsTerm (join inner (ty_cons a bounds)) t → Vars (λ h a. Fits (F h) a) v → Vars (λ h a. Fits (F h) a) t
    → inst F (put (happ a) v (types_len inner) t) ≡ put (happ a) (inst F v) (types_len inner) (inst F t)

abbrev pub InstPassesHsub : Type 0
InstPassesHsub = (F : Head → Option Term) (bounds : Types) (a : Typ) (v t : Term) → AreValuesClosed F → HasType bounds a v → IsTerm (ty_cons a bounds) t
    → Vars (λ h a. Fits (F h) a) v → Vars (λ h a. Fits (F h) a) t → inst F (hsub a v t) ≡ hsub a (inst F v) (inst F t)

-- one function of values and then another: the first one's value under the second, and the second's where the first has none
unfoldable pub then_value : (Head → Option Term) → Option Term → Head → Option Term
then_value G None h = G h
then_value G (Some v) h = Some (inst G v)

-- the second's values fit where the first leaves a variable, and in the first one's values
abbrev pub FitsAfter : (Head → Option Term) → Option Term → Head → Typ → Type 0
FitsAfter G None h a = Fits (G h) a
FitsAfter G (Some v) h a = Vars (λ k b. Fits (G k) b) v

abbrev pub InstTwice : Type 0
InstTwice = (F G : Head → Option Term) (bounds : Types) (t : Term) → AreValuesClosed F → AreValuesClosed G → IsTerm bounds t
    → Vars (λ h a. Fits (F h) a × FitsAfter G (F h) h a) t → inst G (inst F t) ≡ inst (λ h. then_value G (F h) h) t
