-- What the laws say.
use Rattle.std.specs.Prelude.{◌≡◌, ℕ, suc, ◌≤◌, true, Option}
use Rattle.iv_text.specs.declared.name.Name.{Name}
use Rattle.iv_term.specs.declared.typ.Typ.{Typ}
use Rattle.iv_term.specs.declared.typ.Types.{Types}
use Rattle.iv_term.specs.declared.term.Head.{Head}
use Rattle.iv_term.specs.declared.term.Term.{Term}
use Rattle.iv_term.specs.declared.term.Terms.{Terms}
use Rattle.iv_term.specs.Typ.{fun, ty_cons}
use Rattle.iv_term.specs.Term.{imp_head}
use Rattle.iv_hsub.specs.Typing.{types_len, join, result_type, IsTerm, AreArgs, HasType}
use Rattle.iv_hsub.specs.Index.{loose, raise, eta}
use Rattle.iv_hsub.specs.Hsub.{put, happ, hsub}
use Rattle.iv_hsub.specs.Retype.{map_typ, map_typs, retype}
use Rattle.iv_hsub.specs.Inst.{inst, Vars, Fits}
use Rattle.iv_hsub.specs.Abstract.{free, abstract_over}
use Rattle.iv_hsub.specs.Hhf.{all_head, is_imp, is_all, bound_type, one, hhf, IsHhf}

-- a value put for the outermost bound variable leaves a term of the body's type
abbrev pub HsubKeepsTypes : Type 0
HsubKeepsTypes = (bounds : Types) (a c : Typ) (v b : Term) → HasType bounds a v → HasType (ty_cons a bounds) c b → HasType bounds c (hsub a v b)

-- a value at arguments that fit its type is a term of the type that they lead to
abbrev pub HappKeepsTypes : Type 0
HappKeepsTypes = (bounds : Types) (a : Typ) (v : Term) (us : Terms) → HasType bounds a v → AreArgs bounds a us → HasType bounds (result_type a us) (happ a v us)

-- an abstraction over a term of type c, contracted or not, is a function to c
abbrev pub EtaKeepsTypes : Type 0
EtaKeepsTypes = (bounds : Types) (a c : Typ) (b : Term) → HasType (ty_cons a bounds) c b → HasType bounds (fun a c) (eta a b)

-- under one more binder a raised term is a term of its type
abbrev pub RaiseKeepsTypes : Type 0
RaiseKeepsTypes = (bounds : Types) (a c : Typ) (t : Term) → HasType bounds c t → HasType (ty_cons a bounds) c (raise 1 0 t)

-- a term has no loose index beyond its bounds; bounds beyond its loose indices count for nothing
abbrev pub LooseIsBounded : Type 0
LooseIsBounded = (bounds : Types) (t : Term) → IsTerm bounds t → loose t ≤ types_len bounds

abbrev pub BoundsCanGrow : Type 0
BoundsCanGrow = (bounds outer : Types) (c : Typ) (t : Term) → HasType bounds c t → HasType (join bounds outer) c t

abbrev pub BoundsCanShrink : Type 0
BoundsCanShrink = (bounds outer : Types) (c : Typ) (t : Term) → loose t ≤ types_len bounds → HasType (join bounds outer) c t → HasType bounds c t

-- what has no loose index is the same under more binders
abbrev pub ClosedStays : Type 0
ClosedStays = (n : ℕ) (t : Term) → loose t ≡ 0 → raise n 0 t ≡ t

-- a value of type b put for an outer variable and one of type a for an inner one may be put in either order, where the
-- outer value is put into the inner one too; `inner` are the types of the variables inside of both, `between` those between them
abbrev pub PutsCommute : Type 0
PutsCommute = (inner between bounds : Types) (a b : Typ) (w v t : Term) → HasType bounds b w → HasType (join between (ty_cons b bounds)) a v
    → IsTerm (join inner (ty_cons a (join between (ty_cons b bounds)))) t
    → put (happ b) w (types_len (join inner between)) (put (happ a) v (types_len inner) t)
    ≡ put (happ a) (put (happ b) w (types_len between) v) (types_len inner) (put (happ b) w (suc (types_len (join inner between))) t)

-- so for the two outermost variables
abbrev pub HsubsCommute : Type 0
HsubsCommute = (bounds : Types) (a b : Typ) (w v t : Term) → HasType bounds b w → HasType (ty_cons b bounds) a v → IsTerm (ty_cons a (ty_cons b bounds)) t
    → hsub b w (hsub a v t) ≡ hsub a (hsub b w v) (put (happ b) w 1 t)

-- an abstraction over a free variable is a function, which at the variable is the term that it was
abbrev pub AbstractKeepsTypes : Type 0
AbstractKeepsTypes = (bounds : Types) (x : Name) (a c : Typ) (t : Term) → HasType bounds c t → HasType bounds (fun a c) (abstract_over x a t)

abbrev pub AbstractIsUndone : Type 0
AbstractIsUndone = (bounds : Types) (x : Name) (a c : Typ) (t : Term) → IsTerm bounds t → happ (fun a c) (abstract_over x a t) (one (free x a)) ≡ t

-- the tests see the constant's type: what passes is the constant, at the type that it has in the logic
abbrev pub ImpIsSeen : Type 0
ImpIsSeen = (h : Head) → is_imp h ≡ true → h ≡ imp_head

abbrev pub AllIsSeen : Type 0
AllIsSeen = (h : Head) → is_all h ≡ true → h ≡ all_head (bound_type h)

-- hhf of a term is a term of its type, in which no !! stands behind ==>
abbrev pub HhfKeepsTypes : Type 0
HhfKeepsTypes = (bounds : Types) (c : Typ) (t : Term) → HasType bounds c t → HasType bounds c (hhf t)

abbrev pub HhfHasForm : Type 0
HhfHasForm = (bounds : Types) (t : Term) → IsTerm bounds t → IsHhf (hhf t)

-- it changes no term that has the form, so it does nothing the second time
abbrev pub HhfKeepsForm : Type 0
HhfKeepsForm = (bounds : Types) (t : Term) → IsTerm bounds t → IsHhf t → hhf t ≡ t

abbrev pub HhfIsOnce : Type 0
HhfIsOnce = (bounds : Types) (t : Term) → IsTerm bounds t → hhf (hhf t) ≡ hhf t

-- types put in a term leave a term, of its type with types put in
abbrev pub RetypeKeepsTypes : Type 0
RetypeKeepsTypes = (f : Typ → Typ) (bounds : Types) (c : Typ) (t : Term) → HasType bounds c t → HasType (map_typs f bounds) (map_typ f c) (retype f t)

-- values that fit their variables leave a term, of the same type
abbrev pub InstKeepsTypes : Type 0
InstKeepsTypes = (F : Head → Option Term) (bounds : Types) (c : Typ) (t : Term) → Vars (λ h a. Fits (F h) a) t → HasType bounds c t → HasType bounds c (inst F t)
