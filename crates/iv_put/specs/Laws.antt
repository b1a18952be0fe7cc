-- What the laws say.
use Rattle.std.specs.Prelude.{◌≡◌, []}
use Rattle.iv_term.specs.declared.typ.Typ.{Typ}
use Rattle.iv_term.specs.declared.typ.Types.{Types}
use Rattle.iv_term.specs.declared.term.Term.{Term}
use Rattle.iv_hsub.specs.Typing.{IsTerm, HasType}
use Rattle.iv_subst.specs.TySubst.{TyMap, put_typ, put_typs, at}
use Rattle.iv_hsub.specs.Retype.{map_typ}
use Rattle.iv_put.specs.Subst.{Substitution, by_map, applied, CanApply, AreClosed, composed, CanCompose, CanFollow}

-- a map's types are put as the function puts them
abbrev pub MapsAreFunctions : Type 0
MapsAreFunctions = (s : TyMap) (a : Typ) → map_typ (by_map s) a ≡ put_typ (at s) a

-- a substitution that can be applied leaves a term, of its type with types put in
abbrev pub ApplyKeepsTypes : Type 0
ApplyKeepsTypes = (s : Substitution) (bounds : Types) (c : Typ) (t : Term) → HasType bounds c t → CanApply s t
    → HasType (put_typs (at s.0) bounds) (put_typ (at s.0) c) (applied s t)

-- the empty substitution changes nothing
abbrev pub NothingStays : Type 0
NothingStays = (bounds : Types) (t : Term) → IsTerm bounds t → applied ([], []) t ≡ t

-- a composition is one substitution after the other, where each step's condition holds
abbrev pub ComposedIsBoth : Type 0
ComposedIsBoth = (first next : Substitution) (bounds : Types) (t : Term) → IsTerm bounds t → AreClosed first.1 → AreClosed next.1 → CanCompose first next
    → CanApply first t → CanApply next (applied first t) → CanApply (composed first next) t → applied (composed first next) t ≡ applied next (applied first t)

-- where the second's values fit what the first leaves, it can be applied, and so can the second after the first
abbrev pub ComposedCanApply : Type 0
ComposedCanApply = (first next : Substitution) (t : Term) → AreClosed first.1 → CanCompose first next → CanApply first t → CanFollow first next t
    → CanApply (composed first next) t

abbrev pub NextCanApply : Type 0
NextCanApply = (first next : Substitution) (bounds : Types) (t : Term) → IsTerm bounds t → CanCompose first next → CanApply first t → CanFollow first next t
    → CanApply next (applied first t)

-- its values have no loose index
abbrev pub ComposedIsClosed : Type 0
ComposedIsClosed = (first next : Substitution) → AreClosed first.1 → AreClosed next.1 → CanCompose first next → AreClosed (composed first next).1
