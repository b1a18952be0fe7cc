-- What the laws say.
use Rattle.iv_term.specs.declared.typ.Typ.{Typ}
use Rattle.iv_term.specs.declared.typ.Types.{Types}
use Rattle.iv_term.specs.declared.term.Term.{Term}
use Rattle.iv_hsub.specs.Typing.{HasType}
use Rattle.iv_hsub.specs.Retype.{map_typ, map_typs}
use Rattle.iv_rules.specs.declared.instance.Instance.{Instance}
use Rattle.iv_rules.specs.Instance.{types_of, instanced, AreValuesTyped}

-- an instance whose values have their keys' types leaves a term, of its type with types put in
abbrev pub InstancesKeepTypes : Type 0
InstancesKeepTypes = (s : Instance) (bounds : Types) (c : Typ) (t : Term) → AreValuesTyped s → HasType bounds c t
    → HasType (map_typs (types_of s) bounds) (map_typ (types_of s) c) (instanced s t)
