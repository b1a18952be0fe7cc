-- A substitution, which has one term for each name, as an instance, which is keyed by name and type (of this project).
use Rattle.std.specs.Prelude.{[], ◌∷◌}
use Rattle.iv_term.specs.declared.typ.Typ.TheBlock.{Nil as no_types}
use Rattle.iv_hsub.specs.Typing.{type_of}
use Rattle.iv_put.specs.Subst.{TermMap, Substitution}
use Rattle.iv_rules.specs.declared.instance.Instance.{Instance}
use Rattle.iv_rules.specs.Entries.{VarMap}

-- each name with its value's type
unfoldable pub typed_entries : TermMap → VarMap
typed_entries [] = []
typed_entries (e ∷ es) = ((e.0, type_of no_types e.1), e.1) ∷ typed_entries es

-- nothing is put for what is fixed or free
abbrev pub as_instance : Substitution → Instance
as_instance s = record { fixed = []; types = s.0; frees = []; schematics = typed_entries s.1 }
