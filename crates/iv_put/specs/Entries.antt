-- A map of terms as the program keeps it: each value with its type (of this project).
use Rattle.std.specs.Prelude.{List, [], ◌∷◌}
use Rattle.iv_text.specs.declared.name.Name.{Name}
use Rattle.iv_term.specs.declared.typ.Typ.TheBlock.{Nil as no_types}
use Rattle.iv_hsub.specs.Typing.{HasType}
use Rattle.iv_put.specs.declared.substitution.Entry.{Entry}
use Rattle.iv_put.specs.Subst.{TermMap}

-- the map that entries are
unfoldable pub terms_in : List (Name × Entry) → TermMap
terms_in [] = []
terms_in (e ∷ es) = (e.0, e.1.value) ∷ terms_in es

-- each value is a term without loose indices, of the type beside it
unfoldable pub AreTyped : List (Name × Entry) → Type 0
AreTyped [] = Unit {0}
AreTyped (e ∷ es) = HasType no_types e.1.typ e.1.value × AreTyped es
