-- Maps by name: entries in order (of this project).
use Rattle.std.specs.Prelude.{List, Option}
use Rattle.std.specs.Map.{lookup}
use Rattle.iv_text.specs.declared.name.Name.{Name}
use Rattle.iv_text.specs.Name.{same_name}

abbrev pub Entries : Type 0 → Type 0
Entries V = List (Name × V)

-- what the first entry of a name has
abbrev pub look : {V : Type 0} → Entries V → Name → Option V
look es x = lookup (same_name x) es
