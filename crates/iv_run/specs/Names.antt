-- A set of names. Of this project.
use Rattle.std.specs.Prelude.{ℕ, Bool, List}
use Rattle.std.specs.List.{list_any}
use Rattle.std.specs.Str.{bytes_eq}
use Rattle.iv_run.specs.declared.names.Names.{Names}

-- whether a name is in the set
abbrev pub has_name : Names → List ℕ → Bool
has_name names q = list_any (λ k. bytes_eq q k.items) names.texts.keys
