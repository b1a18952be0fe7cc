-- The parts of a report's lines. Of this project.
use Rattle.std.specs.Prelude.{ℕ, Bool, List, [], ◌++◌, ◌==◌, if◌then◌else◌, codes}
use Rattle.std.specs.Fmt.{decimal}
use Rattle.iv_text.specs.declared.name.Name.{Name}

-- a text where a condition holds, and else nothing
abbrev pub only_if : Bool → List ℕ → List ℕ
only_if b text = if b then text else []

-- what is printed of a name's number: a dot and its decimals, and nothing for 0
abbrev pub number_text : ℕ → List ℕ
number_text n = if n == 0 then [] else codes "." ++ decimal n

-- how a name is printed
abbrev pub name_text : Name → List ℕ
name_text x = x.text ++ number_text x.number

-- a line and a column in decimals
abbrev pub place_text : ℕ → ℕ → List ℕ
place_text line column = decimal line ++ codes ":" ++ decimal column
