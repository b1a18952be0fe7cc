-- What the words of the command line mean. By the crate `clap`, for a simple command.
use Rattle.std.specs.Prelude.{Bool, true, false, List, [], ◌∷◌, Option, Some, None, codes, if◌then◌else◌}
use Rattle.std.specs.Str.{bytes_eq}
use Rattle.clap.specs.Words.{App, Rule, Text, Kinds, fault_of, first_of, matches_of, new_app, new_rule, with_rule}
use Rattle.clap.specs.declared.builder.action.ArgAction.TheVariants.{Set}
use Rattle.iv_words.specs.declared.words.Task.{Task}
use Rattle.iv_words.specs.declared.words.Task.TheVariants.{Check, Count}

-- the argument `MODE`, which has to be there
unfoldable pub mode_argument : Rule
mode_argument = record (new_rule (codes "MODE")) { action = Some Set; required = true }

-- the command `isarvm`, with this one argument
unfoldable pub isarvm : App
isarvm = with_rule (new_app (codes "isarvm")) mode_argument

-- the task of this mode
abbrev pub task_named : Option Text → Option Task
task_named None = None
task_named (Some mode) =
    if bytes_eq mode (codes "check") then Some Check
    else if bytes_eq mode (codes "count") then Some Count
    else None

-- whether there is no fault
abbrev pub are_none : Kinds → Bool
are_none [] = true
are_none (k ∷ ks) = false

-- the task that a command line asks for, which begins with the program's name: none where it has a fault, and where
-- MODE is no mode
abbrev pub task_on : List Text → Option Task
task_on line = if are_none (fault_of isarvm line) then task_named (first_of (codes "MODE") (matches_of isarvm line)) else None

-- the task that the words after the program's name ask for, if any
abbrev pub task_of : List Text → Option Task
task_of words = task_on (codes "isarvm" ∷ words)
