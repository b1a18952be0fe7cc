-- The run of a document and its report. Of this project.
use Rattle.std.specs.Prelude.{◌≡◌, ℕ, ◌+◌, Bool, true, false, ◌&&◌, if◌then◌else◌, List, [], ◌∷◌, ◌++◌, length, drop, encode_utf8_all}
use Rattle.std.specs.List.{flat_map}
use Rattle.iv_rules.specs.Rules.{Derivable}
use Rattle.iv_statement.specs.declared.commands.Command.{Command}
use Rattle.iv_report.specs.Place.{line_of, column_of}
use Rattle.iv_run.specs.Machine.{Finished, Machine, Stage, Ended, Outcome, Refused, Accepted, start, executed, next}
use Rattle.iv_run.specs.declared.refusal.Refusal.{Refusal}
use Rattle.iv_run.specs.Refusal.{place_of}
use Rattle.iv_run.specs.Report.{theorem_line, refusal_line, count_line}
use Rattle.iv_words.specs.declared.words.Task.{Task}
use Rattle.iv_words.specs.declared.words.Task.TheVariants.{Check, Count}

-- the most bytes that a document may have: 4 MiB
abbrev pub document_limit : ℕ
document_limit = 4194304

-- the line of a finished theorem
abbrev pub line_of_finished : Finished → List ℕ
line_of_finished f = theorem_line f.name f.prop

-- the line of a refused command, with its place and that of the refusal
abbrev pub refused_line : List ℕ → Command → Refusal → List ℕ
refused_line document c r =
    refusal_line (line_of document c.at.0) (column_of document c.at.0) c.word (line_of document (place_of c.at r).0) (column_of document (place_of c.at r).0) r

-- what is reported of a command: the theorems that it finished, or why it was refused
abbrev pub lines_of : List ℕ → Command → Machine → Outcome → List ℕ
lines_of document c m (Refused r) = refused_line document c r
lines_of document c m (Accepted n) = flat_map line_of_finished (drop (length m.finished) n.finished)

-- what is reported of some commands, executed in order
unfoldable pub report_from : List ℕ → Machine → List Command → List ℕ
report_from document m [] = []
report_from document m (c ∷ cs) = lines_of document c m (executed c m) ++ report_from document (next c m) cs

-- the state behind them
unfoldable pub state_behind : Machine → List Command → Machine
state_behind m [] = m
state_behind m (c ∷ cs) = state_behind (next c m) cs

-- whether none of them is refused
abbrev pub is_accepted : Outcome → Bool
is_accepted (Refused r) = false
is_accepted (Accepted n) = true

unfoldable pub all_accepted : Machine → List Command → Bool
all_accepted m [] = true
all_accepted m (c ∷ cs) = is_accepted (executed c m) && all_accepted (next c m) cs

abbrev pub is_ended : Stage → Bool
is_ended Ended = true
is_ended s = false

-- how many of some commands are refused, executed in order
unfoldable pub refusals_in : Machine → List Command → ℕ
refusals_in m [] = 0
refusals_in m (c ∷ cs) = (if is_accepted (executed c m) then 0 else 1) + refusals_in (next c m) cs

-- the line of counts behind some commands
unfoldable pub counts_behind : Machine → List Command → List ℕ
counts_behind m cs = count_line (length (state_behind m cs).finished) (refusals_in m cs) (is_ended (state_behind m cs).stage)

-- what a task reports of some commands
abbrev pub reported : Task → List ℕ → Machine → List Command → List ℕ
reported Check document m cs = report_from document m cs
reported Count document m cs = counts_behind m cs

-- the report of a document with these commands, as bytes
abbrev pub report_of : Task → List ℕ → List Command → List ℕ
report_of task document cs = encode_utf8_all (reported task document start cs)

-- the theorems that commands prove, in order
abbrev pub theorems_of : List Command → List Finished
theorems_of cs = (state_behind start cs).finished

-- each of some theorems follows from no hypothesis and no axiom
abbrev pub AllDerivable : List Finished → Type 0
AllDerivable [] = Unit {0}
AllDerivable (f ∷ fs) = Derivable [] f.prop × AllDerivable fs

-- whether a document with these commands is accepted: none is refused, and the last one is `end`
abbrev pub is_done : List Command → Bool
is_done cs = all_accepted start cs && is_ended (state_behind start cs).stage

-- some texts are the first of others
abbrev pub IsFrontOf : {X : Type 0} → List X → List X → Type 0
IsFrontOf {X} front whole = (rest : List X) × (whole ≡ front ++ rest)
