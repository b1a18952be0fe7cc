-- The machine and its transition table, for the header, texts, `lemma`, `by assumption`, `oops` and `end` (Wenzel 2002).
use Rattle.std.specs.Prelude.{ℕ, Bool, false, Option, Some, None, List, [], ◌∷◌, ◌++◌, if◌then◌else◌, codes}
use Rattle.std.specs.List.{list_any}
use Rattle.std.specs.Str.{bytes_eq}
use Rattle.iv_term.specs.declared.term.Term.{Term}
use Rattle.iv_statement.specs.declared.commands.Command.{Command}
use Rattle.iv_statement.specs.declared.commands.Form.{Form}
use Rattle.iv_statement.specs.declared.commands.Form.TheVariants.{Header, Prose, Lemma, ByAssumption, Oops, End, Unreadable}
use Rattle.iv_run.specs.declared.refusal.Mode.{Mode}
use Rattle.iv_run.specs.declared.refusal.Mode.TheVariants as mode
use Rattle.iv_run.specs.declared.refusal.Refusal.{Refusal}
use Rattle.iv_run.specs.declared.refusal.Refusal.TheVariants.{Syntax, Mode as WrongMode, Name as BadName, Empty}
use Rattle.iv_run.specs.Statement.{statement_of, schematic_var, is_solved}

-- a finished theorem: its name, where it has one, and its proposition
pub record Finished : Type 0 where
  pub name : Option (List ℕ)
  pub prop : Term

-- where a document stands: at its start, outside of proofs, in the proof of a statement under its name, or behind its end
pub data Stage : Type 0 where
  Start : Stage
  Theory : Stage
  Prove : List ℕ → List (List ℕ) → Stage
  Ended : Stage

-- the state: where the document stands, and the theorems finished so far, in order
pub record Machine : Type 0 where
  pub stage : Stage
  pub finished : List Finished

abbrev pub mode_of : Stage → Mode
mode_of Start = mode.Start
mode_of Theory = mode.Theory
mode_of (Prove name parts) = mode.Prove
mode_of Ended = mode.Ended

-- before any command
abbrev pub start : Machine
start = record { stage = Start; finished = [] }

-- whether a name is this one
abbrev pub is_named : List ℕ → Option (List ℕ) → Bool
is_named name None = false
is_named name (Some other) = bytes_eq name other

-- whether a finished theorem has this name
abbrev pub is_taken : List Finished → List ℕ → Bool
is_taken finished name = list_any (λ f. is_named name f.name) finished

-- what a command does: it is refused with its cause, or accepted with the new state
pub data Outcome : Type 0 where
  Refused : Refusal → Outcome
  Accepted : Machine → Outcome

-- a command is refused in this stage
abbrev pub wrong_mode : Stage → Outcome
wrong_mode s = Refused (WrongMode (mode_of s))

-- the theorem of a proved statement: its free variables have become schematic
abbrev pub theorem_of : List ℕ → List (List ℕ) → Finished
theorem_of name parts = record { name = Some name; prop = statement_of schematic_var parts }

-- whether a name is that of the one theory that is there from the start
abbrev pub is_pure : List ℕ → Bool
is_pure name = bytes_eq name (codes "Pure")

-- the first import other than `Pure`
abbrev pub other_import : List (List ℕ) → Option (List ℕ)
other_import [] = None
other_import (name ∷ names) = if is_pure name then other_import names else Some name

-- the rows of the table, one a command
abbrev pub header_row : Option (List ℕ) → List Finished → Outcome
header_row None finished = Accepted (record { stage = Theory; finished = finished })
header_row (Some name) finished = Refused (BadName name)

abbrev pub header_at : List (List ℕ) → Stage → List Finished → Outcome
header_at imports Start finished = header_row (other_import imports) finished
header_at imports s finished = wrong_mode s

abbrev pub prose_at : Stage → List Finished → Outcome
prose_at Ended finished = wrong_mode Ended
prose_at s finished = Accepted (record { stage = s; finished = finished })

abbrev pub lemma_row : List ℕ → List (List ℕ) → List Finished → Outcome
lemma_row name parts finished =
    if is_taken finished name then Refused (BadName name) else Accepted (record { stage = Prove name parts; finished = finished })

abbrev pub lemma_at : List ℕ → List (List ℕ) → Stage → List Finished → Outcome
lemma_at name parts Start finished = lemma_row name parts finished
lemma_at name parts Theory finished = lemma_row name parts finished
lemma_at name parts s finished = wrong_mode s

abbrev pub by_at : Stage → List Finished → Outcome
by_at (Prove name parts) finished =
    if is_solved parts then Accepted (record { stage = Theory; finished = finished ++ theorem_of name parts ∷ [] }) else Refused Empty
by_at s finished = wrong_mode s

abbrev pub oops_at : Stage → List Finished → Outcome
oops_at (Prove name parts) finished = Accepted (record { stage = Theory; finished = finished })
oops_at s finished = wrong_mode s

abbrev pub end_at : Stage → List Finished → Outcome
end_at Start finished = Accepted (record { stage = Ended; finished = finished })
end_at Theory finished = Accepted (record { stage = Ended; finished = finished })
end_at s finished = wrong_mode s

-- the table: what a form does in a state; an unreadable one is refused at its place
abbrev pub row : Form → Machine → Outcome
row (Header imports) m = header_at imports m.stage m.finished
row Prose m = prose_at m.stage m.finished
row (Lemma name parts) m = lemma_at name parts m.stage m.finished
row ByAssumption m = by_at m.stage m.finished
row Oops m = oops_at m.stage m.finished
row End m = end_at m.stage m.finished
row (Unreadable p) m = Refused (Syntax p)

-- what a command does in a state
abbrev pub executed : Command → Machine → Outcome
executed c m = row c.form m

-- the state behind an outcome: a refused command leaves it as it was
abbrev pub state_after : Machine → Outcome → Machine
state_after m (Refused r) = m
state_after m (Accepted n) = n

abbrev pub next : Command → Machine → Machine
next c m = state_after m (executed c m)
