-- How a run is answered. Of this project.
use Rattle.std.specs.Prelude.{ℕ, Bool, if◌then◌else◌}
use Rattle.iv_run.specs.declared.run.Stop.{Stop}
use Rattle.iv_run.specs.declared.run.Stop.TheVariants as stop
use Rattle.iv_run.specs.declared.status.Status.{Status}
use Rattle.iv_run.specs.declared.status.Status.TheVariants.{Done, Refused, Usage, Memory, ReadFault, WriteFault, TooLarge, Number}

-- the exit status of each answer
abbrev pub code_of : Status → ℕ
code_of Done = 0
code_of Refused = 1
code_of Usage = 2
code_of Memory = 3
code_of ReadFault = 4
code_of WriteFault = 5
code_of TooLarge = 6
code_of Number = 7

-- the answer where memory runs out after a run
abbrev pub without_memory : Status → Status
without_memory Done = Memory
without_memory Refused = Memory
without_memory other = other

-- the answer of a run: whether all commands were accepted and the document has ended
abbrev pub answer_of : Bool → Status
answer_of b = if b then Done else Refused

-- a run that read the document
abbrev pub IsRun : Status → Type 0
IsRun Done = Unit {0}
IsRun Refused = Unit {0}
IsRun Memory = Unit {0}
IsRun WriteFault = Unit {0}
IsRun _ = ⊥

-- the whole document was executed and reported
abbrev pub IsAnswered : Status → Type 0
IsAnswered Done = Unit {0}
IsAnswered Refused = Unit {0}
IsAnswered _ = ⊥

-- its commands were read, and executed as far as what they report could be written
abbrev pub IsExecuted : Status → Type 0
IsExecuted Done = Unit {0}
IsExecuted Refused = Unit {0}
IsExecuted WriteFault = Unit {0}
IsExecuted _ = ⊥

-- it was refused before a command was executed
abbrev pub IsUnread : Status → Type 0
IsUnread Usage = Unit {0}
IsUnread ReadFault = Unit {0}
IsUnread TooLarge = Unit {0}
IsUnread _ = ⊥

-- the answer of a run that was cut short
abbrev pub stopped_by : Stop → Status
stopped_by stop.Memory = Memory
stopped_by stop.WriteFault = WriteFault
