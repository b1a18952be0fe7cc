-- Why a command is refused. Of this project.
use Rattle.iv_text.specs.declared.want.Want.{Want}
use Rattle.iv_text.specs.declared.want.Want.TheVariants.{Memory as no_memory, Number as no_number}
use Rattle.iv_run.specs.declared.refusal.Refusal.{Refusal}
use Rattle.iv_run.specs.declared.refusal.Refusal.TheVariants.{Syntax, Memory, Number}
use Rattle.iv_text.specs.declared.Pos.{Pos}

-- what a want refuses a command with
abbrev pub refusal_for : Want → Refusal
refusal_for no_memory = Memory
refusal_for no_number = Number

-- the place of a refusal: its own, or that of the command
abbrev pub place_of : Pos → Refusal → Pos
place_of at (Syntax p) = p
place_of at _ = at
