-- What holds of the program's machine besides what the definitions see of it. Of this project.
use Rattle.std.specs.Prelude.{◌≡◌, ℕ, List, [], ◌∷◌, map}
use Rattle.iv_kernel.specs.declared.theorems.NamedThm.{NamedThm}
use Rattle.iv_run.specs.declared.machine.Phase.{Phase}
use Rattle.iv_run.specs.declared.machine.Phase.TheVariants as phase
use Rattle.iv_run.specs.declared.machine.Vm.{Vm}
use Rattle.iv_run.specs.Machine.{Finished, Stage, Start, Theory, Prove, Ended, Machine, is_taken}
use Rattle.iv_run.specs.Names.{has_name}
use Rattle.iv_run.specs.Closed.{IsClosed}
use Rattle.iv_run.specs.Open.{IsOpen}

-- each of some theorems is closed
abbrev pub AllClosed : List NamedThm → Type 0
AllClosed [] = Unit {0}
AllClosed (n ∷ ns) = IsClosed n.thm × AllClosed ns

-- what is seen of a theorem: its name and its proposition
abbrev pub seen : NamedThm → Finished
seen n = record { name = n.name; prop = n.thm.prop }

abbrev pub stage_of : Phase → Stage
stage_of phase.Start = Start
stage_of phase.Theory = Theory
stage_of (phase.Prove c) = Prove c.label c.parts
stage_of phase.Ended = Ended

-- the state that the machine is in
abbrev pub machine_of : Vm → Machine
machine_of vm = record { stage = stage_of vm.phase; finished = map seen vm.theorems }

abbrev pub IsPhaseSound : Phase → Type 0
IsPhaseSound (phase.Prove c) = IsOpen c
IsPhaseSound _ = Unit {0}

-- each finished theorem is closed, the names are those of the finished theorems, and a claim is open
pub record IsSound (vm : Vm) : Type 0 where
  pub closed : AllClosed vm.theorems
  pub names : (q : List ℕ) → has_name vm.names q ≡ is_taken (map seen vm.theorems) q
  pub claim : IsPhaseSound vm.phase
