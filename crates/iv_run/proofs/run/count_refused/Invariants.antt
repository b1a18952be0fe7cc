use Rattle.std.proofs.Common.{◌≡◌, ◌≤◌, ◌+◌, drop}
use Rattle.iv_run.specs.Sound.{IsSound, machine_of}
use Rattle.iv_run.specs.Run.{state_behind, refusals_in}
use Rattle.iv_run.proofs.run.count_refused.Given as goal

abbrev pub invariant-loop-command : goal.invariant-loop-command
invariant-loop-command l = record {
  sound : IsSound l.vm;
  counted : l.refused + refusals_in (machine_of l.vm) (drop l.command-index l.commands) ≡ refusals_in (machine_of l.fn.vm) l.commands;
  state : state_behind (machine_of l.vm) (drop l.command-index l.commands) ≡ state_behind (machine_of l.fn.vm) l.commands;
  few : l.refused ≤ l.command-index;
}
