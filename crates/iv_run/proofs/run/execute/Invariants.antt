use Rattle.std.proofs.Common.{◌≡◌, ◌≤◌, ◌<◌, ℕ, List, ◌++◌, length, drop, get_or, ◌&&◌}
use Rattle.std.specs.Prelude.{Some, encode_utf8_all}
use Rattle.iv_statement.specs.declared.commands.Command.{Command}
use Rattle.iv_report.specs.Place.{IsAt}
use Rattle.iv_run.specs.Sound.{IsSound, machine_of}
use Rattle.iv_run.specs.Run.{report_from, state_behind, all_accepted}
use Rattle.iv_run.proofs.run.execute.Given as goal

abbrev pub invariant-loop-command : goal.invariant-loop-command
invariant-loop-command g l =
    let written = g.K.Sink.written in
    record {
      sound : IsSound l.vm;
      place : IsAt l.document l.cursor;
      forward : (d : Command) (j : ℕ) → l.command-index ≤ j → j < length l.commands → l.cursor.at.0 ≤ (get_or l.commands j d).at.0;
      accepted : (l.accepted && all_accepted (machine_of l.vm) (drop l.command-index l.commands)) ≡ all_accepted (machine_of l.fn.vm) l.commands;
      state : state_behind (machine_of l.vm) (drop l.command-index l.commands) ≡ state_behind (machine_of l.fn.vm) l.commands;
      written : (w : List ℕ) → written l.fn.sink ≡ Some w → (told : List ℕ) × ((written l.sink ≡ Some (w ++ encode_utf8_all told))
          × (told ++ report_from l.document (machine_of l.vm) (drop l.command-index l.commands) ≡ report_from l.document (machine_of l.fn.vm) l.commands));
      faults : g.K.Sink.faults l.sink ≡ g.K.Sink.faults l.fn.sink;
    }
