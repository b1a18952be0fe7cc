use Rattle.std.proofs.Common.{◌≡◌, ◌++◌, List, ℕ}
use Rattle.std.specs.Prelude.{Some}
use Rattle.iv_run.specs.Run.{report_of, IsFrontOf}
use Rattle.iv_run.proofs.RunSteps.{of_task}
use Rattle.iv_run.proofs.run.run_isar.Goals as goal

pub returns-in-Ok-clause-front : goal.returns-in-Ok-clause-front
returns-in-Ok-clause-front g c = λ task asked b left cs are w written.
    of_task (λ t. (front : List ℕ) × ((g.K.Sink.written c.run_task.new.sink ≡ Some (w ++ front)) × IsFrontOf front (report_of t b cs))) _ _ _ c.in-Ok.ensures.task asked (c.run_task.ensures.front b left cs are w written)
