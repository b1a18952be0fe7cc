use Rattle.std.proofs.Common.{◌≡◌, ◌++◌, ◌∙◌, List, ℕ, subst}
use Rattle.std.specs.Prelude.{Some}
use Rattle.iv_statement.specs.Command.{IsCommands, HasCommands}
use Rattle.iv_run.specs.Run.{report_of, IsFrontOf}
use Rattle.iv_run.proofs.run.run_task.Goals as goal

pub returns-clause-front : goal.returns-clause-front
returns-clause-front g c = λ b left cs is w told.
    subst (λ (d : List ℕ). IsCommands d cs → (front : List ℕ) × ((g.K.Sink.written c.check.new.sink ≡ Some (w ++ front)) × IsFrontOf front (report_of c.args.task d cs)))
    (c.as_slice.ensures.value ∙ c.in-Ok.ensures.whole b left) (λ k. c.check.ensures.front cs k w told) is

pub returns-clause-commands : goal.returns-clause-commands
returns-clause-commands g c = λ executed b left. subst HasCommands (c.as_slice.ensures.value ∙ c.in-Ok.ensures.whole b left) (c.check.ensures.commands executed)
