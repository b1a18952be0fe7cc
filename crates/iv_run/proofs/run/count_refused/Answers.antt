use Rattle.std.proofs.Common.{◌≡◌, ◌<◌, ◌+◌, length, drop, sym, ap, ◌∙◌, inl, arith}
use Rattle.iv_run.specs.Machine.{next}
use Rattle.iv_run.specs.Sound.{machine_of}
use Rattle.iv_run.specs.Run.{state_behind}
use Rattle.iv_run.proofs.RunSteps.{state-step, state-end, refusals-more, refusals-end, front-stopped, front-whole}
use Rattle.iv_run.proofs.run.count_refused.Goals as goal

pub returns-in_err-accepted-clause-finished : goal.returns-in_err-accepted-clause-finished
returns-in_err-accepted-clause-finished c =
    front-stopped _ _ c.args.commands.now c.loop-command.command-index c.command-item.result _ (omega arith) c.command-item.is c.loop-command.invariant.state (inl c.in_err-accepted.ensures.stays)

pub loop-command-preserved : goal.loop-command-preserved
loop-command-preserved c =
    let item = c.command-item.result in
    let i = c.loop-command.command-index in
    let m = machine_of c.loop-command.vm in
    let lt : c.loop-command.command-index < length c.args.commands.now = omega arith in
    let state : machine_of c.accepts.new.vm ≡ next c.command-item.result (machine_of c.loop-command.vm) = c.in_ok-accepted.ensures.state in
    record {
      sound = c.accepts.ensures.sound;
      counted = refusals-more m (machine_of c.accepts.new.vm) c.args.commands.now i item _ _ _ _ lt c.command-item.is c.in_ok-accepted.ensures.accepted c.one_unless-refused.ensures.value c.loop-command.invariant.counted state;
      state = ap (λ k. state_behind k (drop (i + 1) c.args.commands.now)) state ∙ sym (state-step m c.args.commands.now i item lt c.command-item.is) ∙ c.loop-command.invariant.state;
      few = omega (arith, c.loop-command.invariant.few, c.one_unless-refused.ensures.small);
    }

pub returns-clause-ok : goal.returns-clause-ok
returns-clause-ok c = refusals-end _ c.args.commands.now c.loop-command.command-index _ _ (omega arith) c.loop-command.invariant.counted

pub returns-clause-state : goal.returns-clause-state
returns-clause-state c = sym (state-end _ c.args.commands.now c.loop-command.command-index (omega arith)) ∙ c.loop-command.invariant.state

pub returns-clause-finished : goal.returns-clause-finished
returns-clause-finished c =
    front-whole _ _ (ap (λ m. m.finished) (sym (state-end _ c.args.commands.now c.loop-command.command-index (omega arith)) ∙ c.loop-command.invariant.state))
