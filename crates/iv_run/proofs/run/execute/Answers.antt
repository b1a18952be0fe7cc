use Rattle.std.proofs.Common.{◌≡◌, ◌<◌, ◌+◌, ◌++◌, length, drop, take, get_or, sym, ap, ◌∙◌, append_assoc, append-nil, ◌&&◌, inr, arith}
use Rattle.std.specs.Prelude.{Some, encode_utf8_all}
use Rattle.std.proofs.lemmas.List.{get_or_default}
use Rattle.iv_run.specs.Machine.{executed, next}
use Rattle.iv_run.specs.Sound.{machine_of}
use Rattle.iv_run.specs.Run.{lines_of, report_from, state_behind, all_accepted, is_accepted}
use Rattle.iv_run.proofs.RunSteps.{told-more, report-more, report-step, report-end, state-step, state-end, accepted-step, accepted-end, and-true, and-regroup, front-told, front-part, front-stopped, front-whole}
use Rattle.iv_run.proofs.run.execute.Goals as goal

pub returns-in_err-reported-clause-front : goal.returns-in_err-reported-clause-front
returns-in_err-reported-clause-front g c = λ w h. let t = c.loop-command.invariant.written w h in (encode_utf8_all t.0, (t.1.0, front-told _ _ _ t.1.1))

pub returns-in_err-reported-clause-finished : goal.returns-in_err-reported-clause-finished
returns-in_err-reported-clause-finished g c =
    front-stopped _ _ c.args.commands.now c.loop-command.command-index c.command-item.result _ (omega arith) c.command-item.is c.loop-command.invariant.state c.in_err-reported.ensures.stopped

pub returns-in_err-written-clause-front : goal.returns-in_err-written-clause-front
returns-in_err-written-clause-front g c = λ w h.
    let t = c.loop-command.invariant.written w h in
    let part = c.in_err-written.ensures.part in
    let bytes = c.as_slice.ensures.value ∙ c.in_ok-reported.ensures.bytes in
    let lines = lines_of c.args.document.now c.command-item.result (machine_of c.loop-command.vm) (executed c.command-item.result (machine_of c.loop-command.vm)) in
    let m = machine_of c.loop-command.vm in (
      encode_utf8_all t.0 ++ take part.0 (encode_utf8_all lines),
      (
        part.2 (w ++ encode_utf8_all t.0) t.1.0
            ∙ ap Some (append_assoc w (encode_utf8_all t.0) (take part.0 c.as_slice.result.now) ∙ ap (λ b. w ++ (encode_utf8_all t.0 ++ take part.0 b)) bytes),
        front-part t.0 lines (report_from c.args.document.now (next c.command-item.result m) (drop (c.loop-command.command-index + 1) c.args.commands.now)) _ part.0
            (ap (λ x. t.0 ++ x) (sym (report-step c.args.document.now m c.args.commands.now c.loop-command.command-index c.command-item.result (omega arith) c.command-item.is)) ∙ t.1.1),
      ),
    )

pub returns-in_err-written-clause-finished : goal.returns-in_err-written-clause-finished
returns-in_err-written-clause-finished g c =
    front-stopped _ _ c.args.commands.now c.loop-command.command-index c.command-item.result _ (omega arith) c.command-item.is c.loop-command.invariant.state (inr c.in_ok-reported.ensures.state)

pub loop-command-preserved : goal.loop-command-preserved
loop-command-preserved g c =
    let item = c.command-item.result in
    let i = c.loop-command.command-index in
    let m = machine_of c.loop-command.vm in
    let lt : c.loop-command.command-index < length c.args.commands.now = omega arith in
    let state : machine_of c.step.new.vm ≡ next c.command-item.result (machine_of c.loop-command.vm) = c.in_ok-reported.ensures.state in
    let lines = lines_of c.args.document.now item m (executed item m) in
    record {
      sound = c.step.ensures.sound;
      place = c.step.ensures.place;
      forward = λ d j from to.
          let same : get_or c.args.commands.now c.loop-command.command-index d ≡ c.command-item.result = get_or_default c.args.commands.now i d item lt ∙ sym c.command-item.is in
          let order = c.requires.ordered i j d (omega arith) to in
          let at : (get_or c.args.commands.now c.loop-command.command-index d).at.0 ≡ c.command-item.result.at.0 = ap (λ k. k.at.0) same in
          omega (arith, order, at, c.step.ensures.at);
      accepted =
          (λ k. c.both-accepted.ensures k && all_accepted (state k) (drop (i + 1) c.args.commands.now))
          ∙ ap (λ b. (c.loop-command.accepted && b) && all_accepted (next item m) (drop (i + 1) c.args.commands.now)) c.in_ok-reported.ensures.accepted
          ∙ sym (and-regroup c.loop-command.accepted (is_accepted (executed item m)) (all_accepted (next item m) (drop (i + 1) c.args.commands.now)))
          ∙ ap (λ b. c.loop-command.accepted && b) (sym (accepted-step m c.args.commands.now i item lt c.command-item.is))
          ∙ c.loop-command.invariant.accepted;
      state = ap (λ k. state_behind k (drop (i + 1) c.args.commands.now)) state ∙ sym (state-step m c.args.commands.now i item lt c.command-item.is) ∙ c.loop-command.invariant.state;
      written = λ w h.
          let t = c.loop-command.invariant.written w h in (
            t.0 ++ lines,
            (
              c.in_ok-written.ensures.whole (w ++ encode_utf8_all t.0) t.1.0
                  ∙ ap Some (told-more w t.0 lines c.as_slice.result.now (c.as_slice.ensures.value ∙ c.in_ok-reported.ensures.bytes)),
              report-more c.args.document.now m (machine_of c.step.new.vm) c.args.commands.now i item t.0 _ lt c.command-item.is t.1.1 state,
            ),
          );
      faults = c.in_ok-written.ensures.faults_stay ∙ c.loop-command.invariant.faults;
    }

pub returns-clause-accepted : goal.returns-clause-accepted
returns-clause-accepted g c =
    sym (and-true c.loop-command.accepted) ∙ ap (λ b. c.loop-command.accepted && b) (sym (accepted-end _ c.args.commands.now c.loop-command.command-index (omega arith)))
    ∙ c.loop-command.invariant.accepted

pub returns-clause-state : goal.returns-clause-state
returns-clause-state g c = sym (state-end _ c.args.commands.now c.loop-command.command-index (omega arith)) ∙ c.loop-command.invariant.state

pub returns-clause-written : goal.returns-clause-written
returns-clause-written g c = λ w h.
    let t = c.loop-command.invariant.written w h in
    let end = ap (λ x. t.0 ++ x) (sym (report-end c.args.document.now (machine_of c.loop-command.vm) c.args.commands.now c.loop-command.command-index (omega arith))) ∙ t.1.1 in
    t.1.0 ∙ ap (λ x. Some (w ++ encode_utf8_all x)) (sym (append-nil t.0) ∙ end)

pub returns-clause-front : goal.returns-clause-front
returns-clause-front g c = λ w h. let t = c.loop-command.invariant.written w h in (encode_utf8_all t.0, (t.1.0, front-told _ _ _ t.1.1))

pub returns-clause-finished : goal.returns-clause-finished
returns-clause-finished g c =
    front-whole _ _ (ap (λ m. m.finished) (sym (state-end _ c.args.commands.now c.loop-command.command-index (omega arith)) ∙ c.loop-command.invariant.state))
