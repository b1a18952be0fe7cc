use Rattle.std.proofs.Common.{arith, append_assoc, length-drop}
use Rattle.std.proofs.Math.Seq.{take-add}
use Rattle.std.proofs.lemmas.Grind.{common_steps}
use Rattle.iv_io.proofs.whole.write_all.Goals as goal

pub writes-preserved : goal.writes-preserved
writes-preserved g c = record {
  within = omega (arith, c.in_ok-done.ensures.within, length-drop c.writes.done c.args.bytes.now);
  faults = grind (arith, common_steps);
  told = λ w h. let t = c.in_ok-done.ensures.appended _ (c.writes.invariant.told w h) in
      grind (arith, common_steps, take-add, append_assoc, t);
}
