use Rattle.std.proofs.Common.{refl}
use Rattle.iv_hsub.proofs.Terms.Moves.{spine_moves}
use Rattle.iv_hsub.proofs.harrop.hhf_spine.Goals as goal

pub returns-then-is_implication-clause-ok : goal.returns-then-is_implication-clause-ok
returns-then-is_implication-clause-ok c =
    let k = spine_moves c.args.h.now c.args.args c.is_implication.result (rw c.in_ok-copy.ensures.ok at c.is_implication.ensures) in
    rw (← k, c.if-is_implication.true) (rw (c.consequent.ensures, c.antecedent.ensures, c.in_ok-copy.ensures.ok) at c.push-made.ensures.ok)

pub returns-else-is_implication-clause-ok : goal.returns-else-is_implication-clause-ok
returns-else-is_implication-clause-ok c =
    let k = spine_moves c.args.h.now c.args.args c.is_implication.result (rw c.in_ok-copy.ensures.ok at c.is_implication.ensures) in
    rw (← k, c.if-is_implication.false, c.in_ok-copy.ensures.ok) refl
