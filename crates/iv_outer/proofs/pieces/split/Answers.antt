use Rattle.std.proofs.Common.{◌≡◌, ◌+◌, ◌≤◌, drop, length, arith, length-drop}
use Rattle.iv_outer.specs.Piece.{plain_more}
use Rattle.iv_outer.proofs.PieceSteps.{piece_step}
use Rattle.iv_outer.proofs.pieces.split.Goals as goal

pub loop-at-preserved : goal.loop-at-preserved
loop-at-preserved c =
    let is : c.plain_more-count.result ≡ plain_more (drop (c.loop-at.at + 1) c.args.tokens.now) = rw c.rest_from.ensures at c.plain_more-count.ensures.more in
    let fits : c.plain_more-count.result ≤ length (drop (c.loop-at.at + 1) c.args.tokens.now) = rw c.rest_from.ensures at c.plain_more-count.ensures.within in
    record {
      inside = omega (arith, fits, length-drop (c.loop-at.at + 1) c.args.tokens.now, c.loop-at-test.true);
      so_far = rw c.in_ok-push.ensures.items (piece_step c.args.tokens.now c.loop-at.found.items c.loop-at.at c.plain_more-count.result c.loop-at-test.true is c.loop-at.invariant.so_far);
    }
