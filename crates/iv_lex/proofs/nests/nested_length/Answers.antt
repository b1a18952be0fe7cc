use Rattle.std.proofs.Common.{◌+◌, ◌<◌, length, arith, length-drop, ap, sym, ◌∙◌, Some, drop}
use Rattle.std.specs.Option.{option_map}
use Rattle.iv_lex.proofs.FormSteps.{nested_at, nested_end, nested_none}
use Rattle.iv_lex.proofs.nests.nested_length.Goals as goal

pub returns-then-is_last-clause-length : goal.returns-then-is_last-clause-length
returns-then-is_last-clause-length c =
    let is = rw c.rest_from-rest.ensures at c.front-front.ensures.length in
    let last = rw c.rest_from-rest.ensures at (sym c.is_last.ensures) in
    let some : 0 < length (drop c.loop-at.at c.args.letters.now) = omega (arith, length-drop c.loop-at.at c.args.letters.now, c.loop-at-test.true) in
    ap (λ n. Some (c.loop-at.at + n)) is
    ∙ sym (ap (option_map (λ n. c.loop-at.at + n)) (nested_end c.args.nest c.loop-at.depth (drop c.loop-at.at c.args.letters.now) some (last ∙ c.if-is_last.true)))
    ∙ c.loop-at.invariant.so_far

pub loop-at-preserved : goal.loop-at-preserved
loop-at-preserved c =
    let is = rw c.rest_from-rest.ensures at c.front-front.ensures.length in
    let fits = rw c.rest_from-rest.ensures at c.front-front.ensures.within in
    let on = rw c.rest_from-rest.ensures at (sym c.is_last.ensures) in
    let after = rw c.rest_from-rest.ensures at c.depth_after-depth.ensures.depth in
    record {
      inside = omega (arith, fits, length-drop c.loop-at.at c.args.letters.now);
      shallow = omega (arith, c.depth_after-depth.ensures.one_more, c.front-front.ensures.some);
      so_far = sym (nested_at c.args.nest c.loop-at.at c.front-front.result c.depth_after-depth.result c.loop-at.depth c.args.letters.now c.loop-at-test.true (on ∙ c.if-is_last.false) is c.front-front.ensures.some fits after) ∙ c.loop-at.invariant.so_far;
    }

pub returns-clause-length : goal.returns-clause-length
returns-clause-length c =
    sym (nested_none c.args.nest c.loop-at.at c.loop-at.depth c.args.letters.now c.loop-at-test.false) ∙ c.loop-at.invariant.so_far
