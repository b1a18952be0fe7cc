use Rattle.std.proofs.Common.{arith, sym, refl}
use Rattle.iv_statement.proofs.PartSteps.{part_found, one_part}
use Rattle.iv_statement.proofs.reading.next_part.Goals as goal

pub returns-then-starts_with-clause-parts : goal.returns-then-starts_with-clause-parts
returns-then-starts_with-clause-parts c =
    let long = rw (c.as_slice.ensures, c.rest_from-rest.ensures) at (c.if-starts_with.ensures.bound refl) in
    let arrow = rw (c.as_slice.ensures, c.rest_from-rest.ensures) at c.if-starts_with.ensures.value in
    rw (c.rest_from.ensures, c.rest_from-rest.ensures) (part_found c.args.text.now c.loop-at.at (omega arith) c.loop-at.invariant long (sym arrow))

pub returns-clause-parts : goal.returns-clause-parts
returns-clause-parts c = one_part c.args.text.now (λ k l. c.loop-at.invariant k (omega arith))
