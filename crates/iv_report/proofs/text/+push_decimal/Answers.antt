use Rattle.std.proofs.Common.{◌<◌, ◌^◌, arith, append_assoc}
use Rattle.std.proofs.lemmas.Fmt.{decimal_digit, decimal_step}
use Rattle.iv_report.proofs.text.+push_decimal.Goals as goal

pub returns-then-number-lt10-clause-ok : goal.returns-then-number-lt10-clause-ok
returns-then-number-lt10-clause-ok t c = rw (decimal_digit c.args.number c.if-number-lt10.true) c.push_digit.ensures.ok

pub returns-clause-ok : goal.returns-clause-ok
returns-clause-ok t c =
    let small : c.args.number < 2 ^ 64 = omega arith in
    rw (decimal_step c.args.number c.if-number-lt10.false small, ← append_assoc, ← c.in_ok-push_decimal.ensures.ok) c.push_digit-2.ensures.ok
