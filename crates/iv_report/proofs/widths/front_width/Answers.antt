use Rattle.std.proofs.Common.{arith, ◌∙◌, ap, sym}
use Rattle.std.specs.Prelude.{false, chars}
use Rattle.unicode_width.specs.Width.{str_width}
use Rattle.iv_report.proofs.WidthSteps.{text_columns, fault_columns, nothing_left}
use Rattle.iv_report.proofs.widths.front_width.Goals as goal

pub returns-in-Ok-clause-width : goal.returns-in-Ok-clause-width
returns-in-Ok-clause-width c =
    let cases = c.in-Ok.ensures.cases in
    text_columns c.args.bytes.now cases.1 ∙ ap (λ t. str_width false (chars t)) (sym cases.0) ∙ sym c.width.ensures.value
    ∙ nothing_left _ c.args.bytes.now _ (omega arith)

pub returns-in-Err-clause-width : goal.returns-in-Err-clause-width
returns-in-Err-clause-width c =
    let valid = rw (← c.valid_up_to-valid.ensures) at (c.in-Err.ensures.cases.1) in
    rw (c.text_width.ensures.value valid.front) (fault_columns c.args.bytes.now c.valid_up_to-valid.result valid)
