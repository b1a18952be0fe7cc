use Rattle.std.proofs.Common.{◌∙◌, ◌+◌, ap, sym, arith}
use Rattle.iv_report.specs.Width.{width_of}
use Rattle.iv_report.proofs.WidthSteps.{narrow_columns, end_of_front}
use Rattle.iv_report.proofs.places.Cursor.column.Goals as goal

pub returns-then-self : goal.returns-then-self
returns-then-self c =
    ap (λ n. 1 + n) (c.requires.place.before ∙ sym (narrow_columns _ (sym c.requires.place.narrow ∙ c.if-self.true)))

pub returns : goal.returns
returns c =
    ap (λ n. 1 + n) (c.width_of.ensures.value ∙ ap width_of (end_of_front c.args.document.now c.args.self.now.at.0 c.args.self.now.before _ c.requires.inside (omega arith) c.requires.place.before))
