use Rattle.std.proofs.Common.{sym, ◌∙◌, ap}
use Rattle.std.specs.Option.{option_copied}
use Rattle.iv_conclusions.proofs.Facts.{without-value, with-value}
use Rattle.iv_conclusions.proofs.putting.value_at.Goals as goal

pub returns-in-None : goal.returns-in-None
returns-in-None c = rw c.in-Free.is (without-value _ _ _ (sym c.get.ensures ∙ ap option_copied c.in-None.is))

pub returns-in-None-get : goal.returns-in-None-get
returns-in-None-get c = rw c.in-Schematic.is (without-value _ _ _ (sym c.get-in-Schematic.ensures ∙ ap option_copied c.in-None-get.is))

pub returns-in-Some : goal.returns-in-Some
returns-in-Some c = rw c.in-Free.is (with-value _ _ _ c.in-Some.value.now (sym c.get.ensures ∙ ap option_copied c.in-Some.is))

pub returns-in-Some-get : goal.returns-in-Some-get
returns-in-Some-get c = rw c.in-Schematic.is (with-value _ _ _ c.in-Some-get.value.now (sym c.get-in-Schematic.ensures ∙ ap option_copied c.in-Some-get.is))
