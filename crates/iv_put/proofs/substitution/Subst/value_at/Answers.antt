use Rattle.std.proofs.Common.{sym, ◌∙◌, ap}
use Rattle.std.specs.Option.{option_copied}
use Rattle.iv_put.proofs.Facts.Values.{at-value, at-no_value}
use Rattle.iv_put.proofs.substitution.Subst.value_at.Goals as goal

pub returns-in-None : goal.returns-in-None
returns-in-None c = rw c.in-Schematic.is (at-no_value _ _ _ (sym c.get.ensures ∙ ap option_copied c.in-None.is))

pub returns-in-Some : goal.returns-in-Some
returns-in-Some c = rw c.in-Schematic.is (at-value _ _ _ c.in-Some.value.now (sym c.get.ensures ∙ ap option_copied c.in-Some.is))
