use Rattle.std.proofs.Common.{◌≡◌, [], ◌∷◌, reverse, take}
use Rattle.std.specs.Prelude.{Some}
use Rattle.iv_recogniser.specs.declared.part.Symbol.TheVariants.{Goes}
use Rattle.iv_recogniser.specs.Table.{forms}
use Rattle.iv_recogniser.proofs.Checks.{run}
use Rattle.iv_recogniser.proofs.reading.read.Given as goal

abbrev pub invariant-loop-place : goal.invariant-loop-place
invariant-loop-place l = run forms (Some (Goes l.fn.start ∷ [])) (take l.place l.classes) ≡ Some (reverse l.stack.items)
