use Rattle.std.proofs.Common.{◌≡◌, drop}
use Rattle.iv_recogniser.specs.declared.class.Class.TheVariants as class
use Rattle.iv_outer.specs.Opened.{any_case}
use Rattle.iv_outer.proofs.opened.any_case.Given as goal

abbrev pub invariant-loop-lexeme : goal.invariant-loop-lexeme
invariant-loop-lexeme l = any_case l.before (drop l.lexeme-index l.lexemes) ≡ any_case class.Other l.lexemes
