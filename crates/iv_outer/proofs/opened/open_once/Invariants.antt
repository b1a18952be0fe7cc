use Rattle.std.proofs.Common.{◌≡◌, ◌++◌, drop}
use Rattle.iv_recogniser.specs.declared.class.Class.TheVariants as class
use Rattle.iv_outer.specs.Opened.{open_once}
use Rattle.iv_outer.proofs.opened.open_once.Given as goal

abbrev pub invariant-loop-lexeme : goal.invariant-loop-lexeme
invariant-loop-lexeme l = l.out.items ++ open_once l.before (drop l.lexeme-index l.lexemes) ≡ open_once class.Other l.lexemes
