use Rattle.std.proofs.Common.{◌≡◌, map, take}
use Rattle.iv_outer.specs.Classify.{lexeme_of}
use Rattle.iv_outer.proofs.classify.lexemes.Given as goal

abbrev pub invariant-loop-token : goal.invariant-loop-token
invariant-loop-token l = l.found.items ≡ map lexeme_of (take l.token-index l.tokens)
