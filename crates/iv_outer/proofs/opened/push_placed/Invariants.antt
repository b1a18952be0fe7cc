use Rattle.std.proofs.Common.{◌≡◌, ◌++◌, map, take}
use Rattle.iv_outer.specs.Classify.{lexeme_of}
use Rattle.iv_outer.specs.Opened.{placed}
use Rattle.iv_outer.proofs.opened.push_placed.Given as goal

abbrev pub invariant-loop-token : goal.invariant-loop-token
invariant-loop-token l = l.out.items ≡ l.fn.out.items ++ map (λ t. lexeme_of (placed l.cartouche t)) (take l.token-index l.tokens)
