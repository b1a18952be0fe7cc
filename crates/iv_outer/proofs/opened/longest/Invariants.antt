use Rattle.std.proofs.Common.{◌≡◌, drop}
use Rattle.iv_outer.specs.Opened.{longest}
use Rattle.iv_outer.proofs.opened.longest.Given as goal

abbrev pub invariant-loop-token : goal.invariant-loop-token
invariant-loop-token l = longest l.most (drop l.token-index l.tokens) ≡ longest 0 l.tokens
