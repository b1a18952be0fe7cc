-- Tokens that stand in order.
use Rattle.std.proofs.Common.{◌≤◌, ◌+◌, ℕ, List, [], ◌∷◌, length, arith}
use Rattle.iv_lex.specs.declared.cutting.Token.{Token}
use Rattle.iv_lex.specs.Place.{AreInOrder}

-- they aren't more than there are places
pub few_tokens : (from to : ℕ) (ts : List Token) → AreInOrder from to ts → from ≤ to
few_tokens from to [] h = h
few_tokens from to (t ∷ ts) h = omega (arith, few_tokens t.end.0 to ts h.2, h.0, h.1)

pub count_of_tokens : (from to : ℕ) (ts : List Token) → AreInOrder from to ts → from + length ts ≤ to
count_of_tokens from to [] h = omega (arith, h)
count_of_tokens from to (t ∷ ts) h = omega (arith, count_of_tokens t.end.0 to ts h.2, h.0, h.1)
