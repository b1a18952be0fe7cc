-- Places of tokens.
use Rattle.std.proofs.Common.{◌≡◌, ℕ, zero, suc, ◌+◌, ◌<◌, List, [], ◌∷◌, length, get_or, refl, arith}
use Rattle.iv_forms.specs.declared.lexeme.Lexeme.{Lexeme}
use Rattle.iv_outer.specs.Unreadable.{place_at, end_of}

pub at_is : (ls : List Lexeme) (k : ℕ) (x : Lexeme) → k < length ls → (get_or ls k x).token.at ≡ place_at k ls
at_is [] k x h = absurd (omega arith)
at_is (l ∷ ls) zero x h = refl
at_is (l ∷ ls) (suc k) x h = at_is ls k x (omega arith)

pub last_is : (ls : List Lexeme) (k : ℕ) (x : Lexeme) → k + 1 ≡ length ls → (get_or ls k x).token.end ≡ end_of ls
last_is [] k x len = absurd (omega arith)
last_is (l ∷ []) zero x len = refl
last_is (l ∷ []) (suc k) x len = absurd (omega arith)
last_is (l ∷ m ∷ ls) zero x len = absurd (omega arith)
last_is (l ∷ m ∷ ls) (suc k) x len = last_is (m ∷ ls) k x (omega arith)
