-- Steps of the cutting of tokens.
use Rattle.std.proofs.Common.{◌≡◌, ℕ, ◌+◌, ◌-◌, ◌<◌, ◌≤◌, suc, zero, List, [], ◌∷◌, ◌++◌, length, get_or, take, drop, refl, ap, sym, ◌∙◌, arith, append_assoc}
use Rattle.std.specs.Prelude.{Option}
use Rattle.std.proofs.lemmas.List.{drop-drop}
use Rattle.iv_lex.specs.declared.letters.Letter.{Letter}
use Rattle.iv_lex.specs.declared.cutting.Kind.{Kind}
use Rattle.iv_lex.specs.declared.cutting.Token.{Token}
use Rattle.iv_lex.specs.Token.{tokens_from, token_list, kind_at, count_at, last_end}

-- the letters that belong to the token before are skipped
skipped : (n : ℕ) (ls : List Letter) → n ≤ length ls → tokens_from n ls ≡ tokens_from 0 (drop n ls)
skipped zero ls h = refl
skipped (suc n) [] h = absurd (omega arith)
skipped (suc n) (l ∷ ls) h = skipped n ls (omega arith)

-- what stands at the front, and then the rest behind it
step : (ls : List Letter) (n : ℕ) → n ≡ count_at ls → 0 < n → n ≤ length ls → tokens_from 0 ls ≡ token_list (kind_at ls) (take n ls) ++ tokens_from 0 (drop n ls)
step [] n is low high = absurd (omega arith)
step (l ∷ ls) zero is low high = absurd (omega arith)
step (l ∷ ls) (suc m) is low high =
    let less : count_at (l ∷ ls) - 1 ≡ m = omega (arith, is) in
    rw (less, ← is) (ap (λ ts. token_list (kind_at (l ∷ ls)) (take (suc m) (l ∷ ls)) ++ ts) (skipped m ls (omega arith)))

-- what was found, with what stands at an index
pub after_front : (ls : List Letter) (at n : ℕ) (kind : Option Kind) (found : List Token) → n ≡ count_at (drop at ls) → 0 < n → n ≤ length (drop at ls) → kind ≡ kind_at (drop at ls) → (found ++ token_list kind (take n (drop at ls))) ++ tokens_from 0 (drop (at + n) ls) ≡ found ++ tokens_from 0 (drop at ls)
after_front ls at n kind found is low high mark =
    let one = step (drop at ls) n is low high in
    let rest : tokens_from 0 (drop n (drop at ls)) ≡ tokens_from 0 (drop (at + n) ls) = ap (tokens_from 0) (drop-drop n at ls) in
    rw append_assoc (ap (λ ts. found ++ ts) (ap (λ ts. token_list kind (take n (drop at ls)) ++ ts) (sym rest) ∙ ap (λ k. token_list k (take n (drop at ls)) ++ tokens_from 0 (drop n (drop at ls))) mark ∙ sym one))

-- the last letter ends where they all do
pub last_is : (ls : List Letter) (k : ℕ) (x : Letter) → k + 1 ≡ length ls → (get_or ls k x).end ≡ last_end ls
last_is [] k x len = absurd (omega arith)
last_is (l ∷ []) zero x len = refl
last_is (l ∷ []) (suc k) x len = absurd (omega arith)
last_is (l ∷ m ∷ ls) zero x len = absurd (omega arith)
last_is (l ∷ m ∷ ls) (suc k) x len = last_is (m ∷ ls) k x (omega arith)
