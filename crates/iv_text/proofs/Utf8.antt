-- A text in UTF-8, character by character.
use Rattle.std.proofs.Common.{◌≡◌, ◌<◌, ◌+◌, ◌∙◌, List, ℕ, ◌++◌, length, take, get_or, encode_utf8_all, encode_utf8, append-nil, refl}
use Rattle.std.proofs.lemmas.List.{take_more}
use Rattle.std.proofs.lemmas.Str.{encodes-append}

-- one more character in UTF-8
pub char_encoded : (xs old new : List ℕ) (i c : ℕ) → i < length xs → c ≡ get_or xs i c → old ≡ encode_utf8_all (take i xs) → new ≡ old ++ encode_utf8 c → new ≡ encode_utf8_all (take (i + 1) xs)
char_encoded xs old new i c inside is so_far more =
    let cut = take_more xs i c inside in
    more ∙ rw (cut, encodes-append, ← so_far, ← is, append-nil) refl
