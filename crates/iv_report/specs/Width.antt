-- The columns that bytes take in a terminal: Unicode Standard Annex 11, by the crate `unicode_width`.
use Rattle.std.specs.Prelude.{ℕ, zero, suc, false, ◌+◌, ◌==◌, List, length, take, drop, chars, if◌then◌else◌}
use Rattle.std.specs.Str.Lossy.{utf8_valid_len}
use Rattle.unicode_width.specs.Width.{str_width}

-- the columns of some bytes: of the longest front that is UTF-8 as a text, 1 for the byte behind it, and of what follows
-- that; there are at most `fuel` bytes
unfoldable pub width_within : (fuel : ℕ) → List ℕ → ℕ
width_within zero bs = 0
width_within (suc k) bs =
    let n = utf8_valid_len bs in
    if n == length bs then str_width false (chars bs) else str_width false (chars (take n bs)) + 1 + width_within k (drop (n + 1) bs)

-- the columns of some bytes: of what is UTF-8 as a text, and 1 for each byte that isn't
abbrev pub width_of : List ℕ → ℕ
width_of bs = width_within (length bs) bs
