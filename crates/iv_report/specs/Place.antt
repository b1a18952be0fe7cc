-- Lines and columns. Of this project.
use Rattle.std.specs.Prelude.{◌≡◌, ℕ, ◌+◌, Bool, List, length, take, count_by, ◌==◌, ◌&&◌, not, nat_lt}
use Rattle.std.specs.List.{after_last, list_all}
use Rattle.iv_report.specs.declared.places.Cursor.{Cursor}
use Rattle.iv_report.specs.Width.{width_of}

-- a line feed
abbrev pub is_line_feed : ℕ → Bool
is_line_feed b = b == 10

-- the line of an offset: 1 and the line feeds before it
abbrev pub line_of : List ℕ → ℕ → ℕ
line_of document at = 1 + count_by is_line_feed (take at document)

-- the bytes before an offset on its line
abbrev pub before_on_line : List ℕ → ℕ → List ℕ
before_on_line document at = after_last is_line_feed (take at document)

-- the column of an offset: 1 and the columns of the text before it on its line
abbrev pub column_of : List ℕ → ℕ → ℕ
column_of document at = 1 + width_of (before_on_line document at)

-- an ASCII byte that isn't a line feed: it takes one column
abbrev pub is_narrow : ℕ → Bool
is_narrow b = nat_lt b 128 && not (is_line_feed b)

-- a cursor knows its line, what stands before it there, and whether that is all ASCII
pub record IsAt (document : List ℕ) (c : Cursor) : Type 0 where
  pub line : c.line ≡ line_of document c.at.0
  pub before : c.before ≡ length (before_on_line document c.at.0)
  pub narrow : c.narrow ≡ list_all is_narrow (before_on_line document c.at.0)
