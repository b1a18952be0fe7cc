-- The pieces of a document: a piece begins at each command word, and what stands before the first is one piece. After the outer syntax of Isabelle's Reference Manual.
use Rattle.std.specs.Prelude.{ℕ, zero, suc, ◌+◌, List, [], ◌∷◌, Bool, not, nat_lt}
use Rattle.std.specs.List.{prefix_len}
use Rattle.iv_lex.specs.declared.cutting.Token.{Token}
use Rattle.iv_recogniser.specs.declared.class.Class.{Class}
use Rattle.iv_recogniser.specs.declared.class.Class.TheVariants as class
use Rattle.iv_recogniser.specs.Class.{number}
use Rattle.iv_outer.specs.declared.pieces.Piece.{Piece}
use Rattle.iv_outer.specs.Classify.{class_of}

-- whether a class is that of a command word: these are the first classes
abbrev pub is_command : Class → Bool
is_command c = nat_lt (number c) (suc (number class.Oops))

-- whether a token is a command word
abbrev pub begins : Token → Bool
begins t = is_command (class_of t.kind t.text)

-- how many tokens stand before the next command word
abbrev pub plain_more : List Token → ℕ
plain_more ts = prefix_len (λ t. not (begins t)) ts

-- the pieces that begin in these tokens, of which `at` stand before; the first `inside` of them belong to the piece before
abbrev pub pieces_from : ℕ → ℕ → List Token → List Piece
pieces_from inside at [] = []
pieces_from (suc inside) at (t ∷ ts) = pieces_from inside (at + 1) ts
pieces_from zero at (t ∷ ts) = record { first = at; count = plain_more ts + 1 } ∷ pieces_from (plain_more ts) (at + 1) ts

-- the pieces of some tokens
abbrev pub pieces_of : List Token → List Piece
pieces_of ts = pieces_from 0 0 ts
