-- Notations of constants (Reference Manual, mixfix annotations), in a profile of this project.
use Rattle.std.specs.Prelude.{ℕ, Bool, true, not, ◌&&◌, ◌||◌, nat_eq, nat_lt, nat_le, length, List, [], ◌∷◌, codes}
use Rattle.std.specs.List.{list_any}
use Rattle.std.specs.Str.{bytes_eq}
use Rattle.iv_sig.specs.declared.fixity.Fixity.{Fixity}
use Rattle.iv_sig.specs.declared.fixity.Fixity.TheVariants.{Plain, Prefix, Infix, Infixl, Infixr, Binder}

-- the symbol of a notation
abbrev pub symbol_of : Fixity → List ℕ
symbol_of (Plain s) = s
symbol_of (Prefix s p q) = s
symbol_of (Infix s p) = s
symbol_of (Infixl s p) = s
symbol_of (Infixr s p) = s
symbol_of (Binder s p) = s

-- whether each priority is at most 1000, and that of an infix at most 999
abbrev pub are_priorities : Fixity → Bool
are_priorities (Plain s) = true
are_priorities (Prefix s p q) = nat_le p 1000 && nat_le q 1000
are_priorities (Infix s p) = nat_le p 999
are_priorities (Infixl s p) = nat_le p 999
are_priorities (Infixr s p) = nat_le p 999
are_priorities (Binder s p) = nat_le p 1000

-- whether a character is a space, a tab, a line feed or a carriage return, and whether it is one of these or `_`
abbrev pub is_blank : ℕ → Bool
is_blank c = nat_eq c 32 || nat_eq c 9 || nat_eq c 10 || nat_eq c 13

abbrev pub is_barred : ℕ → Bool
is_barred c = is_blank c || nat_eq c 95

-- whether a notation may have this symbol: one or more characters, none of them a blank or `_`
abbrev pub is_symbol : List ℕ → Bool
is_symbol s = nat_lt 0 (length s) && not (list_any is_barred s)

-- the delimiters of the inner syntax
abbrev pub delimiters : List (List ℕ)
delimiters =
    codes "(" ∷ codes ")" ∷ codes "::" ∷ codes "%" ∷ codes "." ∷ codes "==" ∷ codes "==>" ∷ codes "[|" ∷ codes "|]" ∷ codes ";" ∷ codes "!!" ∷ codes "=>"
    ∷ codes "[" ∷ codes "]" ∷ codes "," ∷ codes "PROP" ∷ codes "_" ∷ codes "..." ∷ []

-- whether a text is a delimiter
unfoldable pub is_delimiter : List ℕ → Bool
is_delimiter s = list_any (bytes_eq s) delimiters
