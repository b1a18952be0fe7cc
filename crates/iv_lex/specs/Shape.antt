-- What the letters of each kind of token look like. After the outer syntax of Isabelle's Reference Manual, in a profile of this project.
use Rattle.std.specs.Prelude.{◌≡◌, ◌<◌, List, [], ◌∷◌, ◌++◌, Bool, true, false, ◌&&◌, Option, None, Some, drop, if◌then◌else◌}
use Rattle.std.specs.List.{list_all}
use Rattle.iv_lex.specs.declared.letters.Letter.{Letter}
use Rattle.iv_lex.specs.declared.nests.Nest.{Nest}
use Rattle.iv_lex.specs.declared.nests.Nest.TheVariants as nest
use Rattle.iv_lex.specs.declared.cutting.Kind.{Kind}
use Rattle.iv_lex.specs.declared.cutting.Kind.TheVariants as kind
use Rattle.iv_lex.specs.Letter.{is_blank, is_char, is_start, is_continue, is_digit, is_alpha, is_symbolic, is_sign, is_single}
use Rattle.iv_lex.specs.Form.{first_is, opening, closing}
use Rattle.iv_lex.specs.Token.{all_chars}

-- one letter or more, each of which meets the test
abbrev pub is_run : (Letter → Bool) → List Letter → Bool
is_run test [] = false
is_run test (l ∷ ls) = test l && list_all test ls

-- an identifier: a letter that begins one, and then letters that go on with it
abbrev pub is_ident : List Letter → Bool
is_ident [] = false
is_ident (l ∷ ls) = is_start l && list_all is_continue ls

-- an identifier, then one or more of a dot and an identifier
pub data IsLong : List Letter → Type 0 where
  last : (a : List Letter) (dot : Letter) (b : List Letter) → is_ident a ≡ true → is_char 46 dot ≡ true → is_ident b ≡ true → IsLong (a ++ (dot ∷ b))
  more : (a : List Letter) (dot : Letter) (b : List Letter) → is_ident a ≡ true → is_char 46 dot ≡ true → IsLong b → IsLong (a ++ (dot ∷ b))

-- a question mark and an identifier, and maybe a dot and digits
pub data IsVar : List Letter → Type 0 where
  plain : (mark : Letter) (a : List Letter) → is_char 63 mark ≡ true → is_ident a ≡ true → IsVar (mark ∷ a)
  numbered : (mark : Letter) (a : List Letter) (dot : Letter) (n : List Letter) → is_char 63 mark ≡ true → is_ident a ≡ true → is_char 46 dot ≡ true → is_run is_digit n ≡ true → IsVar (mark ∷ (a ++ (dot ∷ n)))

-- a quote and an identifier
pub data IsTypeVar : List Letter → Type 0 where
  plain_type : (mark : Letter) (a : List Letter) → is_char 39 mark ≡ true → is_ident a ≡ true → IsTypeVar (mark ∷ a)

-- what may stand between the quotes of a string: a backslash takes the next letter with it
pub data IsInside : List Letter → Type 0 where
  nothing : IsInside []
  letter : (l : Letter) (ls : List Letter) → is_char 34 l ≡ false → is_char 92 l ≡ false → IsInside ls → IsInside (l ∷ ls)
  pair : (l m : Letter) (ls : List Letter) → is_char 92 l ≡ true → IsInside ls → IsInside (l ∷ m ∷ ls)

-- a string with its quotes
pub data IsString : List Letter → Type 0 where
  string : (q : Letter) (inside : List Letter) (r : Letter) → is_char 34 q ≡ true → IsInside inside → is_char 34 r ≡ true → IsString (q ∷ (inside ++ (r ∷ [])))

-- the letters begin with a whole bracket, and these are left behind it: an opening, what stands inside, and a closing;
-- inside stand whole brackets, and letters where neither an opening nor a closing stands
mutual
  pub data IsWhole : Nest → List Letter → List Letter → Type 0 where
    whole : (n : Nest) (ls mid : List Letter) → 0 < opening n ls → IsBody n (drop (opening n ls) ls) mid → 0 < closing n mid → IsWhole n ls (drop (closing n mid) mid)

  pub data IsBody : Nest → List Letter → List Letter → Type 0 where
    done : (n : Nest) (ls : List Letter) → IsBody n ls ls
    other : (n : Nest) (l : Letter) (ls rest : List Letter) → opening n (l ∷ ls) ≡ 0 → closing n (l ∷ ls) ≡ 0 → IsBody n ls rest → IsBody n (l ∷ ls) rest
    bracket : (n : Nest) (ls mid rest : List Letter) → IsWhole n ls mid → IsBody n mid rest → IsBody n ls rest

-- symbols: a run of them, a name between `\<` and `>`, or a character of the table
pub data IsSymbol : List Letter → Type 0 where
  run : (ls : List Letter) → is_run is_symbolic ls ≡ true → IsSymbol ls
  named : (b l : Letter) (a : List Letter) (r : Letter) → is_char 92 b ≡ true → is_char 60 l ≡ true → is_run is_alpha a ≡ true → is_char 62 r ≡ true → IsSymbol (b ∷ l ∷ (a ++ (r ∷ [])))
  sign : (l : Letter) → is_sign l ≡ true → IsSymbol (l ∷ [])

-- a delimiter, or two colons or dots
pub data IsDelimiter : List Letter → Type 0 where
  single : (l : Letter) → is_single l ≡ true → IsDelimiter (l ∷ [])
  colons : (l m : Letter) → is_char 58 l ≡ true → is_char 58 m ≡ true → IsDelimiter (l ∷ m ∷ [])
  dots : (l m : Letter) → is_char 46 l ≡ true → is_char 46 m ≡ true → IsDelimiter (l ∷ m ∷ [])

-- these letters stand in front of the rest, as a token of a kind, or as none where they are a blank or a comment.
-- An opening that is never closed takes all letters there are; one of a cartouche is no symbol.
pub data Stands : Option Kind → List Letter → List Letter → Type 0 where
  blank : (l : Letter) (rest : List Letter) → is_blank l ≡ true → Stands None (l ∷ []) rest
  comment : (w rest : List Letter) → IsWhole nest.Comment (w ++ rest) rest → Stands None w rest
  ident : (w rest : List Letter) → is_ident w ≡ true → Stands (Some kind.Ident) w rest
  long : (w rest : List Letter) → IsLong w → Stands (Some kind.Long) w rest
  number : (w rest : List Letter) → is_run is_digit w ≡ true → Stands (Some kind.Nat) w rest
  variable : (w rest : List Letter) → IsVar w → Stands (Some kind.Var) w rest
  type_variable : (w rest : List Letter) → IsTypeVar w → Stands (Some kind.Tvar) w rest
  text : (w rest : List Letter) → IsString w → Stands (Some (if all_chars w then kind.Str else kind.Bad)) w rest
  cartouche : (w rest : List Letter) → IsWhole nest.Cartouche (w ++ rest) rest → Stands (Some (if all_chars w then kind.Cart else kind.Bad)) w rest
  symbol : (w rest : List Letter) → IsSymbol w → opening nest.Cartouche (w ++ rest) ≡ 0 → Stands (Some kind.Sym) w rest
  delimiter : (w rest : List Letter) → IsDelimiter w → Stands (Some kind.Single) w rest
  unclosed : (n : Nest) (w : List Letter) → 0 < opening n w → ((rest : List Letter) → IsWhole n w rest → ⊥) → Stands (Some kind.Bad) w []
  unclosed_text : (w : List Letter) → first_is (is_char 34) w ≡ true → ((v rest : List Letter) → v ++ rest ≡ w → IsString v → ⊥) → Stands (Some kind.Bad) w []
