-- Trees of terms. After the inner syntax of Isabelle's Reference Manual (mixfix annotations, priority grammars), in a profile of this project.
use Rattle.std.specs.Prelude.{◌≡◌, ℕ, ◌+◌, ◌≤◌, ◌<◌, List, [], ◌∷◌, ◌++◌, length, Bool, true, false, max, cond, nat_le, ◌&&◌}
use Rattle.iv_grammar.specs.declared.sign.Sign.{Sign}
use Rattle.iv_grammar.specs.declared.sign.Sign.TheVariants as sign
use Rattle.iv_grammar.specs.declared.words.Word.TheVariants as word
use Rattle.iv_grammar.specs.declared.cutting.Token.{Token}
use Rattle.iv_grammar.specs.declared.cutting.Token.TheVariants as token
use Rattle.iv_grammar.specs.TypeTree.{Ty, ident, type_yield, type_depth, TypeSuits, TypeFits}

abbrev pub is_colons : Sign → Bool
is_colons sign.Colons = true
is_colons s = false

-- symbols between two operands: the priority of the left place, of the right place, and of the whole
abbrev pub is_infix : Sign → Bool
is_infix sign.Equals = true
is_infix sign.Implies = true
is_infix (sign.Infix i p) = true
is_infix (sign.Infixl i p) = true
is_infix (sign.Infixr i p) = true
is_infix s = false

abbrev pub left_of : Sign → ℕ
left_of sign.Equals = 3
left_of sign.Implies = 2
left_of (sign.Infix i p) = p + 1
left_of (sign.Infixl i p) = p
left_of (sign.Infixr i p) = p + 1
left_of s = 0

abbrev pub right_of : Sign → ℕ
right_of sign.Equals = 3
right_of sign.Implies = 1
right_of (sign.Infix i p) = p + 1
right_of (sign.Infixl i p) = p + 1
right_of (sign.Infixr i p) = p
right_of s = 0

-- symbols in front of one operand, and in front of bound names, a dot and a body
abbrev pub is_prefix : Sign → Bool
is_prefix sign.Prop = true
is_prefix (sign.Prefix i place own) = true
is_prefix s = false

abbrev pub is_binder : Sign → Bool
is_binder sign.Lambda = true
is_binder sign.All = true
is_binder (sign.Binder i p) = true
is_binder s = false

-- the priority of the operand's or the body's place
abbrev pub place_of : Sign → ℕ
place_of sign.Prop = 999
place_of (sign.Prefix i place own) = place
place_of sign.Lambda = 3
place_of (sign.Binder i p) = p
place_of s = 0

-- the priority of what a symbol makes
abbrev pub own_of : Sign → ℕ
own_of sign.Equals = 2
own_of sign.Implies = 1
own_of (sign.Infix i p) = p
own_of (sign.Infixl i p) = p
own_of (sign.Infixr i p) = p
own_of sign.Prop = 999
own_of (sign.Prefix i place own) = own
own_of sign.Lambda = 3
own_of (sign.Binder i p) = p
own_of s = 0

-- tokens that are trees by themselves
abbrev pub is_atom_token : Token → Bool
is_atom_token (token.Word word.Ident x) = true
is_atom_token (token.Word word.Var x) = true
is_atom_token (token.Sign sign.Dots) = true
is_atom_token (token.Sign sign.Dummy) = true
is_atom_token (token.Sign (sign.Plain i)) = true
is_atom_token k = false

-- whether an argument begins with a token: an atom, a parenthesis, or a prefix or binder form of priority at least 1000
abbrev pub begins_argument : Token → Bool
begins_argument (token.Sign sign.Open) = true
begins_argument (token.Sign (sign.Prefix i place own)) = nat_le 1000 own
begins_argument (token.Sign (sign.Binder i p)) = nat_le 1000 p
begins_argument k = is_atom_token k

-- a bound name, with a type or without, in parentheses or not
pub data Var : Type 0 where
  bare : List ℕ → Var
  of_type : List ℕ → Ty → Var
  bare_in : List ℕ → Var
  of_type_in : List ℕ → Ty → Var

-- a term; or the beginning of a list of premises. Such a list alone is no term.
pub data Tree : Type 0 where
  atom : Token → Tree
  -- `( t )`
  paren : Tree → Tree
  -- `f a`
  apply : Tree → Tree → Tree
  -- `PROP t`, and `s t` with a prefix symbol
  prefixed : Sign → Tree → Tree
  -- `t :: T`
  typed : Tree → Ty → Tree
  -- `t s u` with an infix symbol, `==` or `==>`
  binary : Tree → Sign → Tree → Tree
  -- `s xs. t` with a binder, `%` or `!!`
  bound : Sign → List Var → Tree → Tree
  -- `[| t`; `ts ; t`; and `ts |] ==> t`
  premise : Tree → Tree
  premises : Tree → Tree → Tree
  rule : Tree → Tree → Tree

abbrev pub name_yield : Var → List Token
name_yield (bare x) = ident x ∷ []
name_yield (of_type x t) = ident x ∷ token.Sign sign.Colons ∷ type_yield t
name_yield (bare_in x) = token.Sign sign.Open ∷ ident x ∷ token.Sign sign.Close ∷ []
name_yield (of_type_in x t) = token.Sign sign.Open ∷ ident x ∷ token.Sign sign.Colons ∷ (type_yield t ++ token.Sign sign.Close ∷ [])

abbrev pub names_yield : List Var → List Token
names_yield [] = []
names_yield (x ∷ xs) = name_yield x ++ names_yield xs

-- the tokens of a tree
abbrev pub yield : Tree → List Token
yield (atom k) = k ∷ []
yield (paren t) = token.Sign sign.Open ∷ (yield t ++ token.Sign sign.Close ∷ [])
yield (apply f a) = yield f ++ yield a
yield (prefixed s t) = token.Sign s ∷ yield t
yield (typed t a) = yield t ++ token.Sign sign.Colons ∷ type_yield a
yield (binary t s u) = yield t ++ token.Sign s ∷ yield u
yield (bound s xs t) = token.Sign s ∷ (names_yield xs ++ token.Sign sign.Dot ∷ yield t)
yield (premise t) = token.Sign sign.OpenPremises ∷ yield t
yield (premises ts t) = yield ts ++ token.Sign sign.Semicolon ∷ yield t
yield (rule ts t) = yield ts ++ token.Sign sign.ClosePremises ∷ token.Sign sign.Implies ∷ yield t

abbrev pub is_premises : Tree → Bool
is_premises (premise t) = true
is_premises (premises ts t) = true
is_premises t = false

-- the priority of a tree
abbrev pub own : Tree → ℕ
own (atom k) = 1000
own (paren t) = 1000
own (apply f a) = 999
own (prefixed s t) = own_of s
own (typed t a) = 3
own (binary t s u) = own_of s
own (bound s xs t) = own_of s
own (premise t) = 1
own (premises ts t) = 1
own (rule ts t) = 1

-- whether a tree may be applied: it is an application, or of priority at least 1000
abbrev pub heads : Tree → Bool
heads (apply f a) = true
heads t = nat_le 1000 (own t)

-- whether a tree in a place of priority p could go on with a token
abbrev pub list_takes : Token → Bool
list_takes (token.Sign sign.Semicolon) = true
list_takes (token.Sign sign.ClosePremises) = true
list_takes k = false

abbrev pub tree_takes : Token → ℕ → Tree → Bool
tree_takes (token.Word k x) p t = begins_argument (token.Word k x) && (heads t && nat_le p 999)
tree_takes (token.Sign s) p t =
    cond (is_colons s) (nat_le 4 (own t) && nat_le p 3) (cond (is_infix s) (nat_le (left_of s) (own t) && nat_le p (own_of s)) (begins_argument (token.Sign s) && (heads t && nat_le p 999)))

abbrev pub takes : Token → ℕ → Tree → Bool
takes k p t = cond (is_premises t) (list_takes k && nat_le p 1) (tree_takes k p t)

abbrev pub goes_on_with : ℕ → Tree → List Token → Bool
goes_on_with p t [] = false
goes_on_with p t (k ∷ after) = takes k p t

-- a tree in a right place of priority p with these tokens behind it: it is a term of at least this priority, and takes as many
-- tokens as it can
pub record Suits (p : ℕ) (t : Tree) (after : List Token) : Type 0 where
  pub is_term : is_premises t ≡ false
  pub enough : p ≤ own t
  pub stops : goes_on_with p t after ≡ false

-- a tree in a left place of priority p
pub record Stands (p : ℕ) (t : Tree) : Type 0 where
  pub is_term : is_premises t ≡ false
  pub enough : p ≤ own t

abbrev pub NameFits : Var → List Token → Type 0
NameFits (bare x) after = Unit {0}
NameFits (of_type x t) after = TypeSuits t after × TypeFits t after
NameFits (bare_in x) after = Unit {0}
NameFits (of_type_in x t) after = TypeSuits t (token.Sign sign.Close ∷ after) × TypeFits t (token.Sign sign.Close ∷ after)

abbrev pub NamesFit : List Var → List Token → Type 0
NamesFit [] after = Unit {0}
NamesFit (x ∷ xs) after = NameFits x (names_yield xs ++ after) × NamesFit xs after

-- a tree with these tokens behind it is one of the grammar: each child's priority is at least what its place demands, and each
-- right place holds a tree that takes as many tokens as it can
abbrev pub Fits : Tree → List Token → Type 0
Fits (atom k) after = is_atom_token k ≡ true
Fits (paren t) after = Suits 0 t (token.Sign sign.Close ∷ after) × Fits t (token.Sign sign.Close ∷ after)
Fits (apply f a) after = (is_premises f ≡ false) × ((heads f ≡ true) × (Fits f (yield a ++ after) × (Suits 1000 a after × Fits a after)))
Fits (prefixed s t) after = (is_prefix s ≡ true) × (Suits (place_of s) t after × Fits t after)
Fits (typed t a) after = Stands 4 t × (Fits t (token.Sign sign.Colons ∷ (type_yield a ++ after)) × (TypeSuits a after × TypeFits a after))
Fits (binary t s u) after = (is_infix s ≡ true) × (Stands (left_of s) t × (Fits t (token.Sign s ∷ (yield u ++ after)) × (Suits (right_of s) u after × Fits u after)))
Fits (bound s xs t) after = (is_binder s ≡ true) × ((0 < length xs) × (NamesFit xs (token.Sign sign.Dot ∷ (yield t ++ after)) × (Suits (place_of s) t after × Fits t after)))
Fits (premise t) after = Suits 0 t after × Fits t after
Fits (premises ts t) after = (is_premises ts ≡ true) × (Fits ts (token.Sign sign.Semicolon ∷ (yield t ++ after)) × (Suits 0 t after × Fits t after))
Fits (rule ts t) after = (is_premises ts ≡ true) × (Fits ts (token.Sign sign.ClosePremises ∷ token.Sign sign.Implies ∷ (yield t ++ after)) × (Suits 1 t after × Fits t after))

-- a tree belongs to a list of tokens
pub record Belongs (tokens : List Token) (t : Tree) : Type 0 where
  pub yields : yield t ≡ tokens
  pub suits : Suits 0 t []
  pub fits : Fits t []

-- the depth of a tree: atoms have none; each application, operator, binder, constraint, `PROP`, pair of parentheses and
-- `[| |] ==>` adds one level. An application with several arguments is one level.
abbrev pub name_depth : Var → ℕ
name_depth (bare x) = 0
name_depth (of_type x t) = type_depth t
name_depth (bare_in x) = 0
name_depth (of_type_in x t) = type_depth t

abbrev pub names_depth : List Var → ℕ
names_depth [] = 0
names_depth (x ∷ xs) = max (name_depth x) (names_depth xs)

abbrev pub level : Tree → ℕ
level (apply f a) = 0
level t = 1

abbrev pub depth : Tree → ℕ
depth (atom k) = 0
depth (paren t) = depth t + 1
depth (apply f a) = max (depth f + level f) (depth a + 1)
depth (prefixed s t) = depth t + 1
depth (typed t a) = max (depth t) (type_depth a) + 1
depth (binary t s u) = max (depth t) (depth u) + 1
depth (bound s xs t) = max (names_depth xs) (depth t) + 1
depth (premise t) = depth t
depth (premises ts t) = max (depth ts) (depth t)
depth (rule ts t) = max (depth ts) (depth t) + 1
