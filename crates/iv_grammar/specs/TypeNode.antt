-- What nodes stand for, and the steps of a parser of types that keeps a stack of its own. Of this project.
use Rattle.std.specs.Prelude.{◌≡◌, ℕ, ◌+◌, ◌*◌, ◌<◌, ◌≤◌, List, [], ◌∷◌, ◌++◌, length, map, get_or, max, min, Bool, true, false, None, Some}
use Rattle.iv_grammar.specs.declared.sign.Sign.TheVariants as sign
use Rattle.iv_grammar.specs.declared.words.Word.TheVariants as word
use Rattle.iv_grammar.specs.declared.cutting.Token.{Token}
use Rattle.iv_grammar.specs.declared.cutting.Token.TheVariants as token
use Rattle.iv_grammar.specs.declared.type_nodes.TypeForm.{TypeForm}
use Rattle.iv_grammar.specs.declared.type_nodes.TypeForm.TheVariants as form
use Rattle.iv_grammar.specs.declared.type_nodes.Kind.{Kind}
use Rattle.iv_grammar.specs.declared.type_nodes.Kind.TheVariants as kind
use Rattle.iv_grammar.specs.declared.type_nodes.Part.{Part}
use Rattle.iv_grammar.specs.declared.type_nodes.Awaiting.{Awaiting}
use Rattle.iv_grammar.specs.declared.type_nodes.Awaiting.TheVariants as awaiting
use Rattle.iv_grammar.specs.declared.type_nodes.Place.{Place}
use Rattle.iv_grammar.specs.declared.type_nodes.Place.TheVariants as place
use Rattle.iv_grammar.specs.declared.type_steps.Turn.{Turn}
use Rattle.iv_grammar.specs.declared.type_steps.Turn.TheVariants as turn
use Rattle.iv_grammar.specs.declared.type_steps.NoType.{NoType}
use Rattle.iv_grammar.specs.declared.type_steps.NoType.TheVariants as none
use Rattle.iv_grammar.specs.declared.types.NoParse.{NoParse}
use Rattle.iv_grammar.specs.declared.types.NoParse.TheVariants as refusal
use Rattle.iv_grammar.specs.TypeTree.{Ty, var, con, paren, applied, round, square, more, tuple, arrow, arrows, is_atom, is_round, is_square, is_more, is_types, type_depth}
use Rattle.iv_grammar.specs.TypeReader.{State, begin, got, Read, read, Frame, in_round, in_square, with_types, with_left, with_arguments, resume}

-- the tree at a place
abbrev pub at : List Ty → ℕ → Ty
at ts i = get_or ts i (con [])

-- the tree of a node, where those of the nodes before it are given
abbrev pub shape : List Ty → TypeForm → Ty
shape ts (form.Var x) = var x
shape ts (form.Con c) = con c
shape ts (form.Paren i) = paren (at ts i)
shape ts (form.Applied i c) = applied (at ts i) c
shape ts (form.Round i) = round (at ts i)
shape ts (form.Square i) = square (at ts i)
shape ts (form.More i j) = more (at ts i) (at ts j)
shape ts (form.Tuple i c) = tuple (at ts i) c
shape ts (form.Arrow i j) = arrow (at ts i) (at ts j)
shape ts (form.Arrows i j) = arrows (at ts i) (at ts j)

-- the trees of nodes, in order
abbrev pub types_from : List Ty → List TypeForm → List Ty
types_from ts [] = ts
types_from ts (f ∷ fs) = types_from (ts ++ shape ts f ∷ []) fs

abbrev pub types_of : List TypeForm → List Ty
types_of fs = types_from [] fs

-- a depth, or 401 where it is more
abbrev pub capped : ℕ → ℕ
capped d = min d 401

-- what a kind says of a tree
abbrev pub atom_kind : Kind → Bool
atom_kind kind.Atom = true
atom_kind k = false

abbrev pub round_kind : Kind → Bool
round_kind (kind.Round i) = true
round_kind kind.Rounds = true
round_kind k = false

abbrev pub square_kind : Kind → Bool
square_kind kind.Square = true
square_kind k = false

abbrev pub types_kind : Kind → Bool
types_kind kind.Atom = false
types_kind kind.Arrow = false
types_kind k = true

abbrev pub more_kind : Kind → Kind
more_kind (kind.Round i) = kind.Rounds
more_kind k = k

-- whether a tree of a kind goes on with a token
abbrev pub takes_by : Token → Kind → Bool
takes_by (token.Word word.Ident x) k = atom_kind k
takes_by (token.Sign sign.Arrow) k = atom_kind k
takes_by (token.Sign sign.Comma) k = types_kind k
takes_by (token.Sign sign.Close) k = round_kind k
takes_by (token.Sign sign.CloseTypes) k = square_kind k
takes_by t k = false

-- a list of one type is that of its node, and one of several has several
abbrev pub HasItems : List Ty → Kind → Ty → Type 0
HasItems ts (kind.Round i) t = (i < length ts) × (t ≡ round (at ts i))
HasItems ts kind.Rounds t = is_more t ≡ true
HasItems ts k t = Unit {0}

pub record IsKind (ts : List Ty) (k : Kind) (t : Ty) : Type 0 where
  pub atom : is_atom t ≡ atom_kind k
  pub round : is_round t ≡ round_kind k
  pub square : is_square t ≡ square_kind k
  pub types : is_types t ≡ types_kind k
  pub items : HasItems ts k t

-- a part is that of its node
pub record IsPart (ts : List Ty) (p : Part) : Type 0 where
  pub within : p.root < length ts
  pub kind : IsKind ts p.kind (at ts p.root)
  pub depth : p.depth ≡ capped (type_depth (at ts p.root))

abbrev pub IsAwaiting : List Ty → Awaiting → Type 0
IsAwaiting ts awaiting.Round = Unit {0}
IsAwaiting ts awaiting.Square = Unit {0}
IsAwaiting ts (awaiting.More p) = IsPart ts p × (types_kind p.kind ≡ true)
IsAwaiting ts (awaiting.Arrow p) = IsPart ts p
IsAwaiting ts (awaiting.Arrows p) = IsPart ts p

abbrev pub AreAwaiting : List Ty → List Awaiting → Type 0
AreAwaiting ts [] = Unit {0}
AreAwaiting ts (x ∷ xs) = IsAwaiting ts x × AreAwaiting ts xs

abbrev pub IsPlace : List Ty → Place → Type 0
IsPlace ts place.Begin = Unit {0}
IsPlace ts (place.Got p) = IsPart ts p

-- what a type makes of a kind and a depth
abbrev pub kind_by : Awaiting → ℕ → Kind
kind_by awaiting.Round i = kind.Round i
kind_by awaiting.Square i = kind.Square
kind_by (awaiting.More p) i = more_kind p.kind
kind_by (awaiting.Arrow p) i = kind.Arrow
kind_by (awaiting.Arrows p) i = kind.Arrow

abbrev pub depth_by : Awaiting → ℕ → ℕ
depth_by awaiting.Round d = d
depth_by awaiting.Square d = d
depth_by (awaiting.More p) d = max p.depth d
depth_by (awaiting.Arrow p) d = capped (max p.depth d + 1)
depth_by (awaiting.Arrows p) d = capped (max p.depth d + 1)

-- what is still to be done, and where the reader stands
abbrev pub frame_of : List Ty → Awaiting → Frame
frame_of ts awaiting.Round = in_round
frame_of ts awaiting.Square = in_square
frame_of ts (awaiting.More p) = with_types (at ts p.root)
frame_of ts (awaiting.Arrow p) = with_left (at ts p.root)
frame_of ts (awaiting.Arrows p) = with_arguments (at ts p.root)

abbrev pub state_of : List Ty → Place → State
state_of ts place.Begin = begin
state_of ts (place.Got p) = got (at ts p.root)

-- what is read of the rest
abbrev pub value : ℕ → List Ty → List Awaiting → Place → List Token → Read
value n ts xs s rest = resume (read n) (map (frame_of ts) xs) (read n (state_of ts s) rest)

-- all that is kept is of the nodes
pub record Holds (ts : List Ty) (xs : List Awaiting) (s : Place) : Type 0 where
  pub frames : AreAwaiting ts xs
  pub place : IsPlace ts s

-- a step: what is read stays the same, nodes were entered, and less is to be done
pub record IsStep (ns : List TypeForm) (xs : List Awaiting) (s : Place) (rest : List Token) (ms : List TypeForm) (ys : List Awaiting) (z : Place) (left : List Token) : Type 0 where
  pub same : (n : ℕ) → length rest ≤ n → value n (types_of ns) xs s rest ≡ value n (types_of ms) ys z left
  pub holds : Holds (types_of ms) ys z
  pub grown : (fs : List TypeForm) × (ms ≡ ns ++ fs)
  pub shorter : length left ≤ length rest
  pub less : 2 * length left + length ys < 2 * length rest + length xs

abbrev pub Steps : List TypeForm → List Awaiting → Place → List Token → List TypeForm → List Awaiting → Place → List Token → Type 0
Steps ns xs s rest ms ys z left = Holds (types_of ns) xs s → IsStep ns xs s rest ms ys z left

-- nothing is read
abbrev pub Stuck : List TypeForm → List Awaiting → Place → List Token → Type 0
Stuck ns xs s rest = Holds (types_of ns) xs s → (n : ℕ) → length rest ≤ n → value n (types_of ns) xs s rest ≡ None

-- whether a tree of a kind goes on with the next token
abbrev pub takes_any : List Token → Kind → Bool
takes_any [] k = false
takes_any (t ∷ ts) k = takes_by t k

-- whether an identifier or an arrow stands in front
abbrev pub starts_name : List Token → Bool
starts_name (token.Word word.Ident x ∷ ts) = true
starts_name ts = false

abbrev pub starts_arrow : List Token → Bool
starts_arrow (token.Sign sign.Arrow ∷ ts) = true
starts_arrow ts = false

-- the whole was read, and this is left
pub record IsDone (ns : List TypeForm) (xs : List Awaiting) (s : Place) (rest : List Token) (ms : List TypeForm) (p : Part) (left : List Token) : Type 0 where
  pub reads : (n : ℕ) → length rest ≤ n → value n (types_of ns) xs s rest ≡ Some (at (types_of ms) p.root, left)
  pub part : IsPart (types_of ms) p
  pub grown : (fs : List TypeForm) × (ms ≡ ns ++ fs)

-- where a turn leads: a step, or the whole was read
abbrev pub Turned : List TypeForm → List Awaiting → Place → List Token → List TypeForm → List Awaiting → Turn → List Token → Type 0
Turned ns xs s rest ms ys (turn.On z) left = Steps ns xs s rest ms ys z left
Turned ns xs s rest ms ys (turn.Done p) left = Holds (types_of ns) xs s → IsDone ns xs s rest ms p left

-- what a parser of a whole text answers where no type was read
abbrev pub parse_error : NoType → NoParse
parse_error none.Stuck = refusal.NoTree
parse_error none.Memory = refusal.Memory
