-- A reader of types, as a function with fuel; and one with a stack of its own. Of this project: both are proved to find what belongs to the tokens.
use Rattle.std.specs.Prelude.{ℕ, zero, suc, List, [], ◌∷◌, cond, Option, None, Some}
use Rattle.iv_grammar.specs.declared.sign.Sign.TheVariants as sign
use Rattle.iv_grammar.specs.declared.words.Word.TheVariants as word
use Rattle.iv_grammar.specs.declared.cutting.Token.{Token}
use Rattle.iv_grammar.specs.declared.cutting.Token.TheVariants as token
use Rattle.iv_grammar.specs.TypeTree.{Ty, var, con, paren, applied, round, square, more, tuple, arrow, arrows, type_goes_on, is_types}

-- a reader stands before a type, or behind a tree that may go on
pub data State : Type 0 where
  begin : State
  got : Ty → State

abbrev pub Read : Type 0
Read = Option (Ty × List Token)

abbrev pub Reader : Type 0
Reader = State → List Token → Read

abbrev pub then_read : Read → (Ty → List Token → Read) → Read
then_read None f = None
then_read (Some r) f = f r.0 r.1

-- before a type
abbrev pub begun : Reader → List Token → Read
begun run (token.Word word.Tvar x ∷ rest) = run (got (var x)) rest
begun run (token.Word word.Ident c ∷ rest) = run (got (con c)) rest
begun run (token.Sign sign.Open ∷ rest) = then_read (run begin rest) (λ t after. run (got (round t)) after)
begun run (token.Sign sign.OpenTypes ∷ rest) = then_read (run begin rest) (λ t after. run (got (square t)) after)
begun run rest = None

-- behind one type or several in parentheses, which are closed
abbrev pub closed : Reader → Ty → List Token → Read
closed run (round t) rest = run (got (paren t)) rest
closed run t (token.Word word.Ident c ∷ rest) = run (got (tuple t c)) rest
closed run t rest = None

abbrev pub arrowed : Reader → Ty → List Token → Read
arrowed run t (token.Sign sign.Arrow ∷ rest) = then_read (run begin rest) (λ u after. run (got (arrows t u)) after)
arrowed run t rest = None

-- behind a tree that goes on
abbrev pub grown : Reader → Ty → List Token → Read
grown run t (token.Word word.Ident c ∷ rest) = run (got (applied t c)) rest
grown run t (token.Sign sign.Arrow ∷ rest) = then_read (run begin rest) (λ u after. run (got (arrow t u)) after)
grown run t (token.Sign sign.Comma ∷ rest) = then_read (run begin rest) (λ u after. run (got (more t u)) after)
grown run t (token.Sign sign.Close ∷ rest) = closed run t rest
grown run t (token.Sign sign.CloseTypes ∷ rest) = arrowed run t rest
grown run t rest = None

abbrev pub some_read : Ty → List Token → Read
some_read t rest = Some (t, rest)

abbrev pub stop : Ty → List Token → Read
stop t rest = cond (is_types t) None (some_read t rest)

abbrev pub read : ℕ → State → List Token → Read
read zero begin rest = None
read zero (got t) rest = cond (type_goes_on t rest) None (stop t rest)
read (suc n) begin rest = begun (read n) rest
read (suc n) (got t) rest = cond (type_goes_on t rest) (grown (read n) t rest) (stop t rest)

-- what is to be done with an operand
pub data Frame : Type 0 where
  in_round : Frame
  in_square : Frame
  with_types : Ty → Frame
  with_left : Ty → Frame
  with_arguments : Ty → Frame

abbrev pub make : Frame → Ty → Ty
make in_round u = round u
make in_square u = square u
make (with_types ts) u = more ts u
make (with_left t) u = arrow t u
make (with_arguments ts) u = arrows ts u

abbrev pub goes : Reader → Frame → Ty → List Token → Read
goes run f u left = run (got (make f u)) left

abbrev pub resume : Reader → List Frame → Read → Read
resume run [] r = r
resume run (f ∷ fs) r = then_read (resume run fs r) (goes run f)
