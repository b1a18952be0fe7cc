-- The reader of types with a stack of its own: what is still to be done behind an operand is a list of frames, the outermost first.
-- Each step of a parser is one equation here.
use Rattle.std.proofs.Common.{◌≡◌, ℕ, ◌≤◌, List, [], ◌∷◌, ◌++◌, length, refl, ap, ◌∙◌}
use Rattle.std.specs.Prelude.{true, false, None, Some}
use Rattle.iv_grammar.specs.declared.sign.Sign.TheVariants as sign
use Rattle.iv_grammar.specs.declared.words.Word.TheVariants as word
use Rattle.iv_grammar.specs.declared.cutting.Token.{Token}
use Rattle.iv_grammar.specs.declared.cutting.Token.TheVariants as token
use Rattle.iv_grammar.specs.TypeTree.{Ty, var, con, paren, applied, round, tuple, ident, is_more, type_goes_on}
pub use Rattle.iv_grammar.specs.TypeReader.{Frame, in_round, in_square, with_types, with_left, with_arguments, make, goes, resume}
use Rattle.iv_grammar.proofs.TypeReading.{begin, got, Read, Reader, then_read, grown, stop, read, more_closes}
use Rattle.iv_grammar.proofs.TypeStable.{steps, grows}
use Rattle.iv_grammar.proofs.Reading.{choose_first, choose_second}

-- a frame is pushed, and popped
pub pushed : (run : Reader) (fs : List Frame) (f : Frame) (r : Read) → resume run (fs ++ f ∷ []) r ≡ resume run fs (then_read r (goes run f))
pushed run [] f r = refl
pushed run (g ∷ fs) f r = ap (λ x. then_read x (goes run g)) (pushed run fs f r)

pub popped : (run : Reader) (fs : List Frame) (f : Frame) (u : Ty) (left : List Token) → resume run (fs ++ f ∷ []) (Some (u, left)) ≡ resume run fs (run (got (make f u)) left)
popped run fs f u left = pushed run fs f (Some (u, left))

pub failed : (run : Reader) (fs : List Frame) → resume run fs None ≡ None
failed run [] = refl
failed run (f ∷ fs) = ap (λ x. then_read x (goes run f)) (failed run fs)

-- before a type
pub begins_var : (n : ℕ) (x : List ℕ) (rest : List Token) → length (token.Word word.Tvar x ∷ rest) ≤ n → read n begin (token.Word word.Tvar x ∷ rest) ≡ read n (got (var x)) rest
begins_var n x rest h = steps n (token.Word word.Tvar x ∷ rest) h

pub begins_con : (n : ℕ) (x : List ℕ) (rest : List Token) → length (ident x ∷ rest) ≤ n → read n begin (ident x ∷ rest) ≡ read n (got (con x)) rest
begins_con n x rest h = steps n (ident x ∷ rest) h

pub begins_round : (n : ℕ) (rest : List Token) → length (token.Sign sign.Open ∷ rest) ≤ n → read n begin (token.Sign sign.Open ∷ rest) ≡ then_read (read n begin rest) (goes (read n) in_round)
begins_round n rest h = steps n (token.Sign sign.Open ∷ rest) h

pub begins_square : (n : ℕ) (rest : List Token) → length (token.Sign sign.OpenTypes ∷ rest) ≤ n → read n begin (token.Sign sign.OpenTypes ∷ rest) ≡ then_read (read n begin rest) (goes (read n) in_square)
begins_square n rest h = steps n (token.Sign sign.OpenTypes ∷ rest) h

-- behind a tree
pub goes_on : (n : ℕ) (t : Ty) (tokens : List Token) → length tokens ≤ n → type_goes_on t tokens ≡ true → read n (got t) tokens ≡ grown (read n) t tokens
goes_on n t tokens h g = grows n t tokens h ∙ choose_first (type_goes_on t tokens) (grown (read n) t tokens) (stop t tokens) g

pub stops : (n : ℕ) (t : Ty) (tokens : List Token) → length tokens ≤ n → type_goes_on t tokens ≡ false → read n (got t) tokens ≡ stop t tokens
stops n t tokens h g = grows n t tokens h ∙ choose_second (type_goes_on t tokens) (grown (read n) t tokens) (stop t tokens) g

pub grows_by_name : (n : ℕ) (t : Ty) (c : List ℕ) (rest : List Token) → length (ident c ∷ rest) ≤ n → type_goes_on t (ident c ∷ rest) ≡ true → read n (got t) (ident c ∷ rest) ≡ read n (got (applied t c)) rest
grows_by_name n t c rest h g = goes_on n t (ident c ∷ rest) h g

pub grows_by_arrow : (n : ℕ) (t : Ty) (rest : List Token) → length (token.Sign sign.Arrow ∷ rest) ≤ n → type_goes_on t (token.Sign sign.Arrow ∷ rest) ≡ true
    → read n (got t) (token.Sign sign.Arrow ∷ rest) ≡ then_read (read n begin rest) (goes (read n) (with_left t))
grows_by_arrow n t rest h g = goes_on n t (token.Sign sign.Arrow ∷ rest) h g

pub grows_by_comma : (n : ℕ) (t : Ty) (rest : List Token) → length (token.Sign sign.Comma ∷ rest) ≤ n → type_goes_on t (token.Sign sign.Comma ∷ rest) ≡ true
    → read n (got t) (token.Sign sign.Comma ∷ rest) ≡ then_read (read n begin rest) (goes (read n) (with_types t))
grows_by_comma n t rest h g = goes_on n t (token.Sign sign.Comma ∷ rest) h g

pub closes_one : (n : ℕ) (t : Ty) (rest : List Token) → length (token.Sign sign.Close ∷ rest) ≤ n → read n (got (round t)) (token.Sign sign.Close ∷ rest) ≡ read n (got (paren t)) rest
closes_one n t rest h = goes_on n (round t) (token.Sign sign.Close ∷ rest) h refl

pub closes_more : (n : ℕ) (ts : Ty) (c : List ℕ) (rest : List Token) → length (token.Sign sign.Close ∷ ident c ∷ rest) ≤ n → type_goes_on ts (token.Sign sign.Close ∷ ident c ∷ rest) ≡ true → is_more ts ≡ true
    → read n (got ts) (token.Sign sign.Close ∷ ident c ∷ rest) ≡ read n (got (tuple ts c)) rest
closes_more n ts c rest h g m = goes_on n ts (token.Sign sign.Close ∷ ident c ∷ rest) h g ∙ more_closes (read n) ts c rest m

pub closes_square : (n : ℕ) (ts : Ty) (rest : List Token) → length (token.Sign sign.CloseTypes ∷ token.Sign sign.Arrow ∷ rest) ≤ n → type_goes_on ts (token.Sign sign.CloseTypes ∷ token.Sign sign.Arrow ∷ rest) ≡ true
    → read n (got ts) (token.Sign sign.CloseTypes ∷ token.Sign sign.Arrow ∷ rest) ≡ then_read (read n begin rest) (goes (read n) (with_arguments ts))
closes_square n ts rest h g = goes_on n ts (token.Sign sign.CloseTypes ∷ token.Sign sign.Arrow ∷ rest) h g
