-- The reader of terms with a stack of its own: what is still to be done behind an operand is a list of frames, the outermost first.
-- Each step of a parser is one equation here.
use Rattle.std.proofs.Common.{◌≡◌, ℕ, ◌+◌, ◌*◌, ◌≤◌, List, [], ◌∷◌, ◌++◌, length, refl, ap, ◌∙◌}
use Rattle.std.specs.Prelude.{true, false, cond, None, Some}
use Rattle.iv_grammar.specs.declared.sign.Sign.{Sign}
use Rattle.iv_grammar.specs.declared.sign.Sign.TheVariants as sign
use Rattle.iv_grammar.specs.declared.cutting.Token.{Token}
use Rattle.iv_grammar.specs.declared.cutting.Token.TheVariants as token
use Rattle.iv_grammar.specs.Tree.{Tree, apply, prefixed, typed, binary, bound, premise, premises, rule, Var, atom, is_infix, is_prefix, is_binder, right_of, place_of, is_atom_token, begins_argument, is_premises, goes_on_with}
use Rattle.iv_grammar.proofs.Signs.{binder_no_prefix}
use Rattle.iv_grammar.proofs.Reading.{and_then, type_of, names, begin, got, Read, Reader, closed, begun_other, some_names, ruled, list_grown, tree_grown, grown, stop, read, grows_argument, grows_infix, atom_begins, choose_first, choose_second}
use Rattle.iv_grammar.proofs.Stable.{steps, grows}

-- what is to be done with an operand; each has the priority of the place of the whole
pub data Frame : Type 0 where
  in_paren : ℕ → Frame
  in_premise : ℕ → Frame
  with_prefix : ℕ → Sign → Frame
  in_body : ℕ → Sign → List Var → Frame
  with_head : ℕ → Tree → Frame
  with_left : ℕ → Tree → Sign → Frame
  with_premises : ℕ → Tree → Frame
  with_rule : ℕ → Tree → Frame

abbrev pub goes : Reader → Frame → Tree → List Token → Read
goes run (in_paren p) u left = closed run p u left
goes run (in_premise p) u left = run (got p (premise u)) left
goes run (with_prefix p s) u left = run (got p (prefixed s u)) left
goes run (in_body p s xs) u left = run (got p (bound s xs u)) left
goes run (with_head p f) u left = run (got p (apply f u)) left
goes run (with_left p t s) u left = run (got p (binary t s u)) left
goes run (with_premises p ts) u left = run (got p (premises ts u)) left
goes run (with_rule p ts) u left = run (got p (rule ts u)) left

abbrev pub resume : Reader → List Frame → Read → Read
resume run [] r = r
resume run (f ∷ fs) r = and_then (resume run fs r) (goes run f)

-- a frame is pushed, and popped
pub pushed : (run : Reader) (fs : List Frame) (f : Frame) (r : Read) → resume run (fs ++ f ∷ []) r ≡ resume run fs (and_then r (goes run f))
pushed run [] f r = refl
pushed run (g ∷ fs) f r = ap (λ x. and_then x (goes run g)) (pushed run fs f r)

pub popped : (run : Reader) (fs : List Frame) (f : Frame) (u : Tree) (left : List Token) → resume run (fs ++ f ∷ []) (Some (u, left)) ≡ resume run fs (goes run f u left)
popped run fs f u left = pushed run fs f (Some (u, left))

pub failed : (run : Reader) (fs : List Frame) → resume run fs None ≡ None
failed run [] = refl
failed run (f ∷ fs) = ap (λ x. and_then x (goes run f)) (failed run fs)

-- before a term
pub begins_atom : (n p : ℕ) (k : Token) (rest : List Token) → 2 * length (k ∷ rest) ≤ n → is_atom_token k ≡ true → read n (begin p) (k ∷ rest) ≡ read n (got p (atom k)) rest
begins_atom n p k rest h a = steps n p (k ∷ rest) h ∙ atom_begins (read n) (names n) p k rest a

pub begins_paren : (n p : ℕ) (rest : List Token) → 2 * length (token.Sign sign.Open ∷ rest) ≤ n → read n (begin p) (token.Sign sign.Open ∷ rest) ≡ and_then (read n (begin 0) rest) (goes (read n) (in_paren p))
begins_paren n p rest h = steps n p (token.Sign sign.Open ∷ rest) h

pub begins_premise : (n p : ℕ) (rest : List Token) → 2 * length (token.Sign sign.OpenPremises ∷ rest) ≤ n → read n (begin p) (token.Sign sign.OpenPremises ∷ rest) ≡ and_then (read n (begin 0) rest) (goes (read n) (in_premise p))
begins_premise n p rest h = steps n p (token.Sign sign.OpenPremises ∷ rest) h

pub begins_prefix : (n p : ℕ) (s : Sign) (rest : List Token) → 2 * length (token.Sign s ∷ rest) ≤ n → is_prefix s ≡ true → read n (begin p) (token.Sign s ∷ rest) ≡ and_then (read n (begin (place_of s)) rest) (goes (read n) (with_prefix p s))
begins_prefix n p s rest h i =
    steps n p (token.Sign s ∷ rest) h
    ∙ choose_first (is_prefix s) (and_then (read n (begin (place_of s)) rest) (λ u left. read n (got p (prefixed s u)) left))
    (cond (is_binder s) (and_then (names n rest) (λ xs left. some_names xs (and_then (read n (begin (place_of s)) left) (λ u behind. read n (got p (bound s xs u)) behind)))) (begun_other (read n) p s rest)) i

pub begins_binder : (n p : ℕ) (s : Sign) (rest : List Token) → 2 * length (token.Sign s ∷ rest) ≤ n → is_binder s ≡ true
    → read n (begin p) (token.Sign s ∷ rest) ≡ and_then (names n rest) (λ xs left. some_names xs (and_then (read n (begin (place_of s)) left) (goes (read n) (in_body p s xs))))
begins_binder n p s rest h i =
    steps n p (token.Sign s ∷ rest) h
    ∙ choose_second (is_prefix s) (and_then (read n (begin (place_of s)) rest) (λ u left. read n (got p (prefixed s u)) left))
    (cond (is_binder s) (and_then (names n rest) (λ xs left. some_names xs (and_then (read n (begin (place_of s)) left) (λ u behind. read n (got p (bound s xs u)) behind)))) (begun_other (read n) p s rest)) (binder_no_prefix s i)
    ∙ choose_first (is_binder s) (and_then (names n rest) (λ xs left. some_names xs (and_then (read n (begin (place_of s)) left) (λ u behind. read n (got p (bound s xs u)) behind)))) (begun_other (read n) p s rest) i

-- behind a tree
goes_on : (n p : ℕ) (t : Tree) (tokens : List Token) → 2 * length tokens + 1 ≤ n → goes_on_with p t tokens ≡ true → read n (got p t) tokens ≡ grown (read n) (type_of n) p t tokens
goes_on n p t tokens h g = grows n p t tokens h ∙ choose_first (goes_on_with p t tokens) (grown (read n) (type_of n) p t tokens) (stop p t tokens) g

pub stops : (n p : ℕ) (t : Tree) (tokens : List Token) → 2 * length tokens + 1 ≤ n → goes_on_with p t tokens ≡ false → read n (got p t) tokens ≡ stop p t tokens
stops n p t tokens h g = grows n p t tokens h ∙ choose_second (goes_on_with p t tokens) (grown (read n) (type_of n) p t tokens) (stop p t tokens) g

pub grows_by_infix : (n p : ℕ) (t : Tree) (s : Sign) (rest : List Token) → 2 * length (token.Sign s ∷ rest) + 1 ≤ n → goes_on_with p t (token.Sign s ∷ rest) ≡ true → is_infix s ≡ true → is_premises t ≡ false
    → read n (got p t) (token.Sign s ∷ rest) ≡ and_then (read n (begin (right_of s)) rest) (goes (read n) (with_left p t s))
grows_by_infix n p t s rest h g i l = goes_on n p t (token.Sign s ∷ rest) h g ∙ grows_infix (read n) (type_of n) s rest p t i l

pub grows_by_argument : (n p : ℕ) (t : Tree) (k : Token) (rest : List Token) → 2 * length (k ∷ rest) + 1 ≤ n → goes_on_with p t (k ∷ rest) ≡ true → begins_argument k ≡ true → is_premises t ≡ false
    → read n (got p t) (k ∷ rest) ≡ and_then (read n (begin 1000) (k ∷ rest)) (goes (read n) (with_head p t))
grows_by_argument n p t k rest h g b l = goes_on n p t (k ∷ rest) h g ∙ grows_argument (read n) (type_of n) k rest p t b l

pub grows_by_type : (n p : ℕ) (t : Tree) (rest : List Token) → 2 * length (token.Sign sign.Colons ∷ rest) + 1 ≤ n → goes_on_with p t (token.Sign sign.Colons ∷ rest) ≡ true → is_premises t ≡ false
    → read n (got p t) (token.Sign sign.Colons ∷ rest) ≡ and_then (type_of n rest) (λ a left. read n (got p (typed t a)) left)
grows_by_type n p t rest h g l =
    goes_on n p t (token.Sign sign.Colons ∷ rest) h g
    ∙ choose_second (is_premises t) (list_grown (read n) p t (token.Sign sign.Colons) rest) (tree_grown (read n) (type_of n) p t (token.Sign sign.Colons) rest) l

pub grows_by_premise : (n p : ℕ) (t : Tree) (rest : List Token) → 2 * length (token.Sign sign.Semicolon ∷ rest) + 1 ≤ n → goes_on_with p t (token.Sign sign.Semicolon ∷ rest) ≡ true → is_premises t ≡ true
    → read n (got p t) (token.Sign sign.Semicolon ∷ rest) ≡ and_then (read n (begin 0) rest) (goes (read n) (with_premises p t))
grows_by_premise n p t rest h g l =
    goes_on n p t (token.Sign sign.Semicolon ∷ rest) h g
    ∙ choose_first (is_premises t) (list_grown (read n) p t (token.Sign sign.Semicolon) rest) (tree_grown (read n) (type_of n) p t (token.Sign sign.Semicolon) rest) l

pub grows_by_rule : (n p : ℕ) (t : Tree) (rest : List Token) → 2 * length (token.Sign sign.ClosePremises ∷ rest) + 1 ≤ n → goes_on_with p t (token.Sign sign.ClosePremises ∷ rest) ≡ true → is_premises t ≡ true
    → read n (got p t) (token.Sign sign.ClosePremises ∷ rest) ≡ ruled (read n) p t rest
grows_by_rule n p t rest h g l =
    goes_on n p t (token.Sign sign.ClosePremises ∷ rest) h g
    ∙ choose_first (is_premises t) (list_grown (read n) p t (token.Sign sign.ClosePremises) rest) (tree_grown (read n) (type_of n) p t (token.Sign sign.ClosePremises) rest) l
