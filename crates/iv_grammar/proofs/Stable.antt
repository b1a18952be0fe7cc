-- More fuel than there are tokens asks for changes nothing of what the reader of terms reads; and it decides which tree belongs.
use Rattle.std.proofs.Common.{◌≡◌, ◌↔◌, ℕ, zero, suc, ◌+◌, ◌*◌, ◌<◌, ◌≤◌, List, [], ◌∷◌, length, refl, ap, sym, ◌∙◌, arith, append-nil, length-append}
use Rattle.std.specs.Prelude.{Bool, true, false, cond, Option, None, Some}
use Rattle.iv_grammar.specs.declared.sign.Sign.{Sign}
use Rattle.iv_grammar.specs.declared.sign.Sign.TheVariants as sign
use Rattle.iv_grammar.specs.declared.words.Word.TheVariants as word
use Rattle.iv_grammar.specs.declared.cutting.Token.{Token}
use Rattle.iv_grammar.specs.declared.cutting.Token.TheVariants as token
use Rattle.iv_grammar.specs.TypeTree.{Ty, type_yield}
use Rattle.iv_grammar.specs.Tree.{Tree, atom, paren, apply, prefixed, typed, binary, bound, premise, premises, rule, Var, bare, of_type, bare_in, of_type_in, is_colons, is_infix, is_prefix, is_binder, right_of, place_of, is_atom_token, names_yield, yield, is_premises, goes_on_with, Belongs}
use Rattle.iv_grammar.proofs.TypeReading as type_reader
use Rattle.iv_grammar.proofs.TypeStable as types
use Rattle.iv_grammar.proofs.Reading.{and_then, NamesReader, prepend, ident_by, close_by, inside_by, open_by, names_by, type_of, names, State, begin, got, Reader, closed, begun_other, some_names, begun, ruled, list_grown, tree_grown, grown, stop, read, tree_read}
use Rattle.iv_grammar.proofs.Sound.{Named, names_sound, Whole, tree_sound}

and_same : {A C : Type 0} (r : Option (A × List Token)) (f g : A → List Token → Option C) → ((u : A) (mid : List Token) → r ≡ Some (u, mid) → f u mid ≡ g u mid) → and_then r f ≡ and_then r g
and_same None f g h = refl
and_same (Some r) f g h = h r.0 r.1 refl

-- types and names
types_same : (n m : ℕ) (tokens : List Token) → length tokens ≤ n → length tokens ≤ m → type_of n tokens ≡ type_of m tokens
types_same n m tokens h g = types.stable n m type_reader.begin tokens h g

types_shrink : (n : ℕ) (tokens : List Token) (t : Ty) (left : List Token) → type_of n tokens ≡ Some (t, left) → length left ≤ length tokens
types_shrink n = types.shrinks n

abbrev pub NamesAgree : NamesReader → NamesReader → ℕ → Type 0
NamesAgree run ran n = (tokens : List Token) → length tokens ≤ n → run tokens ≡ ran tokens

close_same : (run ran : NamesReader) (n : ℕ) → NamesAgree run ran n → (x : List ℕ) (t : Ty) (rest : List Token) → length rest ≤ n → close_by run x t rest ≡ close_by ran x t rest
close_same run ran n a x t (token.Sign sign.Close ∷ rest) h = ap (prepend (of_type_in x t)) (a rest (omega (arith, h)))
close_same run ran n a x t rest h = refl

inside_same : (i j : ℕ) (run ran : NamesReader) (n : ℕ) → n ≤ i → n ≤ j → NamesAgree run ran n → (x : List ℕ) (rest : List Token) → length rest ≤ n → inside_by (type_of i) run x rest ≡ inside_by (type_of j) ran x rest
inside_same i j run ran n p q a x (token.Sign sign.Colons ∷ rest) h =
    ap (λ r. and_then r (λ t left. close_by run x t left)) (types_same i j rest (omega (arith, h, p)) (omega (arith, h, q)))
    ∙ and_same (type_of j rest) (λ t left. close_by run x t left) (λ t left. close_by ran x t left) (λ u mid e. close_same run ran n a x u mid (omega (arith, h, types_shrink j rest u mid e)))
inside_same i j run ran n p q a x (token.Sign sign.Close ∷ rest) h = ap (prepend (bare_in x)) (a rest (omega (arith, h)))
inside_same i j run ran n p q a x rest h = refl

open_same : (i j : ℕ) (run ran : NamesReader) (n : ℕ) → n ≤ i → n ≤ j → NamesAgree run ran n → (rest : List Token) → length rest ≤ n → open_by (type_of i) run rest ≡ open_by (type_of j) ran rest
open_same i j run ran n p q a (token.Word word.Ident x ∷ rest) h = inside_same i j run ran n p q a x rest (omega (arith, h))
open_same i j run ran n p q a rest h = refl

ident_same : (i j : ℕ) (run ran : NamesReader) (n : ℕ) → n ≤ i → n ≤ j → NamesAgree run ran n → (x : List ℕ) (rest : List Token) → length rest ≤ n → ident_by (type_of i) run x rest ≡ ident_by (type_of j) ran x rest
ident_same i j run ran n p q a x (token.Sign sign.Colons ∷ rest) h =
    ap (λ r. and_then r (λ t left. prepend (of_type x t) (run left))) (types_same i j rest (omega (arith, h, p)) (omega (arith, h, q)))
    ∙ and_same (type_of j rest) (λ t left. prepend (of_type x t) (run left)) (λ t left. prepend (of_type x t) (ran left)) (λ u mid e. ap (prepend (of_type x u)) (a mid (omega (arith, h, types_shrink j rest u mid e))))
ident_same i j run ran n p q a x rest h = ap (prepend (bare x)) (a rest h)

by_same : (i j : ℕ) (run ran : NamesReader) (n : ℕ) → n ≤ i → n ≤ j → NamesAgree run ran n → (tokens : List Token) → length tokens ≤ suc n → names_by (type_of i) run tokens ≡ names_by (type_of j) ran tokens
by_same i j run ran n p q a (token.Sign sign.Open ∷ rest) h = open_same i j run ran n p q a rest (omega (arith, h))
by_same i j run ran n p q a (token.Word word.Ident x ∷ rest) h = ident_same i j run ran n p q a x rest (omega (arith, h))
by_same i j run ran n p q a tokens h = refl

no_names : (n : ℕ) → names n [] ≡ None
no_names zero = refl
no_names (suc n) = refl

pub names_stable : (n m : ℕ) (tokens : List Token) → length tokens ≤ n → length tokens ≤ m → names n tokens ≡ names m tokens
names_stable n m [] h g = no_names n ∙ sym (no_names m)
names_stable zero m (k ∷ rest) h g = absurd (omega (arith, h))
names_stable (suc n) zero (k ∷ rest) h g = absurd (omega (arith, g))
names_stable (suc n) (suc m) (k ∷ rest) h g =
    by_same n m (names n) (names m) (length rest) (omega (arith, h)) (omega (arith, g)) (λ us b. names_stable n m us (omega (arith, h, b)) (omega (arith, g, b))) (k ∷ rest) (omega arith)

names_shrink : (n : ℕ) (tokens : List Token) (xs : List Var) (left : List Token) → names n tokens ≡ Some (xs, left) → length left ≤ length tokens
names_shrink n tokens xs left e =
    let w : Named tokens xs left = names_sound n tokens xs left e in
    omega (arith, ap length w.yields, length-append (names_yield xs) (token.Sign sign.Dot ∷ left))

-- no tree is empty
yield_some : (t : Tree) → 0 < length (yield t)
yield_some (atom k) = omega arith
yield_some (paren t) = omega arith
yield_some (apply f a) = omega (arith, yield_some f, length-append (yield f) (yield a))
yield_some (prefixed s t) = omega arith
yield_some (typed t a) = omega (arith, yield_some t, length-append (yield t) (token.Sign sign.Colons ∷ type_yield a))
yield_some (binary t s u) = omega (arith, yield_some t, length-append (yield t) (token.Sign s ∷ yield u))
yield_some (bound s xs t) = omega arith
yield_some (premise t) = omega arith
yield_some (premises ts t) = omega (arith, yield_some ts, length-append (yield ts) (token.Sign sign.Semicolon ∷ yield t))
yield_some (rule ts t) = omega (arith, yield_some ts, length-append (yield ts) (token.Sign sign.ClosePremises ∷ token.Sign sign.Implies ∷ yield t))

-- the fuel that tokens ask for
abbrev pub size : State → List Token → ℕ
size (begin p) tokens = 2 * length tokens
size (got p t) tokens = 2 * length tokens + 1

abbrev pub Agree : Reader → Reader → ℕ → Type 0
Agree run ran n = (s : State) (tokens : List Token) → size s tokens ≤ n → run s tokens ≡ ran s tokens

abbrev pub Shrinks : Reader → Type 0
Shrinks run = (p : ℕ) (tokens : List Token) (t : Tree) (left : List Token) → run (begin p) tokens ≡ Some (t, left) → length left < length tokens

pub shrinks : (n : ℕ) → Shrinks (read n)
shrinks n p tokens t left e =
    let w : Whole p tokens t left = tree_sound n (begin p) tokens t left e in
    omega (arith, ap length w.yields, length-append (yield t) left, yield_some t)

operand_same : (run ran : Reader) (n : ℕ) → Agree run ran n → Shrinks ran → (p q : ℕ) (make : Tree → Tree) (rest : List Token) → 2 * length rest ≤ n
    → and_then (run (begin q) rest) (λ u left. run (got p (make u)) left) ≡ and_then (ran (begin q) rest) (λ u left. ran (got p (make u)) left)
operand_same run ran n a s p q make rest h =
    ap (λ r. and_then r (λ u left. run (got p (make u)) left)) (a (begin q) rest h)
    ∙ and_same (ran (begin q) rest) (λ u left. run (got p (make u)) left) (λ u left. ran (got p (make u)) left) (λ u mid e. a (got p (make u)) mid (omega (arith, h, s q rest u mid e)))

closed_same : (run ran : Reader) (n : ℕ) → Agree run ran n → (p : ℕ) (x : Tree) (rest : List Token) → 2 * length rest ≤ n → closed run p x rest ≡ closed ran p x rest
closed_same run ran n a p x (token.Sign sign.Close ∷ rest) h = a (got p (paren x)) rest (omega (arith, h))
closed_same run ran n a p x rest h = refl

atom_same : (run ran : Reader) (n : ℕ) → Agree run ran n → (p : ℕ) (k : Token) (rest : List Token) → 2 * length rest + 1 ≤ n → cond (is_atom_token k) (run (got p (atom k)) rest) None ≡ cond (is_atom_token k) (ran (got p (atom k)) rest) None
atom_same run ran n a p k rest h = ap (λ r. cond (is_atom_token k) r None) (a (got p (atom k)) rest h)

other_same : (run ran : Reader) (n : ℕ) → Agree run ran n → Shrinks ran → (p : ℕ) (s : Sign) (rest : List Token) → 2 * length rest + 1 ≤ n → begun_other run p s rest ≡ begun_other ran p s rest
other_same run ran n a sh p sign.Open rest h =
    ap (λ r. and_then r (λ t left. closed run p t left)) (a (begin 0) rest (omega (arith, h)))
    ∙ and_same (ran (begin 0) rest) (λ t left. closed run p t left) (λ t left. closed ran p t left) (λ u mid e. closed_same run ran n a p u mid (omega (arith, h, sh 0 rest u mid e)))
other_same run ran n a sh p sign.OpenPremises rest h = operand_same run ran n a sh p 0 premise rest (omega (arith, h))
other_same run ran n a sh p s rest h = atom_same run ran n a p (token.Sign s) rest h

body_same : (run ran : Reader) (n : ℕ) → Agree run ran n → Shrinks ran → (p : ℕ) (s : Sign) (xs : List Var) (mid : List Token) → 2 * length mid ≤ n
    → some_names xs (and_then (run (begin (place_of s)) mid) (λ u behind. run (got p (bound s xs u)) behind)) ≡ some_names xs (and_then (ran (begin (place_of s)) mid) (λ u behind. ran (got p (bound s xs u)) behind))
body_same run ran n a sh p s xs mid h = ap (some_names xs) (operand_same run ran n a sh p (place_of s) (bound s xs) mid h)

binder_same : (run ran : Reader) (i j n : ℕ) → Agree run ran n → Shrinks ran → (p : ℕ) (s : Sign) (rest : List Token) → 2 * length rest ≤ n → length rest ≤ i → length rest ≤ j
    → and_then (names i rest) (λ xs left. some_names xs (and_then (run (begin (place_of s)) left) (λ u behind. run (got p (bound s xs u)) behind)))
    ≡ and_then (names j rest) (λ xs left. some_names xs (and_then (ran (begin (place_of s)) left) (λ u behind. ran (got p (bound s xs u)) behind)))
binder_same run ran i j n a sh p s rest h g k =
    ap (λ r. and_then r (λ xs left. some_names xs (and_then (run (begin (place_of s)) left) (λ u behind. run (got p (bound s xs u)) behind)))) (names_stable i j rest g k)
    ∙ and_same (names j rest) (λ xs left. some_names xs (and_then (run (begin (place_of s)) left) (λ u behind. run (got p (bound s xs u)) behind)))
    (λ xs left. some_names xs (and_then (ran (begin (place_of s)) left) (λ u behind. ran (got p (bound s xs u)) behind)))
    (λ xs mid e. body_same run ran n a sh p s xs mid (omega (arith, h, names_shrink j rest xs mid e)))

two_conds : {A : Type 0} (b c : Bool) (x y z u v w : A) → x ≡ u → y ≡ v → z ≡ w → cond b x (cond c y z) ≡ cond b u (cond c v w)
two_conds true c x y z u v w e f g = e
two_conds false true x y z u v w e f g = f
two_conds false false x y z u v w e f g = g

begun_same : (run ran : Reader) (i j n : ℕ) → Agree run ran n → Shrinks ran → (p : ℕ) (tokens : List Token) → 2 * length tokens ≤ suc n → length tokens ≤ i → length tokens ≤ j → begun run (names i) p tokens ≡ begun ran (names j) p tokens
begun_same run ran i j n a sh p [] h g k = refl
begun_same run ran i j n a sh p (token.Word w x ∷ rest) h g k = atom_same run ran n a p (token.Word w x) rest (omega (arith, h))
begun_same run ran i j n a sh p (token.Sign s ∷ rest) h g k =
    two_conds (is_prefix s) (is_binder s) _ _ _ _ _ _ (operand_same run ran n a sh p (place_of s) (prefixed s) rest (omega (arith, h))) (binder_same run ran i j n a sh p s rest (omega (arith, h)) (omega (arith, g)) (omega (arith, k)))
    (other_same run ran n a sh p s rest (omega (arith, h)))

typed_same : (run ran : Reader) (i j n : ℕ) → Agree run ran n → (p : ℕ) (x : Tree) (rest : List Token) → 2 * length rest + 1 ≤ n → length rest ≤ i → length rest ≤ j
    → and_then (type_of i rest) (λ t left. run (got p (typed x t)) left) ≡ and_then (type_of j rest) (λ t left. ran (got p (typed x t)) left)
typed_same run ran i j n a p x rest h g k =
    ap (λ r. and_then r (λ t left. run (got p (typed x t)) left)) (types_same i j rest g k)
    ∙ and_same (type_of j rest) (λ t left. run (got p (typed x t)) left) (λ t left. ran (got p (typed x t)) left) (λ u mid e. a (got p (typed x u)) mid (omega (arith, h, types_shrink j rest u mid e)))

ruled_same : (run ran : Reader) (n : ℕ) → Agree run ran n → Shrinks ran → (p : ℕ) (x : Tree) (rest : List Token) → 2 * length rest ≤ n → ruled run p x rest ≡ ruled ran p x rest
ruled_same run ran n a sh p x (token.Sign sign.Implies ∷ rest) h = operand_same run ran n a sh p 1 (rule x) rest (omega (arith, h))
ruled_same run ran n a sh p x rest h = refl

list_same : (run ran : Reader) (n : ℕ) → Agree run ran n → Shrinks ran → (p : ℕ) (x : Tree) (k : Token) (rest : List Token) → 2 * length rest ≤ n → list_grown run p x k rest ≡ list_grown ran p x k rest
list_same run ran n a sh p x (token.Sign sign.Semicolon) rest h = operand_same run ran n a sh p 0 (premises x) rest h
list_same run ran n a sh p x (token.Sign sign.ClosePremises) rest h = ruled_same run ran n a sh p x rest h
list_same run ran n a sh p x k rest h = refl

tree_same : (run ran : Reader) (i j n : ℕ) → Agree run ran n → Shrinks ran → (p : ℕ) (x : Tree) (k : Token) (rest : List Token) → 2 * length (k ∷ rest) ≤ n → length rest ≤ i → length rest ≤ j
    → tree_grown run (type_of i) p x k rest ≡ tree_grown ran (type_of j) p x k rest
tree_same run ran i j n a sh p x (token.Word w y) rest h g k = operand_same run ran n a sh p 1000 (apply x) (token.Word w y ∷ rest) h
tree_same run ran i j n a sh p x (token.Sign s) rest h g k =
    two_conds (is_colons s) (is_infix s) _ _ _ _ _ _ (typed_same run ran i j n a p x rest (omega (arith, h)) g k) (operand_same run ran n a sh p (right_of s) (binary x s) rest (omega (arith, h)))
    (operand_same run ran n a sh p 1000 (apply x) (token.Sign s ∷ rest) h)

grown_same : (run ran : Reader) (i j n : ℕ) → Agree run ran n → Shrinks ran → (p : ℕ) (x : Tree) (tokens : List Token) → 2 * length tokens ≤ n → length tokens ≤ i → length tokens ≤ j
    → grown run (type_of i) p x tokens ≡ grown ran (type_of j) p x tokens
grown_same run ran i j n a sh p x [] h g k = refl
grown_same run ran i j n a sh p x (t ∷ rest) h g k =
    ap (λ r. cond (is_premises x) r (tree_grown run (type_of i) p x t rest)) (list_same run ran n a sh p x t rest (omega (arith, h)))
    ∙ ap (λ r. cond (is_premises x) (list_grown ran p x t rest) r) (tree_same run ran i j n a sh p x t rest h (omega (arith, g)) (omega (arith, k)))

nothing_begun : (n p : ℕ) → read n (begin p) [] ≡ None
nothing_begun zero p = refl
nothing_begun (suc n) p = refl

nothing_got : (n p : ℕ) (t : Tree) → read n (got p t) [] ≡ stop p t []
nothing_got zero p t = refl
nothing_got (suc n) p t = refl

pub stable : (n m : ℕ) (s : State) (tokens : List Token) → size s tokens ≤ n → size s tokens ≤ m → read n s tokens ≡ read m s tokens
stable n m (begin p) [] h g = nothing_begun n p ∙ sym (nothing_begun m p)
stable n m (got p t) [] h g = nothing_got n p t ∙ sym (nothing_got m p t)
stable zero m (begin p) (k ∷ rest) h g = absurd (omega (arith, h))
stable zero m (got p t) (k ∷ rest) h g = absurd (omega (arith, h))
stable (suc n) zero (begin p) (k ∷ rest) h g = absurd (omega (arith, g))
stable (suc n) zero (got p t) (k ∷ rest) h g = absurd (omega (arith, g))
stable (suc n) (suc m) (begin p) (k ∷ rest) h g =
    begun_same (read n) (read m) n m (2 * length rest + 1) (λ s us b. stable n m s us (omega (arith, h, b)) (omega (arith, g, b))) (shrinks m) p (k ∷ rest) (omega arith) (omega (arith, h)) (omega (arith, g))
stable (suc n) (suc m) (got p t) (k ∷ rest) h g =
    ap (λ r. cond (goes_on_with p t (k ∷ rest)) r (stop p t (k ∷ rest)))
    (grown_same (read n) (read m) n m (2 * length (k ∷ rest)) (λ s us b. stable n m s us (omega (arith, h, b)) (omega (arith, g, b))) (shrinks m) p t (k ∷ rest) (omega arith) (omega (arith, h)) (omega (arith, g)))

-- a reader of so much fuel takes a step and goes on with as much
pub steps : (n p : ℕ) (tokens : List Token) → 2 * length tokens ≤ n → read n (begin p) tokens ≡ begun (read n) (names n) p tokens
steps n p tokens h = stable n (suc n) (begin p) tokens h (omega (arith, h))

pub grows : (n p : ℕ) (x : Tree) (tokens : List Token) → 2 * length tokens + 1 ≤ n → read n (got p x) tokens ≡ cond (goes_on_with p x tokens) (grown (read n) (type_of n) p x tokens) (stop p x tokens)
grows n p x tokens h = stable n (suc n) (got p x) tokens h (omega (arith, h))

-- a tree belongs to tokens just where it is what is read of them
pub decides : (tokens : List Token) (t : Tree) → Belongs tokens t ↔ (read (2 * length tokens) (begin 0) tokens ≡ Some (t, []))
decides tokens t = (tree_read tokens t, λ e. belongs (tree_sound (2 * length tokens) (begin 0) tokens t [] e))
  where
    belongs : Whole 0 tokens t [] → Belongs tokens t
    belongs w = record { yields = sym (append-nil (yield t)) ∙ w.yields; suits = w.suits; fits = w.fits }
