-- A reader of terms, as a function with fuel, and that it reads whatever belongs to the tokens: so there is one tree at most.
use Rattle.std.proofs.Common.{◌≡◌, ℕ, zero, suc, ◌+◌, ◌*◌, ◌<◌, ◌≤◌, List, [], ◌∷◌, ◌++◌, length, refl, ap, sym, ◌∙◌, subst, arith, append_assoc, append-nil, length-append}
use Rattle.std.specs.Prelude.{Bool, true, false, cond, ◌&&◌, nat_le, Option, None, Some}
use Rattle.std.proofs.lemmas.Bool.Decides.{nat_tests}
use Rattle.iv_grammar.specs.declared.sign.Sign.{Sign}
use Rattle.iv_grammar.specs.declared.sign.Sign.TheVariants as sign
use Rattle.iv_grammar.specs.declared.words.Word.TheVariants as word
use Rattle.iv_grammar.specs.declared.cutting.Token.{Token}
use Rattle.iv_grammar.specs.declared.cutting.Token.TheVariants as token
use Rattle.iv_grammar.specs.TypeTree.{Ty, type_yield}
use Rattle.iv_grammar.specs.Tree.{Tree, atom, paren, apply, prefixed, typed, binary, bound, premise, premises, rule, Var, bare, of_type, bare_in, of_type_in, is_colons, is_infix, is_prefix, is_binder, left_of, right_of, place_of, own_of, is_atom_token, begins_argument, name_yield, names_yield, yield, is_premises, own, heads, list_takes, tree_takes, takes, goes_on_with, Suits, Stands, NameFits, NamesFit, Fits, Belongs}
use Rattle.iv_grammar.proofs.TypeReading as types
use Rattle.iv_grammar.proofs.TypeReading.{type_read}
use Rattle.iv_grammar.proofs.Signs.{left_least, infix_no_colons, binder_no_prefix, argument_no_infix, argument_no_colons}

le_true : (a b : ℕ) → a ≤ b → nat_le a b ≡ true
le_true a b h = grind (arith, nat_tests)

pub le_from : (a b : ℕ) → nat_le a b ≡ true → a ≤ b
le_from a b h = grind (arith, nat_tests)

abbrev pub and_then : {A C : Type 0} → Option (A × List Token) → (A → List Token → Option C) → Option C
and_then None f = None
and_then (Some r) f = f r.0 r.1

then_some : {A C : Type 0} (r : Option (A × List Token)) (x : A) (left : List Token) (f : A → List Token → Option C) → r ≡ Some (x, left) → and_then r f ≡ f x left
then_some r x left f e = ap (λ o. and_then o f) e

-- bound names, up to their dot
abbrev pub NamesRead : Type 0
NamesRead = Option (List Var × List Token)

abbrev pub NamesReader : Type 0
NamesReader = List Token → NamesRead

abbrev pub TypesReader : Type 0
TypesReader = List Token → Option (Ty × List Token)

abbrev pub prepend : Var → NamesRead → NamesRead
prepend x None = None
prepend x (Some r) = Some (x ∷ r.0, r.1)

abbrev pub ident_by : TypesReader → NamesReader → List ℕ → List Token → NamesRead
ident_by ty next x (token.Sign sign.Colons ∷ rest) = and_then (ty rest) (λ t left. prepend (of_type x t) (next left))
ident_by ty next x rest = prepend (bare x) (next rest)

abbrev pub close_by : NamesReader → List ℕ → Ty → List Token → NamesRead
close_by next x t (token.Sign sign.Close ∷ rest) = prepend (of_type_in x t) (next rest)
close_by next x t rest = None

abbrev pub inside_by : TypesReader → NamesReader → List ℕ → List Token → NamesRead
inside_by ty next x (token.Sign sign.Colons ∷ rest) = and_then (ty rest) (λ t left. close_by next x t left)
inside_by ty next x (token.Sign sign.Close ∷ rest) = prepend (bare_in x) (next rest)
inside_by ty next x rest = None

abbrev pub open_by : TypesReader → NamesReader → List Token → NamesRead
open_by ty next (token.Word word.Ident x ∷ rest) = inside_by ty next x rest
open_by ty next rest = None

abbrev pub names_by : TypesReader → NamesReader → List Token → NamesRead
names_by ty next (token.Sign sign.Dot ∷ rest) = Some ([], rest)
names_by ty next (token.Sign sign.Open ∷ rest) = open_by ty next rest
names_by ty next (token.Word word.Ident x ∷ rest) = ident_by ty next x rest
names_by ty next rest = None

abbrev pub type_of : ℕ → TypesReader
type_of n rest = types.read n types.begin rest

abbrev pub names : ℕ → NamesReader
names zero rest = None
names (suc n) rest = names_by (type_of n) (names n) rest

-- no `::` follows the names and their dot
ident_plain : (ty : TypesReader) (next : NamesReader) (x : List ℕ) (xs : List Var) (after : List Token) → ident_by ty next x (names_yield xs ++ token.Sign sign.Dot ∷ after) ≡ prepend (bare x) (next (names_yield xs ++ token.Sign sign.Dot ∷ after))
ident_plain ty next x [] after = refl
ident_plain ty next x (bare y ∷ ys) after = refl
ident_plain ty next x (of_type y t ∷ ys) after = refl
ident_plain ty next x (bare_in y ∷ ys) after = refl
ident_plain ty next x (of_type_in y t ∷ ys) after = refl

name_read : (x : Var) (xs : List Var) (after : List Token) → NameFits x (names_yield xs ++ token.Sign sign.Dot ∷ after) → (n : ℕ) → length (name_yield x ++ (names_yield xs ++ token.Sign sign.Dot ∷ after)) ≤ suc n
    → names (suc n) (name_yield x ++ (names_yield xs ++ token.Sign sign.Dot ∷ after)) ≡ prepend x (names n (names_yield xs ++ token.Sign sign.Dot ∷ after))
name_read (bare x) xs after f n h = ident_plain (type_of n) (names n) x xs after
name_read (bare_in x) xs after f n h = refl
name_read (of_type x t) xs after f n h =
    let rest : List Token = names_yield xs ++ token.Sign sign.Dot ∷ after in
    then_some (type_of n (type_yield t ++ rest)) t rest (λ u left. prepend (of_type x u) (names n left)) (type_read t rest (f.0) (f.1) n (omega (arith, h)))
name_read (of_type_in x t) xs after f n h =
    let rest : List Token = names_yield xs ++ token.Sign sign.Dot ∷ after in
    let close : List Token = token.Sign sign.Close ∷ rest in
    let same : (type_yield t ++ token.Sign sign.Close ∷ []) ++ rest ≡ type_yield t ++ close = append_assoc (type_yield t) (token.Sign sign.Close ∷ []) rest in
    ap (λ ts. and_then (type_of n ts) (λ u left. close_by (names n) x u left)) same
    ∙ then_some (type_of n (type_yield t ++ close)) t close (λ u left. close_by (names n) x u left) (type_read t close (f.0) (f.1) n (omega (arith, h, ap length same)))

name_some : (x : Var) → 0 < length (name_yield x)
name_some (bare x) = omega arith
name_some (of_type x t) = omega arith
name_some (bare_in x) = omega arith
name_some (of_type_in x t) = omega arith

names_read : (xs : List Var) (after : List Token) → NamesFit xs (token.Sign sign.Dot ∷ after) → (n : ℕ) → length (names_yield xs ++ token.Sign sign.Dot ∷ after) ≤ n → names n (names_yield xs ++ token.Sign sign.Dot ∷ after) ≡ Some (xs, after)
names_read [] after f zero h = absurd (omega (arith, h))
names_read [] after f (suc n) h = refl
names_read (x ∷ xs) after f zero h = absurd (omega (arith, h, name_some x, length-append (name_yield x ++ names_yield xs) (token.Sign sign.Dot ∷ after), length-append (name_yield x) (names_yield xs)))
names_read (x ∷ xs) after f (suc n) h =
    let dot : List Token = token.Sign sign.Dot ∷ after in
    let same : (name_yield x ++ names_yield xs) ++ dot ≡ name_yield x ++ (names_yield xs ++ dot) = append_assoc (name_yield x) (names_yield xs) dot in
    let len : length (name_yield x ++ (names_yield xs ++ dot)) ≤ suc n = omega (arith, h, ap length same) in
    let rest : names n (names_yield xs ++ dot) ≡ Some (xs, after) = names_read xs after (f.1) n (omega (arith, len, length-append (name_yield x) (names_yield xs ++ dot), name_some x)) in
    ap (names (suc n)) same ∙ (name_read x xs after (f.0) n len ∙ ap (prepend x) rest)

-- a reader stands before a term in a place, or behind a tree there that may go on
pub data State : Type 0 where
  begin : ℕ → State
  got : ℕ → Tree → State

abbrev pub Read : Type 0
Read = Option (Tree × List Token)

abbrev pub Reader : Type 0
Reader = State → List Token → Read

abbrev pub closed : Reader → ℕ → Tree → List Token → Read
closed run p t (token.Sign sign.Close ∷ rest) = run (got p (paren t)) rest
closed run p t rest = None

abbrev pub begun_other : Reader → ℕ → Sign → List Token → Read
begun_other run p sign.Open rest = and_then (run (begin 0) rest) (λ t left. closed run p t left)
begun_other run p sign.OpenPremises rest = and_then (run (begin 0) rest) (λ t left. run (got p (premise t)) left)
begun_other run p s rest = cond (is_atom_token (token.Sign s)) (run (got p (atom (token.Sign s))) rest) None

abbrev pub some_names : List Var → Read → Read
some_names [] r = None
some_names (x ∷ xs) r = r

some_is : (xs : List Var) (r : Read) → 0 < length xs → some_names xs r ≡ r
some_is [] r h = absurd (omega (arith, h))
some_is (x ∷ xs) r h = refl

abbrev pub begun : Reader → NamesReader → ℕ → List Token → Read
begun run nm p [] = None
begun run nm p (token.Word k x ∷ rest) = cond (is_atom_token (token.Word k x)) (run (got p (atom (token.Word k x))) rest) None
begun run nm p (token.Sign s ∷ rest) =
    cond (is_prefix s) (and_then (run (begin (place_of s)) rest) (λ t left. run (got p (prefixed s t)) left))
    (cond (is_binder s) (and_then (nm rest) (λ xs left. some_names xs (and_then (run (begin (place_of s)) left) (λ t behind. run (got p (bound s xs t)) behind)))) (begun_other run p s rest))

abbrev pub applied : Reader → ℕ → Tree → List Token → Read
applied run p f rest = and_then (run (begin 1000) rest) (λ a left. run (got p (apply f a)) left)

abbrev pub ruled : Reader → ℕ → Tree → List Token → Read
ruled run p t (token.Sign sign.Implies ∷ rest) = and_then (run (begin 1) rest) (λ u left. run (got p (rule t u)) left)
ruled run p t rest = None

abbrev pub list_grown : Reader → ℕ → Tree → Token → List Token → Read
list_grown run p t (token.Sign sign.Semicolon) rest = and_then (run (begin 0) rest) (λ u left. run (got p (premises t u)) left)
list_grown run p t (token.Sign sign.ClosePremises) rest = ruled run p t rest
list_grown run p t k rest = None

abbrev pub tree_grown : Reader → TypesReader → ℕ → Tree → Token → List Token → Read
tree_grown run ty p t (token.Word k x) rest = applied run p t (token.Word k x ∷ rest)
tree_grown run ty p t (token.Sign s) rest =
    cond (is_colons s) (and_then (ty rest) (λ a left. run (got p (typed t a)) left))
    (cond (is_infix s) (and_then (run (begin (right_of s)) rest) (λ u left. run (got p (binary t s u)) left)) (applied run p t (token.Sign s ∷ rest)))

abbrev pub grown : Reader → TypesReader → ℕ → Tree → List Token → Read
grown run ty p t [] = None
grown run ty p t (k ∷ rest) = cond (is_premises t) (list_grown run p t k rest) (tree_grown run ty p t k rest)

abbrev pub stop : ℕ → Tree → List Token → Read
stop p t rest = cond (is_premises t) None (cond (nat_le p (own t)) (Some (t, rest)) None)

abbrev pub read : ℕ → State → List Token → Read
read zero (begin p) rest = None
read zero (got p t) rest = cond (goes_on_with p t rest) None (stop p t rest)
read (suc n) (begin p) rest = begun (read n) (names n) p rest
read (suc n) (got p t) rest = cond (goes_on_with p t rest) (grown (read n) (type_of n) p t rest) (stop p t rest)

stop_by : {A : Type 0} (x : A) (b c : Bool) → b ≡ false → c ≡ true → cond b None (cond c (Some x) None) ≡ Some x
stop_by x b c e f = rw (e, f) refl

stopped : (n p : ℕ) (t : Tree) (after : List Token) → Suits p t after → read n (got p t) after ≡ Some (t, after)
stopped zero p t after s = ap (λ b. cond b None (stop p t after)) s.stops ∙ stop_by {A = Tree × List Token} (t, after) (is_premises t) (nat_le p (own t)) s.is_term (le_true p (own t) s.enough)
stopped (suc n) p t after s =
    ap (λ b. cond b (grown (read n) (type_of n) p t after) (stop p t after)) s.stops ∙ stop_by {A = Tree × List Token} (t, after) (is_premises t) (nat_le p (own t)) s.is_term (le_true p (own t) s.enough)

going : (n p : ℕ) (t : Tree) (after : List Token) → goes_on_with p t after ≡ true → read (suc n) (got p t) after ≡ grown (read n) (type_of n) p t after
going n p t after h = ap (λ b. cond b (grown (read n) (type_of n) p t after) (stop p t after)) h

-- with enough fuel, what is read first of some tokens is this tree
pub record Leads (p : ℕ) (z : Tree) (after : List Token) (n : ℕ) (tokens : List Token) : Type 0 where
  pub fuel : ℕ
  pub reads : read n (begin p) tokens ≡ read fuel (got p z) after
  pub enough : 2 * length after + 1 ≤ fuel

abbrev pub Reads : Tree → List Token → Type 0
Reads z after = (p : ℕ) → p ≤ own z → (n : ℕ) → 2 * length (yield z ++ after) ≤ n → Leads p z after n (yield z ++ after)

operand : (p : ℕ) (u : Tree) (after : List Token) → Suits p u after → Reads u after → (n : ℕ) → 2 * length (yield u ++ after) ≤ n → read n (begin p) (yield u ++ after) ≡ Some (u, after)
operand p u after s r n h = let l = r p s.enough n h in l.reads ∙ stopped l.fuel p u after s

stepped : (p : ℕ) (t z : Tree) (tokens mid after : List Token) (n : ℕ) → Leads p t mid n tokens → goes_on_with p t mid ≡ true → length after < length mid
    → ((m : ℕ) → 2 * length mid ≤ m → grown (read m) (type_of m) p t mid ≡ read m (got p z) after) → Leads p z after n tokens
stepped p t z tokens mid after n l goes less f = by_fuel l.fuel l.reads l.enough
  where
    by_fuel : (k : ℕ) → read n (begin p) tokens ≡ read k (got p t) mid → 2 * length mid + 1 ≤ k → Leads p z after n tokens
    by_fuel zero e h = absurd (omega (arith, h))
    by_fuel (suc m) e h = record { fuel = m; reads = e ∙ (going m p t mid goes ∙ f m (omega (arith, h))); enough = omega (arith, less, h) }

moved : (p : ℕ) (z : Tree) (n : ℕ) (after xs ys : List Token) → xs ≡ ys → (2 * length ys ≤ n → Leads p z after n ys) → 2 * length xs ≤ n → Leads p z after n xs
moved p z n after xs ys e f h = subst (λ ts. Leads p z after n ts) (sym e) (f (omega (arith, ap length e, h)))

-- the first step
front_leads : (p : ℕ) (z : Tree) (k : Token) (rest after : List Token) (n : ℕ) → length after ≤ length rest → ((m : ℕ) → 2 * length rest + 1 ≤ m → begun (read m) (names m) p (k ∷ rest) ≡ read m (got p z) after)
    → 2 * length (k ∷ rest) ≤ n → Leads p z after n (k ∷ rest)
front_leads p z k rest after zero less f h = absurd (omega (arith, h))
front_leads p z k rest after (suc m) less f h = record { fuel = m; reads = f m (omega (arith, h)); enough = omega (arith, less, h) }

pub atom_begins : (run : Reader) (nm : NamesReader) (p : ℕ) (k : Token) (rest : List Token) → is_atom_token k ≡ true → begun run nm p (k ∷ rest) ≡ run (got p (atom k)) rest
atom_begins run nm p (token.Word word.Ident x) rest h = refl
atom_begins run nm p (token.Word word.Long x) rest h = cc
atom_begins run nm p (token.Word word.Var x) rest h = refl
atom_begins run nm p (token.Word word.Tvar x) rest h = cc
atom_begins run nm p (token.Sign sign.Open) rest h = cc
atom_begins run nm p (token.Sign sign.Close) rest h = cc
atom_begins run nm p (token.Sign sign.Colons) rest h = cc
atom_begins run nm p (token.Sign sign.Lambda) rest h = cc
atom_begins run nm p (token.Sign sign.Dot) rest h = cc
atom_begins run nm p (token.Sign sign.Equals) rest h = cc
atom_begins run nm p (token.Sign sign.Implies) rest h = cc
atom_begins run nm p (token.Sign sign.OpenPremises) rest h = cc
atom_begins run nm p (token.Sign sign.ClosePremises) rest h = cc
atom_begins run nm p (token.Sign sign.Semicolon) rest h = cc
atom_begins run nm p (token.Sign sign.All) rest h = cc
atom_begins run nm p (token.Sign sign.Arrow) rest h = cc
atom_begins run nm p (token.Sign sign.OpenTypes) rest h = cc
atom_begins run nm p (token.Sign sign.CloseTypes) rest h = cc
atom_begins run nm p (token.Sign sign.Comma) rest h = cc
atom_begins run nm p (token.Sign sign.Prop) rest h = cc
atom_begins run nm p (token.Sign sign.Dummy) rest h = refl
atom_begins run nm p (token.Sign sign.Dots) rest h = refl
atom_begins run nm p (token.Sign (sign.Plain i)) rest h = refl
atom_begins run nm p (token.Sign (sign.Prefix i a b)) rest h = cc
atom_begins run nm p (token.Sign (sign.Infix i a)) rest h = cc
atom_begins run nm p (token.Sign (sign.Infixl i a)) rest h = cc
atom_begins run nm p (token.Sign (sign.Infixr i a)) rest h = cc
atom_begins run nm p (token.Sign (sign.Binder i a)) rest h = cc

atom_argues : (k : Token) → is_atom_token k ≡ true → begins_argument k ≡ true
atom_argues (token.Word word.Ident x) h = refl
atom_argues (token.Word word.Long x) h = cc
atom_argues (token.Word word.Var x) h = refl
atom_argues (token.Word word.Tvar x) h = cc
atom_argues (token.Sign sign.Open) h = cc
atom_argues (token.Sign sign.Close) h = cc
atom_argues (token.Sign sign.Colons) h = cc
atom_argues (token.Sign sign.Lambda) h = cc
atom_argues (token.Sign sign.Dot) h = cc
atom_argues (token.Sign sign.Equals) h = cc
atom_argues (token.Sign sign.Implies) h = cc
atom_argues (token.Sign sign.OpenPremises) h = cc
atom_argues (token.Sign sign.ClosePremises) h = cc
atom_argues (token.Sign sign.Semicolon) h = cc
atom_argues (token.Sign sign.All) h = cc
atom_argues (token.Sign sign.Arrow) h = cc
atom_argues (token.Sign sign.OpenTypes) h = cc
atom_argues (token.Sign sign.CloseTypes) h = cc
atom_argues (token.Sign sign.Comma) h = cc
atom_argues (token.Sign sign.Prop) h = cc
atom_argues (token.Sign sign.Dummy) h = refl
atom_argues (token.Sign sign.Dots) h = refl
atom_argues (token.Sign (sign.Plain i)) h = refl
atom_argues (token.Sign (sign.Prefix i a b)) h = cc
atom_argues (token.Sign (sign.Infix i a)) h = cc
atom_argues (token.Sign (sign.Infixl i a)) h = cc
atom_argues (token.Sign (sign.Infixr i a)) h = cc
atom_argues (token.Sign (sign.Binder i a)) h = cc

prefix_argues : (s : Sign) → is_prefix s ≡ true → 1000 ≤ own_of s → begins_argument (token.Sign s) ≡ true
prefix_argues sign.Open h k = cc
prefix_argues sign.Close h k = cc
prefix_argues sign.Colons h k = cc
prefix_argues sign.Lambda h k = cc
prefix_argues sign.Dot h k = cc
prefix_argues sign.Equals h k = cc
prefix_argues sign.Implies h k = cc
prefix_argues sign.OpenPremises h k = cc
prefix_argues sign.ClosePremises h k = cc
prefix_argues sign.Semicolon h k = cc
prefix_argues sign.All h k = cc
prefix_argues sign.Arrow h k = cc
prefix_argues sign.OpenTypes h k = cc
prefix_argues sign.CloseTypes h k = cc
prefix_argues sign.Comma h k = cc
prefix_argues sign.Prop h k = absurd (omega (arith, k))
prefix_argues sign.Dummy h k = cc
prefix_argues sign.Dots h k = cc
prefix_argues (sign.Plain i) h k = cc
prefix_argues (sign.Prefix i a b) h k = le_true 1000 b k
prefix_argues (sign.Infix i a) h k = cc
prefix_argues (sign.Infixl i a) h k = cc
prefix_argues (sign.Infixr i a) h k = cc
prefix_argues (sign.Binder i a) h k = cc

binder_argues : (s : Sign) → is_binder s ≡ true → 1000 ≤ own_of s → begins_argument (token.Sign s) ≡ true
binder_argues sign.Open h k = cc
binder_argues sign.Close h k = cc
binder_argues sign.Colons h k = cc
binder_argues sign.Lambda h k = absurd (omega (arith, k))
binder_argues sign.Dot h k = cc
binder_argues sign.Equals h k = cc
binder_argues sign.Implies h k = cc
binder_argues sign.OpenPremises h k = cc
binder_argues sign.ClosePremises h k = cc
binder_argues sign.Semicolon h k = cc
binder_argues sign.All h k = absurd (omega (arith, k))
binder_argues sign.Arrow h k = cc
binder_argues sign.OpenTypes h k = cc
binder_argues sign.CloseTypes h k = cc
binder_argues sign.Comma h k = cc
binder_argues sign.Prop h k = cc
binder_argues sign.Dummy h k = cc
binder_argues sign.Dots h k = cc
binder_argues (sign.Plain i) h k = cc
binder_argues (sign.Prefix i a b) h k = cc
binder_argues (sign.Infix i a) h k = cc
binder_argues (sign.Infixl i a) h k = cc
binder_argues (sign.Infixr i a) h k = cc
binder_argues (sign.Binder i a) h k = le_true 1000 a k

-- that an argument begins as one
pub record Front (tokens : List Token) : Type 0 where
  pub first : Token
  pub others : List Token
  pub is : tokens ≡ first ∷ others
  pub argues : begins_argument first ≡ true

front_more : (xs ys : List Token) → Front xs → Front (xs ++ ys)
front_more xs ys f = record { first = f.first; others = f.others ++ ys; is = ap (λ ts. ts ++ ys) f.is; argues = f.argues }

argument_front : (a : Tree) (after : List Token) → Fits a after → 1000 ≤ own a → Front (yield a)
argument_front (atom k) after f h = record { first = k; others = []; is = refl; argues = atom_argues k f }
argument_front (paren t) after f h = record { first = token.Sign sign.Open; others = yield t ++ token.Sign sign.Close ∷ []; is = refl; argues = refl }
argument_front (apply g a) after f h = absurd (omega (arith, h))
argument_front (prefixed s t) after f h = record { first = token.Sign s; others = yield t; is = refl; argues = prefix_argues s (f.0) h }
argument_front (typed t a) after f h = absurd (omega (arith, h))
argument_front (binary t s u) after f h =
    front_more (yield t) (token.Sign s ∷ yield u) (argument_front t (token.Sign s ∷ (yield u ++ after)) (f.1.1.0) (omega (arith, h, left_least s (f.0), f.1.0.enough)))
argument_front (bound s xs t) after f h = record { first = token.Sign s; others = names_yield xs ++ token.Sign sign.Dot ∷ yield t; is = refl; argues = binder_argues s (f.0) h }
argument_front (premise t) after f h = absurd (omega (arith, h))
argument_front (premises ts t) after f h = absurd (omega (arith, h))
argument_front (rule ts t) after f h = absurd (omega (arith, h))

-- what may be applied goes on with it
heads_own : (t : Tree) → heads t ≡ true → 999 ≤ own t
heads_own (apply f a) h = omega arith
heads_own (atom k) h = omega arith
heads_own (paren t) h = omega arith
heads_own (prefixed s t) h = omega (arith, le_from 1000 (own_of s) h)
heads_own (typed t a) h = absurd (omega (arith, le_from 1000 3 h))
heads_own (binary t s u) h = omega (arith, le_from 1000 (own_of s) h)
heads_own (bound s xs t) h = omega (arith, le_from 1000 (own_of s) h)
heads_own (premise t) h = absurd (omega (arith, le_from 1000 1 h))
heads_own (premises ts t) h = absurd (omega (arith, le_from 1000 1 h))
heads_own (rule ts t) h = absurd (omega (arith, le_from 1000 1 h))

three : (a b c : Bool) → a ≡ true → b ≡ true → c ≡ true → (a && (b && c)) ≡ true
three a b c e f g = rw (e, f, g) refl

two : (a b : Bool) → a ≡ true → b ≡ true → (a && b) ≡ true
two a b e f = rw (e, f) refl

pub choose_first : {A : Type 0} (b : Bool) (x y : A) → b ≡ true → cond b x y ≡ x
choose_first b x y e = rw e refl

pub choose_second : {A : Type 0} (b : Bool) (x y : A) → b ≡ false → cond b x y ≡ y
choose_second b x y e = rw e refl

takes_argument : (k : Token) (p : ℕ) (f : Tree) → begins_argument k ≡ true → is_premises f ≡ false → heads f ≡ true → p ≤ 999 → takes k p f ≡ true
takes_argument (token.Word w x) p f b l h k =
    choose_second (is_premises f) (list_takes (token.Word w x) && nat_le p 1) (tree_takes (token.Word w x) p f) l ∙ three (begins_argument (token.Word w x)) (heads f) (nat_le p 999) b h (le_true p 999 k)
takes_argument (token.Sign s) p f b l h k =
    choose_second (is_premises f) (list_takes (token.Sign s) && nat_le p 1) (tree_takes (token.Sign s) p f) l
    ∙ choose_second (is_colons s) (nat_le 4 (own f) && nat_le p 3) (cond (is_infix s) (nat_le (left_of s) (own f) && nat_le p (own_of s)) (begins_argument (token.Sign s) && (heads f && nat_le p 999))) (argument_no_colons s b)
    ∙ choose_second (is_infix s) (nat_le (left_of s) (own f) && nat_le p (own_of s)) (begins_argument (token.Sign s) && (heads f && nat_le p 999)) (argument_no_infix s b)
    ∙ three (begins_argument (token.Sign s)) (heads f) (nat_le p 999) b h (le_true p 999 k)

pub grows_argument : (run : Reader) (ty : TypesReader) (k : Token) (rest : List Token) (p : ℕ) (f : Tree) → begins_argument k ≡ true → is_premises f ≡ false → grown run ty p f (k ∷ rest) ≡ applied run p f (k ∷ rest)
grows_argument run ty (token.Word w x) rest p f b l = choose_second (is_premises f) (list_grown run p f (token.Word w x) rest) (applied run p f (token.Word w x ∷ rest)) l
grows_argument run ty (token.Sign s) rest p f b l =
    choose_second (is_premises f) (list_grown run p f (token.Sign s) rest) (tree_grown run ty p f (token.Sign s) rest) l
    ∙ choose_second (is_colons s) (and_then (ty rest) (λ a left. run (got p (typed f a)) left))
    (cond (is_infix s) (and_then (run (begin (right_of s)) rest) (λ u left. run (got p (binary f s u)) left)) (applied run p f (token.Sign s ∷ rest))) (argument_no_colons s b)
    ∙ choose_second (is_infix s) (and_then (run (begin (right_of s)) rest) (λ u left. run (got p (binary f s u)) left)) (applied run p f (token.Sign s ∷ rest)) (argument_no_infix s b)

takes_infix : (s : Sign) (p : ℕ) (t : Tree) → is_infix s ≡ true → is_premises t ≡ false → left_of s ≤ own t → p ≤ own_of s → takes (token.Sign s) p t ≡ true
takes_infix s p t i l h k =
    choose_second (is_premises t) (list_takes (token.Sign s) && nat_le p 1) (tree_takes (token.Sign s) p t) l
    ∙ choose_second (is_colons s) (nat_le 4 (own t) && nat_le p 3) (cond (is_infix s) (nat_le (left_of s) (own t) && nat_le p (own_of s)) (begins_argument (token.Sign s) && (heads t && nat_le p 999))) (infix_no_colons s i)
    ∙ choose_first (is_infix s) (nat_le (left_of s) (own t) && nat_le p (own_of s)) (begins_argument (token.Sign s) && (heads t && nat_le p 999)) i
    ∙ two (nat_le (left_of s) (own t)) (nat_le p (own_of s)) (le_true (left_of s) (own t) h) (le_true p (own_of s) k)

pub grows_infix : (run : Reader) (ty : TypesReader) (s : Sign) (rest : List Token) (p : ℕ) (t : Tree) → is_infix s ≡ true → is_premises t ≡ false
    → grown run ty p t (token.Sign s ∷ rest) ≡ and_then (run (begin (right_of s)) rest) (λ u left. run (got p (binary t s u)) left)
grows_infix run ty s rest p t i l =
    choose_second (is_premises t) (list_grown run p t (token.Sign s) rest) (tree_grown run ty p t (token.Sign s) rest) l
    ∙ choose_second (is_colons s) (and_then (ty rest) (λ a left. run (got p (typed t a)) left))
    (cond (is_infix s) (and_then (run (begin (right_of s)) rest) (λ u left. run (got p (binary t s u)) left)) (applied run p t (token.Sign s ∷ rest))) (infix_no_colons s i)
    ∙ choose_first (is_infix s) (and_then (run (begin (right_of s)) rest) (λ u left. run (got p (binary t s u)) left)) (applied run p t (token.Sign s ∷ rest)) i

takes_colons : (p : ℕ) (t : Tree) → is_premises t ≡ false → 4 ≤ own t → p ≤ 3 → takes (token.Sign sign.Colons) p t ≡ true
takes_colons p t l h k =
    choose_second (is_premises t) (false && nat_le p 1) (nat_le 4 (own t) && nat_le p 3) l ∙ two (nat_le 4 (own t)) (nat_le p 3) (le_true 4 (own t) h) (le_true p 3 k)

takes_more : (k : Token) (p : ℕ) (ts : Tree) → list_takes k ≡ true → is_premises ts ≡ true → p ≤ 1 → takes k p ts ≡ true
takes_more k p ts e l h = choose_first (is_premises ts) (list_takes k && nat_le p 1) (tree_takes k p ts) l ∙ two (list_takes k) (nat_le p 1) e (le_true p 1 h)

premises_own : (t : Tree) → is_premises t ≡ true → own t ≡ 1
premises_own (premise t) h = refl
premises_own (premises ts t) h = refl
premises_own (atom k) h = cc
premises_own (paren t) h = cc
premises_own (apply f a) h = cc
premises_own (prefixed s t) h = cc
premises_own (typed t a) h = cc
premises_own (binary t s u) h = cc
premises_own (bound s xs t) h = cc
premises_own (rule ts t) h = cc

pub tree_reads : (z : Tree) (after : List Token) → Fits z after → Reads z after
tree_reads (atom k) after f p h n b =
    front_leads p (atom k) k after after n (omega arith) (λ m g. atom_begins (read m) (names m) p k after f) b
tree_reads (paren t) after f p h n b =
    let close : List Token = token.Sign sign.Close ∷ after in
    let rest : List Token = yield t ++ close in
    moved p (paren t) n after (yield (paren t) ++ after) (token.Sign sign.Open ∷ rest) (ap (λ ts. token.Sign sign.Open ∷ ts) (append_assoc (yield t) (token.Sign sign.Close ∷ []) after))
    (λ c. front_leads p (paren t) (token.Sign sign.Open) rest after n (omega (arith, length-append (yield t) close))
    (λ m g. then_some (read m (begin 0) rest) t close (λ u left. closed (read m) p u left) (operand 0 t close (f.0) (tree_reads t close (f.1)) m (omega (arith, g)))) c) b
tree_reads (apply g a) after f p h n b =
    let x = argument_front a after (f.1.1.1.1) (f.1.1.1.0.enough) in
    let mid : List Token = x.first ∷ (x.others ++ after) in
    let same : yield a ++ after ≡ mid = ap (λ ts. ts ++ after) x.is in
    let whole : (yield g ++ yield a) ++ after ≡ yield g ++ mid = append_assoc (yield g) (yield a) after ∙ ap (λ ts. yield g ++ ts) same in
    let inner : Reads g mid = tree_reads g mid (subst (λ ts. Fits g ts) same (f.1.1.0)) in
    moved p (apply g a) n after (yield (apply g a) ++ after) (yield g ++ mid) whole
    (λ c. stepped p g (apply g a) (yield g ++ mid) mid after n (inner p (omega (arith, h, heads_own g (f.1.0))) n c)
    (takes_argument x.first p g x.argues (f.0) (f.1.0) h) (omega (arith, length-append x.others after))
    (λ m k.
    grows_argument (read m) (type_of m) x.first (x.others ++ after) p g x.argues (f.0)
    ∙ then_some (read m (begin 1000) mid) a after (λ u left. read m (got p (apply g u)) left)
    (subst (λ ts. read m (begin 1000) ts ≡ Some (a, after)) same (operand 1000 a after (f.1.1.1.0) (tree_reads a after (f.1.1.1.1)) m (omega (arith, k, ap length same)))))) b
tree_reads (prefixed s t) after f p h n b =
    let rest : List Token = yield t ++ after in
    front_leads p (prefixed s t) (token.Sign s) rest after n (omega (arith, length-append (yield t) after))
    (λ m g.
    choose_first (is_prefix s) (and_then (read m (begin (place_of s)) rest) (λ u left. read m (got p (prefixed s u)) left))
    (cond (is_binder s) (and_then (names m rest) (λ xs left. some_names xs (and_then (read m (begin (place_of s)) left) (λ u behind. read m (got p (bound s xs u)) behind)))) (begun_other (read m) p s rest)) (f.0)
    ∙ then_some (read m (begin (place_of s)) rest) t after (λ u left. read m (got p (prefixed s u)) left) (operand (place_of s) t after (f.1.0) (tree_reads t after (f.1.1)) m (omega (arith, g)))) b
tree_reads (typed t a) after f p h n b =
    let mid : List Token = token.Sign sign.Colons ∷ (type_yield a ++ after) in
    let inner : Reads t mid = tree_reads t mid (f.1.0) in
    moved p (typed t a) n after (yield (typed t a) ++ after) (yield t ++ mid) (append_assoc (yield t) (token.Sign sign.Colons ∷ type_yield a) after)
    (λ c. stepped p t (typed t a) (yield t ++ mid) mid after n (inner p (omega (arith, h, f.0.enough)) n c) (takes_colons p t f.0.is_term f.0.enough h) (omega (arith, length-append (type_yield a) after))
    (λ m k.
    choose_second (is_premises t) None (and_then (type_of m (type_yield a ++ after)) (λ u left. read m (got p (typed t u)) left)) f.0.is_term
    ∙ then_some (type_of m (type_yield a ++ after)) a after (λ u left. read m (got p (typed t u)) left) (type_read a after (f.1.1.0) (f.1.1.1) m (omega (arith, k))))) b
tree_reads (binary t s u) after f p h n b =
    let mid : List Token = token.Sign s ∷ (yield u ++ after) in
    let left : Stands (left_of s) t = f.1.0 in
    let inner : Reads t mid = tree_reads t mid (f.1.1.0) in
    moved p (binary t s u) n after (yield (binary t s u) ++ after) (yield t ++ mid) (append_assoc (yield t) (token.Sign s ∷ yield u) after)
    (λ c. stepped p t (binary t s u) (yield t ++ mid) mid after n (inner p (omega (arith, h, left.enough, left_least s (f.0))) n c)
    (takes_infix s p t (f.0) left.is_term left.enough h) (omega (arith, length-append (yield u) after))
    (λ m k.
    grows_infix (read m) (type_of m) s (yield u ++ after) p t (f.0) left.is_term
    ∙ then_some (read m (begin (right_of s)) (yield u ++ after)) u after (λ x rest. read m (got p (binary t s x)) rest)
    (operand (right_of s) u after (f.1.1.1.0) (tree_reads u after (f.1.1.1.1)) m (omega (arith, k))))) b
tree_reads (bound s xs t) after f p h n b =
    let body : List Token = yield t ++ after in
    let rest : List Token = names_yield xs ++ token.Sign sign.Dot ∷ body in
    let same : yield (bound s xs t) ++ after ≡ token.Sign s ∷ rest = ap (λ ts. token.Sign s ∷ ts) (append_assoc (names_yield xs) (token.Sign sign.Dot ∷ yield t) after) in
    moved p (bound s xs t) n after (yield (bound s xs t) ++ after) (token.Sign s ∷ rest) same
    (λ c. front_leads p (bound s xs t) (token.Sign s) rest after n (omega (arith, length-append (names_yield xs) (token.Sign sign.Dot ∷ body), length-append (yield t) after))
    (λ m g.
    choose_second (is_prefix s) (and_then (read m (begin (place_of s)) rest) (λ u left. read m (got p (prefixed s u)) left))
    (cond (is_binder s) (and_then (names m rest) (λ ys left. some_names ys (and_then (read m (begin (place_of s)) left) (λ u behind. read m (got p (bound s ys u)) behind)))) (begun_other (read m) p s rest)) (binder_no_prefix s (f.0))
    ∙ choose_first (is_binder s) (and_then (names m rest) (λ ys left. some_names ys (and_then (read m (begin (place_of s)) left) (λ u behind. read m (got p (bound s ys u)) behind)))) (begun_other (read m) p s rest) (f.0)
    ∙ then_some (names m rest) xs body (λ ys left. some_names ys (and_then (read m (begin (place_of s)) left) (λ u behind. read m (got p (bound s ys u)) behind))) (names_read xs body (f.1.1.0) m (omega (arith, g)))
    ∙ some_is xs (and_then (read m (begin (place_of s)) body) (λ u behind. read m (got p (bound s xs u)) behind)) (f.1.0)
    ∙ then_some (read m (begin (place_of s)) body) t after (λ u behind. read m (got p (bound s xs u)) behind)
    (operand (place_of s) t after (f.1.1.1.0) (tree_reads t after (f.1.1.1.1)) m (omega (arith, g, length-append (names_yield xs) (token.Sign sign.Dot ∷ body))))) c) b
tree_reads (premise t) after f p h n b =
    let rest : List Token = yield t ++ after in
    front_leads p (premise t) (token.Sign sign.OpenPremises) rest after n (omega (arith, length-append (yield t) after))
    (λ m g. then_some (read m (begin 0) rest) t after (λ u left. read m (got p (premise u)) left) (operand 0 t after (f.0) (tree_reads t after (f.1)) m (omega (arith, g)))) b
tree_reads (premises ts t) after f p h n b =
    let mid : List Token = token.Sign sign.Semicolon ∷ (yield t ++ after) in
    let inner : Reads ts mid = tree_reads ts mid (f.1.0) in
    moved p (premises ts t) n after (yield (premises ts t) ++ after) (yield ts ++ mid) (append_assoc (yield ts) (token.Sign sign.Semicolon ∷ yield t) after)
    (λ c. stepped p ts (premises ts t) (yield ts ++ mid) mid after n (inner p (omega (arith, h, premises_own ts (f.0))) n c) (takes_more (token.Sign sign.Semicolon) p ts refl (f.0) h) (omega (arith, length-append (yield t) after))
    (λ m k.
    choose_first (is_premises ts) (and_then (read m (begin 0) (yield t ++ after)) (λ u left. read m (got p (premises ts u)) left)) (tree_grown (read m) (type_of m) p ts (token.Sign sign.Semicolon) (yield t ++ after)) (f.0)
    ∙ then_some (read m (begin 0) (yield t ++ after)) t after (λ u left. read m (got p (premises ts u)) left) (operand 0 t after (f.1.1.0) (tree_reads t after (f.1.1.1)) m (omega (arith, k))))) b
tree_reads (rule ts t) after f p h n b =
    let mid : List Token = token.Sign sign.ClosePremises ∷ token.Sign sign.Implies ∷ (yield t ++ after) in
    let inner : Reads ts mid = tree_reads ts mid (f.1.0) in
    moved p (rule ts t) n after (yield (rule ts t) ++ after) (yield ts ++ mid) (append_assoc (yield ts) (token.Sign sign.ClosePremises ∷ token.Sign sign.Implies ∷ yield t) after)
    (λ c. stepped p ts (rule ts t) (yield ts ++ mid) mid after n (inner p (omega (arith, h, premises_own ts (f.0))) n c) (takes_more (token.Sign sign.ClosePremises) p ts refl (f.0) h) (omega (arith, length-append (yield t) after))
    (λ m k.
    choose_first (is_premises ts) (and_then (read m (begin 1) (yield t ++ after)) (λ u left. read m (got p (rule ts u)) left)) (tree_grown (read m) (type_of m) p ts (token.Sign sign.ClosePremises) (token.Sign sign.Implies ∷ (yield t ++ after))) (f.0)
    ∙ then_some (read m (begin 1) (yield t ++ after)) t after (λ u left. read m (got p (rule ts u)) left) (operand 1 t after (f.1.1.0) (tree_reads t after (f.1.1.1)) m (omega (arith, k))))) b

abbrev first_or : Tree → Read → Tree
first_or t None = t
first_or t (Some r) = r.0

pub tree_read : (tokens : List Token) (t : Tree) → Belongs tokens t → read (2 * length tokens) (begin 0) tokens ≡ Some (t, [])
tree_read tokens t d =
    let all : yield t ++ [] ≡ tokens = append-nil (yield t) ∙ d.yields in
    subst (λ ts. read (2 * length tokens) (begin 0) ts ≡ Some (t, [])) all (operand 0 t [] d.suits (tree_reads t [] d.fits) (2 * length tokens) (omega (arith, ap length all)))

pub one_tree : (tokens : List Token) (t u : Tree) → Belongs tokens t → Belongs tokens u → t ≡ u
one_tree tokens t u b c = ap (first_or t) (sym (tree_read tokens t b) ∙ tree_read tokens u c)
