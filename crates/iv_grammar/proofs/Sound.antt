-- Whatever the reader of terms reads belongs to its tokens.
use Rattle.std.proofs.Common.{◌≡◌, ◌<◌, ℕ, zero, suc, List, [], ◌∷◌, ◌++◌, length, refl, ap, sym, ◌∙◌, subst, arith, append_assoc}
use Rattle.std.specs.Prelude.{Bool, true, false, cond, nat_le, ◌&&◌, Option, None, Some}
use Rattle.iv_grammar.specs.declared.sign.Sign.{Sign}
use Rattle.iv_grammar.specs.declared.sign.Sign.TheVariants as sign
use Rattle.iv_grammar.specs.declared.words.Word.TheVariants as word
use Rattle.iv_grammar.specs.declared.cutting.Token.{Token}
use Rattle.iv_grammar.specs.declared.cutting.Token.TheVariants as token
use Rattle.iv_grammar.specs.TypeTree.{Ty, ident, type_yield, TypeSuits, TypeFits}
use Rattle.iv_grammar.specs.Tree.{Tree, atom, paren, apply, prefixed, typed, binary, bound, premise, premises, rule, Var, bare, of_type, bare_in, of_type_in, is_colons, is_infix, is_prefix, is_binder, left_of, right_of, place_of, own_of, is_atom_token, begins_argument, name_yield, names_yield, yield, is_premises, own, heads, list_takes, tree_takes, goes_on_with, Suits, Stands, NameFits, NamesFit, Fits}
use Rattle.iv_grammar.proofs.TypeSound.{type_sound}
use Rattle.iv_grammar.proofs.TypeSound as types
use Rattle.iv_grammar.proofs.TypeReading as type_reader
use Rattle.iv_grammar.proofs.Signs.{colons_is}
use Rattle.iv_grammar.proofs.Reading.{and_then, NamesRead, NamesReader, prepend, ident_by, close_by, inside_by, open_by, names_by, type_of, names, State, begin, got, Read, Reader, closed, begun_other, some_names, begun, applied, ruled, list_grown, tree_grown, grown, stop, read, le_from}

none_some : {A : Type 0} (x : A) → ◌≡◌ {A = Option A} None (Some x) → ⊥
none_some x e = cc

cases : {A G : Type 0} (b : Bool) (x y z : A) → cond b x y ≡ z → (b ≡ true → x ≡ z → G) → (b ≡ false → y ≡ z → G) → G
cases true x y z e f g = f refl e
cases false x y z e f g = g refl e

-- what came of two steps came of the first
pub record Two {A C : Type 0} (r : Option (A × List Token)) (f : A → List Token → Option C) (z : C) : Type 0 where
  pub mid : A
  pub between : List Token
  pub one : r ≡ Some (mid, between)
  pub other : f mid between ≡ Some z

two_steps : {A C : Type 0} (r : Option (A × List Token)) (f : A → List Token → Option C) (z : C) → and_then r f ≡ Some z → Two r f z
two_steps None f z e = absurd (none_some z e)
two_steps (Some r) f z e = record { mid = r.0; between = r.1; one = refl; other = e }

-- what holds of what was read
abbrev Holds : {A : Type 0} → (A → List Token → Type 0) → Option (A × List Token) → Type 0
Holds P None = Unit {0}
Holds P (Some r) = P r.0 r.1

-- bound names
pub record Named (tokens : List Token) (xs : List Var) (left : List Token) : Type 0 where
  pub yields : names_yield xs ++ token.Sign sign.Dot ∷ left ≡ tokens
  pub fits : NamesFit xs (token.Sign sign.Dot ∷ left)

abbrev pub AreSound : NamesReader → Type 0
AreSound next = (tokens : List Token) (xs : List Var) (left : List Token) → next tokens ≡ Some (xs, left) → Named tokens xs left

prepended : (x : Var) (r : NamesRead) (tokens : List Token) (xs : List Var) (left : List Token) → prepend x r ≡ Some (xs, left) → ((ys : List Var) (mid : List Token) → r ≡ Some (ys, mid) → Named tokens (x ∷ ys) mid) → Named tokens xs left
prepended x None tokens xs left e f = absurd (none_some (xs, left) e)
prepended x (Some q) tokens xs left e f = subst (λ o. Holds (Named tokens) o) e (f q.0 q.1 refl)

-- a name in front of others
in_front : (x : Var) (ys : List Var) (rest mid tokens : List Token) → Named rest ys mid → NameFits x rest → name_yield x ++ rest ≡ tokens → Named tokens (x ∷ ys) mid
in_front x ys rest mid tokens w f e = record {
  yields = append_assoc (name_yield x) (names_yield ys) (token.Sign sign.Dot ∷ mid) ∙ (ap (λ ts. name_yield x ++ ts) w.yields ∙ e);
  fits = (subst (λ ts. NameFits x ts) (sym w.yields) f, w.fits);
}

bare_sound : (next : NamesReader) → AreSound next → (x : List ℕ) (rest : List Token) (xs : List Var) (left : List Token) → prepend (bare x) (next rest) ≡ Some (xs, left) → Named (ident x ∷ rest) xs left
bare_sound next ih x rest xs left e = prepended (bare x) (next rest) (ident x ∷ rest) xs left e (λ ys mid g. in_front (bare x) ys rest mid (ident x ∷ rest) (ih rest ys mid g) tt refl)

ident_sound : (n : ℕ) (next : NamesReader) → AreSound next → (x : List ℕ) (rest : List Token) (xs : List Var) (left : List Token) → ident_by (type_of n) next x rest ≡ Some (xs, left) → Named (ident x ∷ rest) xs left
ident_sound n next ih x (token.Sign sign.Colons ∷ rest) xs left e =
    let s = two_steps (type_of n rest) (λ t after. prepend (of_type x t) (next after)) (xs, left) e in
    let b : types.Whole rest s.mid s.between = type_sound n type_reader.begin rest s.mid s.between s.one in
    prepended (of_type x s.mid) (next s.between) _ xs left s.other
    (λ ys mid g. in_front (of_type x s.mid) ys s.between mid _ (ih s.between ys mid g) (b.suits, b.fits) (ap (λ ts. ident x ∷ token.Sign sign.Colons ∷ ts) b.yields))
ident_sound n next ih x rest xs left e = bare_sound next ih x rest xs left e

close_sound : (next : NamesReader) → AreSound next → (x : List ℕ) (t : Ty) (rest : List Token) (xs : List Var) (left : List Token) → TypeSuits t rest → TypeFits t rest → close_by next x t rest ≡ Some (xs, left)
    → Named (token.Sign sign.Open ∷ ident x ∷ token.Sign sign.Colons ∷ (type_yield t ++ rest)) xs left
close_sound next ih x t (token.Sign sign.Close ∷ rest) xs left s f e =
    prepended (of_type_in x t) (next rest) _ xs left e
    (λ ys mid g. in_front (of_type_in x t) ys rest mid _ (ih rest ys mid g) (s, f) (ap (λ ts. token.Sign sign.Open ∷ ident x ∷ token.Sign sign.Colons ∷ ts) (append_assoc (type_yield t) (token.Sign sign.Close ∷ []) rest)))
close_sound next ih x t rest xs left s f e = absurd (none_some (xs, left) e)

inside_sound : (n : ℕ) (next : NamesReader) → AreSound next → (x : List ℕ) (rest : List Token) (xs : List Var) (left : List Token) → inside_by (type_of n) next x rest ≡ Some (xs, left) → Named (token.Sign sign.Open ∷ ident x ∷ rest) xs left
inside_sound n next ih x (token.Sign sign.Colons ∷ rest) xs left e =
    let s = two_steps (type_of n rest) (λ t after. close_by next x t after) (xs, left) e in
    let b : types.Whole rest s.mid s.between = type_sound n type_reader.begin rest s.mid s.between s.one in
    subst (λ ts. Named (token.Sign sign.Open ∷ ident x ∷ token.Sign sign.Colons ∷ ts) xs left) b.yields (close_sound next ih x s.mid s.between xs left b.suits b.fits s.other)
inside_sound n next ih x (token.Sign sign.Close ∷ rest) xs left e =
    prepended (bare_in x) (next rest) _ xs left e (λ ys mid g. in_front (bare_in x) ys rest mid _ (ih rest ys mid g) tt refl)
inside_sound n next ih x rest xs left e = absurd (none_some (xs, left) e)

open_sound : (n : ℕ) (next : NamesReader) → AreSound next → (rest : List Token) (xs : List Var) (left : List Token) → open_by (type_of n) next rest ≡ Some (xs, left) → Named (token.Sign sign.Open ∷ rest) xs left
open_sound n next ih (token.Word word.Ident x ∷ rest) xs left e = inside_sound n next ih x rest xs left e
open_sound n next ih rest xs left e = absurd (none_some (xs, left) e)

by_sound : (n : ℕ) (next : NamesReader) → AreSound next → (tokens : List Token) (xs : List Var) (left : List Token) → names_by (type_of n) next tokens ≡ Some (xs, left) → Named tokens xs left
by_sound n next ih (token.Sign sign.Dot ∷ rest) xs left e = subst (λ o. Holds (Named (token.Sign sign.Dot ∷ rest)) o) e (record { yields = refl; fits = tt })
by_sound n next ih (token.Sign sign.Open ∷ rest) xs left e = open_sound n next ih rest xs left e
by_sound n next ih (token.Word word.Ident x ∷ rest) xs left e = ident_sound n next ih x rest xs left e
by_sound n next ih tokens xs left e = absurd (none_some (xs, left) e)

pub names_sound : (n : ℕ) → AreSound (names n)
names_sound zero tokens xs left e = absurd (none_some (xs, left) e)
names_sound (suc n) tokens xs left e = by_sound n (names n) (names_sound n) tokens xs left e

-- a tree was read of some tokens in a place, and these are left
pub record Whole (p : ℕ) (tokens : List Token) (t : Tree) (left : List Token) : Type 0 where
  pub yields : yield t ++ left ≡ tokens
  pub suits : Suits p t left
  pub fits : Fits t left

abbrev pub Sound : State → List Token → Tree → List Token → Type 0
Sound (begin p) tokens t left = Whole p tokens t left
Sound (got p x) rest t left = Fits x rest → Whole p (yield x ++ rest) t left

abbrev pub IsSound : Reader → Type 0
IsSound run = (s : State) (tokens : List Token) (t : Tree) (left : List Token) → run s tokens ≡ Some (t, left) → Sound s tokens t left

along : (p : ℕ) (xs ys : List Token) (t : Tree) (left : List Token) → xs ≡ ys → Whole p xs t left → Whole p ys t left
along p xs ys t left e w = subst (λ ts. Whole p ts t left) e w

fits_along : (x : Tree) (xs ys : List Token) → xs ≡ ys → Fits x xs → Fits x ys
fits_along x xs ys e f = subst (λ ts. Fits x ts) e f

-- before a term
atom_sound : (run : Reader) → IsSound run → (p : ℕ) (k : Token) (rest : List Token) (t : Tree) (left : List Token) → cond (is_atom_token k) (run (got p (atom k)) rest) None ≡ Some (t, left) → Whole p (k ∷ rest) t left
atom_sound run ih p k rest t left e =
    cases (is_atom_token k) (run (got p (atom k)) rest) None (Some (t, left)) e (λ g h. ih (got p (atom k)) rest t left h g) (λ g h. absurd (none_some (t, left) h))

closed_sound : (run : Reader) → IsSound run → (p : ℕ) (x : Tree) (rest : List Token) (t : Tree) (left : List Token) → Suits 0 x rest → Fits x rest → closed run p x rest ≡ Some (t, left) → Whole p (token.Sign sign.Open ∷ (yield x ++ rest)) t left
closed_sound run ih p x (token.Sign sign.Close ∷ rest) t left s f e =
    along p _ _ t left (ap (λ ts. token.Sign sign.Open ∷ ts) (append_assoc (yield x) (token.Sign sign.Close ∷ []) rest)) (ih (got p (paren x)) rest t left e (s, f))
closed_sound run ih p x rest t left s f e = absurd (none_some (t, left) e)

other_sound : (run : Reader) → IsSound run → (p : ℕ) (s : Sign) (rest : List Token) (t : Tree) (left : List Token) → begun_other run p s rest ≡ Some (t, left) → Whole p (token.Sign s ∷ rest) t left
other_sound run ih p sign.Open rest t left e =
    let s = two_steps (run (begin 0) rest) (λ u after. closed run p u after) (t, left) e in
    let b : Whole 0 rest s.mid s.between = ih (begin 0) rest s.mid s.between s.one in
    along p _ _ t left (ap (λ ts. token.Sign sign.Open ∷ ts) b.yields) (closed_sound run ih p s.mid s.between t left b.suits b.fits s.other)
other_sound run ih p sign.OpenPremises rest t left e =
    let s = two_steps (run (begin 0) rest) (λ u after. run (got p (premise u)) after) (t, left) e in
    let b : Whole 0 rest s.mid s.between = ih (begin 0) rest s.mid s.between s.one in
    along p _ _ t left (ap (λ ts. token.Sign sign.OpenPremises ∷ ts) b.yields) (ih (got p (premise s.mid)) s.between t left s.other (b.suits, b.fits))
other_sound run ih p s rest t left e = atom_sound run ih p (token.Sign s) rest t left e

prefix_sound : (run : Reader) → IsSound run → (p : ℕ) (s : Sign) (rest : List Token) (t : Tree) (left : List Token) → is_prefix s ≡ true → and_then (run (begin (place_of s)) rest) (λ u after. run (got p (prefixed s u)) after) ≡ Some (t, left)
    → Whole p (token.Sign s ∷ rest) t left
prefix_sound run ih p s rest t left g e =
    let x = two_steps (run (begin (place_of s)) rest) (λ u after. run (got p (prefixed s u)) after) (t, left) e in
    let b : Whole (place_of s) rest x.mid x.between = ih (begin (place_of s)) rest x.mid x.between x.one in
    along p _ _ t left (ap (λ ts. token.Sign s ∷ ts) b.yields) (ih (got p (prefixed s x.mid)) x.between t left x.other (g, (b.suits, b.fits)))

some_inverse : (xs : List Var) (r : Read) (t : Tree) (left : List Token) → some_names xs r ≡ Some (t, left) → (0 < length xs) × (r ≡ Some (t, left))
some_inverse [] r t left e = absurd (none_some (t, left) e)
some_inverse (x ∷ xs) r t left e = (omega arith, e)

body_sound : (run : Reader) → IsSound run → (p : ℕ) (s : Sign) (xs : List Var) (mid tokens : List Token) (t : Tree) (left : List Token) → is_binder s ≡ true → Named tokens xs mid
    → some_names xs (and_then (run (begin (place_of s)) mid) (λ u behind. run (got p (bound s xs u)) behind)) ≡ Some (t, left) → Whole p (token.Sign s ∷ tokens) t left
body_sound run ih p s xs mid tokens t left g w e =
    let i = some_inverse xs (and_then (run (begin (place_of s)) mid) (λ u behind. run (got p (bound s xs u)) behind)) t left e in
    let x = two_steps (run (begin (place_of s)) mid) (λ u behind. run (got p (bound s xs u)) behind) (t, left) (i.1) in
    let b : Whole (place_of s) mid x.mid x.between = ih (begin (place_of s)) mid x.mid x.between x.one in
    let names_fit : NamesFit xs (token.Sign sign.Dot ∷ (yield x.mid ++ x.between)) = subst (λ ts. NamesFit xs (token.Sign sign.Dot ∷ ts)) (sym b.yields) w.fits in
    let whole : (names_yield xs ++ token.Sign sign.Dot ∷ yield x.mid) ++ x.between ≡ tokens =
    append_assoc (names_yield xs) (token.Sign sign.Dot ∷ yield x.mid) x.between ∙ (ap (λ ts. names_yield xs ++ token.Sign sign.Dot ∷ ts) b.yields ∙ w.yields) in
    along p _ _ t left (ap (λ ts. token.Sign s ∷ ts) whole) (ih (got p (bound s xs x.mid)) x.between t left x.other (g, (i.0, (names_fit, (b.suits, b.fits)))))

binder_sound : (run : Reader) → IsSound run → (next : NamesReader) → AreSound next → (p : ℕ) (s : Sign) (rest : List Token) (t : Tree) (left : List Token) → is_binder s ≡ true
    → and_then (next rest) (λ xs after. some_names xs (and_then (run (begin (place_of s)) after) (λ u behind. run (got p (bound s xs u)) behind))) ≡ Some (t, left) → Whole p (token.Sign s ∷ rest) t left
binder_sound run ih next nh p s rest t left g e =
    let x = two_steps (next rest) (λ xs after. some_names xs (and_then (run (begin (place_of s)) after) (λ u behind. run (got p (bound s xs u)) behind))) (t, left) e in
    body_sound run ih p s x.mid x.between rest t left g (nh rest x.mid x.between x.one) x.other

begun_sound : (run : Reader) → IsSound run → (next : NamesReader) → AreSound next → (p : ℕ) (tokens : List Token) (t : Tree) (left : List Token) → begun run next p tokens ≡ Some (t, left) → Whole p tokens t left
begun_sound run ih next nh p [] t left e = absurd (none_some (t, left) e)
begun_sound run ih next nh p (token.Word k x ∷ rest) t left e = atom_sound run ih p (token.Word k x) rest t left e
begun_sound run ih next nh p (token.Sign s ∷ rest) t left e =
    let names_then : Read = and_then (next rest) (λ xs after. some_names xs (and_then (run (begin (place_of s)) after) (λ u behind. run (got p (bound s xs u)) behind))) in
    cases (is_prefix s) (and_then (run (begin (place_of s)) rest) (λ u after. run (got p (prefixed s u)) after)) (cond (is_binder s) names_then (begun_other run p s rest)) (Some (t, left)) e
    (λ g h. prefix_sound run ih p s rest t left g h)
    (λ g h. cases (is_binder s) names_then (begun_other run p s rest) (Some (t, left)) h (λ i j. binder_sound run ih next nh p s rest t left i j) (λ i j. other_sound run ih p s rest t left j))

-- behind a tree
and_one : (a b : Bool) → (a && b) ≡ true → a ≡ true
and_one true b e = refl
and_one false b e = cc

and_two : (a b : Bool) → (a && b) ≡ true → b ≡ true
and_two true b e = e
and_two false b e = cc

operand_yields : (x : Tree) (k : Token) (us rest mid : List Token) → us ++ mid ≡ rest → (yield x ++ k ∷ us) ++ mid ≡ yield x ++ k ∷ rest
operand_yields x k us rest mid e = append_assoc (yield x) (k ∷ us) mid ∙ ap (λ ts. yield x ++ k ∷ ts) e

applied_sound : (run : Reader) → IsSound run → (p : ℕ) (x : Tree) (tokens : List Token) (t : Tree) (left : List Token) → is_premises x ≡ false → heads x ≡ true → applied run p x tokens ≡ Some (t, left) → Fits x tokens → Whole p (yield x ++ tokens) t left
applied_sound run ih p x tokens t left l h e f =
    let s = two_steps (run (begin 1000) tokens) (λ a after. run (got p (apply x a)) after) (t, left) e in
    let b : Whole 1000 tokens s.mid s.between = ih (begin 1000) tokens s.mid s.between s.one in
    along p _ _ t left (append_assoc (yield x) (yield s.mid) s.between ∙ ap (λ ts. yield x ++ ts) b.yields)
    (ih (got p (apply x s.mid)) s.between t left s.other (l, (h, (fits_along x _ _ (sym b.yields) f, (b.suits, b.fits)))))

infix_sound : (run : Reader) → IsSound run → (p : ℕ) (x : Tree) (s : Sign) (rest : List Token) (t : Tree) (left : List Token) → is_infix s ≡ true → Stands (left_of s) x
    → and_then (run (begin (right_of s)) rest) (λ u after. run (got p (binary x s u)) after) ≡ Some (t, left) → Fits x (token.Sign s ∷ rest) → Whole p (yield x ++ token.Sign s ∷ rest) t left
infix_sound run ih p x s rest t left i st e f =
    let y = two_steps (run (begin (right_of s)) rest) (λ u after. run (got p (binary x s u)) after) (t, left) e in
    let b : Whole (right_of s) rest y.mid y.between = ih (begin (right_of s)) rest y.mid y.between y.one in
    along p _ _ t left (operand_yields x (token.Sign s) (yield y.mid) rest y.between b.yields)
    (ih (got p (binary x s y.mid)) y.between t left y.other (i, (st, (fits_along x _ _ (ap (λ ts. token.Sign s ∷ ts) (sym b.yields)) f, (b.suits, b.fits)))))

typed_sound : (run : Reader) → IsSound run → (n p : ℕ) (x : Tree) (rest : List Token) (t : Tree) (left : List Token) → Stands 4 x → and_then (type_of n rest) (λ a after. run (got p (typed x a)) after) ≡ Some (t, left)
    → Fits x (token.Sign sign.Colons ∷ rest) → Whole p (yield x ++ token.Sign sign.Colons ∷ rest) t left
typed_sound run ih n p x rest t left st e f =
    let y = two_steps (type_of n rest) (λ a after. run (got p (typed x a)) after) (t, left) e in
    let b : types.Whole rest y.mid y.between = type_sound n type_reader.begin rest y.mid y.between y.one in
    along p _ _ t left (operand_yields x (token.Sign sign.Colons) (type_yield y.mid) rest y.between b.yields)
    (ih (got p (typed x y.mid)) y.between t left y.other (st, (fits_along x _ _ (ap (λ ts. token.Sign sign.Colons ∷ ts) (sym b.yields)) f, (b.suits, b.fits))))

sign_sound : (run : Reader) → IsSound run → (n p : ℕ) (x : Tree) (s : Sign) (rest : List Token) (t : Tree) (left : List Token) → is_premises x ≡ false → tree_takes (token.Sign s) p x ≡ true
    → tree_grown run (type_of n) p x (token.Sign s) rest ≡ Some (t, left) → Fits x (token.Sign s ∷ rest) → Whole p (yield x ++ token.Sign s ∷ rest) t left
sign_sound run ih n p x s rest t left l g e f =
    let by_type : Read = and_then (type_of n rest) (λ a after. run (got p (typed x a)) after) in
    let by_infix : Read = and_then (run (begin (right_of s)) rest) (λ u after. run (got p (binary x s u)) after) in
    let by_argument : Read = applied run p x (token.Sign s ∷ rest) in
    let for_type : Bool = nat_le 4 (own x) && nat_le p 3 in
    let for_infix : Bool = nat_le (left_of s) (own x) && nat_le p (own_of s) in
    let for_argument : Bool = begins_argument (token.Sign s) && (heads x && nat_le p 999) in
    cases (is_colons s) by_type (cond (is_infix s) by_infix by_argument) (Some (t, left)) e
    (λ i h.
    let is : s ≡ sign.Colons = colons_is s i in
    let may : for_type ≡ true = sym (ap (λ b. cond b for_type (cond (is_infix s) for_infix for_argument)) i) ∙ g in
    subst (λ r. Whole p (yield x ++ token.Sign r ∷ rest) t left) (sym is)
    (typed_sound run ih n p x rest t left (record { is_term = l; enough = le_from 4 (own x) (and_one _ _ may) }) h (subst (λ r. Fits x (token.Sign r ∷ rest)) is f)))
    (λ i h. cases (is_infix s) by_infix by_argument (Some (t, left)) h
    (λ j k.
    let may : for_infix ≡ true = sym (ap (λ b. cond b for_type (cond (is_infix s) for_infix for_argument)) i ∙ ap (λ b. cond b for_infix for_argument) j) ∙ g in
    infix_sound run ih p x s rest t left j (record { is_term = l; enough = le_from (left_of s) (own x) (and_one _ _ may) }) k f)
    (λ j k.
    let may : for_argument ≡ true = sym (ap (λ b. cond b for_type (cond (is_infix s) for_infix for_argument)) i ∙ ap (λ b. cond b for_infix for_argument) j) ∙ g in
    applied_sound run ih p x (token.Sign s ∷ rest) t left l (and_one _ _ (and_two (begins_argument (token.Sign s)) _ may)) k f))

tree_sound_on : (run : Reader) → IsSound run → (n p : ℕ) (x : Tree) (k : Token) (rest : List Token) (t : Tree) (left : List Token) → is_premises x ≡ false → tree_takes k p x ≡ true
    → tree_grown run (type_of n) p x k rest ≡ Some (t, left) → Fits x (k ∷ rest) → Whole p (yield x ++ k ∷ rest) t left
tree_sound_on run ih n p x (token.Word w y) rest t left l g e f = applied_sound run ih p x (token.Word w y ∷ rest) t left l (and_one _ _ (and_two (begins_argument (token.Word w y)) _ g)) e f
tree_sound_on run ih n p x (token.Sign s) rest t left l g e f = sign_sound run ih n p x s rest t left l g e f

ruled_sound : (run : Reader) → IsSound run → (p : ℕ) (x : Tree) (rest : List Token) (t : Tree) (left : List Token) → is_premises x ≡ true → ruled run p x rest ≡ Some (t, left) → Fits x (token.Sign sign.ClosePremises ∷ rest)
    → Whole p (yield x ++ token.Sign sign.ClosePremises ∷ rest) t left
ruled_sound run ih p x (token.Sign sign.Implies ∷ rest) t left l e f =
    let s = two_steps (run (begin 1) rest) (λ u after. run (got p (rule x u)) after) (t, left) e in
    let b : Whole 1 rest s.mid s.between = ih (begin 1) rest s.mid s.between s.one in
    along p _ _ t left (operand_yields x (token.Sign sign.ClosePremises) (token.Sign sign.Implies ∷ yield s.mid) (token.Sign sign.Implies ∷ rest) s.between (ap (λ ts. token.Sign sign.Implies ∷ ts) b.yields))
    (ih (got p (rule x s.mid)) s.between t left s.other (l, (fits_along x _ _ (ap (λ ts. token.Sign sign.ClosePremises ∷ token.Sign sign.Implies ∷ ts) (sym b.yields)) f, (b.suits, b.fits))))
ruled_sound run ih p x rest t left l e f = absurd (none_some (t, left) e)

list_sound : (run : Reader) → IsSound run → (p : ℕ) (x : Tree) (k : Token) (rest : List Token) (t : Tree) (left : List Token) → is_premises x ≡ true → list_grown run p x k rest ≡ Some (t, left) → Fits x (k ∷ rest) → Whole p (yield x ++ k ∷ rest) t left
list_sound run ih p x (token.Sign sign.Semicolon) rest t left l e f =
    let s = two_steps (run (begin 0) rest) (λ u after. run (got p (premises x u)) after) (t, left) e in
    let b : Whole 0 rest s.mid s.between = ih (begin 0) rest s.mid s.between s.one in
    along p _ _ t left (operand_yields x (token.Sign sign.Semicolon) (yield s.mid) rest s.between b.yields)
    (ih (got p (premises x s.mid)) s.between t left s.other (l, (fits_along x _ _ (ap (λ ts. token.Sign sign.Semicolon ∷ ts) (sym b.yields)) f, (b.suits, b.fits))))
list_sound run ih p x (token.Sign sign.ClosePremises) rest t left l e f = ruled_sound run ih p x rest t left l e f
list_sound run ih p x k rest t left l e f = absurd (none_some (t, left) e)

grown_sound : (run : Reader) → IsSound run → (n p : ℕ) (x : Tree) (tokens : List Token) (t : Tree) (left : List Token) → goes_on_with p x tokens ≡ true → grown run (type_of n) p x tokens ≡ Some (t, left) → Fits x tokens → Whole p (yield x ++ tokens) t left
grown_sound run ih n p x [] t left g e f = absurd (none_some (t, left) e)
grown_sound run ih n p x (k ∷ rest) t left g e f =
    cases (is_premises x) (list_grown run p x k rest) (tree_grown run (type_of n) p x k rest) (Some (t, left)) e
    (λ l h. list_sound run ih p x k rest t left l h f)
    (λ l h. tree_sound_on run ih n p x k rest t left l (sym (ap (λ b. cond b (list_takes k && nat_le p 1) (tree_takes k p x)) l) ∙ g) h f)

-- where it stops
some_read : Tree → List Token → Read
some_read t rest = Some (t, rest)

stop_sound : (p : ℕ) (x : Tree) (rest : List Token) (t : Tree) (left : List Token) → goes_on_with p x rest ≡ false → stop p x rest ≡ Some (t, left) → Fits x rest → Whole p (yield x ++ rest) t left
unfolding some_read
stop_sound p x rest t left g e f =
    cases (is_premises x) None (cond (nat_le p (own x)) (some_read x rest) None) (Some (t, left)) e (λ l h. absurd (none_some (t, left) h))
    (λ l h. cases (nat_le p (own x)) (some_read x rest) None (Some (t, left)) h
    (λ i j. subst (λ o. Holds (Whole p (yield x ++ rest)) o) j (record { yields = refl; suits = record { is_term = l; enough = le_from p (own x) i; stops = g }; fits = f }))
    (λ i j. absurd (none_some (t, left) j)))

pub tree_sound : (n : ℕ) → IsSound (read n)
tree_sound zero (begin p) tokens t left e = absurd (none_some (t, left) e)
tree_sound zero (got p x) rest t left e = λ f.
    cases (goes_on_with p x rest) None (stop p x rest) (Some (t, left)) e (λ g h. absurd (none_some (t, left) h)) (λ g h. stop_sound p x rest t left g h f)
tree_sound (suc n) (begin p) tokens t left e = begun_sound (read n) (tree_sound n) (names n) (names_sound n) p tokens t left e
tree_sound (suc n) (got p x) rest t left e = λ f.
    cases (goes_on_with p x rest) (grown (read n) (type_of n) p x rest) (stop p x rest) (Some (t, left)) e
    (λ g h. grown_sound (read n) (tree_sound n) n p x rest t left g h f) (λ g h. stop_sound p x rest t left g h f)
