-- The steps of the parser of types at tokens that it refuses, and at those that a tree goes on with.
use Rattle.std.proofs.Common.{◌≡◌, ℕ, ◌+◌, ◌*◌, ◌<◌, ◌≤◌, List, [], ◌∷◌, ◌++◌, length, refl, ap, sym, ◌∙◌, subst, arith, append_assoc, append-nil}
use Rattle.std.specs.Prelude.{true, false, Some, None}
use Rattle.iv_grammar.specs.declared.sign.Sign.{Sign}
use Rattle.iv_grammar.specs.declared.sign.Sign.TheVariants as sign
use Rattle.iv_grammar.specs.declared.words.Word.{Word}
use Rattle.iv_grammar.specs.declared.words.Word.TheVariants as word
use Rattle.iv_grammar.specs.declared.cutting.Token.{Token}
use Rattle.iv_grammar.specs.declared.cutting.Token.TheVariants as token
use Rattle.iv_grammar.specs.TypeTree.{Ty, var, con, paren, applied, round, square, more, tuple, arrow, arrows, is_more, type_depth}
use Rattle.iv_grammar.specs.TypeReader.{begin, got, Reader, begun, closed, arrowed, read}
use Rattle.iv_grammar.specs.declared.type_nodes.TypeForm.{TypeForm}
use Rattle.iv_grammar.specs.declared.type_nodes.TypeForm.TheVariants as form
use Rattle.iv_grammar.specs.declared.type_nodes.Kind.TheVariants as kind
use Rattle.iv_grammar.specs.declared.type_nodes.Part.{Part}
use Rattle.iv_grammar.specs.declared.type_nodes.Awaiting.{Awaiting}
use Rattle.iv_grammar.specs.declared.type_nodes.Awaiting.TheVariants as awaiting
use Rattle.iv_grammar.specs.declared.type_nodes.Place.{Place}
use Rattle.iv_grammar.specs.declared.type_nodes.Place.TheVariants as place
use Rattle.iv_grammar.specs.TypeNode.{at, types_of, capped, atom_kind, round_kind, square_kind, types_kind, takes_by, HasItems, starts_name, starts_arrow, value, Holds, IsPart, IsStep, IsDone}
use Rattle.iv_grammar.proofs.TypeStable.{steps}
use Rattle.iv_grammar.proofs.TypeStack.{goes_on, grows_by_name, grows_by_arrow, grows_by_comma, closes_one, closes_more, closes_square}
use Rattle.iv_grammar.proofs.TypeNodes.{got_step, open_step, stuck_by, atom_made, raised}

pub no_word : (k : Word) (x : List ℕ) (left : List Token) → (k ≡ word.Tvar → ⊥) → (k ≡ word.Ident → ⊥) → (n : ℕ) → length (token.Word k x ∷ left) ≤ n → read n begin (token.Word k x ∷ left) ≡ None
no_word word.Tvar x left a b n h = absurd (a refl)
no_word word.Ident x left a b n h = absurd (b refl)
no_word word.Long x left a b n h = steps n (token.Word word.Long x ∷ left) h
no_word word.Var x left a b n h = steps n (token.Word word.Var x ∷ left) h

sign_begins : (run : Reader) (s : Sign) (left : List Token) → (s ≡ sign.Open → ⊥) → (s ≡ sign.OpenTypes → ⊥) → begun run (token.Sign s ∷ left) ≡ None
sign_begins run sign.Open left a b = absurd (a refl)
sign_begins run sign.OpenTypes left a b = absurd (b refl)
sign_begins run s left a b = refl

pub no_sign : (s : Sign) (left : List Token) → (s ≡ sign.Open → ⊥) → (s ≡ sign.OpenTypes → ⊥) → (n : ℕ) → length (token.Sign s ∷ left) ≤ n → read n begin (token.Sign s ∷ left) ≡ None
no_sign s left a b n h = steps n (token.Sign s ∷ left) h ∙ sign_begins (read n) s left a b

pub no_token : (n : ℕ) → read n begin [] ≡ None
no_token n = steps n [] (omega arith)

name_closes : (run : Reader) (t : Ty) (left : List Token) → is_more t ≡ true → starts_name left ≡ false → closed run t left ≡ None
name_closes run (more ts t) [] m s = refl
name_closes run (more ts t) (token.Word word.Ident c ∷ left) m s = cc
name_closes run (more ts t) (k ∷ left) m s = refl
name_closes run (var x) left m s = cc
name_closes run (con x) left m s = cc
name_closes run (paren t) left m s = cc
name_closes run (applied t x) left m s = cc
name_closes run (round t) left m s = cc
name_closes run (square t) left m s = cc
name_closes run (tuple t x) left m s = cc
name_closes run (arrow t u) left m s = cc
name_closes run (arrows t u) left m s = cc

arrow_follows : (run : Reader) (t : Ty) (left : List Token) → starts_arrow left ≡ false → arrowed run t left ≡ None
arrow_follows run t [] s = refl
arrow_follows run t (token.Sign sign.Arrow ∷ left) s = cc
arrow_follows run t (k ∷ left) s = refl

-- a tree that goes on
pub named_step : (ns : List TypeForm) (xs : List Awaiting) (p : Part) (k : Word) (x : List ℕ) (left : List Token) → takes_by (token.Word k x) p.kind ≡ true → Holds (types_of ns) xs (place.Got p)
    → IsStep ns xs (place.Got p) (token.Word k x ∷ left) (ns ++ form.Applied p.root x ∷ []) xs (place.Got (record { root = length ns; kind = kind.Atom; depth = capped (p.depth + 1) })) left
named_step ns xs p word.Ident x left e h =
    let t : Ty = at (types_of ns) p.root in
    got_step ns (form.Applied p.root x) kind.Atom (capped (p.depth + 1)) xs (place.Got p) (token.Word word.Ident x ∷ left) left
    (atom_made (types_of ns) (applied t x) (capped (p.depth + 1)) refl refl refl refl (raised p.depth (type_depth t) h.place.depth)) (λ n b. grows_by_name n t x left b (h.place.kind.atom ∙ e)) (omega arith) h
named_step ns xs p word.Long x left e h = cc
named_step ns xs p word.Var x left e h = cc
named_step ns xs p word.Tvar x left e h = cc

pub paren_step : (ns : List TypeForm) (xs : List Awaiting) (p : Part) (i : ℕ) (left : List Token) → p.kind ≡ kind.Round i → Holds (types_of ns) xs (place.Got p)
    → IsStep ns xs (place.Got p) (token.Sign sign.Close ∷ left) (ns ++ form.Paren i ∷ []) xs (place.Got (record { root = length ns; kind = kind.Atom; depth = capped (p.depth + 1) })) left
paren_step ns xs p i left e h =
    let t : Ty = at (types_of ns) i in
    let items : HasItems (types_of ns) (kind.Round i) (at (types_of ns) p.root) = subst (λ k. HasItems (types_of ns) k (at (types_of ns) p.root)) e h.place.kind.items in
    got_step ns (form.Paren i) kind.Atom (capped (p.depth + 1)) xs (place.Got p) (token.Sign sign.Close ∷ left) left
    (atom_made (types_of ns) (paren t) (capped (p.depth + 1)) refl refl refl refl (raised p.depth (type_depth t) (h.place.depth ∙ ap (λ u. capped (type_depth u)) items.1)))
    (λ n b. ap (λ u. read n (got u) (token.Sign sign.Close ∷ left)) items.1 ∙ closes_one n t left b) (omega arith) h

pub tuple_step : (ns : List TypeForm) (xs : List Awaiting) (p : Part) (c : List ℕ) (left : List Token) → p.kind ≡ kind.Rounds → Holds (types_of ns) xs (place.Got p)
    → IsStep ns xs (place.Got p) (token.Sign sign.Close ∷ token.Word word.Ident c ∷ left) (ns ++ form.Tuple p.root c ∷ []) xs (place.Got (record { root = length ns; kind = kind.Atom; depth = capped (p.depth + 1) })) left
tuple_step ns xs p c left e h =
    let t : Ty = at (types_of ns) p.root in
    got_step ns (form.Tuple p.root c) kind.Atom (capped (p.depth + 1)) xs (place.Got p) (token.Sign sign.Close ∷ token.Word word.Ident c ∷ left) left
    (atom_made (types_of ns) (tuple t c) (capped (p.depth + 1)) refl refl refl refl (raised p.depth (type_depth t) h.place.depth))
    (λ n b. closes_more n t c left b (h.place.kind.round ∙ ap round_kind e) (subst (λ k. HasItems (types_of ns) k t) e h.place.kind.items)) (omega arith) h

pub tuple_stuck : (ns : List TypeForm) (xs : List Awaiting) (p : Part) (left : List Token) → p.kind ≡ kind.Rounds → starts_name left ≡ false → Holds (types_of ns) xs (place.Got p) → (n : ℕ) → length (token.Sign sign.Close ∷ left) ≤ n
    → value n (types_of ns) xs (place.Got p) (token.Sign sign.Close ∷ left) ≡ None
tuple_stuck ns xs p left e s h =
    let t : Ty = at (types_of ns) p.root in
    stuck_by ns xs (place.Got p) (token.Sign sign.Close ∷ left)
    (λ n b. goes_on n t (token.Sign sign.Close ∷ left) b (h.place.kind.round ∙ ap round_kind e) ∙ name_closes (read n) t left (subst (λ k. HasItems (types_of ns) k t) e h.place.kind.items) s)

pub arrows_step : (ns : List TypeForm) (xs : List Awaiting) (p : Part) (left : List Token) → square_kind p.kind ≡ true → Holds (types_of ns) xs (place.Got p)
    → IsStep ns xs (place.Got p) (token.Sign sign.CloseTypes ∷ token.Sign sign.Arrow ∷ left) ns (xs ++ awaiting.Arrows p ∷ []) place.Begin left
arrows_step ns xs p left e h =
    open_step ns xs (awaiting.Arrows p) (place.Got p) (token.Sign sign.CloseTypes ∷ token.Sign sign.Arrow ∷ left) left h.place (λ n b. closes_square n (at (types_of ns) p.root) left b (h.place.kind.square ∙ e)) (omega arith) h

pub arrows_stuck : (ns : List TypeForm) (xs : List Awaiting) (p : Part) (left : List Token) → square_kind p.kind ≡ true → starts_arrow left ≡ false → Holds (types_of ns) xs (place.Got p) → (n : ℕ) → length (token.Sign sign.CloseTypes ∷ left) ≤ n
    → value n (types_of ns) xs (place.Got p) (token.Sign sign.CloseTypes ∷ left) ≡ None
arrows_stuck ns xs p left e s h =
    let t : Ty = at (types_of ns) p.root in
    stuck_by ns xs (place.Got p) (token.Sign sign.CloseTypes ∷ left) (λ n b. goes_on n t (token.Sign sign.CloseTypes ∷ left) b (h.place.kind.square ∙ e) ∙ arrow_follows (read n) t left s)

pub arrow_step : (ns : List TypeForm) (xs : List Awaiting) (p : Part) (left : List Token) → atom_kind p.kind ≡ true → Holds (types_of ns) xs (place.Got p)
    → IsStep ns xs (place.Got p) (token.Sign sign.Arrow ∷ left) ns (xs ++ awaiting.Arrow p ∷ []) place.Begin left
arrow_step ns xs p left e h = open_step ns xs (awaiting.Arrow p) (place.Got p) (token.Sign sign.Arrow ∷ left) left h.place (λ n b. grows_by_arrow n (at (types_of ns) p.root) left b (h.place.kind.atom ∙ e)) (omega arith) h

pub comma_step : (ns : List TypeForm) (xs : List Awaiting) (p : Part) (left : List Token) → types_kind p.kind ≡ true → Holds (types_of ns) xs (place.Got p)
    → IsStep ns xs (place.Got p) (token.Sign sign.Comma ∷ left) ns (xs ++ awaiting.More p ∷ []) place.Begin left
comma_step ns xs p left e h =
    open_step ns xs (awaiting.More p) (place.Got p) (token.Sign sign.Comma ∷ left) left (h.place, e) (λ n b. grows_by_comma n (at (types_of ns) p.root) left b (h.place.kind.types ∙ e)) (omega arith) h

-- what a parser has read so far
pub record IsReading (ns : List TypeForm) (tokens : List Token) (ms : List TypeForm) (xs : List Awaiting) (s : Place) (rest : List Token) : Type 0 where
  pub same : (n : ℕ) → length tokens ≤ n → read n begin tokens ≡ value n (types_of ms) xs s rest
  pub holds : Holds (types_of ms) xs s
  pub grown : (fs : List TypeForm) × (ms ≡ ns ++ fs)
  pub shorter : length rest ≤ length tokens

pub starts : (ns : List TypeForm) (tokens : List Token) → IsReading ns tokens ns [] place.Begin tokens
starts ns tokens = record { same = λ n b. refl; holds = record { frames = tt; place = tt }; grown = ([], sym (append-nil ns)); shorter = omega arith }

grown_on : (ns ms os : List TypeForm) → ((fs : List TypeForm) × (ms ≡ ns ++ fs)) → ((gs : List TypeForm) × (os ≡ ms ++ gs)) → (hs : List TypeForm) × (os ≡ ns ++ hs)
grown_on ns ms os f g = (f.0 ++ g.0, g.1 ∙ (ap (λ z. z ++ g.0) f.1 ∙ append_assoc ns f.0 g.0))

pub goes_further : (ns : List TypeForm) (tokens : List Token) (ms : List TypeForm) (xs : List Awaiting) (s : Place) (rest : List Token) (os : List TypeForm) (ys : List Awaiting) (z : Place) (left : List Token) → IsReading ns tokens ms xs s rest
    → (Holds (types_of ms) xs s → IsStep ms xs s rest os ys z left) → IsReading ns tokens os ys z left
goes_further ns tokens ms xs s rest os ys z left r f =
    let g : IsStep ms xs s rest os ys z left = f r.holds in
    record {
      same = λ n b. r.same n b ∙ g.same n (omega (arith, r.shorter, b));
      holds = g.holds;
      grown = grown_on ns ms os r.grown g.grown;
      shorter = omega (arith, r.shorter, g.shorter);
    }

pub less_to_do : (ns : List TypeForm) (tokens : List Token) (ms : List TypeForm) (xs : List Awaiting) (s : Place) (rest : List Token) (os : List TypeForm) (ys : List Awaiting) (z : Place) (left : List Token) → IsReading ns tokens ms xs s rest
    → (Holds (types_of ms) xs s → IsStep ms xs s rest os ys z left) → 2 * length left + length ys < 2 * length rest + length xs
less_to_do ns tokens ms xs s rest os ys z left r f = (f r.holds).less

-- the end
pub record IsRead (ns : List TypeForm) (tokens : List Token) (os : List TypeForm) (p : Part) (left : List Token) : Type 0 where
  pub reads : (n : ℕ) → length tokens ≤ n → read n begin tokens ≡ Some (at (types_of os) p.root, left)
  pub part : IsPart (types_of os) p
  pub grown : (fs : List TypeForm) × (os ≡ ns ++ fs)

pub ends : (ns : List TypeForm) (tokens : List Token) (ms : List TypeForm) (xs : List Awaiting) (s : Place) (rest : List Token) (os : List TypeForm) (p : Part) (left : List Token) → IsReading ns tokens ms xs s rest
    → (Holds (types_of ms) xs s → IsDone ms xs s rest os p left) → IsRead ns tokens os p left
ends ns tokens ms xs s rest os p left r f =
    let g : IsDone ms xs s rest os p left = f r.holds in
    record { reads = λ n b. r.same n b ∙ g.reads n (omega (arith, r.shorter, b)); part = g.part; grown = grown_on ns ms os r.grown g.grown }

pub ends_stuck : (ns : List TypeForm) (tokens : List Token) (ms : List TypeForm) (xs : List Awaiting) (s : Place) (rest : List Token) → IsReading ns tokens ms xs s rest
    → (Holds (types_of ms) xs s → (n : ℕ) → length rest ≤ n → value n (types_of ms) xs s rest ≡ None) → (n : ℕ) → length tokens ≤ n → read n begin tokens ≡ None
ends_stuck ns tokens ms xs s rest r f n b = r.same n b ∙ f r.holds n (omega (arith, r.shorter, b))
