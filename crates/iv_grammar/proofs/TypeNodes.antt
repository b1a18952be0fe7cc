-- Nodes of types: what is entered changes no earlier tree, and each step of the parser keeps what is read.
use Rattle.std.proofs.Common.{◌≡◌, ℕ, ◌+◌, ◌*◌, ◌<◌, ◌≤◌, List, [], ◌∷◌, ◌++◌, length, map, max, refl, ap, sym, ◌∙◌, subst, arith, length-append, append-nil}
use Rattle.std.specs.Prelude.{true, false, cond, None, Some}
use Rattle.std.proofs.lemmas.List.{get_or_append_left, get_or_at, map-append}
use Rattle.iv_grammar.specs.declared.sign.Sign.TheVariants as sign
use Rattle.iv_grammar.specs.declared.words.Word.TheVariants as word
use Rattle.iv_grammar.specs.declared.cutting.Token.{Token}
use Rattle.iv_grammar.specs.declared.cutting.Token.TheVariants as token
use Rattle.iv_grammar.specs.declared.type_nodes.TypeForm.{TypeForm}
use Rattle.iv_grammar.specs.declared.type_nodes.Kind.{Kind}
use Rattle.iv_grammar.specs.declared.type_nodes.Kind.TheVariants as kind
use Rattle.iv_grammar.specs.declared.type_nodes.Part.{Part}
use Rattle.iv_grammar.specs.declared.type_nodes.Awaiting.{Awaiting}
use Rattle.iv_grammar.specs.declared.type_nodes.Awaiting.TheVariants as awaiting
use Rattle.iv_grammar.specs.declared.type_nodes.Place.{Place}
use Rattle.iv_grammar.specs.declared.type_nodes.Place.TheVariants as place
use Rattle.iv_grammar.specs.TypeTree.{Ty, con, round, more, is_atom, is_round, is_square, is_types, type_depth, type_goes_on}
use Rattle.iv_grammar.specs.TypeReader.{begin, got, read, some_read, then_read, with_types, with_left, with_arguments, make, goes, resume}
use Rattle.iv_grammar.specs.TypeNode.{at, shape, types_from, types_of, capped, types_kind, more_kind, takes_any, HasItems, IsKind, IsPart, IsAwaiting, AreAwaiting, kind_by, depth_by, frame_of, state_of, value, Holds, IsStep}
use Rattle.iv_grammar.proofs.TypeStack.{pushed, popped, failed, stops}

types_from-append : (ts : List Ty) (fs gs : List TypeForm) → types_from ts (fs ++ gs) ≡ types_from (types_from ts fs) gs
types_from-append ts [] gs = refl
types_from-append ts (f ∷ fs) gs = types_from-append (ts ++ shape ts f ∷ []) fs gs

pub entered : (ns : List TypeForm) (f : TypeForm) → types_of (ns ++ f ∷ []) ≡ types_of ns ++ shape (types_of ns) f ∷ []
entered ns f = types_from-append [] ns (f ∷ [])

types_from-length : (ts : List Ty) (fs : List TypeForm) → length (types_from ts fs) ≡ length ts + length fs
types_from-length ts [] = omega arith
types_from-length ts (f ∷ fs) = omega (arith, types_from-length (ts ++ shape ts f ∷ []) fs, length-append ts (shape ts f ∷ []))

pub types-length : (ns : List TypeForm) → length (types_of ns) ≡ length ns
types-length ns = omega (arith, types_from-length [] ns)

at_old : (ts : List Ty) (t : Ty) (i : ℕ) → i < length ts → at (ts ++ t ∷ []) i ≡ at ts i
at_old ts t i h = get_or_append_left ts (t ∷ []) (con []) i h

at_new : (ts : List Ty) (t : Ty) (n : ℕ) → length ts ≡ n → at (ts ++ t ∷ []) n ≡ t
at_new ts t n h = get_or_at ts t [] (con []) n h

-- what is kept of earlier nodes
items_kept : (ts : List Ty) (u : Ty) (k : Kind) (t : Ty) → HasItems ts k t → HasItems (ts ++ u ∷ []) k t
items_kept ts u (kind.Round i) t h = ((omega (arith, h.0, length-append ts (u ∷ []))), (h.1 ∙ ap round (sym (at_old ts u i h.0))))
items_kept ts u kind.Rounds t h = h
items_kept ts u kind.Atom t h = tt
items_kept ts u kind.Square t h = tt
items_kept ts u kind.Arrow t h = tt

kind_kept : (ts : List Ty) (u : Ty) (k : Kind) (t : Ty) → IsKind ts k t → IsKind (ts ++ u ∷ []) k t
kind_kept ts u k t h = record {
  atom = h.atom;
  round = h.round;
  square = h.square;
  types = h.types;
  items = items_kept ts u k t h.items;
}

part_kept : (ts : List Ty) (u : Ty) (p : Part) → IsPart ts p → IsPart (ts ++ u ∷ []) p
part_kept ts u p h =
    let e : at ts p.root ≡ at (ts ++ u ∷ []) p.root = sym (at_old ts u p.root h.within) in
    record {
      within = omega (arith, h.within, length-append ts (u ∷ []));
      kind = subst (λ t. IsKind (ts ++ u ∷ []) p.kind t) e (kind_kept ts u p.kind (at ts p.root) h.kind);
      depth = h.depth ∙ ap (λ t. capped (type_depth t)) e;
    }

awaiting_kept : (ts : List Ty) (u : Ty) (x : Awaiting) → IsAwaiting ts x → IsAwaiting (ts ++ u ∷ []) x
awaiting_kept ts u awaiting.Round h = tt
awaiting_kept ts u awaiting.Square h = tt
awaiting_kept ts u (awaiting.More p) h = (part_kept ts u p h.0, h.1)
awaiting_kept ts u (awaiting.Arrow p) h = part_kept ts u p h
awaiting_kept ts u (awaiting.Arrows p) h = part_kept ts u p h

all_kept : (ts : List Ty) (u : Ty) (xs : List Awaiting) → AreAwaiting ts xs → AreAwaiting (ts ++ u ∷ []) xs
all_kept ts u [] h = tt
all_kept ts u (x ∷ xs) h = (awaiting_kept ts u x h.0, all_kept ts u xs h.1)

frame_kept : (ts : List Ty) (u : Ty) (x : Awaiting) → IsAwaiting ts x → frame_of (ts ++ u ∷ []) x ≡ frame_of ts x
frame_kept ts u awaiting.Round h = refl
frame_kept ts u awaiting.Square h = refl
frame_kept ts u (awaiting.More p) h = ap with_types (at_old ts u p.root h.0.within)
frame_kept ts u (awaiting.Arrow p) h = ap with_left (at_old ts u p.root h.within)
frame_kept ts u (awaiting.Arrows p) h = ap with_arguments (at_old ts u p.root h.within)

frames_kept : (ts : List Ty) (u : Ty) (xs : List Awaiting) → AreAwaiting ts xs → map (frame_of (ts ++ u ∷ [])) xs ≡ map (frame_of ts) xs
frames_kept ts u [] h = refl
frames_kept ts u (x ∷ xs) h = ap (λ f. f ∷ map (frame_of (ts ++ u ∷ [])) xs) (frame_kept ts u x h.0) ∙ ap (λ fs. frame_of ts x ∷ fs) (frames_kept ts u xs h.1)

all_and : (ts : List Ty) (xs : List Awaiting) (x : Awaiting) → AreAwaiting ts xs → IsAwaiting ts x → AreAwaiting ts (xs ++ x ∷ [])
all_and ts [] x h k = (k, tt)
all_and ts (y ∷ ys) x h k = (h.0, all_and ts ys x h.1 k)

all_front : (ts : List Ty) (xs : List Awaiting) (x : Awaiting) → AreAwaiting ts (xs ++ x ∷ []) → AreAwaiting ts xs
all_front ts [] x h = tt
all_front ts (y ∷ ys) x h = (h.0, all_front ts ys x h.1)

all_last : (ts : List Ty) (xs : List Awaiting) (x : Awaiting) → AreAwaiting ts (xs ++ x ∷ []) → IsAwaiting ts x
all_last ts [] x h = h.0
all_last ts (y ∷ ys) x h = all_last ts ys x h.1

-- a tree that is entered
pub record IsMade (ts : List Ty) (k : Kind) (d : ℕ) (t : Ty) : Type 0 where
  pub kind : IsKind ts k t
  pub depth : d ≡ capped (type_depth t)

pub atom_made : (ts : List Ty) (t : Ty) (d : ℕ) → is_atom t ≡ true → is_round t ≡ false → is_square t ≡ false → is_types t ≡ false → d ≡ capped (type_depth t) → IsMade ts kind.Atom d t
atom_made ts t d a r s l e = record { kind = record { atom = a; round = r; square = s; types = l; items = tt }; depth = e }

pub raised : (d e : ℕ) → d ≡ capped e → capped (d + 1) ≡ capped (e + 1)
raised d e h = rw h (omega arith)

joined : (a b c d : ℕ) → a ≡ capped c → b ≡ capped d → max a b ≡ capped (max c d)
joined a b c d h k = rw (h, k) (omega arith)

more_made : (ts : List Ty) (k : Kind) (t u : Ty) → IsKind ts k t → types_kind k ≡ true → IsKind ts (more_kind k) (more t u)
more_made ts kind.Atom t u h l = cc
more_made ts (kind.Round i) t u h l = record { atom = refl; round = h.round; square = h.square; types = refl; items = refl }
more_made ts kind.Rounds t u h l = record { atom = refl; round = h.round; square = h.square; types = refl; items = refl }
more_made ts kind.Square t u h l = record { atom = refl; round = h.round; square = h.square; types = refl; items = tt }
more_made ts kind.Arrow t u h l = cc

pub frame_made : (ts : List Ty) (x : Awaiting) (p : Part) → IsAwaiting ts x → IsPart ts p → IsMade ts (kind_by x p.root) (depth_by x p.depth) (make (frame_of ts x) (at ts p.root))
frame_made ts awaiting.Round p h i = record {
  kind = record { atom = refl; round = refl; square = refl; types = refl; items = (i.within, refl) };
  depth = i.depth;
}
frame_made ts awaiting.Square p h i = record { kind = record { atom = refl; round = refl; square = refl; types = refl; items = tt }; depth = i.depth }
frame_made ts (awaiting.More q) p h i = record { kind = more_made ts q.kind (at ts q.root) (at ts p.root) h.0.kind h.1; depth = joined q.depth p.depth _ _ h.0.depth i.depth }
frame_made ts (awaiting.Arrow q) p h i = record { kind = record { atom = refl; round = refl; square = refl; types = refl; items = tt }; depth = raised (max q.depth p.depth) _ (joined q.depth p.depth _ _ h.depth i.depth) }
frame_made ts (awaiting.Arrows q) p h i = record { kind = record { atom = refl; round = refl; square = refl; types = refl; items = tt }; depth = raised (max q.depth p.depth) _ (joined q.depth p.depth _ _ h.depth i.depth) }

new_part : (ts : List Ty) (t : Ty) (k : Kind) (d n : ℕ) → length ts ≡ n → IsMade ts k d t → IsPart (ts ++ t ∷ []) (record { root = n; kind = k; depth = d })
new_part ts t k d n h m =
    let e : t ≡ at (ts ++ t ∷ []) n = sym (at_new ts t n h) in
    record {
      within = omega (arith, h, length-append ts (t ∷ []));
      kind = subst (λ u. IsKind (ts ++ t ∷ []) k u) e (kind_kept ts t k t m.kind);
      depth = m.depth ∙ ap (λ u. capped (type_depth u)) e;
    }

-- a tree is entered, and the parser stands behind it
put_step : (ns : List TypeForm) (f : TypeForm) (k : Kind) (d : ℕ) (xs ys : List Awaiting) (s : Place) (rest left : List Token) → IsMade (types_of ns) k d (shape (types_of ns) f)
    → ((n : ℕ) → length rest ≤ n → value n (types_of ns) xs s rest ≡ resume (read n) (map (frame_of (types_of ns)) ys) (read n (got (shape (types_of ns) f)) left)) → length left ≤ length rest
    → 2 * length left + length ys < 2 * length rest + length xs → AreAwaiting (types_of ns) ys → IsStep ns xs s rest (ns ++ f ∷ []) ys (place.Got (record { root = length ns; kind = k; depth = d })) left
put_step ns f k d xs ys s rest left m e shorter less h =
    let ts : List Ty = types_of ns in
    let t : Ty = shape ts f in
    let p : Part = record { root = length ns; kind = k; depth = d } in
    let new : ts ++ t ∷ [] ≡ types_of (ns ++ f ∷ []) = sym (entered ns f) in
    record {
      same = λ n b.
          e n b
          ∙ (ap (λ fs. resume (read n) fs (read n (got t) left)) (sym (frames_kept ts t ys h))
          ∙ (ap (λ z. resume (read n) (map (frame_of (ts ++ t ∷ [])) ys) (read n (got z) left)) (sym (at_new ts t (length ns) (types-length ns))) ∙ ap (λ us. value n us ys (place.Got p) left) new));
      holds = subst (λ us. Holds us ys (place.Got p)) new (record { frames = all_kept ts t ys h; place = new_part ts t k d (length ns) (types-length ns) m });
      grown = (f ∷ [], refl);
      shorter = shorter;
      less = less;
    }

pub got_step : (ns : List TypeForm) (f : TypeForm) (k : Kind) (d : ℕ) (xs : List Awaiting) (s : Place) (rest left : List Token) → IsMade (types_of ns) k d (shape (types_of ns) f)
    → ((n : ℕ) → length rest ≤ n → read n (state_of (types_of ns) s) rest ≡ read n (got (shape (types_of ns) f)) left) → length left < length rest → Holds (types_of ns) xs s
    → IsStep ns xs s rest (ns ++ f ∷ []) xs (place.Got (record { root = length ns; kind = k; depth = d })) left
got_step ns f k d xs s rest left m e less h =
    put_step ns f k d xs xs s rest left m (λ n b. ap (resume (read n) (map (frame_of (types_of ns)) xs)) (e n b)) (omega (arith, less)) (omega (arith, less)) h.frames

-- something is put off
pub open_step : (ns : List TypeForm) (xs : List Awaiting) (x : Awaiting) (s : Place) (rest left : List Token) → IsAwaiting (types_of ns) x
    → ((n : ℕ) → length rest ≤ n → read n (state_of (types_of ns) s) rest ≡ then_read (read n begin left) (goes (read n) (frame_of (types_of ns) x))) → length left < length rest → Holds (types_of ns) xs s
    → IsStep ns xs s rest ns (xs ++ x ∷ []) place.Begin left
open_step ns xs x s rest left i e less h =
    let ts : List Ty = types_of ns in
    record {
      same = λ n b.
          ap (resume (read n) (map (frame_of ts) xs)) (e n b)
          ∙ (sym (pushed (read n) (map (frame_of ts) xs) (frame_of ts x) (read n begin left)) ∙ ap (λ gs. resume (read n) gs (read n begin left)) (sym (map-append (frame_of ts) xs (x ∷ []))));
      holds = record { frames = all_and ts xs x h.frames i; place = tt };
      grown = ([], sym (append-nil ns));
      shorter = omega (arith, less);
      less = omega (arith, less, length-append xs (x ∷ []));
    }

-- a type is read, and what was put off for it is done
pub close_step : (ns : List TypeForm) (f : TypeForm) (xs : List Awaiting) (x : Awaiting) (p : Part) (rest : List Token) → shape (types_of ns) f ≡ make (frame_of (types_of ns) x) (at (types_of ns) p.root)
    → ((n : ℕ) → length rest ≤ n → read n (got (at (types_of ns) p.root)) rest ≡ Some (at (types_of ns) p.root, rest)) → Holds (types_of ns) (xs ++ x ∷ []) (place.Got p)
    → IsStep ns (xs ++ x ∷ []) (place.Got p) rest (ns ++ f ∷ []) xs (place.Got (record { root = length ns; kind = kind_by x p.root; depth = depth_by x p.depth })) rest
close_step ns f xs x p rest q e h =
    let ts : List Ty = types_of ns in
    let t : Ty = at ts p.root in
    put_step ns f (kind_by x p.root) (depth_by x p.depth) (xs ++ x ∷ []) xs (place.Got p) rest rest
    (subst (λ u. IsMade ts (kind_by x p.root) (depth_by x p.depth) u) (sym q) (frame_made ts x p (all_last ts xs x h.frames) h.place))
    (λ n b.
    ap (λ fs. resume (read n) fs (read n (got t) rest)) (map-append (frame_of ts) xs (x ∷ []))
    ∙ (ap (resume (read n) (map (frame_of ts) xs ++ frame_of ts x ∷ [])) (e n b)
    ∙ (popped (read n) (map (frame_of ts) xs) (frame_of ts x) t rest ∙ ap (λ u. resume (read n) (map (frame_of ts) xs) (read n (got u) rest)) (sym q)))) (omega arith) (omega (arith, length-append xs (x ∷ []))) (all_front ts xs x h.frames)

-- nothing is read
pub stuck_by : (ns : List TypeForm) (xs : List Awaiting) (s : Place) (rest : List Token) → ((n : ℕ) → length rest ≤ n → read n (state_of (types_of ns) s) rest ≡ None) → (n : ℕ) → length rest ≤ n → value n (types_of ns) xs s rest ≡ None
stuck_by ns xs s rest e n b = ap (resume (read n) (map (frame_of (types_of ns)) xs)) (e n b) ∙ failed (read n) (map (frame_of (types_of ns)) xs)

-- which tokens a tree goes on with
pub takes_is : (ts : List Ty) (k : Kind) (t : Ty) (tokens : List Token) → IsKind ts k t → type_goes_on t tokens ≡ takes_any tokens k
takes_is ts k t [] h = refl
takes_is ts k t (token.Word word.Ident x ∷ rest) h = h.atom
takes_is ts k t (token.Sign sign.Arrow ∷ rest) h = h.atom
takes_is ts k t (token.Sign sign.Comma ∷ rest) h = h.types
takes_is ts k t (token.Sign sign.Close ∷ rest) h = h.round
takes_is ts k t (token.Sign sign.CloseTypes ∷ rest) h = h.square
takes_is ts k t tokens h = refl

-- where a tree doesn't go on
pub reads_whole : (ts : List Ty) (p : Part) (rest : List Token) → IsPart ts p → takes_any rest p.kind ≡ false → types_kind p.kind ≡ false → (n : ℕ) → length rest ≤ n → read n (got (at ts p.root)) rest ≡ Some (at ts p.root, rest)
reads_whole ts p rest i g l n b =
    let t : Ty = at ts p.root in
    stops n t rest b (takes_is ts p.kind t rest i.kind ∙ g) ∙ ap (λ c. cond c None (some_read t rest)) (i.kind.types ∙ l)

pub reads_none : (ts : List Ty) (p : Part) (rest : List Token) → IsPart ts p → takes_any rest p.kind ≡ false → types_kind p.kind ≡ true → (n : ℕ) → length rest ≤ n → read n (got (at ts p.root)) rest ≡ None
reads_none ts p rest i g l n b =
    let t : Ty = at ts p.root in
    stops n t rest b (takes_is ts p.kind t rest i.kind ∙ g) ∙ ap (λ c. cond c None (some_read t rest)) (i.kind.types ∙ l)
