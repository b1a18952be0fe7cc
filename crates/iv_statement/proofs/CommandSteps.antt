-- The commands of a document: each is the one that its piece is read as, and they stand in order.
use Rattle.std.proofs.Common.{◌≡◌, ◌∙◌, ◌≤◌, ◌<◌, ◌+◌, ℕ, zero, suc, not, List, [], ◌∷◌, ◌++◌, length, get_or, take, map, flat_map, refl, sym, ap, subst, inl, inr, arith}
use Rattle.std.specs.List.{All, AllPairs}
use Rattle.std.proofs.lemmas.List.{take_more, take_all, map-append}
use Rattle.std.proofs.lemmas.List.Kept.{AllPairs-cons}
use Rattle.std.proofs.lemmas.List.Sums.{prefix_len-le-length}
use Rattle.iv_text.specs.declared.Pos.{Pos}
use Rattle.iv_lex.specs.declared.cutting.Token.{Token}
use Rattle.iv_lex.specs.Token.{tokens_of}
use Rattle.iv_lex.specs.Place.{AreInOrder}
use Rattle.iv_outer.specs.declared.pieces.Piece.{Piece}
use Rattle.iv_outer.specs.Piece.{begins, plain_more, pieces_from, pieces_of}
use Rattle.iv_outer.specs.Command.{HasPlace}
use Rattle.iv_statement.specs.declared.commands.Command.{Command}
use Rattle.iv_statement.specs.Command.{place_in, run_of, runs_of, AreEach, IsBuilt, IsRead, IsRun, IsNoLater, StandsIn}
use Rattle.iv_statement.proofs.TokenOrder.{few_tokens}

-- what is known of each is what is built of each
pub each_built : (tss : List (List Token)) (cs : List Command) → AreEach IsRead tss cs → AreEach IsBuilt tss cs
each_built [] [] h = tt
each_built [] (c ∷ cs) h = absurd h
each_built (ts ∷ tss) [] h = absurd h
each_built (ts ∷ tss) (c ∷ cs) h = (h.0.built, each_built tss cs h.1)

-- and there are no others
pub each_only : (tss : List (List Token)) (cs ds : List Command) → AreEach IsRead tss cs → AreEach IsBuilt tss ds → ds ≡ cs
each_only [] [] [] h k = refl
each_only [] [] (d ∷ ds) h k = absurd k
each_only [] (c ∷ cs) ds h k = absurd h
each_only (ts ∷ tss) [] ds h k = absurd h
each_only (ts ∷ tss) (c ∷ cs) [] h k = absurd k
each_only (ts ∷ tss) (c ∷ cs) (d ∷ ds) h k = (λ i. h.0.only d k.0 i ∷ each_only tss cs ds h.1 k.1 i)

-- one more
each_push : (R : List Token → Command → Type 0) (tss : List (List Token)) (cs : List Command) (ts : List Token) (c : Command)
    → AreEach R tss cs → R ts c → AreEach R (tss ++ ts ∷ []) (cs ++ c ∷ [])
each_push R [] [] ts c h r = (r, tt)
each_push R [] (d ∷ ds) ts c h r = absurd h
each_push R (us ∷ tss) [] ts c h r = absurd h
each_push R (us ∷ tss) (d ∷ ds) ts c h r = (h.0, each_push R tss ds ts c h.1 r)

pub each_more : (tokens run : List Token) (pieces : List Piece) (i : ℕ) (found all : List Command) (c : Command) (d : Piece) → i < length pieces
    → run ≡ run_of tokens (get_or pieces i d) → all ≡ found ++ c ∷ [] → AreEach IsRead (map (run_of tokens) (take i pieces)) found → IsRead run c
    → AreEach IsRead (map (run_of tokens) (take (i + 1) pieces)) all
each_more tokens run pieces i found all c d lt is pushed h r =
    let runs : map (run_of tokens) (take (i + 1) pieces) ≡ map (run_of tokens) (take i pieces) ++ run ∷ [] =
    ap (map (run_of tokens)) (take_more pieces i d lt) ∙ map-append (run_of tokens) (take i pieces) (get_or pieces i d ∷ [])
    ∙ ap (λ u. map (run_of tokens) (take i pieces) ++ u ∷ []) (sym is) in
    rw (runs, pushed) (each_push IsRead (map (run_of tokens) (take i pieces)) found run c h r)

pub each_all : (tokens : List Token) (pieces : List Piece) (n : ℕ) (found : List Command) → length pieces ≤ n
    → AreEach IsRead (map (run_of tokens) (take n pieces)) found → AreEach IsRead (map (run_of tokens) pieces) found
each_all tokens pieces n found le h = subst (λ ps. AreEach IsRead (map (run_of tokens) ps) found) (take_all n pieces le) h

-- pieces aren't empty, and lie in the tokens
within : (n at : ℕ) (ts : List Token) → All (λ (p : Piece). (0 < p.count) × (p.first + p.count ≤ at + length ts)) (pieces_from n at ts)
within n at [] i d l = absurd (omega arith)
within (suc n) at (t ∷ ts) i d l = let r = within n (at + 1) ts i d l in (r.0, omega (arith, r.1))
within zero at (t ∷ ts) zero d l = (omega arith, omega (arith, prefix_len-le-length (λ u. not (begins u)) ts))
within zero at (t ∷ ts) (suc i) d l = let r = within (plain_more ts) (at + 1) ts i d (omega (arith, l)) in (r.0, omega (arith, r.1))

all_runs : (tokens : List Token) → All (IsRun tokens) (pieces_of tokens)
all_runs tokens i d l = let r = within 0 0 tokens i d l in record { nonempty = r.0; inside = omega (arith, r.1) }

pub runs_in : (tokens : List Token) (pieces : List Piece) → pieces ≡ pieces_of tokens → All (IsRun tokens) pieces
runs_in tokens pieces e = subst (λ ps. All (IsRun tokens) ps) (sym e) (all_runs tokens)

-- tokens in order, cut in two
cut : (lo hi : ℕ) (xs ys : List Token) → AreInOrder lo hi (xs ++ ys) → (mid : ℕ) × (AreInOrder lo mid xs × AreInOrder mid hi ys)
cut lo hi [] ys h = (lo, (omega arith, h))
cut lo hi (x ∷ xs) ys h = let r = cut x.end.0 hi xs ys h.2 in (r.0, ((h.0, h.1, r.1.0), r.1.1))

-- a place of a token is between the places that the tokens are between
placed_between : (lo hi : ℕ) (p : Pos) (ts : List Token) → AreInOrder lo hi ts → HasPlace p ts → (lo ≤ p.0) × (p.0 ≤ hi)
placed_between lo hi p [] h k = absurd k
placed_between lo hi p (t ∷ ts) h (inl (inl e)) =
    let same : p.0 ≡ t.at.0 = ap (λ q. q.0) e in
    let few = few_tokens t.end.0 hi ts h.2 in
    (omega (arith, h.0, same), omega (arith, h.1, few, same))
placed_between lo hi p (t ∷ ts) h (inl (inr e)) =
    let same : p.0 ≡ t.end.0 = ap (λ q. q.0) e in
    let few = few_tokens t.end.0 hi ts h.2 in
    (omega (arith, h.0, h.1, same), omega (arith, few, same))
placed_between lo hi p (t ∷ ts) h (inr k) =
    let r = placed_between t.end.0 hi p ts h.2 k in
    (omega (arith, h.0, h.1, r.0), r.1)

-- a command's places are between those of its piece
command_between : (lo hi : ℕ) (ts : List Token) (c : Command) → IsRead ts c → AreInOrder lo hi ts
    → (lo ≤ c.at.0) × ((c.at.0 ≤ (place_in c.at c.form).0) × ((place_in c.at c.form).0 ≤ hi))
command_between lo hi [] c h o = absurd h.placed
command_between lo hi (t ∷ ts) c h o =
    let first : c.at ≡ t.at = ap (λ d. d.at) h.built.1.1 ∙ h.built.1.0.at in
    let same : c.at.0 ≡ t.at.0 = ap (λ q. q.0) first in
    let from : AreInOrder t.at.0 hi (t ∷ ts) = (omega arith, o.1, o.2) in
    let r = placed_between t.at.0 hi (place_in c.at c.form) (t ∷ ts) from h.placed in
    (omega (arith, o.0, same), (omega (arith, r.0, same), r.1))

-- commands stand one after another, from one place up to another
abbrev pub AreBetween : ℕ → ℕ → List Command → Type 0
AreBetween lo hi [] = lo ≤ hi
AreBetween lo hi (c ∷ cs) =
    (mid : ℕ) × (((lo ≤ c.at.0) × ((c.at.0 ≤ (place_in c.at c.form).0) × ((place_in c.at c.form).0 ≤ mid))) × AreBetween mid hi cs)

pub between : (tokens : List Token) (pieces : List Piece) (lo hi : ℕ) (cs : List Command) → AreEach IsRead (map (run_of tokens) pieces) cs
    → AreInOrder lo hi (flat_map (run_of tokens) pieces) → AreBetween lo hi cs
between tokens [] lo hi [] h o = o
between tokens [] lo hi (c ∷ cs) h o = absurd h
between tokens (p ∷ ps) lo hi [] h o = absurd h
between tokens (p ∷ ps) lo hi (c ∷ cs) h o =
    let r = cut lo hi (run_of tokens p) (flat_map (run_of tokens) ps) o in
    (r.0, (command_between lo r.0 (run_of tokens p) c h.0 r.1.0, between tokens ps r.0 hi cs h.1 r.1.1))

low : (lo hi : ℕ) (cs : List Command) → AreBetween lo hi cs → lo ≤ hi
low lo hi [] h = h
low lo hi (c ∷ cs) h = omega (arith, low h.0 hi cs h.1.1, h.1.0.0, h.1.0.1.0, h.1.0.1.1)

behind : (lo hi : ℕ) (cs : List Command) → AreBetween lo hi cs → (i : ℕ) (d : Command) → i < length cs → lo ≤ (get_or cs i d).at.0
behind lo hi [] h i d l = absurd (omega arith)
behind lo hi (c ∷ cs) h zero d l = h.1.0.0
behind lo hi (c ∷ cs) h (suc i) d l = omega (arith, behind h.0 hi cs h.1.1 i d (omega arith), h.1.0.0, h.1.0.1.0, h.1.0.1.1)

-- none begins before one in front of it
pub in_order : (lo hi : ℕ) (cs : List Command) → AreBetween lo hi cs → AllPairs IsNoLater cs
in_order lo hi [] h = λ i j d lt l. absurd (omega arith)
in_order lo hi (c ∷ cs) h =
    AllPairs-cons IsNoLater c cs (λ i d l. omega (arith, behind h.0 hi cs h.1.1 i d l, h.1.0.1.0, h.1.0.1.1)) (in_order h.0 hi cs h.1.1)

-- all stand in the document
pub in_document : (document : List ℕ) (lo : ℕ) (cs : List Command) → AreBetween lo (length document) cs → All (StandsIn document) cs
in_document document lo [] h i d l = absurd (omega arith)
in_document document lo (c ∷ cs) h zero d l = record { forward = h.1.0.1.0; inside = omega (arith, h.1.0.1.1, low h.0 (length document) cs h.1.1) }
in_document document lo (c ∷ cs) h (suc i) d l = in_document document h.0 cs h.1.1 i d (omega arith)

-- the pieces of a document are those of its tokens
pub of_document : (document : List ℕ) (tokens : List Token) (pieces : List Piece) (cs : List Command) → tokens ≡ tokens_of document
    → pieces ≡ pieces_of tokens → AreEach IsRead (map (run_of tokens) pieces) cs → AreEach IsRead (runs_of (tokens_of document)) cs
of_document document tokens pieces cs e f h =
    subst (λ ts. AreEach IsRead (runs_of ts) cs) e (subst (λ ps. AreEach IsRead (map (run_of tokens) ps) cs) f h)

pub of_pieces : (to : ℕ) (tokens : List Token) (pieces : List Piece) (cs : List Command) → flat_map (run_of tokens) (pieces_of tokens) ≡ tokens
    → pieces ≡ pieces_of tokens → AreInOrder 0 to tokens → AreEach IsRead (map (run_of tokens) pieces) cs → AreBetween 0 to cs
of_pieces to tokens pieces cs joined f o h =
    between tokens pieces 0 to cs h (subst (AreInOrder 0 to) (sym (ap (flat_map (run_of tokens)) f ∙ joined)) o)
