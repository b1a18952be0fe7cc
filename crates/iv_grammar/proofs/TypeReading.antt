-- A reader of types, as a function with fuel, and that it reads whatever belongs to the tokens: so there is one tree at most.
use Rattle.std.proofs.Common.{◌≡◌, ℕ, zero, suc, ◌<◌, ◌≤◌, List, [], ◌∷◌, ◌++◌, length, refl, ap, sym, ◌∙◌, subst, arith, append_assoc, append-nil, length-append}
use Rattle.std.specs.Prelude.{true, cond, None, Some}
use Rattle.iv_grammar.specs.declared.sign.Sign.TheVariants as sign
use Rattle.iv_grammar.specs.declared.cutting.Token.{Token}
use Rattle.iv_grammar.specs.declared.cutting.Token.TheVariants as token
pub use Rattle.iv_grammar.specs.TypeReader.{State, begin, got, Read, Reader, then_read, begun, closed, arrowed, grown, some_read, stop, read}
use Rattle.iv_grammar.specs.TypeTree.{Ty, var, con, paren, applied, round, square, more, tuple, arrow, arrows, ident, type_yield, is_more, type_goes_on, TypeSuits, TypeFits, TypeBelongs}

-- a tree that doesn't go on is read
stopped : (n : ℕ) (t : Ty) (after : List Token) → TypeSuits t after → read n (got t) after ≡ Some (t, after)
stopped zero t after s = ap (λ b. cond b None (stop t after)) s.stops ∙ ap (λ b. cond b None (some_read t after)) s.is_type
stopped (suc n) t after s = ap (λ b. cond b (grown (read n) t after) (stop t after)) s.stops ∙ ap (λ b. cond b None (some_read t after)) s.is_type

going : (n : ℕ) (t : Ty) (after : List Token) → type_goes_on t after ≡ true → read (suc n) (got t) after ≡ grown (read n) t after
going n t after h = rw h refl

-- with enough fuel, what is read first of some tokens is this tree
pub record Leads (z : Ty) (after : List Token) (n : ℕ) (tokens : List Token) : Type 0 where
  pub fuel : ℕ
  pub reads : read n begin tokens ≡ read fuel (got z) after
  pub enough : length after ≤ fuel

abbrev pub Reads : Ty → List Token → Type 0
Reads z after = (n : ℕ) → length (type_yield z ++ after) ≤ n → Leads z after n (type_yield z ++ after)

-- a whole operand
operand : (u : Ty) (after : List Token) → TypeSuits u after → Reads u after → (n : ℕ) → length (type_yield u ++ after) ≤ n → read n begin (type_yield u ++ after) ≡ Some (u, after)
operand u after s r n h = let l = r n h in l.reads ∙ stopped l.fuel u after s

-- a tree leads on to a larger one by one step
stepped : (t z : Ty) (tokens mid after : List Token) (n : ℕ) → Leads t mid n tokens → type_goes_on t mid ≡ true → length after < length mid
    → ((m : ℕ) → length mid ≤ suc m → grown (read m) t mid ≡ read m (got z) after) → Leads z after n tokens
stepped t z tokens mid after n l goes less f = by_fuel l.fuel l.reads l.enough
  where
    by_fuel : (k : ℕ) → read n begin tokens ≡ read k (got t) mid → length mid ≤ k → Leads z after n tokens
    by_fuel zero e h = absurd (omega (arith, less, h))
    by_fuel (suc m) e h = record { fuel = m; reads = e ∙ (going m t mid goes ∙ f m h); enough = omega (arith, less, h) }

pub more_closes : (run : Reader) (ts : Ty) (c : List ℕ) (after : List Token) → is_more ts ≡ true → closed run ts (ident c ∷ after) ≡ run (got (tuple ts c)) after
more_closes run (more ts t) c after h = refl
more_closes run (var x) c after h = cc
more_closes run (con x) c after h = cc
more_closes run (paren t) c after h = cc
more_closes run (applied t x) c after h = cc
more_closes run (round t) c after h = cc
more_closes run (square t) c after h = cc
more_closes run (tuple t x) c after h = cc
more_closes run (arrow t u) c after h = cc
more_closes run (arrows t u) c after h = cc

moved : (z : Ty) (n : ℕ) (after xs ys : List Token) → xs ≡ ys → (length ys ≤ n → Leads z after n ys) → length xs ≤ n → Leads z after n xs
moved z n after xs ys e f h = subst (λ ts. Leads z after n ts) (sym e) (f (omega (arith, ap length e, h)))

then_some : (r : Read) (t : Ty) (after : List Token) (f : Ty → List Token → Read) → r ≡ Some (t, after) → then_read r f ≡ f t after
then_some r t after f e = ap (λ x. then_read x f) e

open_leads : (make : Ty → Ty) (k : Token) (t : Ty) (rest : List Token) (n : ℕ) → ((m : ℕ) → begun (read m) (k ∷ (type_yield t ++ rest)) ≡ then_read (read m begin (type_yield t ++ rest)) (λ u after. read m (got (make u)) after))
    → TypeSuits t rest → Reads t rest → length (k ∷ (type_yield t ++ rest)) ≤ n → Leads (make t) rest n (k ∷ (type_yield t ++ rest))
open_leads make k t rest zero f s r h = absurd (omega (arith, h))
open_leads make k t rest (suc m) f s r h = record {
  fuel = m;
  reads = f m ∙ then_some (read m begin (type_yield t ++ rest)) t rest (λ u after. read m (got (make u)) after) (operand t rest s r m (omega (arith, h)));
  enough = omega (arith, h, length-append (type_yield t) rest);
}

pub type_reads : (z : Ty) (after : List Token) → TypeFits z after → Reads z after
type_reads (var x) after f zero h = absurd (omega (arith, h))
type_reads (var x) after f (suc n) h = record { fuel = n; reads = refl; enough = omega (arith, h) }
type_reads (con x) after f zero h = absurd (omega (arith, h))
type_reads (con x) after f (suc n) h = record { fuel = n; reads = refl; enough = omega (arith, h) }
type_reads (round t) after f n h =
    open_leads round (token.Sign sign.Open) t after n (λ m. refl) (f.0) (type_reads t after (f.1)) h
type_reads (square t) after f n h =
    open_leads square (token.Sign sign.OpenTypes) t after n (λ m. refl) (f.0) (type_reads t after (f.1)) h
type_reads (paren t) after f n h =
    let close : List Token = token.Sign sign.Close ∷ after in
    moved (paren t) n after (type_yield (paren t) ++ after) (token.Sign sign.Open ∷ (type_yield t ++ close)) (ap (λ ts. token.Sign sign.Open ∷ ts) (append_assoc (type_yield t) (token.Sign sign.Close ∷ []) after))
    (λ k.
    stepped (round t) (paren t) (token.Sign sign.Open ∷ (type_yield t ++ close)) close after n
    (open_leads round (token.Sign sign.Open) t close n (λ m. refl) (f.0) (type_reads t close (f.1)) k) refl (omega arith) (λ m g. refl)) h
type_reads (applied t c) after f n h =
    moved (applied t c) n after (type_yield (applied t c) ++ after) (type_yield t ++ ident c ∷ after) (append_assoc (type_yield t) (ident c ∷ []) after)
    (λ k. stepped t (applied t c) (type_yield t ++ ident c ∷ after) (ident c ∷ after) after n (type_reads t (ident c ∷ after) (f.1) n k) (f.0) (omega arith) (λ m g. refl)) h
type_reads (more ts t) after f n h =
    let mid : List Token = token.Sign sign.Comma ∷ (type_yield t ++ after) in
    moved (more ts t) n after (type_yield (more ts t) ++ after) (type_yield ts ++ mid) (append_assoc (type_yield ts) (token.Sign sign.Comma ∷ type_yield t) after)
    (λ k. stepped ts (more ts t) (type_yield ts ++ mid) mid after n (type_reads ts mid (f.1.0) n k) (f.0) (omega (arith, length-append (type_yield t) after))
    (λ m g. then_some (read m begin (type_yield t ++ after)) t after (λ u rest. read m (got (more ts u)) rest) (operand t after (f.1.1.0) (type_reads t after (f.1.1.1)) m (omega (arith, g))))) h
type_reads (tuple ts c) after f n h =
    let mid : List Token = token.Sign sign.Close ∷ ident c ∷ after in
    moved (tuple ts c) n after (type_yield (tuple ts c) ++ after) (type_yield ts ++ mid) (append_assoc (type_yield ts) (token.Sign sign.Close ∷ ident c ∷ []) after)
    (λ k. stepped ts (tuple ts c) (type_yield ts ++ mid) mid after n (type_reads ts mid (f.1.1) n k) (f.0) (omega arith) (λ m g. more_closes (read m) ts c after (f.1.0))) h
type_reads (arrow t u) after f n h =
    let mid : List Token = token.Sign sign.Arrow ∷ (type_yield u ++ after) in
    moved (arrow t u) n after (type_yield (arrow t u) ++ after) (type_yield t ++ mid) (append_assoc (type_yield t) (token.Sign sign.Arrow ∷ type_yield u) after)
    (λ k. stepped t (arrow t u) (type_yield t ++ mid) mid after n (type_reads t mid (f.1.0) n k) (f.0) (omega (arith, length-append (type_yield u) after))
    (λ m g. then_some (read m begin (type_yield u ++ after)) u after (λ x rest. read m (got (arrow t x)) rest) (operand u after (f.1.1.0) (type_reads u after (f.1.1.1)) m (omega (arith, g))))) h
type_reads (arrows ts u) after f n h =
    let mid : List Token = token.Sign sign.CloseTypes ∷ token.Sign sign.Arrow ∷ (type_yield u ++ after) in
    moved (arrows ts u) n after (type_yield (arrows ts u) ++ after) (type_yield ts ++ mid) (append_assoc (type_yield ts) (token.Sign sign.CloseTypes ∷ token.Sign sign.Arrow ∷ type_yield u) after)
    (λ k. stepped ts (arrows ts u) (type_yield ts ++ mid) mid after n (type_reads ts mid (f.1.0) n k) (f.0) (omega (arith, length-append (type_yield u) after))
    (λ m g. then_some (read m begin (type_yield u ++ after)) u after (λ x rest. read m (got (arrows ts x)) rest) (operand u after (f.1.1.0) (type_reads u after (f.1.1.1)) m (omega (arith, g))))) h

-- a type is read whole, where its tokens are followed by what it doesn't take
pub type_read : (t : Ty) (after : List Token) → TypeSuits t after → TypeFits t after → (n : ℕ) → length (type_yield t ++ after) ≤ n → read n begin (type_yield t ++ after) ≡ Some (t, after)
type_read t after s f = operand t after s (type_reads t after f)

abbrev first_or : Ty → Read → Ty
first_or t None = t
first_or t (Some r) = r.0

pub one_type : (tokens : List Token) (t u : Ty) → TypeBelongs tokens t → TypeBelongs tokens u → t ≡ u
one_type tokens t u b c =
    let first : read (length tokens) begin tokens ≡ Some (t, []) = whole t b in
    let second : read (length tokens) begin tokens ≡ Some (u, []) = whole u c in
    ap (first_or t) (sym first ∙ second)
  where
    whole : (z : Ty) → TypeBelongs tokens z → read (length tokens) begin tokens ≡ Some (z, [])
    whole z d =
        let all : type_yield z ++ [] ≡ tokens = append-nil (type_yield z) ∙ d.yields in
        subst (λ ts. read (length tokens) begin ts ≡ Some (z, [])) all (type_read z [] d.suits d.fits (length tokens) (omega (arith, ap length all)))
