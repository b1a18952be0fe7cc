-- More fuel than there are tokens changes nothing of what the reader of types reads.
use Rattle.std.proofs.Common.{◌≡◌, ℕ, zero, suc, ◌≤◌, List, [], ◌∷◌, length, refl, ap, sym, ◌∙◌, arith, length-append}
use Rattle.std.specs.Prelude.{cond, None, Some}
use Rattle.iv_grammar.specs.declared.sign.Sign.TheVariants as sign
use Rattle.iv_grammar.specs.declared.words.Word.TheVariants as word
use Rattle.iv_grammar.specs.declared.cutting.Token.{Token}
use Rattle.iv_grammar.specs.declared.cutting.Token.TheVariants as token
use Rattle.iv_grammar.specs.TypeTree.{Ty, var, con, paren, applied, round, square, more, tuple, arrow, arrows, type_yield, type_goes_on}
use Rattle.iv_grammar.proofs.TypeReading.{State, begin, got, Read, Reader, then_read, begun, closed, arrowed, grown, stop, read}
use Rattle.iv_grammar.proofs.TypeSound.{Whole, type_sound}

-- two readers agree on so many tokens
abbrev pub Agree : Reader → Reader → ℕ → Type 0
Agree run ran n = (s : State) (tokens : List Token) → length tokens ≤ n → run s tokens ≡ ran s tokens

-- what is left is no longer
abbrev pub Shrinks : Reader → Type 0
Shrinks run = (tokens : List Token) (t : Ty) (left : List Token) → run begin tokens ≡ Some (t, left) → length left ≤ length tokens

pub shrinks : (n : ℕ) → Shrinks (read n)
shrinks n tokens t left e =
    let w : Whole tokens t left = type_sound n begin tokens t left e in
    omega (arith, ap length w.yields, length-append (type_yield t) left)

then_same : (r : Read) (f g : Ty → List Token → Read) → ((u : Ty) (mid : List Token) → r ≡ Some (u, mid) → f u mid ≡ g u mid) → then_read r f ≡ then_read r g
then_same None f g h = refl
then_same (Some r) f g h = h r.0 r.1 refl

-- an operand and what comes of it
operand_same : (run ran : Reader) (n : ℕ) → Agree run ran n → Shrinks ran → (make : Ty → Ty) (rest : List Token) → length rest ≤ n
    → then_read (run begin rest) (λ u after. run (got (make u)) after) ≡ then_read (ran begin rest) (λ u after. ran (got (make u)) after)
operand_same run ran n a s make rest h =
    ap (λ r. then_read r (λ u after. run (got (make u)) after)) (a begin rest h)
    ∙ then_same (ran begin rest) (λ u after. run (got (make u)) after) (λ u after. ran (got (make u)) after) (λ u mid e. a (got (make u)) mid (omega (arith, h, s rest u mid e)))

begun_same : (run ran : Reader) (n : ℕ) → Agree run ran n → Shrinks ran → (tokens : List Token) → length tokens ≤ suc n → begun run tokens ≡ begun ran tokens
begun_same run ran n a s (token.Word word.Tvar x ∷ rest) h = a (got (var x)) rest (omega (arith, h))
begun_same run ran n a s (token.Word word.Ident x ∷ rest) h = a (got (con x)) rest (omega (arith, h))
begun_same run ran n a s (token.Sign sign.Open ∷ rest) h = operand_same run ran n a s round rest (omega (arith, h))
begun_same run ran n a s (token.Sign sign.OpenTypes ∷ rest) h = operand_same run ran n a s square rest (omega (arith, h))
begun_same run ran n a s tokens h = refl

tuple_same : (run ran : Reader) (n : ℕ) → Agree run ran n → (ts v : Ty) (rest : List Token) → length rest ≤ n → closed run (more ts v) rest ≡ closed ran (more ts v) rest
tuple_same run ran n a ts v (token.Word word.Ident c ∷ rest) h = a (got (tuple (more ts v) c)) rest (omega (arith, h))
tuple_same run ran n a ts v rest h = refl

other_same : (run ran : Reader) (n : ℕ) → Agree run ran n → (x : Ty) (rest : List Token) → length rest ≤ n → closed run x rest ≡ closed ran x rest
other_same run ran n a (round v) rest h = a (got (paren v)) rest h
other_same run ran n a (more ts v) rest h = tuple_same run ran n a ts v rest h
other_same run ran n a x (token.Word word.Ident c ∷ rest) h = a (got (tuple x c)) rest (omega (arith, h))
other_same run ran n a x rest h = refl

arrowed_same : (run ran : Reader) (n : ℕ) → Agree run ran n → Shrinks ran → (x : Ty) (rest : List Token) → length rest ≤ n → arrowed run x rest ≡ arrowed ran x rest
arrowed_same run ran n a s x (token.Sign sign.Arrow ∷ rest) h = operand_same run ran n a s (arrows x) rest (omega (arith, h))
arrowed_same run ran n a s x rest h = refl

grown_same : (run ran : Reader) (n : ℕ) → Agree run ran n → Shrinks ran → (x : Ty) (tokens : List Token) → length tokens ≤ suc n → grown run x tokens ≡ grown ran x tokens
grown_same run ran n a s x (token.Word word.Ident c ∷ rest) h = a (got (applied x c)) rest (omega (arith, h))
grown_same run ran n a s x (token.Sign sign.Arrow ∷ rest) h = operand_same run ran n a s (arrow x) rest (omega (arith, h))
grown_same run ran n a s x (token.Sign sign.Comma ∷ rest) h = operand_same run ran n a s (more x) rest (omega (arith, h))
grown_same run ran n a s x (token.Sign sign.Close ∷ rest) h = other_same run ran n a x rest (omega (arith, h))
grown_same run ran n a s x (token.Sign sign.CloseTypes ∷ rest) h = arrowed_same run ran n a s x rest (omega (arith, h))
grown_same run ran n a s x tokens h = refl

nothing_left : (n : ℕ) (s : State) → read n s [] ≡ read zero s []
nothing_left zero s = refl
nothing_left (suc n) begin = refl
nothing_left (suc n) (got x) = refl

pub stable : (n m : ℕ) (s : State) (tokens : List Token) → length tokens ≤ n → length tokens ≤ m → read n s tokens ≡ read m s tokens
stable n m s [] h k = nothing_left n s ∙ sym (nothing_left m s)
stable zero m s (k ∷ rest) h g = absurd (omega (arith, h))
stable (suc n) zero s (k ∷ rest) h g = absurd (omega (arith, g))
stable (suc n) (suc m) begin (k ∷ rest) h g =
    begun_same (read n) (read m) (length rest) (λ s us b. stable n m s us (omega (arith, h, b)) (omega (arith, g, b))) (shrinks m) (k ∷ rest) (omega arith)
stable (suc n) (suc m) (got x) (k ∷ rest) h g =
    ap (λ r. cond (type_goes_on x (k ∷ rest)) r (stop x (k ∷ rest)))
    (grown_same (read n) (read m) (length rest) (λ s us b. stable n m s us (omega (arith, h, b)) (omega (arith, g, b))) (shrinks m) x (k ∷ rest) (omega arith))

-- a reader of so much fuel takes a step and goes on with as much
pub steps : (n : ℕ) (tokens : List Token) → length tokens ≤ n → read n begin tokens ≡ begun (read n) tokens
steps n tokens h = stable n (suc n) begin tokens h (omega (arith, h))

pub grows : (n : ℕ) (x : Ty) (tokens : List Token) → length tokens ≤ n → read n (got x) tokens ≡ cond (type_goes_on x tokens) (grown (read n) x tokens) (stop x tokens)
grows n x tokens h = stable n (suc n) (got x) tokens h (omega (arith, h))
