-- Readers one behind the other.
use Rattle.std.proofs.Common.{◌≡◌, ℕ, zero, suc, ◌+◌, ◌<◌, ◌≤◌, Bool, true, false, List, [], ◌∷◌, ◌++◌, length, drop, refl, arith, add-one}
use Rattle.std.proofs.Math.ListN.{drop_of_length-le}
use Rattle.iv_forms.specs.declared.lexeme.Lexeme.{Lexeme}
use Rattle.iv_facts.specs.declared.stop.Stop.{Stop}
use Rattle.iv_facts.specs.declared.stop.Stop.TheVariants as stop
use Rattle.iv_facts.specs.Found.{Found, got, then_, part_at, many, fold, IsStop, stop_at}

-- where the first stops, both do
pub stopped : {A B : Type 0} (e : Stop) (f : Found A) (next : A → List Lexeme → Found B) → IsStop e f → IsStop e (then_ f next)
unfolding then_
stopped stop.Syntax f next h = rw h refl
stopped (stop.Deep p) f next h = rw h refl
stopped stop.Memory f next h = tt

-- where the first has read, the second goes on
pub went_on : {A B : Type 0} {f : Found A} {x : A} {us : List Lexeme} (next : A → List Lexeme → Found B) → f ≡ got x us → then_ f next ≡ next x us
unfolding then_
went_on next h = rw h refl

-- a part with a limit of its own stops where it begins
pub part_stopped : {A : Type 0} (e : Stop) (ts : List Lexeme) (f : Found A) → IsStop e f → IsStop (stop_at e ts) (part_at ts f)
unfolding part_at
part_stopped stop.Syntax ts f h = rw h refl
part_stopped (stop.Deep p) ts f h = rw h refl
part_stopped stop.Memory ts f h = tt

-- such a part is read as before
pub part_read : {A : Type 0} {f : Found A} {x : A} {us : List Lexeme} (ts : List Lexeme) → f ≡ got x us → part_at ts f ≡ got x us
unfolding part_at
part_read ts h = rw h refl

-- a step that is left
pub left_over : {A : Type 0} (steps : List A) (i : ℕ) → i < length steps → (s : A) × (drop i steps ≡ s ∷ drop (suc i) steps)
left_over [] i b = absurd (omega (arith, b))
left_over (s ∷ steps) zero b = (s, refl)
left_over (s ∷ steps) (suc i) b = left_over steps i (omega (arith, b))

module _ {A : Type 0} (goes : List Lexeme → Bool) (item : List Lexeme → Found A) where
  -- one more value
  pub many_next : (start : Found (List A)) (x : A) (found more : List A) (steps ts us : List Lexeme) (i : ℕ) → start ≡ many goes item found (drop i steps) ts
      → i < length steps → goes ts ≡ true → item ts ≡ got x us → more ≡ found ++ x ∷ [] → start ≡ many goes item more (drop (i + 1) steps) us
  unfolding many then_
  many_next start x found more steps ts us i s b g h m = rw (s, (left_over steps i b).1, g, h, m, add-one i) refl

  -- no more of them
  pub many_stop : (found : List A) (steps ts : List Lexeme) → goes ts ≡ false → many goes item found steps ts ≡ got found ts
  unfolding many
  many_stop found [] ts g = refl
  many_stop found (s ∷ steps) ts g = rw g refl

  -- no more may come
  pub many_end : (found : List A) (steps ts : List Lexeme) (i : ℕ) → length steps ≤ i → many goes item found (drop i steps) ts ≡ got found ts
  unfolding many
  many_end found steps ts i b = rw (drop_of_length-le steps b) refl

  -- one is wrong
  pub many_stopped : (e : Stop) (found : List A) (steps ts : List Lexeme) (i : ℕ) → i < length steps → goes ts ≡ true → IsStop e (item ts) → IsStop e (many goes item found (drop i steps) ts)
  unfolding many
  many_stopped e found steps ts i b g h = rw ((left_over steps i b).1, g) (stopped e (item ts) (λ x us. many goes item (found ++ x ∷ []) (drop (suc i) steps) us) h)

module _ {A : Type 0} (goes : List Lexeme → Bool) (part : A → List Lexeme → Found A) where
  -- one more part
  pub fold_next : (start : Found A) (x y : A) (steps ts us : List Lexeme) (i : ℕ) → start ≡ fold goes part x (drop i steps) ts
      → i < length steps → goes ts ≡ true → part x ts ≡ got y us → start ≡ fold goes part y (drop (i + 1) steps) us
  unfolding fold then_
  fold_next start x y steps ts us i s b g h = rw (s, (left_over steps i b).1, g, h, add-one i) refl

  -- no more of them
  pub fold_stop : (x : A) (steps ts : List Lexeme) → goes ts ≡ false → fold goes part x steps ts ≡ got x ts
  unfolding fold
  fold_stop x [] ts g = refl
  fold_stop x (s ∷ steps) ts g = rw g refl

  -- no more may come
  pub fold_end : (x : A) (steps ts : List Lexeme) (i : ℕ) → length steps ≤ i → fold goes part x (drop i steps) ts ≡ got x ts
  unfolding fold
  fold_end x steps ts i b = rw (drop_of_length-le steps b) refl

  -- one is wrong
  pub fold_stopped : (e : Stop) (x : A) (steps ts : List Lexeme) (i : ℕ) → i < length steps → goes ts ≡ true → IsStop e (part x ts) → IsStop e (fold goes part x (drop i steps) ts)
  unfolding fold
  fold_stopped e x steps ts i b g h = rw ((left_over steps i b).1, g) (stopped e (part x ts) (λ y us. fold goes part y (drop (suc i) steps) us) h)
