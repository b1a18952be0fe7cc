-- Parts joined in a loop.
use Rattle.std.proofs.Common.{◌≡◌, ℕ, zero, suc, ◌+◌, ◌-◌, ◌<◌, ◌≤◌, Bool, true, false, List, [], ◌∷◌, length, drop, refl, arith, add-one}
use Rattle.std.proofs.Math.ListN.{drop_of_length-le}
use Rattle.std.specs.Prelude.{Some, Result, Ok, Err, IsErrAnd, IfErr}
use Rattle.iv_text.specs.declared.Pos.{Pos}
use Rattle.iv_forms.specs.declared.fact.Fact.{Fact}
use Rattle.iv_forms.specs.declared.method.MethodText.{MethodText}
use Rattle.iv_forms.specs.declared.lexeme.Lexeme.{Lexeme}
use Rattle.iv_facts.specs.declared.stop.Stop.{Stop}
use Rattle.iv_readmethod.specs.declared.levelled.Levelled.{Levelled}
use Rattle.iv_readmethod.specs.declared.levelled.Join.{Join}
use Rattle.iv_readmethod.specs.declared.levelled.Join.TheVariants as VJoin
use Rattle.iv_facts.specs.declared.stop.Stop.TheVariants as stop
use Rattle.iv_facts.specs.Found.{Found, got, wrong, deep, then_, unless_deep, IsStop, stop_at}
use Rattle.iv_facts.specs.Facts.{facts}
use Rattle.iv_readmethod.specs.Methods.{joins, flat, more, past, noted, noted_facts, alt, linked, operand, inside, settled}
use Rattle.iv_facts.proofs.Steps.{left_over, stopped}

-- three parts in a row
pub then_then : {A B C : Type 0} (f : Found A) (g : A → List Lexeme → Found B) (h : B → List Lexeme → Found C) → then_ (then_ f g) h ≡ then_ f (λ x us. then_ (g x us) h)
unfolding then_
then_then (got x us) g h = refl
then_then wrong g h = refl
then_then (deep p) g h = refl

module _ {A B : Type 0} (goes : List Lexeme → Bool) (item : List Lexeme → Found B) (join : A → B → List Lexeme → Found A) where
  -- one more part
  pub joins_next : (start : Found A) (x : B) (found more : A) (steps ts us vs : List Lexeme) (i : ℕ) → start ≡ joins goes item join found (drop i steps) ts
      → i < length steps → goes ts ≡ true → item ts ≡ got x us → join found x us ≡ got more vs → start ≡ joins goes item join more (drop (i + 1) steps) vs
  unfolding joins then_
  joins_next start x found more steps ts us vs i s b g h m = rw (s, (left_over steps i b).1, g, h, m, add-one i) refl

  -- no more of them
  pub joins_stop : (found : A) (steps ts : List Lexeme) → goes ts ≡ false → joins goes item join found steps ts ≡ got found ts
  unfolding joins
  joins_stop found [] ts g = refl
  joins_stop found (s ∷ steps) ts g = rw g refl

  -- no more may come
  pub joins_end : (found : A) (steps ts : List Lexeme) (i : ℕ) → length steps ≤ i → joins goes item join found (drop i steps) ts ≡ got found ts
  unfolding joins
  joins_end found steps ts i b = rw (drop_of_length-le steps b) refl

  -- one is wrong
  pub joins_stopped : (e : Stop) (found : A) (steps ts : List Lexeme) (i : ℕ) → i < length steps → goes ts ≡ true → IsStop e (item ts) → IsStop e (joins goes item join found (drop i steps) ts)
  unfolding joins
  joins_stopped e found steps ts i b g h =
      rw ((left_over steps i b).1, g) (stopped e (item ts) (λ x us. then_ (join found x us) (λ y vs. joins goes item join y (drop (suc i) steps) vs)) h)

  -- one more part, read and joined in one step
  pub joins_joined : (start : Found A) (found more : A) (steps ts vs : List Lexeme) (i : ℕ) → start ≡ joins goes item join found (drop i steps) ts
      → i < length steps → goes ts ≡ true → then_ (item ts) (λ x us. join found x us) ≡ got more vs → start ≡ joins goes item join more (drop (i + 1) steps) vs
  unfolding joins then_
  joins_joined start found more steps ts vs i s b g h =
      rw (s, (left_over steps i b).1, g, ← then_then (item ts) (λ x us. join found x us) (λ y vs. joins goes item join y (drop (suc i) steps) vs), h, add-one i) refl

  -- one can't be read or joined
  pub joins_refused : (e : Stop) (found : A) (steps ts : List Lexeme) (i : ℕ) → i < length steps → goes ts ≡ true → IsStop e (then_ (item ts) (λ x us. join found x us))
      → IsStop e (joins goes item join found (drop i steps) ts)
  unfolding joins
  joins_refused e found steps ts i b g h =
      rw ((left_over steps i b).1, g, ← then_then (item ts) (λ x us. join found x us) (λ y vs. joins goes item join y (drop (suc i) steps) vs))
      (stopped e (then_ (item ts) (λ x us. join found x us)) (λ y vs. joins goes item join y (drop (suc i) steps) vs) h)

-- one more part of a list
pub lists_next : {A : Type 0} (goes : List Lexeme → Bool) (item : List Lexeme → Found (Levelled A)) (start : Found (Levelled (List A))) (x : Levelled A) (found after : Levelled (List A)) (steps ts us : List Lexeme) (i : ℕ)
    → start ≡ joins goes item (λ xs x us. got (more xs x) us) found (drop i steps) ts → i < length steps → goes ts ≡ true → item ts ≡ got x us → after ≡ more found x
    → start ≡ joins goes item (λ xs x us. got (more xs x) us) after (drop (i + 1) steps) us
lists_next goes item start x found after steps ts us i s b g h m = joins_next goes item (λ xs x us. got (more xs x) us) start x found after steps ts us us i s b g h (rw m refl)

-- what stands inside has one level less
pub inside_more : (left : ℕ) (ts : List Lexeme) → 0 < left → inside left ts ≡ linked (left - 1) VJoin.Or (operand (inside (left - 1)) (left - 1) VJoin.Or) ts
unfolding inside alt operand
inside_more zero ts h = absurd (omega (arith, h))
inside_more (suc left) ts h =
    let e : suc left - 1 ≡ left = omega arith in
    rw e refl

-- what holds of a cause holds where it is handed on
pub stop_exit : {T : Type 0} (r : Result T Stop) (e : Stop) (P : Stop → Type 0) → IsErrAnd r (λ y. y ≡ e) → P e → IfErr r P
stop_exit (Ok x) e P h p = tt
stop_exit (Err f) e P h p = rw h p

-- facts, and what is noted of them
pub noted_got : {fs : List Fact} {us : List Lexeme} (ts : List Lexeme) → facts ts ≡ got fs us → noted_facts ts ≡ got (flat fs) us
unfolding noted_facts noted
noted_got ts e = rw e refl

pub noted_deep : {p : Pos} (ts : List Lexeme) → facts ts ≡ deep p → noted_facts ts ≡ got (record { value = []; levels = 0; deep = Some p }) (past 0 ts)
unfolding noted_facts noted
noted_deep ts e = rw e refl

pub noted_wrong : (ts : List Lexeme) → facts ts ≡ wrong → noted_facts ts ≡ wrong
unfolding noted_facts noted
noted_wrong ts e = rw e refl

-- a method, and what was noted in it
pub settled_got : {m : Levelled MethodText} {x : MethodText} {us vs : List Lexeme} {f : Found (Levelled MethodText)} (ts : List Lexeme) → f ≡ got m us → unless_deep m.deep m.value us ≡ got x vs → settled ts f ≡ got x vs
unfolding settled
settled_got ts e d = rw e d

pub settled_is : {m : Levelled MethodText} {us : List Lexeme} {f : Found (Levelled MethodText)} (ts : List Lexeme) → f ≡ got m us → settled ts f ≡ unless_deep m.deep m.value us
unfolding settled
settled_is ts e = rw e refl

pub settled_stopped : (e : Stop) (ts : List Lexeme) (f : Found (Levelled MethodText)) → IsStop e f → IsStop (stop_at e ts) (settled ts f)
unfolding settled
settled_stopped stop.Syntax ts f h = rw h refl
settled_stopped (stop.Deep p) ts f h = rw h refl
settled_stopped stop.Memory ts f h = tt

-- how tightly methods are joined
abbrev pub rank : Join → ℕ
rank VJoin.Then = 0
rank VJoin.On = 1
rank VJoin.Or = 2
