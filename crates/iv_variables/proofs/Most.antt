-- The least number above all, step by step and of two parts.
use Rattle.std.proofs.Common.{◌≡◌, ℕ, suc, ◌≤◌, ◌<◌, max, List, [], ◌∷◌, ◌++◌, Result, Ok, Err, IsErrAnd, IfErr, inl, inr, refl, sym, ◌∙◌, ap, subst, arith}
use Rattle.std.specs.List.{fold}
use Rattle.std.proofs.Math.Nat.{le-max_left, le-max_right}
use Rattle.iv_text.specs.declared.want.Want.{Want}
use Rattle.iv_text.specs.declared.want.Want.TheVariants.{Memory, Number}
use Rattle.iv_variables.specs.declared.variable.Variable.{Variable}
use Rattle.iv_variables.specs.declared.number.Next.{Next}
use Rattle.iv_variables.specs.Variables.{IsOfOne}
use Rattle.iv_variables.specs.Firsts.{next_of, next_number}

pub max-assoc : (a b c : ℕ) → max (max a b) c ≡ max a (max b c)
max-assoc a b c = grind arith

pub max-none : (a : ℕ) → max a 0 ≡ a
max-none a = grind arith

-- a part's number is no more than the whole's
pub next-append : (xs ys : List Variable) → next_number (xs ++ ys) ≡ max (next_number xs) (next_number ys)
unfolding next_number
next-append [] ys = grind arith
next-append (x ∷ xs) ys = ap (max (next_of x)) (next-append xs ys) ∙ sym (max-assoc (next_of x) (next_number xs) (next_number ys))

abbrev pub counts : Next → Variable → Next
counts n v = record { number = max n.number (next_of v) }

pub counted : (vs : List Variable) (n : ℕ) → (fold counts (record { number = n }) vs).number ≡ max n (next_number vs)
unfolding next_number
counted [] n = sym (max-none n)
counted (v ∷ vs) n = counted vs (max n (next_of v)) ∙ max-assoc n (next_of v) (next_number vs)

pub counted-all : (vs : List Variable) → (fold counts (record { number = 0 }) vs).number ≡ next_number vs
counted-all vs = counted vs 0 ∙ (let e : max 0 (next_number vs) ≡ next_number vs = grind arith in e)

-- where one is too large, the greatest is
pub large : (w : Want) (n : ℕ) (vs : List Variable) → IsOfOne (λ v. (w ≡ Number) × (n ≤ next_of v)) vs → (w ≡ Number) × (n ≤ next_number vs)
unfolding IsOfOne next_number
large w n [] h = absurd h
large w n (v ∷ vs) (inl h) = (h.0, (let p = h.1 in let q = le-max_left (next_of v) (next_number vs) in omega (arith, p, q)))
large w n (v ∷ vs) (inr h) =
    let k = large w n vs h in (k.0, (let p = k.1 in let q = le-max_right (next_of v) (next_number vs) in omega (arith, p, q)))

pub exit_large : {T : Type 0} (r : Result T Want) (w : Want) (n : ℕ) (vs : List Variable) → IsErrAnd r (λ y. y ≡ w) → IsOfOne (λ v. (w ≡ Number) × (n ≤ next_of v)) vs
    → IfErr r (λ z. (z ≡ Number) × (n ≤ next_number vs))
exit_large (Ok x) w n vs h p = tt
exit_large (Err e) w n vs h p = subst (λ z. (z ≡ Number) × (n ≤ next_number vs)) (sym h) (large w n vs p)

-- a collector lacks memory alone
memory : (w : Want) (vs : List Variable) → IsOfOne (λ v. w ≡ Memory) vs → w ≡ Memory
unfolding IsOfOne
memory w [] h = absurd h
memory w (v ∷ vs) (inl h) = h
memory w (v ∷ vs) (inr h) = memory w vs h

pub exit_memory : {T : Type 0} (r : Result T Want) (w : Want) (vs : List Variable) → IsErrAnd r (λ y. y ≡ w) → IsOfOne (λ v. w ≡ Memory) vs → IfErr r (λ z. z ≡ Memory)
exit_memory (Ok x) w vs h p = tt
exit_memory (Err e) w vs h p = h ∙ memory w vs p
