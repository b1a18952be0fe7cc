-- A pull on a search that works before each leaf.
use Rattle.std.proofs.Common.{◌≡◌, ℕ, zero, suc, ◌+◌, ◌-◌, ◌<◌, [], ◌∷◌, None, Some, Ok, refl, arith}
use Rattle.tests_seq.specs.Countdown.{countdown}
use Rattle.iv_seq.specs.Moments.{bound, work_before, begins}
use Rattle.iv_seq.specs.Pull.{Pulled}

pub countdown_ended : (n s : ℕ) → n ≡ 0 → Pulled (countdown n) s (Ok None) (countdown n) s
unfolding countdown
countdown_ended zero s h = record { passed = []; order = refl; ended = refl; counts = omega arith; cost = omega arith; number = λ e. absurd (let bad : ⊥ = cc in bad) }
countdown_ended (suc n) s h = absurd (let bad : ⊥ = omega arith in bad)

pub countdown_gave : (n s : ℕ) → 0 < n → Pulled (countdown n) s (Ok (Some (n - 1))) (countdown (n - 1)) (s + 1)
unfolding countdown
countdown_gave zero s h = absurd (let bad : ⊥ = omega arith in bad)
countdown_gave (suc n) s h =
    let e : suc n - 1 ≡ n = omega arith in
    rw e (record { passed = begins ∷ []; order = refl; ended = tt; counts = omega arith; cost = omega arith; number = λ f. absurd (let bad : ⊥ = cc in bad) })

-- three pieces of work bring two leaves of items with many leaves
pub first_two_cost : (n : ℕ) → work_before (bound (countdown (suc (suc (suc n)))) countdown) 2 ≡ 3
unfolding countdown
first_two_cost n = refl
