-- The hypotheses that are left where premises are discharged.
use Rattle.std.proofs.Common.{◌≡◌, ℕ, Bool, true, false, ◌||◌, ◌&&◌, List, [], ◌∷◌, refl, if◌then◌else◌}
use Rattle.std.specs.List.{list_any}
use Rattle.std.specs.Str.{bytes_eq}
use Rattle.iv_term.specs.declared.term.Term.TheBlock.{Nil}
use Rattle.iv_term.specs.Typ.{same_typ, same_typs}
use Rattle.iv_term.specs.Term.{tm_cons, same_term, same_terms}
use Rattle.iv_term.specs.Hyps.{without}
use Rattle.iv_run.specs.Statement.{free_var, open_hyps}

-- two free variables are the same where their texts are
same-var : (p c : List ℕ) → same_term (free_var p) (free_var c) ≡ bytes_eq p c
unfolding same_term same_terms same_typ same_typs
same-var p c = cases (bytes_eq p c)
  where
    cases : (b : Bool) → (((b && true) && true) && true) ≡ b
    cases true = refl
    cases false = refl

discharged : (p c : List ℕ) (b d : Bool) → same_term (free_var p) (free_var c) ≡ d
    → without (free_var p) (if b then Nil else tm_cons (free_var c) Nil) ≡ (if (d || b) then Nil else tm_cons (free_var c) Nil)
unfolding without
discharged p c true true e = refl
discharged p c true false e = refl
discharged p c false true e = rw e
discharged p c false false e = rw e

-- one premise discharged
pub open_hyps-cons : (p c : List ℕ) (ps : List (List ℕ)) → without (free_var p) (open_hyps ps c) ≡ open_hyps (p ∷ ps) c
unfolding open_hyps
open_hyps-cons p c ps = discharged p c (list_any (λ q. bytes_eq q c) ps) (bytes_eq p c) (same-var p c)

pub open_hyps-none : (c : List ℕ) → open_hyps [] c ≡ tm_cons (free_var c) Nil
unfolding open_hyps
open_hyps-none c = refl

pub open_hyps-solved : (ps : List (List ℕ)) (c : List ℕ) → list_any (λ p. bytes_eq p c) ps ≡ true → open_hyps ps c ≡ Nil
unfolding open_hyps
open_hyps-solved ps c e = rw e
