-- Statements, part by part.
use Rattle.std.proofs.Common.{◌≡◌, ◌≤◌, ◌<◌, ℕ, suc, ◌+◌, ◌||◌, List, [], ◌∷◌, ◌++◌, length, drop, get_or, refl, sym, ap, ◌∙◌, arith, drop-cons}
use Rattle.std.specs.List.{list_any}
use Rattle.std.specs.Str.{bytes_eq}
use Rattle.iv_term.specs.declared.term.Term.{Term}
use Rattle.iv_term.specs.Term.{imp}
use Rattle.iv_run.specs.Statement.{statement_of, last_of, is_solved}

pub statement-cons : (var : List ℕ → Term) (p c : List ℕ) (ps : List (List ℕ))
    → statement_of var (p ∷ (ps ++ c ∷ [])) ≡ imp (var p) (statement_of var (ps ++ c ∷ []))
unfolding statement_of
statement-cons var p c [] = refl
statement-cons var p c (q ∷ qs) = refl

-- the list from one place earlier
pub drop-earlier : {X : Type 0} (ps : List X) (p : X) (at i : ℕ) → at ≤ length ps → i + 1 ≡ at → p ≡ get_or ps i p → drop i ps ≡ p ∷ drop at ps
drop-earlier ps p at i le e is =
    let lt : i < length ps = omega arith in
    let s : suc i ≡ at = omega arith in
    drop-cons ps i p lt ∙ (λ k. sym is k ∷ drop (s k) ps)

-- one premise more at the front
pub statement-more : (var : List ℕ → Term) (ps : List (List ℕ)) (c p : List ℕ) (at i : ℕ) → at ≤ length ps → i + 1 ≡ at → p ≡ get_or ps i p
    → statement_of var (drop i ps ++ c ∷ []) ≡ imp (var p) (statement_of var (drop at ps ++ c ∷ []))
statement-more var ps c p at i le e is = rw (drop-earlier ps p at i le e is) (statement-cons var p c (drop at ps))

pub last-append : (q c : List ℕ) (qs : List (List ℕ)) → last_of q (qs ++ c ∷ []) ≡ c
unfolding last_of
last-append q c [] = refl
last-append q c (r ∷ rs) = last-append r c rs

pub solved-cons : (p c : List ℕ) (ps : List (List ℕ)) → is_solved (p ∷ (ps ++ c ∷ [])) ≡ (bytes_eq p c || is_solved (ps ++ c ∷ []))
unfolding is_solved last_of
solved-cons p c [] = refl
solved-cons p c (q ∷ qs) = ap (λ x. bytes_eq p x || is_solved (q ∷ (qs ++ c ∷ []))) (last-append q c qs)

-- a statement is solved where a premise is the conclusion
pub solved-any : (ps : List (List ℕ)) (c : List ℕ) → is_solved (ps ++ c ∷ []) ≡ list_any (λ p. bytes_eq p c) ps
unfolding is_solved
solved-any [] c = refl
solved-any (p ∷ ps) c = solved-cons p c ps ∙ ap (λ b. bytes_eq p c || b) (solved-any ps c)
