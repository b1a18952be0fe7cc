-- Lists of hypotheses without repeats. Of this project.
use Rattle.std.specs.Prelude.{◌≡◌, Bool, false, ◌||◌, if◌then◌else◌}
use Rattle.iv_term.specs.declared.term.Term.{Term}
use Rattle.iv_term.specs.declared.term.Terms.{Terms}
use Rattle.iv_term.specs.declared.term.Term.TheBlock.{Nil}
use Rattle.iv_term.specs.Term.{tm_cons, same_term}

-- whether a term is in a list
unfoldable pub among : Term → Terms → Bool
among t Nil = false
among t (tm_cons u us) = same_term t u || among t us

-- the list with one term at its end
unfoldable pub snoc : Terms → Term → Terms
snoc Nil t = tm_cons t Nil
snoc (tm_cons u us) t = tm_cons u (snoc us t)

-- the list, and the term at its end where it is new
unfoldable pub added : Terms → Term → Terms
added ts t = if among t ts then ts else snoc ts t

-- the first list, and behind it what is new of the second
unfoldable pub union : Terms → Terms → Terms
union ts Nil = ts
union ts (tm_cons u us) = union (added ts u) us

-- the list with a term taken out
unfoldable pub without : Term → Terms → Terms
without t Nil = Nil
without t (tm_cons u us) = if same_term t u then without t us else tm_cons u (without t us)

-- no term is in the list twice
unfoldable pub IsDistinctTerms : Terms → Type 0
IsDistinctTerms Nil = Unit {0}
IsDistinctTerms (tm_cons t ts) = (among t ts ≡ false) × IsDistinctTerms ts
