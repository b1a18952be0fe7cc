-- The tree of unifiers (Huet 1975; the order of the branches and the depth are of this project).
use Rattle.std.specs.Prelude.{ℕ, zero, suc, ◌+◌, max, nat_lt, if◌then◌else◌, List, [], ◌∷◌, Option, Some, None, length}
use Rattle.iv_put.specs.Subst.{Substitution, composed}
use Rattle.iv_seq.specs.SearchTree.{SearchTree, none, one, join, work, large}
use Rattle.iv_unify.specs.declared.pair.Pair.{Pair}
use Rattle.iv_unify.specs.Pairs.{all_under, all_typed, first_rigid, others, variables_in}
use Rattle.iv_unify.specs.Simplify.{Simple, simplified, all_long}
use Rattle.iv_unify.specs.Values.{assigned, Choice, choices, closing}

-- what is left where no more can be done at no cost: a clash; a flex-rigid pair, all pairs, and the substitution so far; or flex-flex pairs
-- alone, and the substitution so far
pub data Settled : Type 0 where
  clashed : Settled
  stuck : Pair → List Pair → Substitution → Settled
  flexible : List Pair → Substitution → Settled

-- a flex-rigid pair is assigned at no cost, and then the other pairs are settled under the assignment
abbrev pub assigning : (Substitution → Settled) → Pair → List Pair → Substitution → Option Substitution → Settled
assigning next p qs s None = stuck p qs s
assigning next p qs s (Some e) = next e

abbrev pub settling : (List Pair → Substitution → Settled) → List Pair → Substitution → Option Pair → Settled
settling next qs s None = flexible qs s
settling next qs s (Some p) = assigning (λ e. next (all_under e (others qs)) (composed s e)) p qs s (assigned p.bounds p.left p.right)

-- the pairs that stay, under all types that were found, with no function type
abbrev pub with_simple : (List Pair → Substitution → Settled) → Substitution → Simple → Settled
with_simple next s None = clashed
with_simple next s (Some r) =
    settling next (all_long (all_typed r.0 r.1)) (composed s (r.0, [])) (first_rigid (all_long (all_typed r.0 r.1)))

-- simplification and assignment by turns, at most n times
unfoldable pub settle : ℕ → List Pair → Substitution → Settled
settle zero ps s = clashed
settle (suc n) ps s = with_simple (settle n) s (simplified ps)

-- each assignment takes a variable away, so there are at most as many as variables, and one turn more
abbrev pub settled : List Pair → Substitution → Settled
settled ps s = settle (suc (length (variables_in ps))) ps s

-- n flex-flex pairs are closed in order, each with the next number
unfoldable pub close : ℕ → ℕ → List Pair → Substitution → Substitution
close zero m ps s = s
close (suc n) m [] s = s
close (suc n) m (p ∷ ps) s = close n (suc m) (all_under (closing m p) ps) (composed s (closing m p))

-- a tree whose variables have numbers below n: those that the program can't count are too large
abbrev pub numbered_to : ℕ → SearchTree Substitution → SearchTree Substitution
numbered_to n t = if nat_lt 4294967295 n then large else t

-- the greatest next number of some choices
unfoldable pub next_of_all : ℕ → List Choice → ℕ
next_of_all m [] = m
next_of_all m (c ∷ cs) = max c.1 (next_of_all m cs)

-- each choice is put in all pairs, and the search goes on with its next number
abbrev pub branches : (ℕ → List Pair → Substitution → SearchTree Substitution) → List Pair → Substitution → List Choice → SearchTree Substitution
branches grow ps s [] = none
branches grow ps s (c ∷ cs) = join (grow c.1 (all_under c.0 ps) (composed s c.0)) (branches grow ps s cs)

-- the one leaf of flex-flex pairs
abbrev pub leaf : ℕ → List Pair → Substitution → SearchTree Substitution
leaf m ps s = numbered_to (m + length ps) (one (close (length ps) m ps s))

abbrev pub settled_tree : (Pair → List Pair → Substitution → SearchTree Substitution) → ℕ → Settled → SearchTree Substitution
settled_tree choose m clashed = none
settled_tree choose m (stuck p ps s) = choose p ps s
settled_tree choose m (flexible ps s) = leaf m ps s

-- one counted piece of work: all choices for a pair
abbrev pub chosen : (ℕ → List Pair → Substitution → SearchTree Substitution) → ℕ → Pair → List Pair → Substitution → SearchTree Substitution
chosen grow m p ps s = work (numbered_to (next_of_all m (choices m p)) (branches grow ps s (choices m p)))

-- the tree of the unifiers of pairs, after a substitution: the depth says how often may be chosen, m is the next number
unfoldable pub grown : ℕ → ℕ → List Pair → Substitution → SearchTree Substitution
grown zero m ps s = settled_tree (λ p qs r. none) m (settled ps s)
grown (suc k) m ps s = settled_tree (chosen (grown k) m) m (settled ps s)

abbrev pub unifiers_of : ℕ → ℕ → List Pair → SearchTree Substitution
unifiers_of depth m ps = grown depth m ps ([], [])
