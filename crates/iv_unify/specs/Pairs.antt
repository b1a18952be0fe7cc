-- Pairs of terms that are to become equal (Huet 1975, disagreement pairs), and what is put in them.
use Rattle.std.specs.Prelude.{Bool, true, false, ◌&&◌, if◌then◌else◌, List, [], ◌∷◌, ◌++◌, Option, Some, None, filter}
use Rattle.std.specs.List.{list_any}
use Rattle.iv_text.specs.declared.name.Name.{Name}
use Rattle.iv_term.specs.declared.typ.Types.{Types}
use Rattle.iv_term.specs.declared.term.Head.{Head}
use Rattle.iv_term.specs.declared.term.Head.TheVariants.{Schematic}
use Rattle.iv_term.specs.declared.term.Term.{Term}
use Rattle.iv_term.specs.declared.term.Term.TheBlock.{Spine}
use Rattle.iv_term.specs.Term.{lam}
use Rattle.iv_hsub.specs.Retype.{retype}
use Rattle.iv_subst.specs.TySubst.{TyMap, put_typs, at}
use Rattle.iv_put.specs.Subst.{Substitution, by_map, applied}
use Rattle.iv_variables.specs.declared.kind.Kind.TheVariants.{Schematics}
use Rattle.iv_variables.specs.declared.variable.Variable.{Variable}
use Rattle.iv_variables.specs.Firsts.{of_kind, has_name}
use Rattle.iv_variables.specs.Variables.{variables}
use Rattle.iv_unify.specs.declared.pair.Pair.{Pair}

abbrev pub pair : Types → Term → Term → Pair
pair bs t u = record { bounds = bs; left = t; right = u }

-- a pair under a substitution, and one with types put in
abbrev pub under : Substitution → Pair → Pair
under e p = pair (put_typs (at e.0) p.bounds) (applied e p.left) (applied e p.right)

abbrev pub typed : TyMap → Pair → Pair
typed s p = pair (put_typs (at s) p.bounds) (retype (by_map s) p.left) (retype (by_map s) p.right)

unfoldable pub all_under : Substitution → List Pair → List Pair
all_under e [] = []
all_under e (p ∷ ps) = under e p ∷ all_under e ps

unfoldable pub all_typed : TyMap → List Pair → List Pair
all_typed s [] = []
all_typed s (p ∷ ps) = typed s p ∷ all_typed s ps

-- whether a schematic variable is the head of a term
abbrev pub is_variable : Head → Bool
is_variable (Schematic x a) = true
is_variable h = false

abbrev pub is_flexible : Term → Bool
is_flexible (lam a b) = false
is_flexible (Spine h ts) = is_variable h

-- whether both sides are flexible
abbrev pub is_flex_flex : Pair → Bool
is_flex_flex p = is_flexible p.left && is_flexible p.right

-- the pair with its flexible side to the left
abbrev pub turned : Pair → Pair
turned p = if is_flexible p.left then p else pair p.bounds p.right p.left

-- the first pair that isn't flex-flex, its flexible side to the left, and all the others
unfoldable pub first_rigid : List Pair → Option Pair
first_rigid [] = None
first_rigid (p ∷ ps) = if is_flex_flex p then first_rigid ps else Some (turned p)

unfoldable pub others : List Pair → List Pair
others [] = []
others (p ∷ ps) = if is_flex_flex p then p ∷ others ps else ps

-- whether a schematic variable of a name stands in a term
abbrev pub has_schematic : Name → Term → Bool
has_schematic x t = list_any (λ v. of_kind Schematics v && has_name x v) (variables t)

-- each place of a schematic variable
unfoldable pub variables_in : List Pair → List Variable
variables_in [] = []
variables_in (p ∷ ps) = filter (of_kind Schematics) (variables p.left) ++ filter (of_kind Schematics) (variables p.right) ++ variables_in ps
