-- Unifiers that were computed by hand or by another program: the values of the variables at each leaf, in order, and how much work was counted.
use Rattle.std.proofs.Common.{◌≡◌, ℕ, List, [], ◌∷◌, codes, refl, map}
use Rattle.iv_text.specs.declared.name.Name.{Name}
use Rattle.iv_term.specs.declared.typ.Typ.{Typ}
use Rattle.iv_term.specs.declared.typ.Typ.TheBlock.{Con, Schematic as Variable, Nil as no_types}
use Rattle.iv_term.specs.declared.term.Head.TheVariants.{Const, Schematic, Bound}
use Rattle.iv_term.specs.declared.term.Term.{Term}
use Rattle.iv_term.specs.declared.term.Term.TheBlock.{Spine, Nil}
use Rattle.iv_term.specs.Typ.{prop, fun, ty_cons, same_typ, same_typs}
use Rattle.iv_term.specs.Term.{lam, tm_cons}
use Rattle.iv_hsub.specs.Typing.{types_len, type_at, type_of, result_type, dom, cod}
use Rattle.iv_hsub.specs.Index.{index, loose, loose_all, raise, raise_all, occurs, occurs_in, lower, lower_all, ends_in_0, front, contracts, eta}
use Rattle.iv_hsub.specs.Hsub.{append, put, put_all, happ}
use Rattle.iv_hsub.specs.Hhf.{expand}
use Rattle.iv_hsub.specs.Retype.{map_typ, map_typs, retype, retype_all}
use Rattle.iv_hsub.specs.Inst.{inst, inst_all}
use Rattle.iv_laws.specs.Spines.{functions}
use Rattle.iv_variables.specs.Variables.{typ_variables, types_variables, variables, terms_variables}
use Rattle.iv_subst.specs.TySubst.{put_typ, put_typs, single as single_typ, occurs as occurs_typ, occurs_any, seek, at, under as under_types, has, unhidden as unhidden_types, composed as composed_types, assign}
use Rattle.iv_subst.specs.Unifier.{variables as variables_typ, variables_all, differ, differ_all, solve, turn as turn_types, unified}
use Rattle.iv_put.specs.Subst.{applied, value_of, has_value, under as under_values, unhidden}
use Rattle.iv_seq.specs.SearchTree.{leaves}
use Rattle.iv_seq.specs.Moments.{moments_of, work_in}
use Rattle.iv_unify.specs.declared.pair.Pair.{Pair}
use Rattle.iv_unify.specs.Pairs.{pair, all_under, all_typed, first_rigid, others, variables_in}
use Rattle.iv_unify.specs.Simplify.{size, size_all, total, in_pairs, simplify, long, all_long}
use Rattle.iv_unify.specs.Values.{bind_index, bind_index_all, abstracted, indices, taken, domains, target, lams, own, new_variables, how_many, projections, common, agreeing, types_at, indexed}
use Rattle.iv_unify.specs.Unifiers.{settle, close, next_of_all, grown, unifiers_of}

abbrev name : List ℕ → ℕ → Name
name t n = record { text = t; number = n }

abbrev i : Typ
i = Con (codes "i") no_types

-- the leaves, each as the terms that some terms become, and all work
abbrev tells : ℕ → ℕ → List Term → List Pair → List (List Term) × ℕ
tells depth m vs ps = (map (λ s. map (applied s) vs) (leaves (unifiers_of depth m ps)), work_in (moments_of (unifiers_of depth m ps)))

-- ?f a = a: the projection, and then the imitation
projection_first : tells 20 1 ((Spine (Schematic (name (codes "f") 0) (fun i i)) Nil) ∷ []) (pair no_types (Spine (Schematic (name (codes "f") 0) (fun i i)) (tm_cons (Spine (Const (codes "a") i) Nil) Nil)) (Spine (Const (codes "a") i) Nil) ∷ []) ≡ ((((lam i (index 0)) ∷ []) ∷ ((lam i (Spine (Const (codes "a") i) Nil)) ∷ []) ∷ []), 1)
unfolding size size_all total in_pairs simplify long all_long all_under all_typed first_rigid others variables_in bind_index bind_index_all abstracted indices taken domains target lams own new_variables how_many projections common agreeing types_at indexed settle close next_of_all grown functions types_len type_at type_of result_type dom cod raise raise_all occurs occurs_in lower lower_all ends_in_0 front contracts eta loose loose_all append put put_all happ expand retype retype_all map_typ map_typs inst inst_all put_typ put_typs single_typ occurs_typ occurs_any seek at under_types has unhidden_types composed_types assign variables_typ variables_all differ differ_all solve turn_types unified value_of has_value under_values unhidden typ_variables types_variables variables terms_variables same_typ same_typs
projection_first = refl

-- ?f a = g a, where one choice is allowed
too_deep : tells 1 1 ((Spine (Schematic (name (codes "f") 0) (fun i i)) Nil) ∷ []) (pair no_types (Spine (Schematic (name (codes "f") 0) (fun i i)) (tm_cons (Spine (Const (codes "a") i) Nil) Nil)) (Spine (Const (codes "g") (fun i i)) (tm_cons (Spine (Const (codes "a") i) Nil) Nil)) ∷ []) ≡ (([]), 1)
unfolding size size_all total in_pairs simplify long all_long all_under all_typed first_rigid others variables_in bind_index bind_index_all abstracted indices taken domains target lams own new_variables how_many projections common agreeing types_at indexed settle close next_of_all grown functions types_len type_at type_of result_type dom cod raise raise_all occurs occurs_in lower lower_all ends_in_0 front contracts eta loose loose_all append put put_all happ expand retype retype_all map_typ map_typs inst inst_all put_typ put_typs single_typ occurs_typ occurs_any seek at under_types has unhidden_types composed_types assign variables_typ variables_all differ differ_all solve turn_types unified value_of has_value under_values unhidden typ_variables types_variables variables terms_variables same_typ same_typs
too_deep = refl

-- and where two are: the closed form is contracted
two_choices : tells 2 1 ((Spine (Schematic (name (codes "f") 0) (fun i i)) Nil) ∷ []) (pair no_types (Spine (Schematic (name (codes "f") 0) (fun i i)) (tm_cons (Spine (Const (codes "a") i) Nil) Nil)) (Spine (Const (codes "g") (fun i i)) (tm_cons (Spine (Const (codes "a") i) Nil) Nil)) ∷ []) ≡ ((((Spine (Const (codes "g") (fun i i)) Nil) ∷ []) ∷ ((lam i (Spine (Const (codes "g") (fun i i)) (tm_cons (Spine (Const (codes "a") i) Nil) Nil))) ∷ []) ∷ []), 2)
unfolding size size_all total in_pairs simplify long all_long all_under all_typed first_rigid others variables_in bind_index bind_index_all abstracted indices taken domains target lams own new_variables how_many projections common agreeing types_at indexed settle close next_of_all grown functions types_len type_at type_of result_type dom cod raise raise_all occurs occurs_in lower lower_all ends_in_0 front contracts eta loose loose_all append put put_all happ expand retype retype_all map_typ map_typs inst inst_all put_typ put_typs single_typ occurs_typ occurs_any seek at under_types has unhidden_types composed_types assign variables_typ variables_all differ differ_all solve turn_types unified value_of has_value under_values unhidden typ_variables types_variables variables terms_variables same_typ same_typs
two_choices = refl

-- ?x = g ?x: the variable stands in the other side, so each choice leaves a pair of the same form
cyclic : tells 20 1 ((Spine (Schematic (name (codes "x") 0) i) Nil) ∷ []) (pair no_types (Spine (Schematic (name (codes "x") 0) i) Nil) (Spine (Const (codes "g") (fun i i)) (tm_cons (Spine (Schematic (name (codes "x") 0) i) Nil) Nil)) ∷ []) ≡ (([]), 20)
unfolding size size_all total in_pairs simplify long all_long all_under all_typed first_rigid others variables_in bind_index bind_index_all abstracted indices taken domains target lams own new_variables how_many projections common agreeing types_at indexed settle close next_of_all grown functions types_len type_at type_of result_type dom cod raise raise_all occurs occurs_in lower lower_all ends_in_0 front contracts eta loose loose_all append put put_all happ expand retype retype_all map_typ map_typs inst inst_all put_typ put_typs single_typ occurs_typ occurs_any seek at under_types has unhidden_types composed_types assign variables_typ variables_all differ differ_all solve turn_types unified value_of has_value under_values unhidden typ_variables types_variables variables terms_variables same_typ same_typs
cyclic = refl

-- ?f a = h a a has four unifiers, the innermost place changing fastest
two_places : tells 3 1 ((Spine (Schematic (name (codes "f") 0) (fun i i)) Nil) ∷ []) (pair no_types (Spine (Schematic (name (codes "f") 0) (fun i i)) (tm_cons (Spine (Const (codes "a") i) Nil) Nil)) (Spine (Const (codes "h") (fun i (fun i i))) (tm_cons (Spine (Const (codes "a") i) Nil) (tm_cons (Spine (Const (codes "a") i) Nil) Nil))) ∷ []) ≡ ((((lam i (Spine (Const (codes "h") (fun i (fun i i))) (tm_cons (index 0) (tm_cons (index 0) Nil)))) ∷ []) ∷ ((lam i (Spine (Const (codes "h") (fun i (fun i i))) (tm_cons (index 0) (tm_cons (Spine (Const (codes "a") i) Nil) Nil)))) ∷ []) ∷ ((Spine (Const (codes "h") (fun i (fun i i))) (tm_cons (Spine (Const (codes "a") i) Nil) Nil)) ∷ []) ∷ ((lam i (Spine (Const (codes "h") (fun i (fun i i))) (tm_cons (Spine (Const (codes "a") i) Nil) (tm_cons (Spine (Const (codes "a") i) Nil) Nil)))) ∷ []) ∷ []), 4)
unfolding size size_all total in_pairs simplify long all_long all_under all_typed first_rigid others variables_in bind_index bind_index_all abstracted indices taken domains target lams own new_variables how_many projections common agreeing types_at indexed settle close next_of_all grown functions types_len type_at type_of result_type dom cod raise raise_all occurs occurs_in lower lower_all ends_in_0 front contracts eta loose loose_all append put put_all happ expand retype retype_all map_typ map_typs inst inst_all put_typ put_typs single_typ occurs_typ occurs_any seek at under_types has unhidden_types composed_types assign variables_typ variables_all differ differ_all solve turn_types unified value_of has_value under_values unhidden typ_variables types_variables variables terms_variables same_typ same_typs
two_places = refl

-- under two binders distinct bound variables are assigned at no cost, in the order of the arguments
pattern : tells 0 1 ((Spine (Schematic (name (codes "F") 0) (fun i (fun i i))) Nil) ∷ []) (pair (ty_cons i (ty_cons i no_types)) (Spine (Schematic (name (codes "F") 0) (fun i (fun i i))) (tm_cons (index 0) (tm_cons (index 1) Nil))) (Spine (Const (codes "h") (fun i (fun i i))) (tm_cons (index 1) (tm_cons (index 0) Nil))) ∷ []) ≡ ((((lam i (lam i (Spine (Const (codes "h") (fun i (fun i i))) (tm_cons (index 0) (tm_cons (index 1) Nil))))) ∷ []) ∷ []), 0)
unfolding size size_all total in_pairs simplify long all_long all_under all_typed first_rigid others variables_in bind_index bind_index_all abstracted indices taken domains target lams own new_variables how_many projections common agreeing types_at indexed settle close next_of_all grown functions types_len type_at type_of result_type dom cod raise raise_all occurs occurs_in lower lower_all ends_in_0 front contracts eta loose loose_all append put put_all happ expand retype retype_all map_typ map_typs inst inst_all put_typ put_typs single_typ occurs_typ occurs_any seek at under_types has unhidden_types composed_types assign variables_typ variables_all differ differ_all solve turn_types unified value_of has_value under_values unhidden typ_variables types_variables variables terms_variables same_typ same_typs
pattern = refl

-- a bound variable that the arguments leave out has no value at no cost
loose_left_out : tells 0 1 ((Spine (Schematic (name (codes "F") 0) (fun i i)) Nil) ∷ []) (pair (ty_cons i (ty_cons i no_types)) (Spine (Schematic (name (codes "F") 0) (fun i i)) (tm_cons (index 0) Nil)) (Spine (Const (codes "h") (fun i (fun i i))) (tm_cons (index 1) (tm_cons (index 0) Nil))) ∷ []) ≡ (([]), 0)
unfolding size size_all total in_pairs simplify long all_long all_under all_typed first_rigid others variables_in bind_index bind_index_all abstracted indices taken domains target lams own new_variables how_many projections common agreeing types_at indexed settle close next_of_all grown functions types_len type_at type_of result_type dom cod raise raise_all occurs occurs_in lower lower_all ends_in_0 front contracts eta loose loose_all append put put_all happ expand retype retype_all map_typ map_typs inst inst_all put_typ put_typs single_typ occurs_typ occurs_any seek at under_types has unhidden_types composed_types assign variables_typ variables_all differ differ_all solve turn_types unified value_of has_value under_values unhidden typ_variables types_variables variables terms_variables same_typ same_typs
loose_left_out = refl

-- one variable at two lists of distinct bound variables is cut to the equal places
one_variable : tells 0 5 ((Spine (Schematic (name (codes "F") 0) (fun i (fun i i))) Nil) ∷ []) (pair (ty_cons i (ty_cons i no_types)) (Spine (Schematic (name (codes "F") 0) (fun i (fun i i))) (tm_cons (index 1) (tm_cons (index 0) Nil))) (Spine (Schematic (name (codes "F") 0) (fun i (fun i i))) (tm_cons (index 0) (tm_cons (index 1) Nil))) ∷ []) ≡ ((((lam i (lam i (Spine (Schematic (name (codes "F") 5) i) Nil))) ∷ []) ∷ []), 0)
unfolding size size_all total in_pairs simplify long all_long all_under all_typed first_rigid others variables_in bind_index bind_index_all abstracted indices taken domains target lams own new_variables how_many projections common agreeing types_at indexed settle close next_of_all grown functions types_len type_at type_of result_type dom cod raise raise_all occurs occurs_in lower lower_all ends_in_0 front contracts eta loose loose_all append put put_all happ expand retype retype_all map_typ map_typs inst inst_all put_typ put_typs single_typ occurs_typ occurs_any seek at under_types has unhidden_types composed_types assign variables_typ variables_all differ differ_all solve turn_types unified value_of has_value under_values unhidden typ_variables types_variables variables terms_variables same_typ same_typs
one_variable = refl

-- two variables are cut to the common ones, in the order of the left side
common_places : tells 0 5 ((Spine (Schematic (name (codes "F") 0) (fun i (fun i (fun i i)))) Nil) ∷ (Spine (Schematic (name (codes "G") 3) (fun i (fun i i))) Nil) ∷ []) (pair (ty_cons i (ty_cons i (ty_cons i no_types))) (Spine (Schematic (name (codes "F") 0) (fun i (fun i (fun i i)))) (tm_cons (index 0) (tm_cons (index 1) (tm_cons (index 2) Nil)))) (Spine (Schematic (name (codes "G") 3) (fun i (fun i i))) (tm_cons (index 2) (tm_cons (index 0) Nil))) ∷ []) ≡ ((((lam i (lam i (Spine (Schematic (name (codes "F") 5) (fun i (fun i i))) (tm_cons (index 1) Nil)))) ∷ (lam i (lam i (Spine (Schematic (name (codes "F") 5) (fun i (fun i i))) (tm_cons (index 0) (tm_cons (index 1) Nil))))) ∷ []) ∷ []), 0)
unfolding size size_all total in_pairs simplify long all_long all_under all_typed first_rigid others variables_in bind_index bind_index_all abstracted indices taken domains target lams own new_variables how_many projections common agreeing types_at indexed settle close next_of_all grown functions types_len type_at type_of result_type dom cod raise raise_all occurs occurs_in lower lower_all ends_in_0 front contracts eta loose loose_all append put put_all happ expand retype retype_all map_typ map_typs inst inst_all put_typ put_typs single_typ occurs_typ occurs_any seek at under_types has unhidden_types composed_types assign variables_typ variables_all differ differ_all solve turn_types unified value_of has_value under_values unhidden typ_variables types_variables variables terms_variables same_typ same_typs
common_places = refl

-- equal flex-flex pairs are closed like all others
equal_sides : tells 0 2 ((Spine (Schematic (name (codes "F") 1) (fun i i)) Nil) ∷ []) (pair (ty_cons i no_types) (Spine (Schematic (name (codes "F") 1) (fun i i)) (tm_cons (index 0) Nil)) (Spine (Schematic (name (codes "F") 1) (fun i i)) (tm_cons (index 0) Nil)) ∷ []) ≡ ((((Spine (Schematic (name (codes "F") 2) (fun i i)) Nil) ∷ []) ∷ []), 0)
unfolding size size_all total in_pairs simplify long all_long all_under all_typed first_rigid others variables_in bind_index bind_index_all abstracted indices taken domains target lams own new_variables how_many projections common agreeing types_at indexed settle close next_of_all grown functions types_len type_at type_of result_type dom cod raise raise_all occurs occurs_in lower lower_all ends_in_0 front contracts eta loose loose_all append put put_all happ expand retype retype_all map_typ map_typs inst inst_all put_typ put_typs single_typ occurs_typ occurs_any seek at under_types has unhidden_types composed_types assign variables_typ variables_all differ differ_all solve turn_types unified value_of has_value under_values unhidden typ_variables types_variables variables terms_variables same_typ same_typs
equal_sides = refl

-- where an argument is no bound variable both become constant functions of one new variable
constants : tells 0 1 ((Spine (Schematic (name (codes "f") 0) (fun i i)) Nil) ∷ (Spine (Schematic (name (codes "G") 0) (fun i (fun i i))) Nil) ∷ []) (pair (ty_cons i no_types) (Spine (Schematic (name (codes "f") 0) (fun i i)) (tm_cons (Spine (Const (codes "a") i) Nil) Nil)) (Spine (Schematic (name (codes "G") 0) (fun i (fun i i))) (tm_cons (index 0) (tm_cons (index 0) Nil))) ∷ []) ≡ ((((lam i (Spine (Schematic (name (codes "f") 1) i) Nil)) ∷ (lam i (lam i (Spine (Schematic (name (codes "f") 1) i) Nil))) ∷ []) ∷ []), 0)
unfolding size size_all total in_pairs simplify long all_long all_under all_typed first_rigid others variables_in bind_index bind_index_all abstracted indices taken domains target lams own new_variables how_many projections common agreeing types_at indexed settle close next_of_all grown functions types_len type_at type_of result_type dom cod raise raise_all occurs occurs_in lower lower_all ends_in_0 front contracts eta loose loose_all append put put_all happ expand retype retype_all map_typ map_typs inst inst_all put_typ put_typs single_typ occurs_typ occurs_any seek at under_types has unhidden_types composed_types assign variables_typ variables_all differ differ_all solve turn_types unified value_of has_value under_values unhidden typ_variables types_variables variables terms_variables same_typ same_typs
constants = refl

-- constants whose types are made equal
types_on_the_way : tells 0 1 ((Spine (Schematic (name (codes "x") 0) (Variable (name (codes "a") 0))) Nil) ∷ (Spine (Schematic (name (codes "y") 0) i) Nil) ∷ []) (pair no_types (Spine (Const (codes "q") (fun (Variable (name (codes "a") 0)) (fun (Variable (name (codes "a") 0)) prop))) (tm_cons (Spine (Schematic (name (codes "x") 0) (Variable (name (codes "a") 0))) Nil) (tm_cons (Spine (Schematic (name (codes "x") 0) (Variable (name (codes "a") 0))) Nil) Nil))) (Spine (Const (codes "q") (fun i (fun i prop))) (tm_cons (Spine (Const (codes "a") i) Nil) (tm_cons (Spine (Schematic (name (codes "y") 0) i) Nil) Nil))) ∷ []) ≡ ((((Spine (Const (codes "a") i) Nil) ∷ (Spine (Const (codes "a") i) Nil) ∷ []) ∷ []), 0)
unfolding size size_all total in_pairs simplify long all_long all_under all_typed first_rigid others variables_in bind_index bind_index_all abstracted indices taken domains target lams own new_variables how_many projections common agreeing types_at indexed settle close next_of_all grown functions types_len type_at type_of result_type dom cod raise raise_all occurs occurs_in lower lower_all ends_in_0 front contracts eta loose loose_all append put put_all happ expand retype retype_all map_typ map_typs inst inst_all put_typ put_typs single_typ occurs_typ occurs_any seek at under_types has unhidden_types composed_types assign variables_typ variables_all differ differ_all solve turn_types unified value_of has_value under_values unhidden typ_variables types_variables variables terms_variables same_typ same_typs
types_on_the_way = refl

-- and where they can't be
type_clash : tells 0 1 ((Spine (Schematic (name (codes "x") 0) i) Nil) ∷ []) (pair no_types (Spine (Const (codes "q") (fun (Variable (name (codes "a") 0)) prop)) (tm_cons (Spine (Schematic (name (codes "x") 0) (Variable (name (codes "a") 0))) Nil) Nil)) (Spine (Const (codes "r") (fun (Variable (name (codes "a") 0)) prop)) (tm_cons (Spine (Schematic (name (codes "x") 0) (Variable (name (codes "a") 0))) Nil) Nil)) ∷ []) ≡ (([]), 0)
unfolding size size_all total in_pairs simplify long all_long all_under all_typed first_rigid others variables_in bind_index bind_index_all abstracted indices taken domains target lams own new_variables how_many projections common agreeing types_at indexed settle close next_of_all grown functions types_len type_at type_of result_type dom cod raise raise_all occurs occurs_in lower lower_all ends_in_0 front contracts eta loose loose_all append put put_all happ expand retype retype_all map_typ map_typs inst inst_all put_typ put_typs single_typ occurs_typ occurs_any seek at under_types has unhidden_types composed_types assign variables_typ variables_all differ differ_all solve turn_types unified value_of has_value under_values unhidden typ_variables types_variables variables terms_variables same_typ same_typs
type_clash = refl

-- a function variable against a constant, under no binder, is assigned the contracted value
contracted_value : tells 0 1 ((Spine (Schematic (name (codes "f") 0) (fun i i)) Nil) ∷ []) (pair no_types (Spine (Schematic (name (codes "f") 0) (fun i i)) Nil) (Spine (Const (codes "g") (fun i i)) Nil) ∷ []) ≡ ((((Spine (Const (codes "g") (fun i i)) Nil) ∷ []) ∷ []), 0)
unfolding size size_all total in_pairs simplify long all_long all_under all_typed first_rigid others variables_in bind_index bind_index_all abstracted indices taken domains target lams own new_variables how_many projections common agreeing types_at indexed settle close next_of_all grown functions types_len type_at type_of result_type dom cod raise raise_all occurs occurs_in lower lower_all ends_in_0 front contracts eta loose loose_all append put put_all happ expand retype retype_all map_typ map_typs inst inst_all put_typ put_typs single_typ occurs_typ occurs_any seek at under_types has unhidden_types composed_types assign variables_typ variables_all differ differ_all solve turn_types unified value_of has_value under_values unhidden typ_variables types_variables variables terms_variables same_typ same_typs
contracted_value = refl

-- a pair whose type becomes a function type on the way
function_type : tells 0 2 ((Spine (Schematic (name (codes "F") 0) (fun i (Variable (name (codes "a") 0)))) Nil) ∷ (Spine (Schematic (name (codes "y") 0) (Variable (name (codes "a") 0))) Nil) ∷ []) (pair (ty_cons i no_types) (Spine (Schematic (name (codes "F") 0) (fun i (Variable (name (codes "a") 0)))) (tm_cons (index 0) Nil)) (Spine (Schematic (name (codes "y") 0) (Variable (name (codes "a") 0))) Nil) ∷ pair no_types (Spine (Schematic (name (codes "y") 0) (Variable (name (codes "a") 0))) Nil) (Spine (Const (codes "g") (fun i i)) Nil) ∷ []) ≡ ((((lam i (Spine (Const (codes "g") (fun i i)) Nil)) ∷ (Spine (Const (codes "g") (fun i i)) Nil) ∷ []) ∷ []), 0)
unfolding size size_all total in_pairs simplify long all_long all_under all_typed first_rigid others variables_in bind_index bind_index_all abstracted indices taken domains target lams own new_variables how_many projections common agreeing types_at indexed settle close next_of_all grown functions types_len type_at type_of result_type dom cod raise raise_all occurs occurs_in lower lower_all ends_in_0 front contracts eta loose loose_all append put put_all happ expand retype retype_all map_typ map_typs inst inst_all put_typ put_typs single_typ occurs_typ occurs_any seek at under_types has unhidden_types composed_types assign variables_typ variables_all differ differ_all solve turn_types unified value_of has_value under_values unhidden typ_variables types_variables variables terms_variables same_typ same_typs
function_type = refl

-- a projection to an argument whose result type is a variable
type_of_projection : tells 1 1 ((Spine (Schematic (name (codes "F") 0) (fun (Variable (name (codes "a") 0)) i)) Nil) ∷ (Spine (Schematic (name (codes "w") 0) (Variable (name (codes "a") 0))) Nil) ∷ []) (pair no_types (Spine (Schematic (name (codes "F") 0) (fun (Variable (name (codes "a") 0)) i)) (tm_cons (Spine (Schematic (name (codes "w") 0) (Variable (name (codes "a") 0))) Nil) Nil)) (Spine (Const (codes "a") i) Nil) ∷ []) ≡ ((((lam i (index 0)) ∷ (Spine (Const (codes "a") i) Nil) ∷ []) ∷ ((lam (Variable (name (codes "a") 0)) (Spine (Const (codes "a") i) Nil)) ∷ (Spine (Schematic (name (codes "w") 0) (Variable (name (codes "a") 0))) Nil) ∷ []) ∷ []), 1)
unfolding size size_all total in_pairs simplify long all_long all_under all_typed first_rigid others variables_in bind_index bind_index_all abstracted indices taken domains target lams own new_variables how_many projections common agreeing types_at indexed settle close next_of_all grown functions types_len type_at type_of result_type dom cod raise raise_all occurs occurs_in lower lower_all ends_in_0 front contracts eta loose loose_all append put put_all happ expand retype retype_all map_typ map_typs inst inst_all put_typ put_typs single_typ occurs_typ occurs_any seek at under_types has unhidden_types composed_types assign variables_typ variables_all differ differ_all solve turn_types unified value_of has_value under_values unhidden typ_variables types_variables variables terms_variables same_typ same_typs
type_of_projection = refl

-- what is assigned is put in the later pairs
solved_leaves : tells 1 1 ((Spine (Schematic (name (codes "x") 0) i) Nil) ∷ (Spine (Schematic (name (codes "f") 0) (fun i i)) Nil) ∷ []) (pair no_types (Spine (Schematic (name (codes "x") 0) i) Nil) (Spine (Const (codes "a") i) Nil) ∷ pair no_types (Spine (Schematic (name (codes "f") 0) (fun i i)) (tm_cons (Spine (Schematic (name (codes "x") 0) i) Nil) Nil)) (Spine (Const (codes "g") (fun i i)) (tm_cons (Spine (Schematic (name (codes "x") 0) i) Nil) Nil)) ∷ []) ≡ (([]), 1)
unfolding size size_all total in_pairs simplify long all_long all_under all_typed first_rigid others variables_in bind_index bind_index_all abstracted indices taken domains target lams own new_variables how_many projections common agreeing types_at indexed settle close next_of_all grown functions types_len type_at type_of result_type dom cod raise raise_all occurs occurs_in lower lower_all ends_in_0 front contracts eta loose loose_all append put put_all happ expand retype retype_all map_typ map_typs inst inst_all put_typ put_typs single_typ occurs_typ occurs_any seek at under_types has unhidden_types composed_types assign variables_typ variables_all differ differ_all solve turn_types unified value_of has_value under_values unhidden typ_variables types_variables variables terms_variables same_typ same_typs
solved_leaves = refl

-- an argument that is a function gets a new variable over all arguments
higher : tells 2 1 ((Spine (Schematic (name (codes "F") 0) (fun (fun i i) i)) Nil) ∷ []) (pair no_types (Spine (Schematic (name (codes "F") 0) (fun (fun i i) i)) (tm_cons (Spine (Const (codes "g") (fun i i)) Nil) Nil)) (Spine (Const (codes "g") (fun i i)) (tm_cons (Spine (Const (codes "a") i) Nil) Nil)) ∷ []) ≡ ((((lam (fun i i) (Spine (Bound 0) (tm_cons (Spine (Const (codes "a") i) Nil) Nil))) ∷ []) ∷ ((lam (fun i i) (Spine (Const (codes "g") (fun i i)) (tm_cons (Spine (Const (codes "a") i) Nil) Nil))) ∷ []) ∷ []), 3)
unfolding size size_all total in_pairs simplify long all_long all_under all_typed first_rigid others variables_in bind_index bind_index_all abstracted indices taken domains target lams own new_variables how_many projections common agreeing types_at indexed settle close next_of_all grown functions types_len type_at type_of result_type dom cod raise raise_all occurs occurs_in lower lower_all ends_in_0 front contracts eta loose loose_all append put put_all happ expand retype retype_all map_typ map_typs inst inst_all put_typ put_typs single_typ occurs_typ occurs_any seek at under_types has unhidden_types composed_types assign variables_typ variables_all differ differ_all solve turn_types unified value_of has_value under_values unhidden typ_variables types_variables variables terms_variables same_typ same_typs
higher = refl
