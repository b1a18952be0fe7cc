-- The first step of unification: types are made equal, and pairs with rigid heads on both sides are taken apart (Huet 1975, SIMPL;
-- with types unified on the way, of this project).
use Rattle.std.specs.Prelude.{Bool, true, false, ◌&&◌, ℕ, zero, suc, ◌+◌, nat_eq, if◌then◌else◌, List, [], ◌∷◌, ◌++◌, Option, Some, None, codes}
use Rattle.std.specs.Str.{bytes_eq}
use Rattle.iv_text.specs.Name.{same_name}
use Rattle.iv_term.specs.declared.typ.Typ.{Typ}
use Rattle.iv_term.specs.declared.typ.Types.{Types}
use Rattle.iv_term.specs.declared.typ.Typ.TheBlock.{Con, Nil as no_types}
use Rattle.iv_term.specs.declared.term.Head.{Head}
use Rattle.iv_term.specs.declared.term.Head.TheVariants.{Const, Free, Schematic, Bound}
use Rattle.iv_term.specs.declared.term.Term.{Term}
use Rattle.iv_term.specs.declared.term.Terms.{Terms}
use Rattle.iv_term.specs.declared.term.Term.TheBlock.{Spine, Nil}
use Rattle.iv_term.specs.Typ.{prop, ty_cons, same_typ}
use Rattle.iv_term.specs.Term.{lam, tm_cons}
use Rattle.iv_hsub.specs.Typing.{type_of}
use Rattle.iv_hsub.specs.Hhf.{expand}
use Rattle.iv_laws.specs.Forms.{body}
use Rattle.iv_subst.specs.TySubst.{TyMap}
use Rattle.iv_subst.specs.Unifier.{unified}
use Rattle.iv_unify.specs.declared.pair.Pair.{Pair}
use Rattle.iv_unify.specs.Pairs.{pair, typed}

-- the pairs of arguments in order, where there are as many on both sides
abbrev pub and_first : Pair → Option (List Pair) → Option (List Pair)
and_first p None = None
and_first p (Some ps) = Some (p ∷ ps)

unfoldable pub in_pairs : Types → Terms → Terms → Option (List Pair)
in_pairs bs Nil Nil = Some []
in_pairs bs Nil (tm_cons u us) = None
in_pairs bs (tm_cons t ts) Nil = None
in_pairs bs (tm_cons t ts) (tm_cons u us) = and_first (pair bs t u) (in_pairs bs ts us)

-- what is seen of a pair: it stays, its heads clash, or two types are to be made equal and other pairs take its place
pub data Look : Type 0 where
  stays : Look
  clash : Look
  opens : Typ → Typ → List Pair → Look

abbrev pub opened : Bool → Typ → Typ → Option (List Pair) → Look
opened true a b (Some ps) = opens a b ps
opened true a b None = clash
opened false a b o = clash

-- equal rigid heads: constants whose types are made equal, free variables of one name and type, bound variables of one index
abbrev pub look_heads : Types → Head → Terms → Head → Terms → Look
look_heads bs (Schematic x a) ts k us = stays
look_heads bs h ts (Schematic y b) us = stays
look_heads bs (Const c a) ts (Const d b) us = opened (bytes_eq c d) a b (in_pairs bs ts us)
look_heads bs (Free x a) ts (Free y b) us = opened (same_name x y && same_typ a b) a b (in_pairs bs ts us)
look_heads bs (Bound i) ts (Bound j) us = opened (nat_eq i j) prop prop (in_pairs bs ts us)
look_heads bs h ts k us = clash

-- where a side is an abstraction, the pair of the bodies; else by the heads
abbrev pub look : Types → Term → Term → Look
look bs (lam a b) u = opens prop prop (pair (ty_cons a bs) b (body u) ∷ [])
look bs (Spine h ts) (lam a b) = opens prop prop (pair (ty_cons a bs) (expand h ts) b ∷ [])
look bs (Spine h ts) (Spine k us) = look_heads bs h ts k us

-- types that were found, and the pairs that stay
abbrev pub Simple : Type 0
Simple = Option (TyMap × List Pair)

abbrev pub kept : Pair → Simple → Simple
kept p None = None
kept p (Some r) = Some (r.0, p ∷ r.1)

abbrev pub with_types : Option TyMap → (TyMap → Simple) → Simple
with_types None next = None
with_types (Some r) next = next r

-- a pair that was looked at under the types found so far, and then the others
abbrev pub looked : (TyMap → List Pair → Simple) → TyMap → Pair → List Pair → Look → Simple
looked next s p ps stays = kept p (next s ps)
looked next s p ps clash = None
looked next s p ps (opens a b qs) = with_types (unified a b s) (λ r. next r (qs ++ ps))

-- one turn: the types of the first pair are made equal, and then it is looked at
abbrev pub turn : (TyMap → List Pair → Simple) → TyMap → Pair → List Pair → Simple
turn next s p ps = with_types (unified (type_of p.bounds p.left) (type_of p.bounds p.right) s)
    (λ r. looked next r (typed r p) ps (look (typed r p).bounds (typed r p).left (typed r p).right))

-- pairs from the left, at most n turns, where some types were found
unfoldable pub simplify : ℕ → TyMap → List Pair → Simple
simplify n s [] = Some (s, [])
simplify zero s (p ∷ ps) = None
simplify (suc n) s (p ∷ ps) = turn (simplify n) s (typed s p) ps

-- how much there is to take apart: each turn leaves less. An abstraction counts twice, since the other side may get an argument
-- where one is taken off
unfoldable mutual
  pub size : Term → ℕ
  size (lam a b) = 2 + size b
  size (Spine h ts) = suc (size_all ts)

  pub size_all : Terms → ℕ
  size_all Nil = 0
  size_all (tm_cons t ts) = size t + size_all ts

unfoldable pub total : List Pair → ℕ
total [] = 0
total (p ∷ ps) = size p.left + size p.right + total ps

abbrev pub simplified : List Pair → Simple
simplified ps = simplify (total ps) [] ps

-- whether a type's constructor is that of functions
abbrev pub is_function : List ℕ → Bool
is_function c = bytes_eq c (codes "fun")

-- two terms of a type, eta-expanded until it is no function type
unfoldable pub long : Typ → Types → Term → Term → Pair
long (Con c (ty_cons a (ty_cons b no_types))) bs t u = if is_function c then long b (ty_cons a bs) (body t) (body u) else pair bs t u
long a bs t u = pair bs t u

unfoldable pub all_long : List Pair → List Pair
all_long [] = []
all_long (p ∷ ps) = long (type_of p.bounds p.left) p.bounds p.left p.right ∷ all_long ps
