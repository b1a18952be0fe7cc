-- What is put for a schematic variable: assignment, projection and imitation (Huet 1975, MATCH), and the closing of flex-flex pairs
-- (of this project).
use Rattle.std.specs.Prelude.{Bool, not, ◌&&◌, ℕ, zero, suc, ◌+◌, nat_eq, if◌then◌else◌, List, [], ◌∷◌, ◌++◌, Option, Some, None}
use Rattle.std.specs.List.{list_any}
use Rattle.iv_text.specs.declared.name.Name.{Name}
use Rattle.iv_text.specs.Name.{same_name}
use Rattle.iv_term.specs.declared.typ.Typ.{Typ}
use Rattle.iv_term.specs.declared.typ.Types.{Types}
use Rattle.iv_term.specs.declared.typ.Typ.TheBlock.{Con, Nil as no_types}
use Rattle.iv_term.specs.declared.term.Head.{Head}
use Rattle.iv_term.specs.declared.term.Head.TheVariants.{Const, Free, Schematic, Bound}
use Rattle.iv_term.specs.declared.term.Term.{Term}
use Rattle.iv_term.specs.declared.term.Terms.{Terms}
use Rattle.iv_term.specs.declared.term.Term.TheBlock.{Spine, Nil}
use Rattle.iv_term.specs.Typ.{ty_cons}
use Rattle.iv_term.specs.Term.{lam, tm_cons}
use Rattle.iv_hsub.specs.Typing.{dom, cod, types_len, type_at, type_of}
use Rattle.iv_hsub.specs.Index.{index, loose, raise_head, eta}
use Rattle.iv_hsub.specs.Retype.{retype}
use Rattle.iv_laws.specs.Spines.{functions}
use Rattle.iv_subst.specs.TySubst.{TyMap}
use Rattle.iv_subst.specs.Unifier.{unified}
use Rattle.iv_put.specs.Subst.{Substitution, by_map}
use Rattle.iv_unify.specs.declared.pair.Pair.{Pair}
use Rattle.iv_unify.specs.Pairs.{has_schematic}
use Rattle.iv_unify.specs.Simplify.{is_function}

-- a value for one variable
abbrev pub single : Name → Term → Substitution
single x v = ([], (x, v) ∷ [])

-- a variable with a number
abbrev pub numbered : Name → ℕ → Name
numbered x m = record { text = x.text; number = m }

-- a head with the index k of a new binder in the place of the index i
abbrev pub bind_index_head : ℕ → ℕ → Head → Head
bind_index_head i k (Bound n) = if nat_eq n i then Bound k else raise_head 1 k (Bound n)
bind_index_head i k h = h

unfoldable mutual
  -- a term with the index k of a new binder in the place of the index i
  pub bind_index : ℕ → ℕ → Term → Term
  bind_index i k (lam a t) = lam a (bind_index (suc i) (suc k) t)
  bind_index i k (Spine h ts) = Spine (bind_index_head i k h) (bind_index_all i k ts)

  pub bind_index_all : ℕ → ℕ → Terms → Terms
  bind_index_all i k Nil = Nil
  bind_index_all i k (tm_cons t ts) = tm_cons (bind_index i k t) (bind_index_all i k ts)

-- %xs. t, where the xs are the bound variables of some indices
unfoldable pub abstracted : List ℕ → Types → Term → Term
abstracted [] bs t = t
abstracted (i ∷ is) bs t = eta (type_at bs i) (bind_index i 0 (abstracted is bs t))

-- the indices of terms that are distinct bound variables
abbrev pub among : ℕ → List ℕ → Bool
among i is = list_any (nat_eq i) is

abbrev pub and_new : ℕ → Option (List ℕ) → Option (List ℕ)
and_new i None = None
and_new i (Some is) = if among i is then None else Some (i ∷ is)

abbrev pub index_of : Term → Option ℕ
index_of (Spine (Bound i) Nil) = Some i
index_of t = None

abbrev pub and_index : Option ℕ → Option (List ℕ) → Option (List ℕ)
and_index None o = None
and_index (Some i) o = and_new i o

unfoldable pub indices : Terms → Option (List ℕ)
indices Nil = Some []
indices (tm_cons t ts) = and_index (index_of t) (indices ts)

-- the assignment of a variable x at distinct bound variables that hold all loose ones of t: %xs. t, where x isn't in t
abbrev pub assigned_at : Types → Name → Option (List ℕ) → Term → Option Substitution
assigned_at bs x None t = None
assigned_at bs x (Some is) t = if nat_eq (loose (abstracted is bs t)) 0 && not (has_schematic x t) then Some (single x (abstracted is bs t)) else None

abbrev pub assigned : Types → Term → Term → Option Substitution
assigned bs (Spine (Schematic x a) ts) t = assigned_at bs x (indices ts) t
assigned bs t u = None

-- the types of the arguments that what has type a takes, for as many as there are
unfoldable pub taken : Typ → Terms → Types
taken a Nil = no_types
taken a (tm_cons t ts) = ty_cons (dom a) (taken (cod a) ts)

-- all argument types that a type shows, and the result type after them
unfoldable pub domains : Typ → Types
domains (Con c (ty_cons a (ty_cons b no_types))) = if is_function c then ty_cons a (domains b) else no_types
domains a = no_types

unfoldable pub target : Typ → Typ
target (Con c (ty_cons a (ty_cons b no_types))) = if is_function c then target b else Con c (ty_cons a (ty_cons b no_types))
target a = a

-- %xs. t, where the xs have some types, the first outermost
unfoldable pub lams : Types → Term → Term
lams no_types t = t
lams (ty_cons d ds) t = eta d (lams ds t)

-- the variables of n abstractions, the outermost first
unfoldable pub own : ℕ → Terms
own zero = Nil
own (suc n) = tm_cons (index n) (own n)

-- new variables of some types, with the numbers m, m+1, .., each over all arguments
unfoldable pub new_variables : Name → ℕ → Types → Types → Terms
new_variables x m ds no_types = Nil
new_variables x m ds (ty_cons b bs) = tm_cons (Spine (Schematic (numbered x m) (functions ds b)) (own (types_len ds))) (new_variables x (suc m) ds bs)

-- %xs. h (?x.m xs) (?x.m+1 xs) ..
abbrev pub candidate : Name → ℕ → Types → Head → Types → Term
candidate x m ds h bs = lams ds (Spine h (new_variables x m ds bs))

-- what may be put for a variable, and the next number after it
abbrev pub Choice : Type 0
Choice = Substitution × ℕ

abbrev pub projected : Name → ℕ → Types → ℕ → Types → Option TyMap → List Choice → List Choice
projected x m ds k bs None cs = cs
projected x m ds k bs (Some r) cs = ((r, (x, retype (by_map r) (candidate x m ds (Bound k) bs)) ∷ []), m + types_len bs) ∷ cs

-- how many terms there are
unfoldable pub how_many : Terms → ℕ
how_many Nil = 0
how_many (tm_cons t ts) = suc (how_many ts)

-- the projections to arguments whose result type can be c, from left to right
unfoldable pub projections : Name → ℕ → Types → Types → Typ → Terms → List Choice
projections x m ds bs c Nil = []
projections x m ds bs c (tm_cons t ts) =
    projected x m ds (how_many ts) (domains (type_of bs t)) (unified (target (type_of bs t)) c []) (projections x m ds bs c ts)

-- the imitation of a constant or free variable
abbrev pub imitated : Name → ℕ → Types → Head → Types → List Choice
imitated x m ds h bs = (single x (candidate x m ds h bs), m + types_len bs) ∷ []

abbrev pub imitation_of : Name → ℕ → Types → Head → Terms → List Choice
imitation_of x m ds (Const c a) us = imitated x m ds (Const c a) (taken a us)
imitation_of x m ds (Free y a) us = imitated x m ds (Free y a) (taken a us)
imitation_of x m ds h us = []

abbrev pub imitation : Name → ℕ → Types → Term → List Choice
imitation x m ds (lam a b) = []
imitation x m ds (Spine h us) = imitation_of x m ds h us

-- the projections, and last the imitation
abbrev pub choices_at : ℕ → Types → Term → Term → List Choice
choices_at m bs (Spine (Schematic x a) ts) t = projections x m (taken a ts) bs (type_of bs t) ts ++ imitation x m (taken a ts) t
choices_at m bs t u = []

abbrev pub choices : ℕ → Pair → List Choice
choices m p = choices_at m p.bounds p.left p.right

-- the indices of the first list that are in the second, and those in equal places of both
unfoldable pub common : List ℕ → List ℕ → List ℕ
common [] js = []
common (i ∷ is) js = if among i js then i ∷ common is js else common is js

unfoldable pub agreeing : List ℕ → List ℕ → List ℕ
agreeing [] js = []
agreeing (i ∷ is) [] = []
agreeing (i ∷ is) (j ∷ js) = if nat_eq i j then i ∷ agreeing is js else agreeing is js

-- the types of some indices, and these as terms
unfoldable pub types_at : Types → List ℕ → Types
types_at bs [] = no_types
types_at bs (i ∷ is) = ty_cons (type_at bs i) (types_at bs is)

unfoldable pub indexed : List ℕ → Terms
indexed [] = Nil
indexed (i ∷ is) = tm_cons (index i) (indexed is)

-- the new variable of number m at bound variables, of type c there
abbrev pub new_at : Name → ℕ → Types → List ℕ → Typ → Term
new_at x m bs is c = Spine (Schematic (numbered x m) (functions (types_at bs is) c)) (indexed is)

-- values for the two variables of a pair: one, where they are one
abbrev pub both : Name → Term → Name → Term → Substitution
both x v y w = if same_name x y then single x v else ([], (x, v) ∷ (y, w) ∷ [])

-- a flex-flex pair at distinct bound variables is cut to the common ones, for one variable to the equal places; else both sides
-- become constant functions of one new variable
abbrev pub kept_places : Name → Name → List ℕ → List ℕ → List ℕ
kept_places x y is js = if same_name x y then agreeing is js else common is js

abbrev pub closing_by : ℕ → Types → Typ → Name → Types → Name → Types → Option (List ℕ) → Option (List ℕ) → Substitution
closing_by m bs c x ds y es (Some is) (Some js) =
    both x (abstracted is bs (new_at x m bs (kept_places x y is js) c)) y (abstracted js bs (new_at x m bs (kept_places x y is js) c))
closing_by m bs c x ds y es _ _ = both x (lams ds (new_at x m bs [] c)) y (lams es (new_at x m bs [] c))

abbrev pub closing_of : ℕ → Types → Typ → Term → Term → Substitution
closing_of m bs c (Spine (Schematic x a) ts) (Spine (Schematic y b) us) = closing_by m bs c x (taken a ts) y (taken b us) (indices ts) (indices us)
closing_of m bs c t u = ([], [])

abbrev pub closing : ℕ → Pair → Substitution
closing m p = closing_of m p.bounds (type_of p.bounds p.left) p.left p.right
