-- The form in which each !! stands in front of ==> (hereditary Harrop form: Miller 1991; Paulson 1989).
use Rattle.std.specs.Prelude.{◌≡◌, Bool, true, false, ◌&&◌, codes, if◌then◌else◌}
use Rattle.std.specs.Str.{bytes_eq}
use Rattle.iv_term.specs.declared.typ.Typ.{Typ}
use Rattle.iv_term.specs.declared.term.Head.{Head}
use Rattle.iv_term.specs.declared.term.Head.TheVariants.{Const, Bound}
use Rattle.iv_term.specs.declared.term.Term.{Term}
use Rattle.iv_term.specs.declared.term.Terms.{Terms}
use Rattle.iv_term.specs.declared.term.Term.TheBlock.{Spine, Nil}
use Rattle.iv_term.specs.Typ.{prop, fun, same_typ}
use Rattle.iv_term.specs.Term.{lam, tm_cons, implies, imp, is_nil, is_one, are_two, antecedent, consequent}
use Rattle.iv_hsub.specs.Typing.{dom}
use Rattle.iv_hsub.specs.Index.{index, raise_head, raise, raise_all, eta}
use Rattle.iv_hsub.specs.Hsub.{append}

-- the type of !! over a
abbrev pub all_typ : Typ → Typ
all_typ a = fun (fun a prop) prop

abbrev pub all_head : Typ → Head
all_head a = Const (codes "!!") (all_typ a)

-- whether a head is ==>, and whether it is !!: the constant of that name and of such a type
abbrev pub is_imp : Head → Bool
is_imp (Const c a) = bytes_eq c (codes "==>") && same_typ a implies
is_imp h = false

abbrev pub is_all : Head → Bool
is_all (Const c a) = bytes_eq c (codes "!!") && same_typ a (all_typ (dom (dom a)))
is_all h = false

-- the type that !! binds over
abbrev pub bound_type : Head → Typ
bound_type (Const c a) = dom (dom a)
bound_type h = prop

-- one term as a list
abbrev pub one : Term → Terms
one t = tm_cons t Nil

-- the body of the abstraction that h ts is for short: h ts x, where x is the new variable
unfoldable pub expand : Head → Terms → Term
expand h ts = Spine (raise_head 1 0 h) (append (raise_all 1 0 ts) (one (index 0)))

-- !!x. b, where h is that !!
abbrev pub all_of : Head → Term → Term
all_of h b = Spine h (one (eta (bound_type h) b))

-- a ==> h ts x, where x is the variable that a is under; where h alone is !!, one more comes out: !!y. a ==> x y
abbrev pub push_expanded : Term → Head → Terms → Term
push_expanded a h ts = if is_all h && is_nil ts then all_of h (imp (raise 1 0 a) (Spine (Bound 1) (one (index 0)))) else imp a (expand h ts)

unfoldable mutual
  -- a ==> b, with each !! that b begins with in front
  pub push : Term → Term → Term
  push a (lam c t) = imp a (lam c t)
  push a (Spine h ts) = push_args a h ts

  pub push_args : Term → Head → Terms → Term
  push_args a h Nil = imp a (Spine h Nil)
  push_args a h (tm_cons t ts) = if is_all h && is_nil ts then all_of h (push_under (raise 1 0 a) t) else imp a (Spine h (tm_cons t ts))

  -- a ==> t x, where x is the variable that a is under
  pub push_under : Term → Term → Term
  push_under a (lam c t) = push a t
  push_under a (Spine h ts) = push_expanded a h ts

-- a head with arguments that have the form
abbrev pub hhf_spine : Head → Terms → Term
hhf_spine h ts = if is_imp h && are_two ts then push (antecedent (Spine h ts)) (consequent (Spine h ts)) else Spine h ts

unfoldable mutual
  -- a term with each !! moved in front of ==>, everywhere in it
  pub hhf : Term → Term
  hhf (lam c t) = eta c (hhf t)
  hhf (Spine h ts) = hhf_spine h (hhf_all ts)

  pub hhf_all : Terms → Terms
  hhf_all Nil = Nil
  hhf_all (tm_cons t ts) = tm_cons (hhf t) (hhf_all ts)

-- whether a term is !! with its one argument
abbrev pub is_quantified : Term → Bool
is_quantified (lam c t) = false
is_quantified (Spine h ts) = is_all h && is_one ts

-- no !! stands behind an ==> with these arguments
abbrev pub IsFirstPlain : Terms → Type 0
IsFirstPlain Nil = Unit {0}
IsFirstPlain (tm_cons t ts) = is_quantified t ≡ false

abbrev pub IsSecondPlain : Terms → Type 0
IsSecondPlain Nil = Unit {0}
IsSecondPlain (tm_cons t ts) = IsFirstPlain ts

abbrev mutual
  -- no !! stands behind ==>, anywhere in the term
  pub IsHhf : Term → Type 0
  IsHhf (lam c t) = IsHhf t
  IsHhf (Spine h ts) = AreHhf ts × (is_imp h ≡ true → IsSecondPlain ts)

  pub AreHhf : Terms → Type 0
  AreHhf Nil = Unit {0}
  AreHhf (tm_cons t ts) = IsHhf t × AreHhf ts
