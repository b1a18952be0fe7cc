-- Equations and quantified propositions (Reference Manual, Pure), and a function at an argument.
use Rattle.std.specs.Prelude.{◌≡◌, codes}
use Rattle.iv_term.specs.declared.typ.Typ.{Typ}
use Rattle.iv_term.specs.declared.term.Head.{Head}
use Rattle.iv_term.specs.declared.term.Head.TheVariants.{Const}
use Rattle.iv_term.specs.declared.term.Term.{Term}
use Rattle.iv_term.specs.declared.term.Term.TheBlock.{Spine, Nil}
use Rattle.iv_term.specs.Typ.{prop, fun}
use Rattle.iv_term.specs.Term.{lam, tm_cons, antecedent, consequent}
use Rattle.iv_hsub.specs.Typing.{dom}
use Rattle.iv_hsub.specs.Hsub.{happ}
use Rattle.iv_hsub.specs.Hhf.{all_head, one}

-- s == t, where both are of type a
abbrev pub eq_head : Typ → Head
eq_head a = Const (codes "==") (fun a (fun a prop))

abbrev pub eq : Typ → Term → Term → Term
eq a s t = Spine (eq_head a) (tm_cons s (tm_cons t Nil))

-- the sides of an equation, which are its arguments, and their type
abbrev pub lhs : Term → Term
lhs t = antecedent t

abbrev pub rhs : Term → Term
rhs t = consequent t

abbrev pub head_dom : Head → Typ
head_dom (Const c a) = dom a
head_dom h = prop

abbrev pub side_type : Term → Typ
side_type (lam a b) = prop
side_type (Spine h ts) = head_dom h

-- a term is an equation
abbrev pub IsEquation : Term → Type 0
IsEquation t = t ≡ eq (side_type t) (lhs t) (rhs t)

-- !! f, which is !!x. f x, where x is of type a; its predicate is its argument
abbrev pub all : Typ → Term → Term
all a f = Spine (all_head a) (one f)

abbrev pub predicate : Term → Term
predicate t = antecedent t

-- f x, where f is of type c
abbrev pub app : Typ → Term → Term → Term
app c f x = happ c f (one x)
