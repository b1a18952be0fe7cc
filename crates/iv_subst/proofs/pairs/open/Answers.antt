use Rattle.iv_term.specs.Typ.{cons_is}
use Rattle.iv_subst.proofs.Laws.Pairs.{step-nil, lighter-nil, clash-left, clash-right}
use Rattle.iv_subst.proofs.pairs.open.Goals as goal

pub returns-in-Nil-right-clause-step : goal.returns-in-Nil-right-clause-step
returns-in-Nil-right-clause-step c = rw (c.in-Nil.is, c.in-Nil-right.is) (step-nil _ _)

pub returns-in-Nil-right-clause-lighter : goal.returns-in-Nil-right-clause-lighter
returns-in-Nil-right-clause-lighter c = rw (c.in-Nil.is, c.in-Nil-right.is) (lighter-nil _ _)

pub returns-in-Cons-right-clause-clash : goal.returns-in-Cons-right-clause-clash
returns-in-Cons-right-clause-clash c = rw (c.in-Nil.is, c.in-Cons-right.is, cons_is c.in-Cons-right._u c.in-Cons-right._us) (λ e. clash-right _ _ _ _)

pub returns-in-Nil-right-2-clause-clash : goal.returns-in-Nil-right-2-clause-clash
returns-in-Nil-right-2-clause-clash c = rw (c.in-Nil-right-2.is, c.in-Cons.is, cons_is c.in-Cons.t c.in-Cons.ts) (λ e. clash-left _ _ _ _)

pub returns-in-Cons-right-2-clause-step : goal.returns-in-Cons-right-2-clause-step
returns-in-Cons-right-2-clause-step c =
    rw (c.in-Cons.is, c.in-Cons-right-2.is, cons_is c.in-Cons.t c.in-Cons.ts, cons_is c.in-Cons-right-2.u c.in-Cons-right-2.us)
    (rw (c.get.ensures, c.get-in-Cons-right-2.ensures, c.get-in-Cons-right-2-2.ensures, c.get-in-Cons-right-2-3.ensures) at c.open_both.ensures.step)

pub returns-in-Cons-right-2-clause-lighter : goal.returns-in-Cons-right-2-clause-lighter
returns-in-Cons-right-2-clause-lighter c =
    rw (c.in-Cons.is, c.in-Cons-right-2.is, cons_is c.in-Cons.t c.in-Cons.ts, cons_is c.in-Cons-right-2.u c.in-Cons-right-2.us)
    (rw (c.get.ensures, c.get-in-Cons-right-2.ensures, c.get-in-Cons-right-2-2.ensures, c.get-in-Cons-right-2-3.ensures) at c.open_both.ensures.lighter)

pub returns-in-Cons-right-2-clause-clash : goal.returns-in-Cons-right-2-clause-clash
returns-in-Cons-right-2-clause-clash c =
    rw (c.in-Cons.is, c.in-Cons-right-2.is, cons_is c.in-Cons.t c.in-Cons.ts, cons_is c.in-Cons-right-2.u c.in-Cons-right-2.us)
    (rw (c.get.ensures, c.get-in-Cons-right-2.ensures, c.get-in-Cons-right-2-2.ensures, c.get-in-Cons-right-2-3.ensures) at c.open_both.ensures.clash)
