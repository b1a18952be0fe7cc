use Rattle.iv_term.specs.Term.{cons_is}
use Rattle.iv_hsub.proofs.Terms.Tests.{arg-not_fun, arg-other, arg-fits, drop_unit, add_unit}
use Rattle.iv_hsub.proofs.typing.+are_args.Goals as goal

pub returns-then-not-is_fun : goal.returns-then-not-is_fun
returns-then-not-is_fun t c = rw (c.in-Cons.is, cons_is) (drop_unit _ _ (arg-not_fun _ _ c.in-Cons.t c.in-Cons.rest _ _ c.is_fun.ensures c.if-not-is_fun.true))

pub returns-then-not-fits : goal.returns-then-not-fits
returns-then-not-fits t c =
    rw (c.in-Cons.is, cons_is) (drop_unit _ _ (arg-other _ _ c.in-Cons.t c.in-Cons.rest _ _ (rw (c.get.ensures, c.dom.ensures) at c.fits.ensures) c.if-not-fits.true))

pub returns-else-not-fits : goal.returns-else-not-fits
returns-else-not-fits t c =
    rw (c.in-Cons.is, cons_is)
    (drop_unit _ _ (arg-fits _ _ c.in-Cons.t c.in-Cons.rest _ _ (c.is_fun.ensures.0 c.if-not-is_fun.false) ((rw (c.get.ensures, c.dom.ensures) at c.fits.ensures).0 c.if-not-fits.false)
    (add_unit _ _ (rw (c.get-in-Cons.ensures, c.cod.ensures) at c.are_args.ensures))))
