use Rattle.std.proofs.Common.{sym, ◌∙◌}
use Rattle.iv_term.specs.Term.{abs_is, cons_is}
use Rattle.iv_hsub.specs.Typing.{result_type}
use Rattle.iv_hsub.specs.Bounds.{types_in}
use Rattle.iv_hsub.proofs.Terms.Tests.{lam-not_fun, lam-other, lam-contracts, lam-fits, spine-fits, arg-not_fun, arg-other, arg-fits}
use Rattle.iv_hsub.proofs.typing.+is_term.Goals as goal

pub fits-returns-then-not-is_fun : goal.fits-returns-then-not-is_fun
fits-returns-then-not-is_fun t c = rw (c.in-Abs.is, abs_is) (lam-not_fun _ _ _ _ _ c.is_fun.ensures c.if-not-is_fun.true)

pub fits-returns-then-not-is : goal.fits-returns-then-not-is
fits-returns-then-not-is t c = rw (c.in-Abs.is, abs_is) (lam-other _ _ _ _ _ (rw c.dom.ensures at c.is.ensures.equal) c.if-not-is.true)

pub fits-returns-then-contracts : goal.fits-returns-then-contracts
fits-returns-then-contracts t c = rw (c.in-Abs.is, abs_is, ← c.get.ensures) (lam-contracts _ _ _ _ (sym c.contracts.ensures ∙ c.if-contracts.true))

pub fits-returns-else-contracts : goal.fits-returns-else-contracts
unfolding types_in
fits-returns-else-contracts t c =
    rw (c.in-Abs.is, abs_is)
    (lam-fits _ _ _ _ _ (c.is_fun.ensures.0 c.if-not-is_fun.false) ((rw c.dom.ensures at c.is.ensures.equal).0 c.if-not-is.false)
    (rw c.get.ensures at (sym c.contracts.ensures ∙ c.if-contracts.false)) (rw (c.get-in-Abs.ensures, c.cod.ensures) at c.fits.ensures))

pub fits-returns-in-Some : goal.fits-returns-in-Some
fits-returns-in-Some t c = rw c.in-Spine.is (spine-fits _ _ _ _ _ _ c.in-Some.ensures c.lead_to.ensures)

pub lead_to-returns-in-Nil : goal.lead_to-returns-in-Nil
unfolding result_type
lead_to-returns-in-Nil t c = rw c.in-Nil.is (λ h. (tt, c.is.ensures.equal.0 h), λ p. c.is.ensures.equal.1 p.1)

pub lead_to-returns-then-not-is_fun : goal.lead_to-returns-then-not-is_fun
lead_to-returns-then-not-is_fun t c = rw (c.in-Cons.is, cons_is) (arg-not_fun _ _ c.in-Cons.t c.in-Cons.rest _ _ c.is_fun.ensures c.if-not-is_fun.true)

pub lead_to-returns-then-not-fits : goal.lead_to-returns-then-not-fits
lead_to-returns-then-not-fits t c =
    rw (c.in-Cons.is, cons_is) (arg-other _ _ c.in-Cons.t c.in-Cons.rest _ _ (rw (c.get.ensures, c.dom.ensures) at c.fits.ensures) c.if-not-fits.true)

pub lead_to-returns-else-not-fits : goal.lead_to-returns-else-not-fits
unfolding result_type
lead_to-returns-else-not-fits t c =
    rw (c.in-Cons.is, cons_is)
    (arg-fits _ _ c.in-Cons.t c.in-Cons.rest _ _ (c.is_fun.ensures.0 c.if-not-is_fun.false) ((rw (c.get.ensures, c.dom.ensures) at c.fits.ensures).0 c.if-not-fits.false)
    (rw (c.get-in-Cons.ensures, c.cod.ensures) at c.lead_to.ensures))
