use Rattle.std.proofs.Common.{refl}
use Rattle.iv_term.specs.Term.{abs_is, cons_is}
use Rattle.iv_hsub.specs.Retype.{retype, retype_all}
use Rattle.iv_put.proofs.Facts.Tests.{pair-no, pair-yes}
use Rattle.iv_put.proofs.can.+fits.Goals as goal

pub all_fit-returns-then-not-fits : goal.all_fit-returns-then-not-fits
unfolding retype_all
all_fit-returns-then-not-fits t c = rw (c.in-Cons.is, cons_is) (pair-no _ _ c.fits.result (rw c.get.ensures at c.fits.ensures) c.if-not-fits.true)

pub all_fit-returns-in-Nil : goal.all_fit-returns-in-Nil
unfolding retype_all
all_fit-returns-in-Nil t c = rw c.in-Nil.is (λ h. tt, λ h. refl)

pub all_fit-returns-else-not-fits : goal.all_fit-returns-else-not-fits
unfolding retype_all
all_fit-returns-else-not-fits t c =
    rw (c.in-Cons.is, cons_is) (pair-yes _ _ c.fits.result _ (rw c.get.ensures at c.fits.ensures) c.if-not-fits.false (rw c.get-in-Cons.ensures at c.all_fit.ensures))

pub fits-returns-then-not-fits_head : goal.fits-returns-then-not-fits_head
unfolding retype
fits-returns-then-not-fits_head t c = rw c.in-Spine.is (pair-no _ _ c.fits_head.result c.fits_head.ensures c.if-not-fits_head.true)

pub fits-returns-in-Abs : goal.fits-returns-in-Abs
unfolding retype
fits-returns-in-Abs t c = rw (c.in-Abs.is, abs_is) (rw c.get.ensures at c.fits.ensures)

pub fits-returns-else-not-fits_head : goal.fits-returns-else-not-fits_head
unfolding retype
fits-returns-else-not-fits_head t c = rw c.in-Spine.is (pair-yes _ _ c.fits_head.result _ c.fits_head.ensures c.if-not-fits_head.false c.all_fit.ensures)
