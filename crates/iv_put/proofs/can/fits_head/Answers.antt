use Rattle.iv_put.proofs.Facts.Values.{fits-when}
use Rattle.iv_put.proofs.can.fits_head.Goals as goal

pub returns-in-Some : goal.returns-in-Some
returns-in-Some c =
    rw c.in-Schematic.is (fits-when _ _ _ _ c.in-Some._value.now _ c.in-Some.ensures.0 c.in-Some.ensures.1 (rw c.types.ensures at c.becomes.ensures))
