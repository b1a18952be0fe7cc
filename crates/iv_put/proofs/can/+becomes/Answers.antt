use Rattle.iv_term.specs.Typ.{cons_is}
use Rattle.iv_subst.specs.TySubst.{put_typ, put_typs}
use Rattle.iv_put.proofs.Facts.Tests.{never, cons-no, cons-yes, con-no, con-yes, turned}
use Rattle.iv_put.proofs.Facts.Values.{at-found, at-missing}
use Rattle.iv_put.proofs.can.+becomes.Goals as goal

pub all_become-returns-then-not-becomes : goal.all_become-returns-then-not-becomes
unfolding put_typs
all_become-returns-then-not-becomes t c =
    rw (c.in-Cons.is, cons_is, c.in-Cons-us.is, cons_is)
    (cons-no _ _ _ _ c.becomes.result (rw (c.get.ensures, c.get-in-Cons-us.ensures) at c.becomes.ensures) c.if-not-becomes.true)

pub all_become-returns-in-Nil : goal.all_become-returns-in-Nil
unfolding put_typs
all_become-returns-in-Nil t c = rw c.in-Nil.is (turned _ _ _ c.is_nil.ensures)

pub all_become-returns-in-Nil-us : goal.all_become-returns-in-Nil-us
unfolding put_typs
all_become-returns-in-Nil-us t c = rw (c.in-Cons.is, cons_is, c.in-Nil-us.is) (never _ (λ e. cc))

pub all_become-returns-else-not-becomes : goal.all_become-returns-else-not-becomes
unfolding put_typs
all_become-returns-else-not-becomes t c =
    rw (c.in-Cons.is, cons_is, c.in-Cons-us.is, cons_is)
    (cons-yes _ _ _ _ c.becomes.result _ (rw (c.get.ensures, c.get-in-Cons-us.ensures) at c.becomes.ensures) c.if-not-becomes.false
    (rw (c.get-in-Cons-us-2.ensures, c.get-in-Cons-us-3.ensures) at c.all_become.ensures))

pub becomes-returns-then-not-is : goal.becomes-returns-then-not-is
unfolding put_typ
becomes-returns-then-not-is t c = rw (c.in-Con.is, c.in-Con-b.is) (con-no _ _ _ _ c.is.result c.is.ensures.equal c.if-not-is.true)

pub becomes-returns-else-not-is : goal.becomes-returns-else-not-is
unfolding put_typ
becomes-returns-else-not-is t c = rw (c.in-Con.is, c.in-Con-b.is) (con-yes _ _ _ _ c.is.result _ c.is.ensures.equal c.if-not-is.false c.all_become.ensures)

pub becomes-returns-in-Fixed-b : goal.becomes-returns-in-Fixed-b
unfolding put_typ
becomes-returns-in-Fixed-b t c = rw (c.in-Con.is, c.in-Fixed-b.is) (never _ (λ e. cc))

pub becomes-returns-in-Schematic-b : goal.becomes-returns-in-Schematic-b
unfolding put_typ
becomes-returns-in-Schematic-b t c = rw (c.in-Con.is, c.in-Schematic-b.is) (never _ (λ e. cc))

pub becomes-returns-in-Fixed : goal.becomes-returns-in-Fixed
unfolding put_typ
becomes-returns-in-Fixed t c = rw c.in-Fixed.is (rw c.in-Fixed.is at c.is-in-Fixed.ensures.equal)

pub becomes-returns-in-None : goal.becomes-returns-in-None
unfolding put_typ
becomes-returns-in-None t c = rw c.in-Schematic.is (rw (at-missing _ _ c.get.result c.get.ensures c.in-None.is) (rw c.in-Schematic.is at c.is-in-None.ensures.equal))

pub becomes-returns-in-Some : goal.becomes-returns-in-Some
unfolding put_typ
becomes-returns-in-Some t c = rw c.in-Schematic.is (rw (at-found _ _ c.get.result _ c.get.ensures c.in-Some.is) c.is-in-Some.ensures.equal)
