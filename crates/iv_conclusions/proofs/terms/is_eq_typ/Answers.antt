use Rattle.iv_conclusions.proofs.Deciding.{eq_typ_yes, eq_typ_no}
use Rattle.iv_conclusions.proofs.terms.is_eq_typ.Goals as goal

pub returns-then-is_fun : goal.returns-then-is_fun
returns-then-is_fun c = eq_typ_yes _ _ (c.is_fun.ensures.0 c.if-is_fun.true) (rw (c.cod.ensures, c.dom.ensures) at c.is_predicate_on.ensures)

pub returns-else-is_fun : goal.returns-else-is_fun
returns-else-is_fun c = eq_typ_no _ _ c.is_fun.ensures c.if-is_fun.false
