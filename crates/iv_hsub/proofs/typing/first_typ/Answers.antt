use Rattle.iv_term.specs.Typ.{cons_is}
use Rattle.iv_hsub.proofs.typing.first_typ.Goals as goal

pub returns-in-Cons : goal.returns-in-Cons
returns-in-Cons c = rw (c.in-Cons.is, cons_is) c.get.ensures
