use Rattle.iv_term.specs.Typ.{cons_is}
use Rattle.iv_hsub.specs.Typing.{types_len}
use Rattle.iv_hsub.proofs.Terms.Types.{two_when}
use Rattle.iv_hsub.proofs.typing.are_two.Goals as goal

pub returns-in-Nil : goal.returns-in-Nil
unfolding types_len
returns-in-Nil c = rw c.in-Nil.is (λ h. cc, λ h. cc)

pub returns-in-Cons : goal.returns-in-Cons
unfolding types_len
returns-in-Cons c = rw (c.in-Cons.is, cons_is, ← c.get.ensures) (two_when c.get.result.now _ c.is_one.ensures)
