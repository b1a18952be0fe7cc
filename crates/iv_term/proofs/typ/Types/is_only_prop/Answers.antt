use Rattle.iv_term.proofs.Laws.Tests.{types_yes, types_no}
use Rattle.iv_term.proofs.typ.Types.is_only_prop.Goals as goal

pub returns-then-is_prop : goal.returns-then-is_prop
returns-then-is_prop c = types_yes c.in-Cons.is c.get.ensures c.get-then-is_prop.ensures c.is_prop.ensures c.if-is_prop.true c.is_nil.ensures

pub returns-else-is_prop : goal.returns-else-is_prop
returns-else-is_prop c = types_no c.in-Cons.rest _ c.in-Cons.is c.get.ensures c.is_prop.ensures c.if-is_prop.false
