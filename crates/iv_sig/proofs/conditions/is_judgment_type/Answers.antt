use Rattle.iv_sig.proofs.Closed.{not-function, not-to_prop}
use Rattle.iv_sig.proofs.conditions.is_judgment_type.Goals as goal

pub returns-then-not-is_fun : goal.returns-then-not-is_fun
returns-then-not-is_fun c = not-function _ _ c.is_fun.ensures c.if-not-is_fun.true

pub returns-then-not-is_prop : goal.returns-then-not-is_prop
returns-then-not-is_prop c = not-to_prop _ _ (rw c.cod.ensures at c.is_prop.ensures) c.if-not-is_prop.true
