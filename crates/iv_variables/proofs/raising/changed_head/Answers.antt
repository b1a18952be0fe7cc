use Rattle.std.proofs.Common.{refl, arith}
use Rattle.iv_variables.specs.Firsts.{next_number}
use Rattle.iv_variables.proofs.Changed.{exit, at_first, at_rest, const-changed, free-changed}
use Rattle.iv_variables.proofs.raising.changed_head.Goals as goal

pub returns-in_err-typ-in-Const-clause-number : goal.returns-in_err-typ-in-Const-clause-number
returns-in_err-typ-in-Const-clause-number c =
    rw c.in-Const.is (exit c.from_residual.result _ _ c.from_residual.ensures.1 c.in_err-typ-in-Const.ensures.number)

pub returns-in_ok-typ-in-Const-clause-ok : goal.returns-in_ok-typ-in-Const-clause-ok
returns-in_ok-typ-in-Const-clause-ok c =
    rw c.in-Const.is (const-changed _ _ c.in_ok-typ-in-Const.typ _ _ c.constant.ensures.ok c.in_ok-typ-in-Const.ensures.ok)

pub returns-in_err-typ-in-Free-clause-number : goal.returns-in_err-typ-in-Free-clause-number
returns-in_err-typ-in-Free-clause-number c =
    rw c.in-Free.is
    (exit c.from_residual-in_err-typ-in-Free.result _ _ c.from_residual-in_err-typ-in-Free.ensures.1 (λ q. at_rest 4294967295 _ _ (c.in_err-typ-in-Free.ensures.number q)))

pub returns-in_ok-typ-in-Free-clause-ok : goal.returns-in_ok-typ-in-Free-clause-ok
returns-in_ok-typ-in-Free-clause-ok c = rw c.in-Free.is (free-changed _ _ c.in_ok-typ-in-Free.typ _ _ c.free.ensures.ok c.in_ok-typ-in-Free.ensures.ok)

pub returns-in_err-name-in-Schematic-clause-number : goal.returns-in_err-name-in-Schematic-clause-number
returns-in_err-name-in-Schematic-clause-number c =
    rw c.in-Schematic.is
    (exit c.from_residual-in_err-name-in-Schematic.result _ _ c.from_residual-in_err-name-in-Schematic.ensures.1
    (λ q. at_first 4294967295 _ _ (let h = c.in_err-name-in-Schematic.ensures.number q in omega (arith, h))))

pub returns-in_err-typ-in-Schematic-clause-number : goal.returns-in_err-typ-in-Schematic-clause-number
returns-in_err-typ-in-Schematic-clause-number c =
    rw c.in-Schematic.is
    (exit c.from_residual-in_err-typ-in-Schematic.result _ _ c.from_residual-in_err-typ-in-Schematic.ensures.1
    (λ q. at_rest 4294967295 _ _ (c.in_err-typ-in-Schematic.ensures.number q)))

pub returns-in_ok-typ-in-Schematic-clause-ok : goal.returns-in_ok-typ-in-Schematic-clause-ok
returns-in_ok-typ-in-Schematic-clause-ok c =
    rw (c.in-Schematic.is, c.in_ok-name-in-Schematic.ensures.ok, c.in_ok-typ-in-Schematic.ensures.ok) refl
