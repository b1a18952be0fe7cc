use Rattle.std.proofs.Common.{sym}
use Rattle.iv_subst.specs.Pairs.{step_of}
use Rattle.iv_subst.proofs.Laws.Pairs.{step-left}
use Rattle.iv_subst.proofs.pairs.step_of.Goals as goal

pub returns-then-not-is-clause-ok : goal.returns-then-not-is-clause-ok
unfolding step_of
returns-then-not-is-clause-ok c = rw (c.in-Con.is, c.in-Con-right.is, ← c.is.ensures.same, c.if-not-is.true)

pub returns-then-not-is-2-clause-ok : goal.returns-then-not-is-2-clause-ok
unfolding step_of
returns-then-not-is-2-clause-ok c = rw (c.in-Fixed.is, c.in-Fixed-right-2.is, ← c.is-in-Fixed-right-2.ensures.same, c.if-not-is-2.true)

pub returns-then-is-clause-ok : goal.returns-then-is-clause-ok
unfolding step_of
returns-then-is-clause-ok c = rw (c.in-Schematic.is, c.in-Schematic-right-3.is, ← c.is-in-Schematic-right-3.ensures.same, c.if-is.true)

pub returns-in_ok-copy-in-Con-right-2-clause-ok : goal.returns-in_ok-copy-in-Con-right-2-clause-ok
unfolding step_of
returns-in_ok-copy-in-Con-right-2-clause-ok c =
    rw (c.in-Con.is, c.in-Con-right.is, ← c.is.ensures.same, c.if-not-is.false, c.in_ok-copy-in-Con-right.ensures.ok, c.in_ok-copy-in-Con-right-2.ensures.ok)

pub returns-in-Fixed-right-clause-ok : goal.returns-in-Fixed-right-clause-ok
unfolding step_of
returns-in-Fixed-right-clause-ok c = rw (c.in-Con.is, c.in-Fixed-right.is)

pub returns-in_ok-copy-in-Schematic-right-2-clause-ok : goal.returns-in_ok-copy-in-Schematic-right-2-clause-ok
unfolding step_of
returns-in_ok-copy-in-Schematic-right-2-clause-ok c =
    rw (c.in_ok-copy-in-Schematic-right.ensures.ok, c.in_ok-copy-in-Schematic-right-2.ensures.ok, c.in-Con.is, c.in-Schematic-right.is)

pub returns-in-Con-right-2-clause-ok : goal.returns-in-Con-right-2-clause-ok
unfolding step_of
returns-in-Con-right-2-clause-ok c = rw (c.in-Fixed.is, c.in-Con-right-2.is)

pub returns-else-not-is-2-clause-ok : goal.returns-else-not-is-2-clause-ok
unfolding step_of
returns-else-not-is-2-clause-ok c = rw (c.in-Fixed.is, c.in-Fixed-right-2.is, ← c.is-in-Fixed-right-2.ensures.same, c.if-not-is-2.false)

pub returns-in_ok-copy-in-Schematic-right-2-3-clause-ok : goal.returns-in_ok-copy-in-Schematic-right-2-3-clause-ok
unfolding step_of
returns-in_ok-copy-in-Schematic-right-2-3-clause-ok c =
    rw (c.in_ok-copy-in-Schematic-right-2-2.ensures.ok, c.in_ok-copy-in-Schematic-right-2-3.ensures.ok, c.in-Fixed.is, c.in-Schematic-right-2.is)

pub returns-in_ok-copy-in-Schematic-right-3-2-clause-ok : goal.returns-in_ok-copy-in-Schematic-right-3-2-clause-ok
unfolding step_of
returns-in_ok-copy-in-Schematic-right-3-2-clause-ok c =
    rw (
      c.in_ok-copy-in-Schematic-right-3.ensures.ok,
      c.in_ok-copy-in-Schematic-right-3-2.ensures.ok,
      c.in-Schematic.is,
      c.in-Schematic-right-3.is,
      ← c.is-in-Schematic-right-3.ensures.same,
      c.if-is.false,
    )

pub returns-in_ok-copy-in_default-2 : goal.returns-in_ok-copy-in_default-2
returns-in_ok-copy-in_default-2 c = record {
  ok = rw (c.in_ok-copy-in_default.ensures.ok, c.in_ok-copy-in_default-2.ensures.ok, c.in-Schematic.is) (sym (step-left c.in-Schematic.x c.args.right.now c.in_default.not-Schematic));
  memory = tt;
}
