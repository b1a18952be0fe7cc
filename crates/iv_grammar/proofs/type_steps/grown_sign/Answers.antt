use Rattle.std.proofs.Common.{◌≡◌}
use Rattle.std.specs.Prelude.{true}
use Rattle.iv_grammar.specs.TypeNode.{atom_kind, types_kind}
use Rattle.iv_grammar.proofs.TypeSteps.{arrow_step, comma_step}
use Rattle.iv_grammar.proofs.type_steps.grown_sign.Goals as goal

pub returns-in_ok-open-in-Arrow-clause-ok : goal.returns-in_ok-open-in-Arrow-clause-ok
returns-in_ok-open-in-Arrow-clause-ok c = λ h.
    let e : atom_kind c.args.part.kind ≡ true = rw c.in-Arrow.is at c.requires in
    rw (c.in_ok-open-in-Arrow.ensures.ok, c.in_ok-open-in-Arrow.ensures.place, c.in-Arrow.is) (arrow_step c.args.trees.now.items c.args.frames.now.items c.args.part c.args.left.now e h)

pub returns-in_ok-open-in-Comma-clause-ok : goal.returns-in_ok-open-in-Comma-clause-ok
returns-in_ok-open-in-Comma-clause-ok c = λ h.
    let e : types_kind c.args.part.kind ≡ true = rw c.in-Comma.is at c.requires in
    rw (c.in_ok-open-in-Comma.ensures.ok, c.in_ok-open-in-Comma.ensures.place, c.in-Comma.is) (comma_step c.args.trees.now.items c.args.frames.now.items c.args.part c.args.left.now e h)
