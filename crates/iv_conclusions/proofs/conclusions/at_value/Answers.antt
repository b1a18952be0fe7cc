use Rattle.std.proofs.Common.{◌≡◌}
use Rattle.iv_term.specs.declared.typ.Typ.TheBlock.{Nil as no_types}
use Rattle.iv_term.specs.Typ.{prop, fun}
use Rattle.iv_hsub.specs.Typing.{type_of}
use Rattle.iv_conclusions.proofs.Deciding.{quantified-is, predicate_type-is}
use Rattle.iv_conclusions.proofs.conclusions.at_value.Goals as goal

pub predicate_type-requires : goal.predicate_type-requires
predicate_type-requires c = quantified-is _ _ c.requires.1

pub returns-clause-ok : goal.returns-clause-ok
returns-clause-ok c =
    let e : c.predicate_type.result.now ≡ fun (type_of no_types c.args.value.now) prop = rw c.predicate_type.ensures (predicate_type-is _ _ c.requires.1) in
    rw (e, c.predicate.ensures) at c.app.ensures.ok
