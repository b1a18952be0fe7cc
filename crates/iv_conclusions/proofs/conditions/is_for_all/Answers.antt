use Rattle.iv_conclusions.proofs.Deciding.{quantified, for_all_yes, for_all_no}
use Rattle.iv_conclusions.proofs.conditions.is_for_all.Goals as goal

pub returns-then-is_quantified : goal.returns-then-is_quantified
returns-then-is_quantified c =
    for_all_yes _ _ _ ((quantified _ _ c.is_quantified.ensures.quantified).0 c.if-is_quantified.true) (rw (c.dom.ensures, c.predicate_type.ensures) at c.has_type.ensures)

pub returns-else-is_quantified : goal.returns-else-is_quantified
returns-else-is_quantified c = for_all_no _ _ _ (quantified _ _ c.is_quantified.ensures.quantified) c.if-is_quantified.false

pub predicate_type-requires : goal.predicate_type-requires
predicate_type-requires c = (quantified _ _ c.is_quantified.ensures.quantified).0 c.if-is_quantified.true
