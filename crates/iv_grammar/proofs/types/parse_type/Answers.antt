use Rattle.iv_grammar.specs.TypeNode.{at, types_of}
use Rattle.iv_grammar.proofs.TypeDecides.{belongs_read, only_read, none_left, none_read, deep_part, emptied, filled, was_stuck}
use Rattle.iv_grammar.proofs.types.parse_type.Goals as goal

pub returns-then-not-is_empty-clause-none : goal.returns-then-not-is_empty-clause-none
returns-then-not-is_empty-clause-none c = λ e u d.
    filled c.in-Ok.rest.now (none_left c.args.tokens.now _ c.in-Ok.rest.now c.in-Ok.ensures.reads u d) c.if-not-is_empty.ensures

pub returns-then-part-gt400-clause-deep : goal.returns-then-part-gt400-clause-deep
returns-then-part-gt400-clause-deep c = λ e.
    (at (types_of c.type_in_front.new.trees.items) c.in-Ok.part.root, (belongs_read c.args.tokens.now _ c.in-Ok.rest.now c.in-Ok.ensures.reads (emptied c.in-Ok.rest.now c.if-not-is_empty.ensures), deep_part (types_of c.type_in_front.new.trees.items) c.in-Ok.part c.in-Ok.ensures.part c.if-part-gt400.true))

pub returns-in-Err-clause-none : goal.returns-in-Err-clause-none
returns-in-Err-clause-none c = λ e. none_read c.args.tokens.now (c.in-Err.ensures.stuck (was_stuck c.in-Err.none c.from.result c.from.ensures e))

pub returns-else-part-gt400-clause-belongs : goal.returns-else-part-gt400-clause-belongs
returns-else-part-gt400-clause-belongs c = belongs_read c.args.tokens.now _ c.in-Ok.rest.now c.in-Ok.ensures.reads (emptied c.in-Ok.rest.now c.if-not-is_empty.ensures)

pub returns-else-part-gt400-clause-only : goal.returns-else-part-gt400-clause-only
returns-else-part-gt400-clause-only c = only_read c.args.tokens.now _ c.in-Ok.rest.now c.in-Ok.ensures.reads

pub returns-else-part-gt400-clause-within : goal.returns-else-part-gt400-clause-within
returns-else-part-gt400-clause-within c = c.in-Ok.ensures.part.within
