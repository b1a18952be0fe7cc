use Rattle.iv_outer.proofs.ReadingSteps.{read_form, read_wrong}
use Rattle.iv_outer.proofs.reader.read.Goals as goal

pub unreachable-requires : goal.unreachable-requires
unreachable-requires c = read_wrong c.forms_are_read.ensures c.args.lexemes.now c.requires (rw c.in-Err-Syntax.field-0-is at c.in-Err-Syntax.ensures.err)

pub returns-in-Ok-clause-ok : goal.returns-in-Ok-clause-ok
returns-in-Ok-clause-ok c = read_form c.forms_are_read.ensures c.args.lexemes.now _ _ c.requires c.in-Ok.ensures.ok
