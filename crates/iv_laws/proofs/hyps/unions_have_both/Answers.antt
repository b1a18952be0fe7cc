use Rattle.iv_laws.proofs.Members.{in_union, union_first, union_second, union_least, union_nothing}
use Rattle.iv_laws.proofs.hyps.unions_have_both.Goals as goal

pub returns-clause-has : goal.returns-clause-has
returns-clause-has c = in_union

pub returns-clause-first : goal.returns-clause-first
returns-clause-first c = union_first

pub returns-clause-second : goal.returns-clause-second
returns-clause-second c = union_second

pub returns-clause-least : goal.returns-clause-least
returns-clause-least c = union_least

pub returns-clause-nothing : goal.returns-clause-nothing
returns-clause-nothing c = union_nothing
