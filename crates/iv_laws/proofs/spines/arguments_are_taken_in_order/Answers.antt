use Rattle.iv_laws.proofs.Spined.{happ_nothing, happ_of_spine, happ_appends, args-functions}
use Rattle.iv_laws.proofs.spines.arguments_are_taken_in_order.Goals as goal

pub returns-clause-nothing : goal.returns-clause-nothing
returns-clause-nothing c = happ_nothing

pub returns-clause-spine : goal.returns-clause-spine
returns-clause-spine c = happ_of_spine

pub returns-clause-append : goal.returns-clause-append
returns-clause-append c = happ_appends

pub returns-clause-functions : goal.returns-clause-functions
returns-clause-functions c = args-functions
