use Rattle.std.proofs.Common.{arith, []}
use Rattle.iv_grammar.specs.declared.type_nodes.Place.TheVariants as place
use Rattle.iv_grammar.proofs.TypeNodes.{stuck_by}
use Rattle.iv_grammar.proofs.TypeSteps.{no_token}
use Rattle.iv_grammar.proofs.type_steps.turned.Goals as goal

pub returns-in-None-clause-stuck : goal.returns-in-None-clause-stuck
returns-in-None-clause-stuck c = λ e h n b. rw (c.in-Begin.is, c.in-None.ensures) (stuck_by c.args.trees.now.items c.args.frames.now.items place.Begin [] (λ m k. no_token m) n (omega arith))
