use Rattle.iv_grammar.specs.declared.type_nodes.Place.TheVariants as place
use Rattle.iv_grammar.specs.TypeNode.{types_of}
use Rattle.std.proofs.Common.{sym, ◌∙◌}
use Rattle.iv_grammar.proofs.TypeNodes.{stuck_by, reads_none}
use Rattle.iv_grammar.proofs.type_steps.rested.Goals as goal

pub returns-then-is_types-clause-stuck : goal.returns-then-is_types-clause-stuck
returns-then-is_types-clause-stuck c = λ e h.
    stuck_by c.args.trees.now.items c.args.frames.now.items (place.Got c.args.part) c.args.rest.now
    (reads_none (types_of c.args.trees.now.items) c.args.part c.args.rest.now h.place c.requires (sym c.is_types.ensures ∙ c.if-is_types.true))
