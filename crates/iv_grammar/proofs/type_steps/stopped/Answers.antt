use Rattle.std.proofs.Common.{◌≡◌, [], ◌∷◌, ◌++◌}
use Rattle.iv_grammar.specs.declared.type_nodes.Place.TheVariants as place
use Rattle.iv_grammar.specs.TypeNode.{types_of, Holds}
use Rattle.iv_grammar.proofs.TypeNodes.{close_step, reads_whole}
use Rattle.iv_grammar.proofs.type_steps.stopped.Goals as goal

pub returns-in_ok-put-in-Some-clause-ok : goal.returns-in_ok-put-in-Some-clause-ok
returns-in_ok-put-in-Some-clause-ok c = λ rest g h.
    let split : c.args.frames.now.items ≡ c.pop.new.self.items ++ c.in-Some.frame ∷ [] = c.in-Some.ensures.items in
    let k : Holds (types_of c.args.trees.now.items) (c.pop.new.self.items ++ c.in-Some.frame ∷ []) (place.Got c.args.part) = rw split at h in
    rw (c.in_ok-put-in-Some.ensures.ok, c.in_ok-put-in-Some.ensures.place, c.kind-kind.ensures, c.depth-depth.ensures, split)
    (close_step c.args.trees.now.items c.form.result c.pop.new.self.items c.in-Some.frame c.args.part rest (c.form.ensures c.args.trees.now.items)
    (reads_whole (types_of c.args.trees.now.items) c.args.part rest h.place g c.requires) k)
