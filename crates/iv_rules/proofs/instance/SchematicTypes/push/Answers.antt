use Rattle.iv_text.specs.Name.{same_name}
use Rattle.iv_rules.proofs.Lists.{distinct-push}
use Rattle.iv_rules.proofs.instance.SchematicTypes.push.Goals as goal

pub invariant_of-self-2 : goal.invariant_of-self-2
invariant_of-self-2 c = rw c.in_ok-push.ensures.ok (distinct-push same_name c.self.inside.entries c.args.name c.args.typ c.self.invariant (rw c.self.view_is c.requires))
