use Rattle.iv_rules.specs.Entries.{same_var}
use Rattle.iv_rules.proofs.Lists.{distinct-push}
use Rattle.iv_rules.proofs.instance.VarTerms.push.Goals as goal

pub invariant_of-self-2 : goal.invariant_of-self-2
invariant_of-self-2 c = rw c.in_ok-push.ensures.ok (distinct-push same_var c.self.inside.entries (c.args.name, c.args.typ) c.args.value c.self.invariant (rw c.self.view_is c.requires))
