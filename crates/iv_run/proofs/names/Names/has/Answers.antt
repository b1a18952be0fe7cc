use Rattle.std.proofs.Common.{◌∙◌}
use Rattle.iv_run.proofs.NameSteps.{any_at}
use Rattle.iv_run.proofs.names.Names.has.Goals as goal

pub returns : goal.returns
returns c = rw c.as_slice.ensures at c.contains.ensures ∙ any_at (λ k. k.items) c.args.name.now c.args.self.now.texts.keys
