use Rattle.iv_run.proofs.NameSteps.{any-insert}
use Rattle.iv_run.proofs.names.Names.add.Goals as goal

pub returns-clause-ok : goal.returns-clause-ok
returns-clause-ok c = λ q. rw (c.in_ok-insert.ensures.keys, any-insert (λ k. k.items) q c.args.self.now.texts.keys c.in_ok-key.key, c.in_ok-key.ensures.items, c.as_slice.ensures)
