use Rattle.std.proofs.lemmas.Result.{IfOk-weaker}
use Rattle.iv_rules.specs.Rules.{axioms_of}
use Rattle.iv_run.proofs.Forms.{free-prop}
use Rattle.iv_run.proofs.prove.discharged.Goals as goal

pub imp_intr-more-requires : goal.imp_intr-more-requires
imp_intr-more-requires c = rw c.in_ok-variable.ensures.ok (free-prop c.args.text.now)

pub returns-clause-prop : goal.returns-clause-prop
returns-clause-prop c = rw c.in_ok-variable.ensures.ok at c.imp_intr-more.ensures.prop

pub returns-clause-hyps : goal.returns-clause-hyps
returns-clause-hyps c = rw c.in_ok-variable.ensures.ok at c.imp_intr-more.ensures.hyps

pub returns-clause-axioms : goal.returns-clause-axioms
unfolding axioms_of
returns-clause-axioms c = IfOk-weaker c.imp_intr-more.result _ _ (λ r q. rw q) c.imp_intr-more.ensures.derivation
