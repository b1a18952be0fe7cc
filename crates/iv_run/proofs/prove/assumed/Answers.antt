use Rattle.std.proofs.lemmas.Result.{IfOk-weaker}
use Rattle.iv_rules.specs.Rules.{axioms_of}
use Rattle.iv_run.proofs.Forms.{free-prop}
use Rattle.iv_run.proofs.prove.assumed.Goals as goal

pub assume-thm-requires : goal.assume-thm-requires
assume-thm-requires c = rw c.in_ok-variable.ensures.ok (free-prop c.args.text.now)

pub returns-clause-prop : goal.returns-clause-prop
returns-clause-prop c = rw c.in_ok-variable.ensures.ok at c.assume-thm.ensures.prop

pub returns-clause-hyps : goal.returns-clause-hyps
returns-clause-hyps c = rw c.in_ok-variable.ensures.ok at c.assume-thm.ensures.hyps

pub returns-clause-axioms : goal.returns-clause-axioms
unfolding axioms_of
returns-clause-axioms c = IfOk-weaker c.assume-thm.result _ _ (λ r q. rw q) c.assume-thm.ensures.derivation
