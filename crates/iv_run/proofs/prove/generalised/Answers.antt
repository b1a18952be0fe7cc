use Rattle.std.proofs.lemmas.Result.{IfOk-weaker}
use Rattle.iv_rules.specs.Rules.{axioms_of}
use Rattle.iv_run.proofs.Generalising.{can-generalise, instanced-statement, instanced-nothing}
use Rattle.iv_run.proofs.prove.generalised.Goals as goal

pub inst-requires : goal.inst-requires
inst-requires c = rw (c.in_ok-instance.ensures.ok, c.requires.hyps) (can-generalise c.args.premises.now c.args.conclusion.now)

pub returns-clause-prop : goal.returns-clause-prop
returns-clause-prop c = rw (c.in_ok-instance.ensures.ok, c.requires.prop, instanced-statement c.args.premises.now c.args.conclusion.now) at c.inst.ensures.prop

pub returns-clause-hyps : goal.returns-clause-hyps
returns-clause-hyps c = rw (c.requires.hyps, instanced-nothing) at c.inst.ensures.hyps

pub returns-clause-axioms : goal.returns-clause-axioms
unfolding axioms_of
returns-clause-axioms c = IfOk-weaker c.inst.result _ _ (λ r q. rw q) c.inst.ensures.derivation
