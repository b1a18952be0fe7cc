use Rattle.std.proofs.lemmas.Result.{IfOk-weaker}
use Rattle.iv_kernel.proofs.Orders.{first-is, elim-axioms}
use Rattle.iv_kernel.proofs.rotate.first_assumed.Goals as goal

pub assume-requires : goal.assume-requires
assume-requires c =
    rw (c.antecedent.ensures, c.prop.ensures.same) (first-is c.parts_of_propositions.ensures.imp _ c.requires c.prop.ensures.prop)

pub imp_elim-requires : goal.imp_elim-requires
imp_elim-requires c = rw (c.in_ok-assumed.ensures.prop, c.antecedent.ensures, c.prop.ensures.same) c.requires

pub returns-clause-hyps : goal.returns-clause-hyps
returns-clause-hyps c = rw (c.in_ok-assumed.ensures.hyps, c.antecedent.ensures, c.prop.ensures.same) at c.imp_elim.ensures.hyps

pub returns-clause-axioms : goal.returns-clause-axioms
returns-clause-axioms c =
    IfOk-weaker c.imp_elim.result _ _ (λ r d. elim-axioms _ _ _ _ d c.in_ok-assumed.ensures.derivation) c.imp_elim.ensures.derivation
