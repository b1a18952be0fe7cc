use Rattle.std.proofs.Common.{◌≡◌, ◌∙◌, subst}
use Rattle.std.specs.Option.{unwrap_or}
use Rattle.iv_term.specs.declared.term.Term.TheBlock.{Spine}
use Rattle.iv_hsub.specs.Inst.{inst_head}
use Rattle.iv_conclusions.proofs.Facts.{head-stays}
use Rattle.iv_rules.specs.Instance.{values_of}
use Rattle.iv_conclusions.proofs.putting.with_head.Goals as goal

pub returns-in-None-clause-ok : goal.returns-in-None-clause-ok
returns-in-None-clause-ok c =
    let us = unwrap_or c.args.args c.args.old.now in
    let e = c.new_or_old.ensures ∙ c.in_ok-head.ensures.ok in
    head-stays _ c.in_ok-head.head _ _ _ _ _ c.with_args.ensures.ok c.in_ok-head.ensures.ok
    (subst (λ k. inst_head (values_of c.args.s.now) k us ≡ Spine k us) e (c.in-None.ensures us))
