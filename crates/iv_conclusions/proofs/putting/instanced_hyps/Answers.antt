use Rattle.std.proofs.Common.{ap, ◌∙◌}
use Rattle.std.proofs.lemmas.Result.{IfOk-weaker}
use Rattle.iv_term.specs.Hyps.{union}
use Rattle.iv_term.specs.declared.term.Term.TheBlock.{Nil}
use Rattle.iv_conclusions.proofs.Facts.{short-terms}
use Rattle.iv_conclusions.proofs.putting.instanced_hyps.Goals as goal

pub returns-in-None-clause-ok : goal.returns-in-None-clause-ok
returns-in-None-clause-ok c =
    let k = rw c.in-None.is at (c.in_ok-changed_all.ensures.ok (short-terms c.args.hs.now c.requires)) in
    IfOk-weaker c.union.result _ _ (λ r e. e ∙ ap (union Nil) k) c.union.ensures.ok

pub returns-in-Some-clause-ok : goal.returns-in-Some-clause-ok
returns-in-Some-clause-ok c =
    let k = rw c.in-Some.is at (c.in_ok-changed_all.ensures.ok (short-terms c.args.hs.now c.requires)) in
    IfOk-weaker c.union-in-Some.result _ _ (λ r e. e ∙ ap (union Nil) k) c.union-in-Some.ensures.ok
