use Rattle.std.proofs.Common.{sym, ◌∙◌, subst}
use Rattle.std.proofs.lemmas.Result.{IfOk-weaker}
use Rattle.iv_hsub.specs.Typing.{type_of, HasType}
use Rattle.iv_subst.specs.TySubst.{put_typ, put_typs, at}
use Rattle.iv_put.proofs.Stated.{retype_keeps}
use Rattle.iv_put.proofs.retyping.retype.Goals as goal

pub returns-in-None-clause-typed : goal.returns-in-None-clause-typed
returns-in-None-clause-typed c = λ bounds p.
    let k = rw c.in-None.is at c.in_ok-changed.ensures.ok in
    IfOk-weaker c.copy.result _ _
    (λ r e. subst (HasType (put_typs (at c.args.types.now) bounds) (put_typ (at c.args.types.now) (type_of bounds c.args.t.now))) (sym (e ∙ k))
    (retype_keeps c.args.types.now bounds c.args.t.now p))
    c.copy.ensures.ok

pub returns-in-Some-clause-typed : goal.returns-in-Some-clause-typed
returns-in-Some-clause-typed c = λ bounds p.
    let k = rw c.in-Some.is at c.in_ok-changed.ensures.ok in
    subst (HasType (put_typs (at c.args.types.now) bounds) (put_typ (at c.args.types.now) (type_of bounds c.args.t.now))) (sym k)
    (retype_keeps c.args.types.now bounds c.args.t.now p)
