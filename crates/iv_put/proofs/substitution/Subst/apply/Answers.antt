use Rattle.std.proofs.Common.{refl, sym, ◌∙◌, subst}
use Rattle.std.proofs.lemmas.Result.{IfOk-weaker}
use Rattle.iv_hsub.specs.Typing.{type_of, HasType}
use Rattle.iv_subst.specs.TySubst.{put_typ, put_typs, at}
use Rattle.iv_hsub.proofs.Theory.{short-term}
use Rattle.iv_put.proofs.Stated.{apply_keeps}
use Rattle.iv_put.proofs.substitution.Subst.apply.Goals as goal

pub returns-in-None-clause-ok : goal.returns-in-None-clause-ok
returns-in-None-clause-ok c =
    let k = rw c.in-None.is at (c.in_ok-changed.ensures.ok (short-term c.requires.0 c.args.t.now c.requires.1)) in
    IfOk-weaker c.copy.result _ _ (λ r e. e ∙ k) c.copy.ensures.ok

pub returns-in-None-clause-typed : goal.returns-in-None-clause-typed
returns-in-None-clause-typed c = λ bounds p can.
    let k = rw c.in-None.is at (c.in_ok-changed.ensures.ok (short-term c.requires.0 c.args.t.now c.requires.1)) in
    IfOk-weaker c.copy.result _ _
    (λ r e. subst (HasType (put_typs (at c.args.self.now.0) bounds) (put_typ (at c.args.self.now.0) (type_of bounds c.args.t.now))) (sym (e ∙ k))
    (apply_keeps c.args.self.now bounds _ c.args.t.now (p, refl) can))
    c.copy.ensures.ok

pub returns-in-Some-clause-ok : goal.returns-in-Some-clause-ok
returns-in-Some-clause-ok c = rw c.in-Some.is at (c.in_ok-changed.ensures.ok (short-term c.requires.0 c.args.t.now c.requires.1))

pub returns-in-Some-clause-typed : goal.returns-in-Some-clause-typed
returns-in-Some-clause-typed c = λ bounds p can.
    let k = rw c.in-Some.is at (c.in_ok-changed.ensures.ok (short-term c.requires.0 c.args.t.now c.requires.1)) in
    subst (HasType (put_typs (at c.args.self.now.0) bounds) (put_typ (at c.args.self.now.0) (type_of bounds c.args.t.now))) (sym k)
    (apply_keeps c.args.self.now bounds _ c.args.t.now (p, refl) can)
