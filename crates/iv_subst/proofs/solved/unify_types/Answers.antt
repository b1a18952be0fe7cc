use Rattle.std.proofs.Common.{◌≡◌, sym, subst, Some, None, []}
use Rattle.std.proofs.lemmas.Result.{err_from_is_err_and}
use Rattle.iv_subst.specs.TySubst.{put_typ, at, composed}
use Rattle.iv_subst.specs.Unifier.{IsSolved, unified}
use Rattle.iv_subst.proofs.Laws.Solve.{start-is, under-ok, under-clash, under-none, under-solved, solved-equal}
use Rattle.iv_subst.proofs.solved.unify_types.Goals as goal

pub returns-in_err-unify-clause-clash : goal.returns-in_err-unify-clause-clash
returns-in_err-unify-clause-clash c =
    let p = err_from_is_err_and c.from_residual-in_err-unify.result c.from_residual-in_err-unify.ensures.1 in
    rw (p.1, p.2)
    (λ z. under-clash c.args.a.now c.args.b.now c.args.s.now
    (start-is _ _ c.in_ok-left.left c.in_ok-right.right c.new-solved.result c.in_ok-left.ensures.ok c.in_ok-right.ensures.ok c.new-solved.ensures None
    (c.in_err-unify.ensures.clash z)))

pub returns-in_err-unify-clause-no_unifier : goal.returns-in_err-unify-clause-no_unifier
returns-in_err-unify-clause-no_unifier c =
    let p = err_from_is_err_and c.from_residual-in_err-unify.result c.from_residual-in_err-unify.ensures.1 in
    rw (p.1, p.2)
    (λ z. under-none (put_typ (at c.args.s.now) c.args.a.now) (put_typ (at c.args.s.now) c.args.b.now)
    (start-is _ _ c.in_ok-left.left c.in_ok-right.right c.new-solved.result c.in_ok-left.ensures.ok c.in_ok-right.ensures.ok c.new-solved.ensures None
    (c.in_err-unify.ensures.clash z)))

pub returns-clause-ok : goal.returns-clause-ok
returns-clause-ok c =
    under-ok c.args.a.now c.args.b.now c.args.s.now c.unify.new.self c.in_ok-both.both
    (start-is _ _ c.in_ok-left.left c.in_ok-right.right c.new-solved.result c.in_ok-left.ensures.ok c.in_ok-right.ensures.ok c.new-solved.ensures
    (Some c.unify.new.self) c.in_ok-unify.ensures.ok)
    (rw c.in_ok-found.ensures.ok at c.in_ok-both.ensures.ok)

pub returns-clause-equal : goal.returns-clause-equal
returns-clause-equal c =
    let h : unified (put_typ (at c.args.s.now) c.args.a.now) (put_typ (at c.args.s.now) c.args.b.now) [] ≡ Some c.unify.new.self =
    start-is _ _ c.in_ok-left.left c.in_ok-right.right c.new-solved.result c.in_ok-left.ensures.ok c.in_ok-right.ensures.ok c.new-solved.ensures
    (Some c.unify.new.self) c.in_ok-unify.ensures.ok in
    let e : c.in_ok-both.both ≡ composed c.args.s.now c.unify.new.self = rw c.in_ok-found.ensures.ok at c.in_ok-both.ensures.ok in
    solved-equal c.args.a.now c.args.b.now c.args.s.now c.in_ok-both.both
    (subst (IsSolved c.args.s.now (put_typ (at c.args.s.now) c.args.a.now) (put_typ (at c.args.s.now) c.args.b.now)) (sym e)
    (under-solved c.args.a.now c.args.b.now c.args.s.now c.unify.new.self h))

pub returns-clause-most_general : goal.returns-clause-most_general
returns-clause-most_general c =
    let h : unified (put_typ (at c.args.s.now) c.args.a.now) (put_typ (at c.args.s.now) c.args.b.now) [] ≡ Some c.unify.new.self =
    start-is _ _ c.in_ok-left.left c.in_ok-right.right c.new-solved.result c.in_ok-left.ensures.ok c.in_ok-right.ensures.ok c.new-solved.ensures
    (Some c.unify.new.self) c.in_ok-unify.ensures.ok in
    let e : c.in_ok-both.both ≡ composed c.args.s.now c.unify.new.self = rw c.in_ok-found.ensures.ok at c.in_ok-both.ensures.ok in
    subst (IsSolved c.args.s.now (put_typ (at c.args.s.now) c.args.a.now) (put_typ (at c.args.s.now) c.args.b.now)) (sym e)
    (under-solved c.args.a.now c.args.b.now c.args.s.now c.unify.new.self h)
