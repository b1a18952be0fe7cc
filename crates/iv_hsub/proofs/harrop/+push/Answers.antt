use Rattle.iv_term.specs.Term.{abs_is, cons_is}
use Rattle.iv_hsub.specs.Hhf.{push, push_args, push_under}
use Rattle.iv_hsub.proofs.harrop.+push.Goals as goal

pub push-returns-in-Abs-clause-ok : goal.push-returns-in-Abs-clause-ok
unfolding push
push-returns-in-Abs-clause-ok t c = rw (c.in-Abs.is, abs_is) (rw (c.in-Abs.is, abs_is) at c.imp.ensures.ok)

pub push-returns-in-Spine-clause-ok : goal.push-returns-in-Spine-clause-ok
unfolding push
push-returns-in-Spine-clause-ok t c = rw c.in-Spine.is c.push_args.ensures.ok

pub push_args-returns-in-Nil-clause-ok : goal.push_args-returns-in-Nil-clause-ok
unfolding push_args
push_args-returns-in-Nil-clause-ok t c = rw c.in-Nil.is (rw c.in-Nil.is at c.plain_imp.ensures.ok)

pub push_args-returns-then-not-is_all_alone-clause-ok : goal.push_args-returns-then-not-is_all_alone-clause-ok
unfolding push_args
push_args-returns-then-not-is_all_alone-clause-ok t c =
    rw (c.in-Cons.is, cons_is, ← c.get.ensures, ← c.is_all_alone.ensures, c.if-not-is_all_alone.true) (rw (c.in-Cons.is, cons_is, ← c.get.ensures) at c.plain_imp-then-not-is_all_alone.ensures.ok)

pub push_args-returns-in_ok-body-in-Cons-clause-ok : goal.push_args-returns-in_ok-body-in-Cons-clause-ok
unfolding push_args
push_args-returns-in_ok-body-in-Cons-clause-ok t c =
    rw (c.in-Cons.is, cons_is, ← c.get.ensures, ← c.is_all_alone.ensures, c.if-not-is_all_alone.false, ← c.get-in-Cons.ensures, ← c.in_ok-up-in-Cons.ensures.ok, ← c.in_ok-body-in-Cons.ensures.ok)
    c.all_of.ensures.ok

pub push_under-returns-in-Abs-clause-ok : goal.push_under-returns-in-Abs-clause-ok
unfolding push_under
push_under-returns-in-Abs-clause-ok t c = rw (c.in-Abs.is, abs_is, ← c.get.ensures) c.push.ensures.ok

pub push_under-returns-in-Spine-clause-ok : goal.push_under-returns-in-Spine-clause-ok
unfolding push_under
push_under-returns-in-Spine-clause-ok t c = rw c.in-Spine.is c.push_expanded.ensures.ok
