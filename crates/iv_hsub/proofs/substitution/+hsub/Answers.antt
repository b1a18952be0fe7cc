use Rattle.std.proofs.Common.{refl, add-one}
use Rattle.std.proofs.lemmas.Bool.{iff_false}
use Rattle.iv_term.specs.Term.{abs_is, cons_is}
use Rattle.iv_hsub.specs.Hsub.{put, put_all}
use Rattle.iv_hsub.proofs.Terms.Steps.{steps_put, steps_put_all, steps_happ-lam, steps-here, fewer, fewer-left, fewer-right}
use Rattle.iv_hsub.proofs.Terms.Put.{happ-nil, happ-spine, happ-lam, happ-stuck}
use Rattle.iv_hsub.proofs.substitution.+hsub.Goals as goal

pub put-put-requires : goal.put-put-requires
unfolding steps_put
put-put-requires t c = (rw (← c.decreases, c.in-Abs.is, abs_is, c.get.ensures, c.in_ok-inner-in-Abs.ensures.ok, add-one) (fewer _), tt)

pub put-put_all-requires : goal.put-put_all-requires
unfolding steps_put
put-put_all-requires t c = (rw (← c.decreases, c.in-Spine.is) (fewer-left _ _), tt)

pub put-put_head-requires : goal.put-put_head-requires
unfolding steps_put
put-put_head-requires t c = (rw (← c.decreases, c.in-Spine.is, c.in_ok-args-in-Spine.ensures.ok) (fewer-right _ _), tt)

pub put_all-put-requires : goal.put_all-put-requires
unfolding steps_put_all
put_all-put-requires t c = (rw (← c.decreases, c.in-Cons.is, cons_is, c.get-in-Cons.ensures) (fewer-left _ _), tt)

pub put_all-put_all-requires : goal.put_all-put_all-requires
unfolding steps_put_all
put_all-put_all-requires t c = (rw (← c.decreases, c.in-Cons.is, cons_is, c.get.ensures) (fewer-right _ _), tt)

pub put_head-happ-made-requires : goal.put_head-happ-made-requires
put_head-happ-made-requires t c =
    (rw (← c.decreases, c.in-Bound.is, steps-here _ _ _ _ _ c.if-n-k-2.true, c.in_ok-w-in-Bound.ensures.ok) (fewer _), tt)

pub happ-put-requires : goal.happ-put-requires
happ-put-requires t c =
    (rw (← c.decreases, c.in-Cons.is, cons_is, c.in-Abs.is, abs_is, c.get.ensures, c.get-in-Abs.ensures, steps_happ-lam _ _ _ _ _ (c.takes.ensures.0 c.if-not-takes.false)) (fewer-left _ _), tt)

pub happ-happ-made-requires : goal.happ-happ-made-requires
happ-happ-made-requires t c =
    (rw (← c.decreases, c.in-Cons.is, cons_is, c.in-Abs.is, abs_is, steps_happ-lam _ _ _ _ _ (c.takes.ensures.0 c.if-not-takes.false), c.cod.ensures, c.get-in-Abs-2.ensures, c.in_ok-body-in-Abs.ensures.ok, c.get.ensures, c.get-in-Abs.ensures) (fewer-right _ _), tt)

pub put-returns-in_ok-body-in-Abs-clause-ok : goal.put-returns-in_ok-body-in-Abs-clause-ok
unfolding put
put-returns-in_ok-body-in-Abs-clause-ok t c =
    rw (c.in-Abs.is, abs_is, ← c.get.ensures, ← add-one, ← c.in_ok-inner-in-Abs.ensures.ok, ← c.in_ok-body-in-Abs.ensures.ok) c.eta.ensures.ok

pub put-returns-in_ok-args-in-Spine-clause-ok : goal.put-returns-in_ok-args-in-Spine-clause-ok
unfolding put
put-returns-in_ok-args-in-Spine-clause-ok t c = rw (c.in-Spine.is, ← c.in_ok-args-in-Spine.ensures.ok) c.put_head.ensures.ok

pub put_all-returns-in-Nil-clause-ok : goal.put_all-returns-in-Nil-clause-ok
unfolding put_all
put_all-returns-in-Nil-clause-ok t c = rw c.in-Nil.is refl

pub put_all-returns-in_ok-first-in-Cons-clause-ok : goal.put_all-returns-in_ok-first-in-Cons-clause-ok
unfolding put_all
put_all-returns-in_ok-first-in-Cons-clause-ok t c =
    rw (c.in-Cons.is, cons_is, ← c.get.ensures, ← c.get-in-Cons.ensures, ← c.in_ok-first-in-Cons.ensures.ok, ← c.in_ok-more-in-Cons.ensures.ok) c.cons.ensures.ok

pub happ-returns-in-Nil-clause-ok : goal.happ-returns-in-Nil-clause-ok
happ-returns-in-Nil-clause-ok t c = rw (c.in-Nil.is, happ-nil) c.copy.ensures.ok

pub happ-returns-in-Spine-clause-ok : goal.happ-returns-in-Spine-clause-ok
happ-returns-in-Spine-clause-ok t c = rw (c.in-Spine.is, happ-spine) c.longer_spine.ensures.ok

pub happ-returns-then-not-takes-clause-ok : goal.happ-returns-then-not-takes-clause-ok
happ-returns-then-not-takes-clause-ok t c =
    rw (c.in-Cons.is, cons_is, c.in-Abs.is, abs_is, happ-stuck _ _ _ _ _ (iff_false c.takes.ensures c.if-not-takes.true), ← abs_is, ← c.in-Abs.is) c.copy-then-not-takes.ensures.ok

pub happ-returns-in_ok-body-in-Abs-clause-ok : goal.happ-returns-in_ok-body-in-Abs-clause-ok
happ-returns-in_ok-body-in-Abs-clause-ok t c =
    rw (c.in-Cons.is, cons_is, c.in-Abs.is, abs_is, happ-lam _ _ _ _ _ (c.takes.ensures.0 c.if-not-takes.false), ← c.get.ensures, ← c.get-in-Abs.ensures, ← c.get-in-Abs-2.ensures, ← c.cod.ensures, ← c.in_ok-body-in-Abs.ensures.ok) c.happ-made.ensures.ok
