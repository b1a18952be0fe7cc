use Rattle.std.proofs.Common.{refl, sym, subst}
use Rattle.iv_term.specs.Term.{abs_is, cons_is, tm_cons}
use Rattle.iv_hsub.specs.Index.{eta}
use Rattle.iv_hsub.specs.Retype.{retype, retype_all}
use Rattle.iv_hsub.specs.Inst.{inst, inst_all}
use Rattle.iv_hsub.specs.Open.{IsShort, AreShort}
use Rattle.iv_conclusions.proofs.Facts.{two-put}
use Rattle.iv_conclusions.proofs.putting.+changed.Goals as goal

pub changed-returns-in_ok-typ-in-Abs-clause-ok : goal.changed-returns-in_ok-typ-in-Abs-clause-ok
unfolding retype inst
changed-returns-in_ok-typ-in-Abs-clause-ok t c = λ q.
    let p = rw (c.in-Abs.is, abs_is) at q in
    let body = c.in_ok-body-in-Abs.ensures.ok (subst IsShort (sym c.get.ensures) p.0) in
    rw (c.in-Abs.is, abs_is)
    (two-put eta _ c.in_ok-typ-in-Abs.typ c.in_ok-body-in-Abs.body _ _ _ _ _ (c.with_body.ensures.ok p.1) c.in_ok-typ-in-Abs.ensures.ok (rw c.get.ensures at body))

pub changed-returns-in_ok-args-in-Spine-clause-ok : goal.changed-returns-in_ok-args-in-Spine-clause-ok
unfolding retype inst
changed-returns-in_ok-args-in-Spine-clause-ok t c = λ q.
    let p = rw c.in-Spine.is at q in
    rw (c.in-Spine.is, ← c.in_ok-args-in-Spine.ensures.ok p) c.with_head.ensures.ok

pub changed_all-returns-in-Nil-clause-ok : goal.changed_all-returns-in-Nil-clause-ok
unfolding retype_all inst_all
changed_all-returns-in-Nil-clause-ok t c = λ q. rw c.in-Nil.is refl

pub changed_all-returns-in_ok-more-in-Cons-clause-ok : goal.changed_all-returns-in_ok-more-in-Cons-clause-ok
unfolding retype_all inst_all
changed_all-returns-in_ok-more-in-Cons-clause-ok t c = λ q.
    let p = rw (c.in-Cons.is, cons_is) at q in
    let first = c.in_ok-first-in-Cons.ensures.ok (subst IsShort (sym c.get.ensures) p.0) in
    let more = c.in_ok-more-in-Cons.ensures.ok (subst AreShort (sym c.get-in-Cons.ensures) p.1) in
    rw (c.in-Cons.is, cons_is)
    (two-put (λ x xs. tm_cons x xs) _ c.in_ok-first-in-Cons.first c.in_ok-more-in-Cons.more _ _ _ _ _ c.with_parts.ensures.ok (rw c.get.ensures at first) (rw c.get-in-Cons.ensures at more))
