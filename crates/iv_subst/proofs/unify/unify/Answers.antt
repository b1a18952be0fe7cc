use Rattle.std.proofs.Common.{◌≡◌, ◌∙◌, ◌<◌, sym, subst, true, false, Some, None}
use Rattle.std.proofs.lemmas.Result.{err_from_is_err_and}
use Rattle.iv_subst.specs.TySubst.{put_typ, occurs, at}
use Rattle.iv_subst.specs.Solved.{solved}
use Rattle.iv_subst.specs.Pairs.{IsStep}
use Rattle.iv_subst.proofs.Laws.Going.{Going, left_to_go, going-start, going-end, going-clash, going-inside, going-on, fewer-turns}
use Rattle.iv_subst.proofs.unify.unify.Goals as goal

pub loop-pairs-init : goal.loop-pairs-init
loop-pairs-init c = rw c.in_ok-pairs.ensures.ok (going-start c.args.es.now c.args.a.now c.args.b.now c.requires)

pub returns-in_err-name-clause-clash : goal.returns-in_err-name-clause-clash
returns-in_err-name-clause-clash c =
    let p = err_from_is_err_and c.from_residual-in_err-name.result c.from_residual-in_err-name.ensures.1 in
    rw (p.1, p.2) (λ z. going-clash c.args.es.now c.loop-pairs.es c.args.a.now c.args.b.now c.loop-pairs.pairs.items c.loop-pairs.invariant (c.in_err-name.ensures.clash z))

pub returns-then-branch-clause-clash : goal.returns-then-branch-clause-clash
returns-then-branch-clause-clash c =
    let step : IsStep c.loop-pairs.es c.loop-pairs.pairs.items c.next.new.pairs.items (Some (c.in-Some.name, c.in-Some.typ)) =
    subst (IsStep c.loop-pairs.es c.loop-pairs.pairs.items c.next.new.pairs.items) c.in-Some.is c.in_ok-name.ensures.step in
    let inside : occurs c.in-Some.name (put_typ (at (solved c.loop-pairs.es)) c.in-Some.typ) ≡ true = sym c.in_ok-occurs.ensures.ok ∙ c.if-branch.true in
    λ z. going-inside c.args.es.now c.loop-pairs.es c.args.a.now c.args.b.now c.loop-pairs.pairs.items c.next.new.pairs.items c.in-Some.name c.in-Some.typ
    c.loop-pairs.invariant step inside

pub loop-pairs-preserved : goal.loop-pairs-preserved
loop-pairs-preserved c =
    let step : IsStep c.loop-pairs.es c.loop-pairs.pairs.items c.next.new.pairs.items (Some (c.in-Some.name, c.in-Some.typ)) =
    subst (IsStep c.loop-pairs.es c.loop-pairs.pairs.items c.next.new.pairs.items) c.in-Some.is c.in_ok-name.ensures.step in
    let outside : occurs c.in-Some.name (put_typ (at (solved c.loop-pairs.es)) c.in-Some.typ) ≡ false = sym c.in_ok-occurs.ensures.ok ∙ c.if-branch.false in
    subst (λ es. Going c.args.es.now es c.args.a.now c.args.b.now c.next.new.pairs.items) (sym c.in_ok-push.ensures.ok)
    (going-on c.args.es.now c.loop-pairs.es c.args.a.now c.args.b.now c.loop-pairs.pairs.items c.next.new.pairs.items c.in-Some.name c.in-Some.typ
    c.loop-pairs.invariant step outside)

pub loop-pairs-smaller : goal.loop-pairs-smaller
loop-pairs-smaller c =
    let step : IsStep c.loop-pairs.es c.loop-pairs.pairs.items c.next.new.pairs.items (Some (c.in-Some.name, c.in-Some.typ)) =
    subst (IsStep c.loop-pairs.es c.loop-pairs.pairs.items c.next.new.pairs.items) c.in-Some.is c.in_ok-name.ensures.step in
    let outside : occurs c.in-Some.name (put_typ (at (solved c.loop-pairs.es)) c.in-Some.typ) ≡ false = sym c.in_ok-occurs.ensures.ok ∙ c.if-branch.false in
    subst (λ es. left_to_go c.args.a.now c.args.b.now c.args.es.now es < left_to_go c.args.a.now c.args.b.now c.args.es.now c.loop-pairs.es) (sym c.in_ok-push.ensures.ok)
    (fewer-turns c.args.es.now c.loop-pairs.es c.args.a.now c.args.b.now c.loop-pairs.pairs.items c.next.new.pairs.items c.in-Some.name c.in-Some.typ
    (going-on c.args.es.now c.loop-pairs.es c.args.a.now c.args.b.now c.loop-pairs.pairs.items c.next.new.pairs.items c.in-Some.name c.in-Some.typ
    c.loop-pairs.invariant step outside))

pub returns-clause-ok : goal.returns-clause-ok
returns-clause-ok c =
    let step : IsStep c.loop-pairs.es c.loop-pairs.pairs.items c.next.new.pairs.items None =
    subst (IsStep c.loop-pairs.es c.loop-pairs.pairs.items c.next.new.pairs.items) c.in_default.is c.in_ok-name.ensures.step in
    going-end c.args.es.now c.loop-pairs.es c.args.a.now c.args.b.now c.loop-pairs.pairs.items c.next.new.pairs.items c.loop-pairs.invariant step
    (c.in_ok-name.ensures.end c.in_default.is)
