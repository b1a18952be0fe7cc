use Rattle.std.proofs.Common.{subst, None, ◌++◌, ◌∷◌, []}
use Rattle.std.proofs.lemmas.Result.{err_from_is_err_and}
use Rattle.iv_subst.specs.Pairs.{IsStep}
use Rattle.iv_subst.proofs.Laws.Pairs.{steps, clash-after}
use Rattle.iv_subst.proofs.pairs.next.Goals as goal

pub returns-in_err-found-clause-clash : goal.returns-in_err-found-clause-clash
returns-in_err-found-clause-clash c =
    let so_far : IsStep c.args.es.now c.args.pairs.now.items (c.pop.new.self.items ++ (c.in-Some.left, c.in-Some.right) ∷ []) None =
    subst (λ z. IsStep c.args.es.now c.args.pairs.now.items z None) c.in-Some.ensures.items c.loop-left.invariant in
    let p = err_from_is_err_and c.from_residual.result c.from_residual.ensures.1 in
    rw (p.1, p.2) (λ z. clash-after c.args.es.now _ _ so_far (c.in_err-found.ensures.clash z))

pub returns-then-is_some-clause-step : goal.returns-then-is_some-clause-step
returns-then-is_some-clause-step c =
    let so_far : IsStep c.args.es.now c.args.pairs.now.items (c.pop.new.self.items ++ (c.in-Some.left, c.in-Some.right) ∷ []) None =
    subst (λ z. IsStep c.args.es.now c.args.pairs.now.items z None) c.in-Some.ensures.items c.loop-left.invariant in
    steps c.args.es.now _ _ _ c.in_ok-found.found so_far c.in_ok-found.ensures.step
