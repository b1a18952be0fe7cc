use Rattle.std.proofs.Common.{sym, ◌∙◌}
use Rattle.iv_term.specs.Term.{abs_is}
use Rattle.iv_hsub.specs.Bounds.{types_in}
use Rattle.iv_hsub.proofs.Terms.Tests.{lam-no_term, lam-term, spine-term}
use Rattle.iv_hsub.proofs.typing.+is_term_under.Goals as goal

pub returns-then-contracts : goal.returns-then-contracts
returns-then-contracts t c = rw (c.in-Abs.is, abs_is, ← c.get.ensures) (lam-no_term _ _ _ (sym c.contracts.ensures ∙ c.if-contracts.true))

pub returns-else-contracts : goal.returns-else-contracts
unfolding types_in
returns-else-contracts t c =
    rw (c.in-Abs.is, abs_is) (lam-term _ _ _ _ (rw c.get.ensures at (sym c.contracts.ensures ∙ c.if-contracts.false)) (rw c.get-in-Abs.ensures at c.is_term_under.ensures))

pub returns-in-Some : goal.returns-in-Some
returns-in-Some t c = rw c.in-Spine.is (spine-term _ _ c.in-Spine.h c.in-Spine.ts _ c.in-Some.ensures c.are_args.ensures)
