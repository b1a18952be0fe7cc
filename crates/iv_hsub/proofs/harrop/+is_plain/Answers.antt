use Rattle.std.proofs.Common.{refl, sym, ◌∙◌}
use Rattle.iv_term.specs.Term.{abs_is, cons_is}
use Rattle.iv_hsub.specs.Hhf.{hhf_all}
use Rattle.iv_hsub.proofs.Terms.Moves.{plain-lam, plain-spine, plain-cons}
use Rattle.iv_hsub.proofs.harrop.+is_plain.Goals as goal

pub is_plain-returns-else-contracts : goal.is_plain-returns-else-contracts
is_plain-returns-else-contracts t c =
    λ h. rw (c.in-Abs.is, abs_is) (plain-lam _ _ (rw c.get.ensures at (sym c.contracts.ensures ∙ c.if-contracts.false)) (rw c.get-in-Abs.ensures at (c.is_plain.ensures h)))

pub is_plain-returns-else-concludes_quantified : goal.is_plain-returns-else-concludes_quantified
is_plain-returns-else-concludes_quantified t c =
    λ h. rw c.in-Spine.is (plain-spine _ _ (c.are_plain.ensures h) (c.concludes_quantified.ensures c.if-concludes_quantified.false _ _ c.in-Spine.is))

pub are_plain-returns-in-Nil : goal.are_plain-returns-in-Nil
unfolding hhf_all
are_plain-returns-in-Nil t c = λ h. rw c.in-Nil.is refl

pub are_plain-returns-else-not-is_plain : goal.are_plain-returns-else-not-is_plain
are_plain-returns-else-not-is_plain t c =
    λ h. rw (c.in-Cons.is, cons_is) (plain-cons _ _ (rw c.get.ensures at (c.is_plain.ensures c.if-not-is_plain.false)) (rw c.get-in-Cons.ensures at (c.are_plain.ensures h)))
