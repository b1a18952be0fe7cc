use Rattle.std.proofs.Common.{◌++◌, ◌∷◌, [], ap, ◌∙◌, ◌<◌, ◌≤◌, length, arith}
use Rattle.std.proofs.lemmas.Result.{on_ok_weaker}
use Rattle.iv_outer.proofs.OpenSteps.{opened_is, closed_is}
use Rattle.iv_outer.proofs.opened.push_cartouche.Goals as goal

pub returns-then-len-lt4294967296-clause-ok : goal.returns-then-len-lt4294967296-clause-ok
returns-then-len-lt4294967296-clause-ok c =
    let h : length c.deref.result.now < 4294967296 = omega (arith, c.deref.ensures.len, c.len.ensures, c.if-len-lt4294967296.true) in
    on_ok_weaker c.push_inside.result (λ e. e ∙ ap (λ r. c.args.out.now.items ++ r) (opened_is c.args.lexeme.now c.deref.result.now (c.deref.ensures.value ∙ c.in_ok-bytes.ensures.ok) h)) c.push_inside.ensures.ok

pub returns-clause-ok : goal.returns-clause-ok
returns-clause-ok c =
    let h : 4294967296 ≤ length c.in_ok-bytes.bytes.items = omega (arith, c.len.ensures, c.if-len-lt4294967296.false) in
    on_ok_weaker c.push.result (λ e. e ∙ ap (λ l. c.args.out.now.items ++ l ∷ []) c.in_ok-copied.ensures.ok ∙ ap (λ r. c.args.out.now.items ++ r) (closed_is c.args.lexeme.now c.in_ok-bytes.bytes.items c.in_ok-bytes.ensures.ok h)) c.push.ensures.ok
