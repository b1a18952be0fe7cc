use Rattle.std.proofs.Common.{◌≡◌, ◌∙◌, ap₂, rules}
use Rattle.std.proofs.lemmas.Result.{IfOk-weaker}
use Rattle.clap.specs.Words.{rule_of, with_rule}
use Rattle.iv_words.specs.Words.{isarvm, mode_argument}
use Rattle.iv_words.proofs.words.isarvm.Goals as goal

pub returns : goal.returns
unfolding isarvm mode_argument
returns c =
    let rule : rule_of c.action-mode.result ≡ mode_argument = search rules in
    IfOk-weaker c.arg.result _ _ (λ r h. h.shape (search rules) ∙ ap₂ with_rule c.new-2.ensures.app rule) c.arg.ensures
