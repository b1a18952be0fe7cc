use Rattle.std.proofs.lemmas.Result.{IfOk-weaker, IfErr-weaker}
use Rattle.iv_grammar.proofs.type_steps.begun.Goals as goal

pub returns-in-Word-clause-ok : goal.returns-in-Word-clause-ok
returns-in-Word-clause-ok c = rw c.in-Word.is (IfOk-weaker c.begun_word.result _ _ (λ s f left. f c.args.frames.now.items left) c.begun_word.ensures.ok)

pub returns-in-Sign-clause-ok : goal.returns-in-Sign-clause-ok
returns-in-Sign-clause-ok c = rw c.in-Sign.is (IfOk-weaker c.begun_sign.result _ _ (λ s f left. f c.args.trees.now.items left) c.begun_sign.ensures.ok)

pub returns-in-Sign-clause-stuck : goal.returns-in-Sign-clause-stuck
returns-in-Sign-clause-stuck c = rw c.in-Sign.is (IfErr-weaker c.begun_sign.result _ _ (λ e f q left. f q c.args.trees.now.items left) c.begun_sign.ensures.stuck)
