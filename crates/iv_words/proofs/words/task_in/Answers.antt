use Rattle.std.proofs.Common.{◌≡◌, ◌∙◌, ap, sym, codes, map}
use Rattle.clap.specs.Words.{app_of, fault_of, found_of, is_simple, is_simple_and_free, matches_of, rows_of}
use Rattle.clap.proofs.WalkLemmas.{first_value-rows}
use Rattle.iv_words.specs.Words.{isarvm, task_on}
use Rattle.iv_words.proofs.WordSteps.{simple, simple_and_free, faulty, taken, failed_by, task_answered, task_missing}
use Rattle.iv_words.proofs.words.task_in.Goals as goal

pub returns-in-Ok-clause-task : goal.returns-in-Ok-clause-task
returns-in-Ok-clause-task c =
    let app : app_of c.in_ok-command.command ≡ isarvm = c.in_ok-command.ensures in
    let asked : task_on (map (λ s. s.now) c.args.line.now) ≡ c.task_named.result =
    taken _ _ _ (rows_of (found_of c.in-Ok.matches)) (ap (λ a. fault_of a (map (λ s. s.now) c.args.line.now)) app)
    (c.in-Ok.ensures.kinds (ap is_simple_and_free app ∙ simple_and_free))
    (c.get_str.ensures ∙ first_value-rows (found_of c.in-Ok.matches) (codes "MODE"))
    ((c.in-Ok.ensures.matches (ap is_simple app ∙ simple)).0 ∙ ap (λ a. matches_of a (map (λ s. s.now) c.args.line.now)) app)
    ∙ sym c.task_named.ensures in
    task_answered _ _ _ asked c.ok_or.ensures.value

pub returns-in-Ok-clause-usage : goal.returns-in-Ok-clause-usage
returns-in-Ok-clause-usage c = λ e.
    let app : app_of c.in_ok-command.command ≡ isarvm = c.in_ok-command.ensures in
    let asked : task_on (map (λ s. s.now) c.args.line.now) ≡ c.task_named.result =
    taken _ _ _ (rows_of (found_of c.in-Ok.matches)) (ap (λ a. fault_of a (map (λ s. s.now) c.args.line.now)) app)
    (c.in-Ok.ensures.kinds (ap is_simple_and_free app ∙ simple_and_free))
    (c.get_str.ensures ∙ first_value-rows (found_of c.in-Ok.matches) (codes "MODE"))
    ((c.in-Ok.ensures.matches (ap is_simple app ∙ simple)).0 ∙ ap (λ a. matches_of a (map (λ s. s.now) c.args.line.now)) app)
    ∙ sym c.task_named.ensures in
    task_missing _ _ _ asked c.ok_or.ensures.value e

pub returns-in-Err-clause-usage : goal.returns-in-Err-clause-usage
returns-in-Err-clause-usage c = λ e.
    let app : app_of c.in_ok-command.command ≡ isarvm = c.in_ok-command.ensures in
    faulty _ c.in-Err.error _ (ap (λ a. fault_of a (map (λ s. s.now) c.args.line.now)) app) (c.in-Err.ensures.kinds (ap is_simple_and_free app ∙ simple_and_free)) (c.bad_words.ensures (failed_by _ _ e))
