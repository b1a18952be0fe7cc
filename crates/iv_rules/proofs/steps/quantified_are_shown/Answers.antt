use Rattle.iv_rules.proofs.Shown.{all_intr-shows, all_elim-shows}
use Rattle.iv_rules.proofs.steps.quantified_are_shown.Goals as goal

pub returns-clause-all_intr : goal.returns-clause-all_intr
returns-clause-all_intr c = all_intr-shows c.substitution_gives_terms.ensures.happ c.abstraction_is_undone.ensures.typed

pub returns-clause-all_elim : goal.returns-clause-all_elim
returns-clause-all_elim c = all_elim-shows c.substitution_gives_terms.ensures.happ c.abstraction_is_undone.ensures.typed
