use Rattle.iv_rules.proofs.Shown.{comb-shows, abs-shows}
use Rattle.iv_rules.proofs.steps.congruences_are_shown.Goals as goal

pub returns-clause-comb : goal.returns-clause-comb
returns-clause-comb c = comb-shows c.substitution_gives_terms.ensures.happ c.abstraction_is_undone.ensures.typed

pub returns-clause-abs : goal.returns-clause-abs
returns-clause-abs c = abs-shows c.substitution_gives_terms.ensures.happ c.abstraction_is_undone.ensures.typed
