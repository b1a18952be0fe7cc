use Rattle.iv_rules.proofs.Shown.{refl-shows, sym-shows, trans-shows, eq_intr-shows, eq_elim-shows}
use Rattle.iv_rules.proofs.steps.equations_are_shown.Goals as goal

pub returns-clause-refl : goal.returns-clause-refl
returns-clause-refl c = refl-shows

pub returns-clause-sym : goal.returns-clause-sym
returns-clause-sym c = sym-shows

pub returns-clause-trans : goal.returns-clause-trans
returns-clause-trans c = trans-shows

pub returns-clause-eq_intr : goal.returns-clause-eq_intr
returns-clause-eq_intr c = eq_intr-shows

pub returns-clause-eq_elim : goal.returns-clause-eq_elim
returns-clause-eq_elim c = eq_elim-shows
