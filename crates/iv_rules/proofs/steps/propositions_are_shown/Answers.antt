use Rattle.iv_rules.proofs.Shown.{axiom-shows, assume-shows, imp_intr-shows, imp_elim-shows, conv-shows}
use Rattle.iv_rules.proofs.steps.propositions_are_shown.Goals as goal

pub returns-clause-axiom : goal.returns-clause-axiom
returns-clause-axiom c = axiom-shows

pub returns-clause-assume : goal.returns-clause-assume
returns-clause-assume c = assume-shows

pub returns-clause-imp_intr : goal.returns-clause-imp_intr
returns-clause-imp_intr c = imp_intr-shows

pub returns-clause-imp_elim : goal.returns-clause-imp_elim
returns-clause-imp_elim c = imp_elim-shows

pub returns-clause-conv : goal.returns-clause-conv
returns-clause-conv c = conv-shows
