-- Theorems that stand by themselves. Of this project.
use Rattle.std.specs.Prelude.{◌≡◌, []}
use Rattle.iv_term.specs.declared.term.Term.TheBlock.{Nil}
use Rattle.iv_rules.specs.Rules.{axioms_of, Proved, Kept}

-- a theorem keeps a derivation that concludes it, has no hypotheses, and rests on no axiom
pub record IsClosed (t : Proved) : Type 0 where
  pub kept : Kept t
  pub hyps : t.hyps ≡ Nil
  pub axioms : axioms_of t.derivation ≡ []
