-- What the goal of an open claim gives.
use Rattle.std.proofs.Common.{◌≡◌, ℕ, List, [], ◌∷◌, ◌++◌, refl, ap, ◌∙◌, subst}
use Rattle.iv_term.specs.declared.term.Term.{Term}
use Rattle.iv_term.specs.declared.term.Terms.{Terms}
use Rattle.iv_term.specs.declared.term.Term.TheBlock.{Nil}
use Rattle.iv_term.specs.Term.{imp, consequent}
use Rattle.iv_term.specs.Hyps.{union}
use Rattle.iv_hsub.specs.Hhf.{hhf}
use Rattle.iv_rules.specs.declared.derivation.Derivation.{Derivation}
use Rattle.iv_rules.specs.declared.derivation.Derivation.TheBlock.{Assume}
use Rattle.iv_rules.specs.Derivation.{imp_intr, imp_elim, conv}
use Rattle.iv_rules.specs.Rules.{axioms_of}
use Rattle.iv_kernel.specs.Goal.{goal_prop, premises_of, IsGoal}
use Rattle.iv_run.specs.Statement.{statement_of, free_var}
use Rattle.iv_run.proofs.Forms.{hhf-statement}

-- the claim of a statement is in its form already
pub statement-form : (t : Term) (ps : List (List ℕ)) (c : List ℕ) → t ≡ statement_of free_var (ps ++ c ∷ []) → hhf t ≡ t
statement-form t ps c e = rw e (hhf-statement ps c)

-- the theorem of a goal with its claim as the only subgoal
only-subgoal : (g claim : Term) (ss : List Term) → g ≡ goal_prop ss claim → ss ≡ claim ∷ [] → g ≡ imp claim claim
unfolding goal_prop
only-subgoal g claim ss e o = rw o at e

pub elim-fits : (g s claim : Term) (ss : List Term) → g ≡ goal_prop ss claim → ss ≡ claim ∷ [] → s ≡ claim → g ≡ imp s (consequent g)
elim-fits g s claim ss e o is = rw (only-subgoal g claim ss e o, is)

pub conclusion-fits : (g t claim : Term) (ss : List Term) → g ≡ goal_prop ss claim → ss ≡ claim ∷ [] → t ≡ consequent g → IsGoal 0 t claim
unfolding goal_prop premises_of
conclusion-fits g t claim ss e o is = (is ∙ ap consequent (only-subgoal g claim ss e o), tt)

pub no-premises : (p : Term) → premises_of 0 p ≡ []
unfolding premises_of
no-premises p = refl

pub union-none : (hs ks : Terms) → hs ≡ Nil → ks ≡ Nil → union hs ks ≡ Nil
unfolding union
union-none hs ks e f = rw (e, f)

pub axioms-start : (a b c : Term) (d : Derivation) → d ≡ imp_intr a (conv b (Assume c)) → axioms_of d ≡ []
unfolding axioms_of
axioms-start a b c d e = rw e

pub axioms-elim : (d e f : Derivation) → f ≡ imp_elim d e → axioms_of d ≡ [] → axioms_of e ≡ [] → axioms_of f ≡ []
unfolding axioms_of
axioms-elim d e f is p q = rw (is, p, q)
