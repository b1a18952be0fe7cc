-- Statements are propositions, and have no !! to be moved.
use Rattle.std.proofs.Common.{◌≡◌, ℕ, List, [], ◌∷◌, ◌++◌, refl, ◌∙◌}
use Rattle.iv_term.specs.declared.term.Term.{Term}
use Rattle.iv_term.specs.Typ.{same_typ, same_typs}
use Rattle.iv_term.specs.Term.{imp}
use Rattle.iv_hsub.specs.Typing.{type_of, result_type}
use Rattle.iv_hsub.specs.Hhf.{hhf, hhf_all, push, push_args}
use Rattle.iv_rules.specs.Sequent.{IsProp}
use Rattle.iv_rules.specs.Laws.{ImpIsProp}
use Rattle.iv_run.specs.Statement.{free_var, statement_of}
use Rattle.iv_run.proofs.StatementSteps.{statement-cons}

pub free-prop : (p : List ℕ) → IsProp (free_var p)
unfolding type_of result_type
free-prop p = ((tt, tt), refl)

pub statement-prop : ImpIsProp → (ps : List (List ℕ)) (c : List ℕ) → IsProp (statement_of free_var (ps ++ c ∷ []))
unfolding statement_of
statement-prop law [] c = free-prop c
statement-prop law (p ∷ ps) c = rw (statement-cons free_var p c ps) ((law (free_var p) (statement_of free_var (ps ++ c ∷ []))).1 (free-prop p, statement-prop law ps c))

-- a premise stays in front of a statement
push-var : (a : Term) (p : List ℕ) → push a (free_var p) ≡ imp a (free_var p)
unfolding push push_args
push-var a p = refl

push-imp : (a b d : Term) → push a (imp b d) ≡ imp a (imp b d)
unfolding push push_args same_typ same_typs
push-imp a b d = refl

pushed : (a : Term) (ps : List (List ℕ)) (c : List ℕ) → push a (statement_of free_var (ps ++ c ∷ [])) ≡ imp a (statement_of free_var (ps ++ c ∷ []))
unfolding statement_of
pushed a [] c = push-var a c
pushed a (p ∷ ps) c = rw (statement-cons free_var p c ps) (push-imp a (free_var p) (statement_of free_var (ps ++ c ∷ [])))

hhf-var : (p : List ℕ) → hhf (free_var p) ≡ free_var p
unfolding hhf hhf_all
hhf-var p = refl

hhf-imp : (a b : Term) → hhf (imp a b) ≡ push (hhf a) (hhf b)
unfolding hhf hhf_all same_typ same_typs
hhf-imp a b = refl

-- the form of a statement is the statement
pub hhf-statement : (ps : List (List ℕ)) (c : List ℕ) → hhf (statement_of free_var (ps ++ c ∷ [])) ≡ statement_of free_var (ps ++ c ∷ [])
unfolding statement_of
hhf-statement [] c = hhf-var c
hhf-statement (p ∷ ps) c =
    rw (statement-cons free_var p c ps)
    (hhf-imp (free_var p) (statement_of free_var (ps ++ c ∷ [])) ∙ (λ i. push (hhf-var p i) (hhf-statement ps c i)) ∙ pushed (free_var p) ps c)
