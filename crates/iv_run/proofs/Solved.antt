-- Solved statements are derivable.
use Rattle.std.proofs.Common.{◌≡◌, ℕ, true, false, List, [], ◌∷◌, ◌++◌, refl, sym, ap, ◌∙◌, subst}
use Rattle.std.specs.Prelude.{Contains}
use Rattle.std.specs.List.{list_any}
use Rattle.std.specs.Str.{bytes_eq}
use Rattle.iv_term.specs.declared.term.Term.{Term}
use Rattle.iv_term.specs.declared.term.Terms.{Terms}
use Rattle.iv_term.specs.declared.term.Term.TheBlock.{Nil}
use Rattle.iv_rules.specs.declared.instance.Instance.{Instance}
use Rattle.iv_rules.specs.declared.derivation.Derivation.{Derivation}
use Rattle.iv_rules.specs.declared.derivation.Derivation.TheBlock.{Assume}
use Rattle.iv_rules.specs.Derivation.{imp_intr, inst}
use Rattle.iv_rules.specs.Rules.{Shows, Derivable, axioms_of}
use Rattle.iv_rules.specs.Steps.{AssumeShows, ImpIntrShows, InstShows}
use Rattle.iv_run.specs.Statement.{statement_of, free_var, schematic_var, last_of, is_solved, general, open_hyps}
use Rattle.iv_run.specs.Laws.{SolvedIsDerivable}
use Rattle.iv_run.proofs.StatementSteps.{statement-cons, solved-any}
use Rattle.iv_run.proofs.Forms.{free-prop}
use Rattle.iv_run.proofs.Discharged.{open_hyps-cons, open_hyps-none, open_hyps-solved}
use Rattle.iv_run.proofs.Entries.{entries_for}
use Rattle.iv_run.proofs.Generalising.{keys-apart, can-generalise, instanced-statement, instanced-nothing}

-- the derivation of P1 ==> .. ==> Pn ==> C from C: each premise is discharged, from the last to the first
abbrev chain : List (List ℕ) → List ℕ → Derivation
chain [] c = Assume (free_var c)
chain (p ∷ ps) c = imp_intr (free_var p) (chain ps c)

chain-axioms : (ps : List (List ℕ)) (c : List ℕ) → axioms_of (chain ps c) ≡ []
unfolding axioms_of
chain-axioms [] c = refl
chain-axioms (p ∷ ps) c = chain-axioms ps c

-- what a derivation shows, by other names
by-names : (d : Derivation) (hs ks : Terms) (p q : Term) → hs ≡ ks → p ≡ q → Shows d hs p → Shows d ks q
by-names d hs ks p q e f h = subst (λ r. Shows d ks r) f (subst (λ (gs : Terms). Shows d gs p) e h)

-- the same with schematic variables put for the free ones
abbrev whole : List (List ℕ) → List ℕ → Derivation
whole ps c = inst (general (entries_for ps c)) (chain ps c)

inst-axioms : (s : Instance) (d : Derivation) → axioms_of d ≡ [] → axioms_of (inst s d) ≡ []
unfolding axioms_of
inst-axioms s d e = e

-- the parts in front of the last, with the last behind them
parts-split : (p : List ℕ) (ps : List (List ℕ)) → (front : List (List ℕ)) × (p ∷ ps ≡ front ++ last_of p ps ∷ [])
unfolding last_of
parts-split p [] = ([], refl)
parts-split p (q ∷ qs) = (p ∷ (parts-split q qs).0, ap (λ l. p ∷ l) (parts-split q qs).1)

no-parts : is_solved [] ≡ false
unfolding is_solved
no-parts = refl

module _ (assume : AssumeShows) (intr : ImpIntrShows) (instance : InstShows) where
  chain-shows : (ps : List (List ℕ)) (c : List ℕ) → Shows (chain ps c) (open_hyps ps c) (statement_of free_var (ps ++ c ∷ []))
  unfolding statement_of
  chain-shows [] c = by-names _ _ _ _ _ (sym (open_hyps-none c)) refl (assume (free_var c) (free-prop c))
  chain-shows (p ∷ ps) c =
      by-names _ _ _ _ _ (open_hyps-cons p c ps) (sym (statement-cons free_var p c ps))
      (intr (free_var p) (chain ps c) (open_hyps ps c) (statement_of free_var (ps ++ c ∷ [])) (free-prop p) (chain-shows ps c))

  whole-shows : (ps : List (List ℕ)) (c : List ℕ) → open_hyps ps c ≡ Nil → Shows (whole ps c) Nil (statement_of schematic_var (ps ++ c ∷ []))
  whole-shows ps c none =
      let s : Instance = general (entries_for ps c) in
      by-names _ _ _ _ _ (instanced-nothing s) (instanced-statement ps c)
      (instance s (chain ps c) Nil (statement_of free_var (ps ++ c ∷ [])) (keys-apart ps c) (can-generalise ps c)
      (by-names _ _ _ _ _ none refl (chain-shows ps c)))

  -- a statement with its conclusion among its premises is derivable
  assumed-derivable : (ps : List (List ℕ)) (c : List ℕ) → list_any (λ p. bytes_eq p c) ps ≡ true → Derivable [] (statement_of schematic_var (ps ++ c ∷ []))
  assumed-derivable ps c e = (
    whole ps c,
    (
      whole-shows ps c (open_hyps-solved ps c e),
      λ a h. subst (λ (axioms : List (List ℕ × Term)). Contains axioms a) (inst-axioms (general (entries_for ps c)) (chain ps c) (chain-axioms ps c)) h,
    ),
  )

  -- the theorem of a solved statement is derivable
  pub solved-derivable : SolvedIsDerivable
  solved-derivable [] e = absurd (let bad : false ≡ true = sym no-parts ∙ e in cc)
  solved-derivable (p ∷ ps) e =
      let front : List (List ℕ) = (parts-split p ps).0 in
      let is : p ∷ ps ≡ front ++ last_of p ps ∷ [] = (parts-split p ps).1 in
      subst (λ l. Derivable [] (statement_of schematic_var l)) (sym is)
      (assumed-derivable front (last_of p ps) (sym (solved-any front (last_of p ps)) ∙ ap is_solved (sym is) ∙ e))
