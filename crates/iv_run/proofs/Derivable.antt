-- The theorems of a document: they only grow in number, and each is derivable.
use Rattle.std.proofs.Common.{◌≡◌, ℕ, Bool, true, false, List, [], ◌∷◌, ◌++◌, refl, sym, ap, ◌∙◌, subst, inl, inr, ◌⊎◌, if◌then◌else◌, append_assoc}
use Rattle.std.specs.Prelude.{Option, Some, None}
use Rattle.std.proofs.lemmas.List.{append-nil}
use Rattle.iv_rules.specs.Rules.{Derivable}
use Rattle.iv_statement.specs.declared.commands.Command.{Command}
use Rattle.iv_statement.specs.declared.commands.Form.{Form}
use Rattle.iv_statement.specs.declared.commands.Form.TheVariants.{Header, Prose, Lemma, ByAssumption, Oops, End, Unreadable}
use Rattle.iv_run.specs.declared.refusal.Refusal.{Refusal}
use Rattle.iv_run.specs.Statement.{is_solved}
use Rattle.iv_run.specs.Laws.{SolvedIsDerivable}
use Rattle.iv_run.specs.Machine.{Finished, Stage, Start, Theory, Prove, Ended, Machine, Refused, Accepted, is_taken, other_import, header_row, theorem_of, row, state_after, start, next}
use Rattle.iv_run.specs.Run.{state_behind, theorems_of, AllDerivable, IsFrontOf}

front-same : {X : Type 0} (a : List X) → IsFrontOf a a
front-same a = ([], sym (append-nil a))

pub front-of-front : {X : Type 0} (a b c : List X) → IsFrontOf a b → IsFrontOf b c → IsFrontOf a c
front-of-front a b c h k = (h.0 ++ k.0, k.1 ∙ ap (λ l. l ++ k.0) h.1 ∙ append_assoc a h.0 k.0)

-- the theorems behind a command in this state
abbrev behind : Form → Stage → List Finished → List Finished
behind f s finished = (state_after (record { stage = s; finished = finished }) (row f (record { stage = s; finished = finished }))).finished

-- some theorems are these, or these and that of a solved statement behind them
abbrev AddsSolved : List Finished → List Finished → Type 0
AddsSolved before after = (after ≡ before)
    ⊎ ((label : List ℕ) × ((parts : List (List ℕ)) × ((is_solved parts ≡ true) × (after ≡ before ++ theorem_of label parts ∷ []))))

lemma-keeps : (b : Bool) (s t : Stage) (r : Refusal) (fs : List Finished)
    → AddsSolved fs (state_after (record { stage = s; finished = fs }) (if b then Refused r else Accepted (record { stage = t; finished = fs }))).finished
lemma-keeps true s t r fs = inl refl
lemma-keeps false s t r fs = inl refl

by-adds : (b : Bool) (s : Stage) (r : Refusal) (fs : List Finished) (label : List ℕ) (parts : List (List ℕ)) → is_solved parts ≡ b
    → AddsSolved fs (state_after (record { stage = s; finished = fs }) (if b then Accepted (record { stage = Theory; finished = fs ++ theorem_of label parts ∷ [] }) else Refused r)).finished
by-adds true s r fs label parts e = inr (label, (parts, (e, refl)))
by-adds false s r fs label parts e = inl refl

header-keeps : (name : Option (List ℕ)) (s : Stage) (fs : List Finished)
    → AddsSolved fs (state_after (record { stage = s; finished = fs }) (header_row name fs)).finished
header-keeps None s fs = inl refl
header-keeps (Some name) s fs = inl refl

row-adds : (f : Form) (s : Stage) (fs : List Finished) → AddsSolved fs (behind f s fs)
row-adds (Header imports) Start fs = header-keeps (other_import imports) Start fs
row-adds (Header imports) Theory fs = inl refl
row-adds (Header imports) (Prove label claim) fs = inl refl
row-adds (Header imports) Ended fs = inl refl
row-adds Prose Start fs = inl refl
row-adds Prose Theory fs = inl refl
row-adds Prose (Prove label claim) fs = inl refl
row-adds Prose Ended fs = inl refl
row-adds (Lemma name parts) Start fs = lemma-keeps (is_taken fs name) _ _ _ fs
row-adds (Lemma name parts) Theory fs = lemma-keeps (is_taken fs name) _ _ _ fs
row-adds (Lemma name parts) (Prove label claim) fs = inl refl
row-adds (Lemma name parts) Ended fs = inl refl
row-adds ByAssumption Start fs = inl refl
row-adds ByAssumption Theory fs = inl refl
row-adds ByAssumption (Prove label claim) fs = by-adds (is_solved claim) _ _ fs label claim refl
row-adds ByAssumption Ended fs = inl refl
row-adds Oops Start fs = inl refl
row-adds Oops Theory fs = inl refl
row-adds Oops (Prove label claim) fs = inl refl
row-adds Oops Ended fs = inl refl
row-adds End Start fs = inl refl
row-adds End Theory fs = inl refl
row-adds End (Prove label claim) fs = inl refl
row-adds End Ended fs = inl refl
row-adds (Unreadable p) s fs = inl refl

next-adds : (c : Command) (m : Machine) → AddsSolved m.finished (next c m).finished
next-adds c m = row-adds c.form m.stage m.finished

-- the theorems before a command are the first of those behind it
pub next-grows : (c : Command) (m : Machine) → IsFrontOf m.finished (next c m).finished
next-grows c m = elim (next-adds c m) [
  | inl same ↦ subst (IsFrontOf m.finished) (sym same) (front-same m.finished)
  | inr more ↦ (theorem_of more.0 more.1.0 ∷ [], more.1.1.1)
]

-- and of those behind some commands
pub finished-grows : (m : Machine) (cs : List Command) → IsFrontOf m.finished (state_behind m cs).finished
unfolding state_behind
finished-grows m [] = front-same m.finished
finished-grows m (c ∷ cs) = front-of-front m.finished (next c m).finished (state_behind (next c m) cs).finished (next-grows c m) (finished-grows (next c m) cs)

-- one more derivable theorem
derivable-more : (fs : List Finished) (f : Finished) → AllDerivable fs → Derivable [] f.prop → AllDerivable (fs ++ f ∷ [])
derivable-more [] f h d = (d, tt)
derivable-more (g ∷ gs) f h d = (h.0, derivable-more gs f h.1 d)

-- a command keeps all theorems derivable
next-derivable : SolvedIsDerivable → (c : Command) (m : Machine) → AllDerivable m.finished → AllDerivable (next c m).finished
next-derivable law c m h = elim (next-adds c m) [
  | inl same ↦ subst AllDerivable (sym same) h
  | inr more ↦ subst AllDerivable (sym more.1.1.1) (derivable-more m.finished (theorem_of more.0 more.1.0) h (law more.1.0 more.1.1.0))
]

behind-derivable : SolvedIsDerivable → (m : Machine) (cs : List Command) → AllDerivable m.finished → AllDerivable (state_behind m cs).finished
unfolding state_behind
behind-derivable law m [] h = h
behind-derivable law m (c ∷ cs) h = behind-derivable law (next c m) cs (next-derivable law c m h)

-- every theorem that commands prove follows from no hypothesis and no axiom
pub theorems-derivable : SolvedIsDerivable → (cs : List Command) → AllDerivable (theorems_of cs)
theorems-derivable law cs = behind-derivable law start cs tt
