-- Statements under an instance that puts schematic variables for their free ones.
use Rattle.std.proofs.Common.{◌≡◌, ◌≤◌, ◌<◌, ◌+◌, ℕ, List, [], ◌∷◌, ◌++◌, length, drop, get_or, refl, sym, ap, ◌∙◌, subst, arith}
use Rattle.std.proofs.lemmas.List.{drop_all}
use Rattle.iv_term.specs.declared.term.Head.TheVariants.{Free}
use Rattle.iv_term.specs.declared.term.Term.{Term}
use Rattle.iv_term.specs.declared.term.Terms.{Terms}
use Rattle.iv_term.specs.declared.term.Term.TheBlock.{Nil}
use Rattle.std.specs.Str.{bytes_eq}
use Rattle.iv_term.specs.Typ.{prop}
use Rattle.iv_text.specs.Name.{same_name}
use Rattle.iv_term.specs.Term.{imp}
use Rattle.iv_term.specs.Hyps.{union}
use Rattle.iv_hsub.specs.Hsub.{happ}
use Rattle.iv_hsub.specs.Retype.{map_typ, map_typs, retype, retype_all}
use Rattle.iv_hsub.specs.Inst.{use_value, inst, inst_all}
use Rattle.iv_rules.specs.declared.instance.Instance.{Instance}
use Rattle.iv_rules.specs.Entries.{VarMap, same_var}
use Rattle.iv_rules.specs.Instance.{instanced, instanced_hyps, AreKeysApart, IsFreshFor, changes_any}
use Rattle.iv_rules.specs.Conditions.{CanInst}
use Rattle.iv_run.specs.Statement.{name_of, free_var, schematic_var, statement_of, with_entry, with_entries, general}
use Rattle.iv_run.proofs.StatementSteps.{statement-cons, drop-earlier}
use Rattle.iv_run.proofs.Entries.{Covers, CoversAll, entries_for, premises-covered, conclusion-covered, entries-typed, typed-none, entries-apart, none-apart}

instanced-var : (es : VarMap) (p : List ℕ) → Covers es p → instanced (general es) (free_var p) ≡ schematic_var p
unfolding map_typ map_typs retype retype_all inst inst_all happ
instanced-var es p k = ap (λ o. use_value o (Free (name_of p) prop) prop Nil) k

instanced-imp : (s : Instance) (a b : Term) → instanced s (imp a b) ≡ imp (instanced s a) (instanced s b)
unfolding map_typ map_typs retype retype_all inst inst_all
instanced-imp s a b = refl

instanced-covered : (es : VarMap) (ps : List (List ℕ)) (c : List ℕ) → CoversAll es ps → Covers es c
    → instanced (general es) (statement_of free_var (ps ++ c ∷ [])) ≡ statement_of schematic_var (ps ++ c ∷ [])
unfolding statement_of
instanced-covered es [] c h k = instanced-var es c k
instanced-covered es (p ∷ ps) c h k =
    ap (instanced (general es)) (statement-cons free_var p c ps) ∙ instanced-imp (general es) (free_var p) (statement_of free_var (ps ++ c ∷ []))
    ∙ (λ i. imp (instanced-var es p h.0 i) (instanced-covered es ps c h.1 k i)) ∙ sym (statement-cons schematic_var p c ps)

-- the free variables of a statement become schematic
pub instanced-statement : (ps : List (List ℕ)) (c : List ℕ)
    → instanced (general (entries_for ps c)) (statement_of free_var (ps ++ c ∷ [])) ≡ statement_of schematic_var (ps ++ c ∷ [])
instanced-statement ps c = instanced-covered (entries_for ps c) ps c (premises-covered ps c) (conclusion-covered ps c)

pub instanced-nothing : (s : Instance) → instanced_hyps s Nil ≡ Nil
unfolding union retype_all inst_all
instanced-nothing s = refl

-- the entries for a statement may be put in where there are no hypotheses
fresh-nowhere : (s : Instance) → IsFreshFor s Nil
unfolding changes_any
fresh-nowhere s = refl

pub can-generalise : (ps : List (List ℕ)) (c : List ℕ) → CanInst (general (entries_for ps c)) Nil
can-generalise ps c = ((entries-typed ps c, typed-none), fresh-nowhere (general (entries_for ps c)))

pub keys-apart : (ps : List (List ℕ)) (c : List ℕ) → AreKeysApart (general (entries_for ps c))
keys-apart ps c = (none-apart bytes_eq, none-apart same_name, entries-apart ps c, none-apart same_var)

-- one more text
pub with_entries-step : (ps : List (List ℕ)) (i : ℕ) (p : List ℕ) (es : VarMap) → i < length ps → p ≡ get_or ps i p
    → with_entries (drop i ps) es ≡ with_entries (drop (i + 1) ps) (with_entry p es)
unfolding with_entries
with_entries-step ps i p es lt is =
    let d : drop i ps ≡ p ∷ drop (i + 1) ps = drop-earlier ps p (i + 1) i (omega arith) refl is in rw d

pub with_entries-end : (ps : List (List ℕ)) (i : ℕ) (es : VarMap) → length ps ≤ i → with_entries (drop i ps) es ≡ es
unfolding with_entries
with_entries-end ps i es le = rw (drop_all i ps le)
