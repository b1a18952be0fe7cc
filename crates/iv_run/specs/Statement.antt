-- Statements as terms, and when a premise is the conclusion. Of this project.
use Rattle.std.specs.Prelude.{ℕ, Bool, false, ◌||◌, List, [], ◌∷◌, ◌++◌, is_none, if◌then◌else◌}
use Rattle.std.specs.List.{list_any}
use Rattle.std.specs.Str.{bytes_eq}
use Rattle.iv_text.specs.declared.name.Name.{Name}
use Rattle.iv_term.specs.declared.term.Term.{Term}
use Rattle.iv_term.specs.declared.term.Head.TheVariants.{Free, Schematic}
use Rattle.iv_term.specs.declared.term.Term.TheBlock.{Spine, Nil}
use Rattle.iv_term.specs.declared.term.Terms.{Terms}
use Rattle.iv_term.specs.Typ.{prop}
use Rattle.iv_term.specs.Term.{imp, tm_cons}
use Rattle.iv_rules.specs.declared.instance.Instance.{Instance}
use Rattle.iv_rules.specs.Entries.{VarMap, term_at}

-- the name of this text, with the number 0
abbrev pub name_of : List ℕ → Name
name_of text = record { text = text; number = 0 }

-- the free and the schematic variable of type prop
abbrev pub free_var : List ℕ → Term
free_var text = Spine (Free (name_of text) prop) Nil

abbrev pub schematic_var : List ℕ → Term
schematic_var text = Spine (Schematic (name_of text) prop) Nil

-- P1 ==> .. ==> Pn, for variables of these texts, of which there is always one
unfoldable pub statement_of : (List ℕ → Term) → List (List ℕ) → Term
statement_of var [] = var []
statement_of var (p ∷ []) = var p
statement_of var (p ∷ q ∷ qs) = imp (var p) (statement_of var (q ∷ qs))

-- the conclusion, the last part; p where no part is behind it
unfoldable pub last_of : List ℕ → List (List ℕ) → List ℕ
last_of p [] = p
last_of p (q ∷ qs) = last_of q qs

-- whether one of the premises is the conclusion
unfoldable pub is_solved : List (List ℕ) → Bool
is_solved [] = false
is_solved (p ∷ []) = false
is_solved (p ∷ q ∷ qs) = bytes_eq p (last_of q qs) || is_solved (q ∷ qs)

-- what is put for the free variable of a text: its schematic one, unless something is put for it already
unfoldable pub with_entry : List ℕ → VarMap → VarMap
with_entry p es = if is_none (term_at es (name_of p) prop) then es ++ ((name_of p, prop), schematic_var p) ∷ [] else es

-- the same for each of some texts
unfoldable pub with_entries : List (List ℕ) → VarMap → VarMap
with_entries [] es = es
with_entries (p ∷ ps) es = with_entries ps (with_entry p es)

-- these entries are put for free variables, and nothing else
abbrev pub general : VarMap → Instance
general es = record { fixed = []; types = []; frees = es; schematics = [] }

-- the hypotheses of a statement that is proved from its conclusion: none where a premise is the conclusion
unfoldable pub open_hyps : List (List ℕ) → List ℕ → Terms
open_hyps ps c = if list_any (λ p. bytes_eq p c) ps then Nil else tm_cons (free_var c) Nil
