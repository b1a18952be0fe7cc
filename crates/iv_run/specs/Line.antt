-- Lines of reports. Of this project.
use Rattle.std.specs.Prelude.{◌≡◌, ℕ, Bool, true, List, ◌++◌, ◌==◌, ◌&&◌, not, IsTrue, Option, Some, None}
use Rattle.std.specs.List.{list_all}
use Rattle.iv_term.specs.declared.term.Head.{Head}
use Rattle.iv_term.specs.declared.term.Head.TheVariants.{Free, Schematic}
use Rattle.iv_term.specs.declared.term.Term.{Term}
use Rattle.iv_term.specs.declared.term.Terms.{Terms}
use Rattle.iv_term.specs.declared.term.Term.TheBlock.{Spine, Nil}
use Rattle.iv_term.specs.Term.{lam, tm_cons}
use Rattle.iv_run.specs.declared.refusal.Refusal.{Refusal}
use Rattle.iv_run.specs.declared.refusal.Refusal.TheVariants as cause
use Rattle.iv_run.specs.Report.{line_end, theorem_line, refusal_line}

-- whether a text has no line feed
abbrev pub is_plain : List ℕ → Bool
is_plain text = list_all (λ c. not (c == 10)) text

-- a line: it ends with a line feed, and has no other
abbrev pub IsLine : List ℕ → Type 0
IsLine text = (body : List ℕ) × ((text ≡ body ++ line_end) × IsTrue (is_plain body))

-- whether there is no line feed in a variable's name
abbrev pub is_plain_head : Head → Bool
is_plain_head (Free x a) = is_plain x.text
is_plain_head (Schematic x a) = is_plain x.text
is_plain_head _ = true

unfoldable mutual
  -- whether there is none in the names of a term's variables
  pub is_plain_term : Term → Bool
  is_plain_term (lam a b) = is_plain_term b
  is_plain_term (Spine h ts) = is_plain_head h && are_plain_terms ts

  pub are_plain_terms : Terms → Bool
  are_plain_terms Nil = true
  are_plain_terms (tm_cons t ts) = is_plain_term t && are_plain_terms ts

-- whether there is none in a name, if there is a name
abbrev pub is_plain_name : Option (List ℕ) → Bool
is_plain_name None = true
is_plain_name (Some name) = is_plain name

-- whether there is none in the name that a refusal tells
abbrev pub is_plain_cause : Refusal → Bool
is_plain_cause (cause.Name name) = is_plain name
is_plain_cause _ = true

-- what is printed of a theorem is one line, if its names are plain
abbrev pub TheoremsAreLines : Type 0
TheoremsAreLines = (name : Option (List ℕ)) (p : Term) → IsTrue (is_plain_name name) → IsTrue (is_plain_term p) → IsLine (theorem_line name p)

-- and so is what is printed of a refused command, if its word is plain
abbrev pub RefusalsAreLines : Type 0
RefusalsAreLines = (line column own_line own_column : ℕ) (word : List ℕ) (refusal : Refusal) → IsTrue (is_plain word) → IsTrue (is_plain_cause refusal) → IsLine (refusal_line line column word own_line own_column refusal)
