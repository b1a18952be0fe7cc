-- The texts of reports. Of this project.
use Rattle.std.specs.Prelude.{ℕ, Bool, true, false, List, [], ◌∷◌, ◌++◌, if◌then◌else◌, codes, Option, Some, None}
use Rattle.std.specs.Fmt.{decimal}
use Rattle.iv_term.specs.declared.term.Head.{Head}
use Rattle.iv_term.specs.declared.term.Head.TheVariants.{Const, Free, Schematic}
use Rattle.iv_term.specs.declared.term.Term.{Term}
use Rattle.iv_term.specs.declared.term.Terms.{Terms}
use Rattle.iv_term.specs.declared.term.Term.TheBlock.{Spine, Nil}
use Rattle.iv_term.specs.Term.{lam, tm_cons}
use Rattle.iv_report.specs.Text.{only_if, name_text, place_text}
use Rattle.iv_run.specs.declared.refusal.Mode.{Mode}
use Rattle.iv_run.specs.declared.refusal.Mode.TheVariants.{Start, Theory, Prove, Ended}
use Rattle.iv_run.specs.declared.refusal.Refusal.{Refusal}
use Rattle.iv_run.specs.declared.refusal.Refusal.TheVariants as cause

-- the end of a line: a line feed
abbrev pub line_end : List ℕ
line_end = 10 ∷ []

-- a text, in parentheses where a condition holds
abbrev pub enclosed : Bool → List ℕ → List ℕ
enclosed b text = only_if b (codes "(") ++ text ++ only_if b (codes ")")

-- whether a head is a constant, which in a proposition is the implication
abbrev pub is_constant : Head → Bool
is_constant (Const c a) = true
is_constant _ = false

-- whether a proposition is an implication
abbrev pub is_arrow : Term → Bool
is_arrow (lam a b) = false
is_arrow (Spine h ts) = is_constant h

-- how a variable is printed, and nothing for any other head
abbrev pub variable_text : Head → List ℕ
variable_text (Free x a) = codes "PROP " ++ name_text x
variable_text (Schematic x a) = codes "PROP ?" ++ name_text x
variable_text _ = []

unfoldable mutual
  -- how a proposition is printed, with the fewest parentheses: `==>` associates to the right
  pub prop_text : Term → List ℕ
  prop_text (lam a b) = []
  prop_text (Spine h ts) = if is_constant h then sides_text ts else variable_text h

  -- the two sides of an implication: a premise that is one itself stands in parentheses
  pub sides_text : Terms → List ℕ
  sides_text Nil = []
  sides_text (tm_cons a ts) = enclosed (is_arrow a) (prop_text a) ++ conclusion_text ts

  -- an arrow and the conclusion behind it
  pub conclusion_text : Terms → List ℕ
  conclusion_text Nil = []
  conclusion_text (tm_cons b ts) = codes " ==> " ++ prop_text b

-- what a theorem's line begins with
abbrev pub theorem_head : Option (List ℕ) → List ℕ
theorem_head None = codes "theorem: "
theorem_head (Some name) = codes "theorem " ++ name ++ codes ": "

-- the line that reports a theorem
abbrev pub theorem_line : Option (List ℕ) → Term → List ℕ
theorem_line name p = theorem_head name ++ prop_text p ++ line_end

-- how a mode is called
abbrev pub mode_text : Mode → List ℕ
mode_text Start = codes "start"
mode_text Theory = codes "theory"
mode_text Prove = codes "prove"
mode_text Ended = codes "ended"

-- why a command was refused, at this line and column
abbrev pub cause_text : ℕ → ℕ → Refusal → List ℕ
cause_text line column (cause.Syntax at) = codes "syntax " ++ place_text line column
cause_text line column (cause.Mode mode) = codes "mode " ++ mode_text mode
cause_text line column (cause.Name name) = codes "name " ++ name
cause_text line column cause.Empty = codes "empty"
cause_text line column cause.Memory = []
cause_text line column cause.Number = []

-- the line that reports that the command of this word was refused: its line and column, its word, and why, at the line and column of the refusal
abbrev pub refusal_line : ℕ → ℕ → List ℕ → ℕ → ℕ → Refusal → List ℕ
refusal_line line column word own_line own_column refusal =
    codes "refused " ++ place_text line column ++ codes " " ++ word ++ codes " " ++ cause_text own_line own_column refusal ++ line_end

-- the line that counts theorems and refusals, and says whether the document has ended
abbrev pub count_line : ℕ → ℕ → Bool → List ℕ
count_line theorems refusals ended =
    codes "theorems " ++ decimal theorems ++ codes " refusals " ++ decimal refusals ++ codes " " ++ (if ended then codes "ended" else codes "open") ++ line_end
