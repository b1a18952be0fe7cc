-- Texts without line feeds.
use Rattle.std.proofs.Common.{◌≡◌, ◌/◌, ◌%◌, ◌∙◌, ℕ, zero, suc, Bool, true, false, not, ◌==◌, ◌&&◌, List, [], ◌∷◌, ◌++◌, codes, if◌then◌else◌, Option, Some, None, refl, arith}
use Rattle.std.specs.Fmt.{digits, digits_onto, digit_glyph, decimal}
use Rattle.std.proofs.lemmas.List.Folds.{list_all-append}
use Rattle.iv_text.specs.declared.name.Name.{Name}
use Rattle.iv_term.specs.declared.term.Head.{Head}
use Rattle.iv_term.specs.declared.term.Head.TheVariants.{Const, Free, Schematic, Bound}
use Rattle.iv_term.specs.declared.term.Term.{Term}
use Rattle.iv_term.specs.declared.term.Terms.{Terms}
use Rattle.iv_term.specs.declared.term.Term.TheBlock.{Spine, Nil}
use Rattle.iv_term.specs.Term.{lam, tm_cons}
use Rattle.iv_run.specs.declared.refusal.Mode.{Mode}
use Rattle.iv_run.specs.declared.refusal.Mode.TheVariants.{Start, Theory, Prove, Ended}
use Rattle.iv_run.specs.declared.refusal.Refusal.{Refusal}
use Rattle.iv_run.specs.declared.refusal.Refusal.TheVariants as cause
use Rattle.iv_run.specs.Report.{enclosed, is_constant, is_arrow, variable_text, prop_text, sides_text, conclusion_text, theorem_head, mode_text, cause_text}
use Rattle.iv_report.specs.Text.{number_text, name_text, place_text}
use Rattle.iv_run.specs.Line.{is_plain, is_plain_head, is_plain_term, are_plain_terms, is_plain_name, is_plain_cause, TheoremsAreLines, RefusalsAreLines}

-- both sides of a conjunction
pub left_true : (a b : Bool) → (a && b) ≡ true → a ≡ true
left_true true b h = refl
left_true false b h = h

pub right_true : (a b : Bool) → (a && b) ≡ true → b ≡ true
right_true true b h = h
right_true false b h = cc

pub plain_append : (xs ys : List ℕ) → is_plain xs ≡ true → is_plain ys ≡ true → is_plain (xs ++ ys) ≡ true
plain_append xs ys p q = list_all-append (λ c. not (c == 10)) xs ys ∙ rw p q

pub plain_if : (b : Bool) (xs ys : List ℕ) → is_plain xs ≡ true → is_plain ys ≡ true → is_plain (if b then xs else ys) ≡ true
plain_if true xs ys p q = p
plain_if false xs ys p q = q

-- decimals
pub plain_digit : (n : ℕ) (acc : List ℕ) → is_plain acc ≡ true → is_plain (digit_glyph false n ∷ acc) ≡ true
plain_digit n acc p = grind arith

pub plain_digits : (k n : ℕ) (acc : List ℕ) → is_plain acc ≡ true → is_plain (digits_onto k 10 false n acc) ≡ true
plain_digits zero n acc p = p
plain_digits (suc k) n acc p =
    let more = plain_digit (n % 10) acc p in
    plain_if (n / 10 == 0) _ _ more (plain_digits k (n / 10) _ more)

pub plain_decimal : (n : ℕ) → is_plain (decimal n) ≡ true
unfolding digits
plain_decimal n = plain_digits 64 n [] refl

-- names
pub plain_number : (n : ℕ) → is_plain (number_text n) ≡ true
plain_number n = plain_if (n == 0) [] (codes "." ++ decimal n) refl (plain_append (codes ".") (decimal n) refl (plain_decimal n))

pub plain_named : (x : Name) → is_plain x.text ≡ true → is_plain (name_text x) ≡ true
plain_named x p = plain_append x.text (number_text x.number) p (plain_number x.number)

-- propositions
pub plain_variable : (h : Head) → is_plain_head h ≡ true → is_plain (variable_text h) ≡ true
plain_variable (Const c a) p = refl
plain_variable (Free x a) p = plain_append (codes "PROP ") (name_text x) refl (plain_named x p)
plain_variable (Schematic x a) p = plain_append (codes "PROP ?") (name_text x) refl (plain_named x p)
plain_variable (Bound i) p = refl

pub plain_enclosed : (b : Bool) (text : List ℕ) → is_plain text ≡ true → is_plain (enclosed b text) ≡ true
plain_enclosed true text p = plain_append (codes "(" ++ text) (codes ")") (plain_append (codes "(") text refl p) refl
plain_enclosed false text p = plain_append ([] ++ text) [] (plain_append [] text refl p) refl

mutual
  unfolding prop_text sides_text conclusion_text is_plain_term are_plain_terms

  pub plain_prop : (p : Term) → is_plain_term p ≡ true → is_plain (prop_text p) ≡ true
  plain_prop (lam a b) h = refl
  plain_prop (Spine k ts) h =
      plain_if (is_constant k) (sides_text ts) (variable_text k) (plain_sides ts (right_true (is_plain_head k) (are_plain_terms ts) h)) (plain_variable k (left_true (is_plain_head k) (are_plain_terms ts) h))

  pub plain_sides : (ts : Terms) → are_plain_terms ts ≡ true → is_plain (sides_text ts) ≡ true
  plain_sides Nil h = refl
  plain_sides (tm_cons t ts) h =
      plain_append (enclosed (is_arrow t) (prop_text t)) (conclusion_text ts) (plain_enclosed (is_arrow t) (prop_text t) (plain_prop t (left_true (is_plain_term t) (are_plain_terms ts) h))) (plain_conclusion ts (right_true (is_plain_term t) (are_plain_terms ts) h))

  pub plain_conclusion : (ts : Terms) → are_plain_terms ts ≡ true → is_plain (conclusion_text ts) ≡ true
  plain_conclusion Nil h = refl
  plain_conclusion (tm_cons t ts) h = plain_append (codes " ==> ") (prop_text t) refl (plain_prop t (left_true (is_plain_term t) (are_plain_terms ts) h))

-- lines
pub plain_theorem_head : (name : Option (List ℕ)) → is_plain_name name ≡ true → is_plain (theorem_head name) ≡ true
plain_theorem_head None p = refl
plain_theorem_head (Some name) p = plain_append (codes "theorem " ++ name) (codes ": ") (plain_append (codes "theorem ") name refl p) refl

pub theorems_are_lines : TheoremsAreLines
theorems_are_lines name p g h = (theorem_head name ++ prop_text p, (refl, plain_append (theorem_head name) (prop_text p) (plain_theorem_head name g) (plain_prop p h)))

pub plain_mode : (mode : Mode) → is_plain (mode_text mode) ≡ true
plain_mode Start = refl
plain_mode Theory = refl
plain_mode Prove = refl
plain_mode Ended = refl

pub plain_place : (line column : ℕ) → is_plain (place_text line column) ≡ true
plain_place line column = plain_append (decimal line ++ codes ":") (decimal column) (plain_append (decimal line) (codes ":") (plain_decimal line) refl) (plain_decimal column)

pub plain_cause : (line column : ℕ) (r : Refusal) → is_plain_cause r ≡ true → is_plain (cause_text line column r) ≡ true
plain_cause line column (cause.Syntax at) p = plain_append (codes "syntax ") (place_text line column) refl (plain_place line column)
plain_cause line column (cause.Mode mode) p = plain_append (codes "mode ") (mode_text mode) refl (plain_mode mode)
plain_cause line column (cause.Name name) p = plain_append (codes "name ") name refl p
plain_cause line column cause.Empty p = refl
plain_cause line column cause.Memory p = refl
plain_cause line column cause.Number p = refl

pub refusals_are_lines : RefusalsAreLines
refusals_are_lines line column own_line own_column w r q p =
    let place = plain_append (codes "refused ") (place_text line column) refl (plain_place line column) in
    let space = plain_append (codes "refused " ++ place_text line column) (codes " ") place refl in
    let named = plain_append (codes "refused " ++ place_text line column ++ codes " ") w space q in
    let told = plain_append (codes "refused " ++ place_text line column ++ codes " " ++ w) (codes " ") named refl in
    (codes "refused " ++ place_text line column ++ codes " " ++ w ++ codes " " ++ cause_text own_line own_column r, (refl, plain_append (codes "refused " ++ place_text line column ++ codes " " ++ w ++ codes " ") (cause_text own_line own_column r) told (plain_cause own_line own_column r p)))
