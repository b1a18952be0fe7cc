-- The reader of types decides which tree belongs to the tokens, and how deep it is.
use Rattle.std.proofs.Common.{◌≡◌, ℕ, ◌<◌, ◌≤◌, List, [], ◌∷◌, ◌++◌, length, refl, ap, sym, ◌∙◌, subst, arith, append-nil}
use Rattle.std.proofs.lemmas.Bool.Decides.{nat_tests}
use Rattle.std.specs.Prelude.{true, false, ◌==◌, None, Some}
use Rattle.iv_grammar.specs.declared.cutting.Token.{Token}
use Rattle.iv_grammar.specs.declared.type_nodes.Part.{Part}
use Rattle.iv_grammar.specs.declared.type_steps.NoType.{NoType}
use Rattle.iv_grammar.specs.declared.type_steps.NoType.TheVariants as none
use Rattle.iv_grammar.specs.declared.types.NoParse.{NoParse}
use Rattle.iv_grammar.specs.declared.types.NoParse.TheVariants as refusal
use Rattle.iv_grammar.specs.TypeTree.{Ty, type_yield, type_depth, TypeBelongs}
use Rattle.iv_grammar.specs.TypeReader.{Read, begin, read}
use Rattle.iv_grammar.specs.TypeNode.{at, IsPart, parse_error}
use Rattle.iv_grammar.proofs.TypeReading.{type_read}
use Rattle.iv_grammar.proofs.TypeSound.{Whole, type_sound}

pub type_is_read : (tokens : List Token) (t : Ty) → TypeBelongs tokens t → read (length tokens) begin tokens ≡ Some (t, [])
type_is_read tokens t d =
    let all : type_yield t ++ [] ≡ tokens = append-nil (type_yield t) ∙ d.yields in
    subst (λ ts. read (length tokens) begin ts ≡ Some (t, [])) all (type_read t [] d.suits d.fits (length tokens) (omega (arith, ap length all)))

-- what is read of tokens by every reader that has enough fuel
abbrev pub ReadsAll : List Token → Read → Type 0
ReadsAll tokens r = (n : ℕ) → length tokens ≤ n → read n begin tokens ≡ r

pub belongs_read : (tokens : List Token) (t : Ty) (left : List Token) → ReadsAll tokens (Some (t, left)) → left ≡ [] → TypeBelongs tokens t
belongs_read tokens t left f e =
    let r : read (length tokens) begin tokens ≡ Some (t, []) = f (length tokens) (omega arith) ∙ ap (λ ts. Some (t, ts)) e in
    let w : Whole tokens t [] = type_sound (length tokens) begin tokens t [] r in
    record { yields = sym (append-nil (type_yield t)) ∙ w.yields; suits = w.suits; fits = w.fits }

abbrev tree_or : Ty → Read → Ty
tree_or t None = t
tree_or t (Some r) = r.0

abbrev left_or : List Token → Read → List Token
left_or ts None = ts
left_or ts (Some r) = r.1

pub only_read : (tokens : List Token) (t : Ty) (left : List Token) → ReadsAll tokens (Some (t, left)) → (u : Ty) → TypeBelongs tokens u → u ≡ t
only_read tokens t left f u d = ap (tree_or t) (sym (type_is_read tokens u d) ∙ f (length tokens) (omega arith))

pub none_left : (tokens : List Token) (t : Ty) (left : List Token) → ReadsAll tokens (Some (t, left)) → (u : Ty) → TypeBelongs tokens u → left ≡ []
none_left tokens t left f u d = sym (ap (left_or left) (sym (type_is_read tokens u d) ∙ f (length tokens) (omega arith)))

pub none_read : (tokens : List Token) → ReadsAll tokens None → (u : Ty) → TypeBelongs tokens u → ⊥
none_read tokens f u d = none_some u (sym (f (length tokens) (omega arith)) ∙ type_is_read tokens u d)
  where
    none_some : (u : Ty) → ◌≡◌ {A = Read} None (Some (u, [])) → ⊥
    none_some u e = cc

pub deep_part : (ts : List Ty) (p : Part) → IsPart ts p → 400 < p.depth → 400 < type_depth (at ts p.root)
deep_part ts p i h = omega (arith, i.depth, h)

is_zero : (n : ℕ) → true ≡ (n == 0) → n ≡ 0
is_zero n h = grind (arith, nat_tests)

pub emptied : (xs : List Token) → true ≡ (length xs == 0) → xs ≡ []
emptied [] h = refl
emptied (x ∷ xs) h = absurd (omega (arith, is_zero (length (x ∷ xs)) h))

pub filled : (xs : List Token) → xs ≡ [] → false ≡ (length xs == 0) → ⊥
filled [] e h = cc
filled (x ∷ xs) e h = cc

pub was_stuck : (k : NoType) (r : NoParse) → r ≡ parse_error k → r ≡ refusal.NoTree → k ≡ none.Stuck
was_stuck none.Stuck r e h = refl
was_stuck none.Memory r e h = cc
