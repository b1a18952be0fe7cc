-- What the tokens of a piece are read as, and that there is one such reading.
use Rattle.std.proofs.Common.{◌≡◌, ℕ, zero, suc, ◌<◌, ◌≤◌, List, [], ◌∷◌, ◌++◌, take, drop, refl, sym, ◌∙◌, ap, arith, subst, inl, inr, append_assoc, append-nil}
use Rattle.std.specs.Prelude.{Option, Some, None}
use Rattle.std.proofs.lemmas.List.{take-append-drop}
use Rattle.iv_text.specs.declared.Pos.{Pos}
use Rattle.iv_forms.specs.declared.command.Body.{Body}
use Rattle.iv_forms.specs.declared.lexeme.Lexeme.{Lexeme}
use Rattle.iv_forms.specs.CommandForm.{IsForm}
use Rattle.iv_forms.specs.Readable.{IsReadable, IsOpen, IsRefusedAt}
use Rattle.iv_facts.specs.Found.{Found, got, wrong, deep, unless_deep}
use Rattle.iv_read.specs.Forms.{form}
use Rattle.iv_read.specs.FormLevels.{deep_form}
use Rattle.iv_outer.specs.declared.reading.Reading.{Reading}
use Rattle.iv_outer.specs.declared.reading.Reading.TheVariants as reading
use Rattle.iv_outer.specs.Unreadable.{IsUnreadableAt, place_at}
use Rattle.iv_outer.specs.Command.{IsReading, IsTooDeepAt}

abbrev pub ReadLaw : Type 0
ReadLaw = (f : Body) (ts : List Lexeme) (d : IsForm f ts []) → form ts ≡ unless_deep (deep_form d) f []

by_none : (p : Option Pos) (f : Body) (ts : List Lexeme) → p ≡ None → form ts ≡ unless_deep p f [] → form ts ≡ got f []
by_none None f ts e g = g
by_none (Some q) f ts e g = cc

by_some : (p : Option Pos) (q : Pos) (f : Body) (ts : List Lexeme) → p ≡ Some q → form ts ≡ unless_deep p f [] → form ts ≡ deep q
by_some None q f ts e g = cc
by_some (Some r) q f ts e g = cc

-- a value was found, so nothing is too deep, and it is that one
one_found : (p : Option Pos) (f b : Body) (ts us : List Lexeme) → form ts ≡ unless_deep p f [] → form ts ≡ got b us → (p ≡ None) × (b ≡ f)
one_found None f b ts us e g = (refl, cc)
one_found (Some q) f b ts us e g = cc

deep_found : (p : Option Pos) (q : Pos) (f : Body) (ts : List Lexeme) → form ts ≡ unless_deep p f [] → form ts ≡ deep q → p ≡ Some q
deep_found None q f ts e g = cc
deep_found (Some r) q f ts e g = cc

none_wrong : (p : Option Pos) (f : Body) (ts : List Lexeme) → form ts ≡ unless_deep p f [] → form ts ≡ wrong → ⊥
none_wrong None f ts e g = let bad : got f [] ≡ wrong = sym e ∙ g in cc
none_wrong (Some r) f ts e g = let bad : deep r ≡ wrong = sym e ∙ g in cc

-- a front of what begins a readable piece begins one
open_front : (k : ℕ) (us : List Lexeme) → IsOpen us → IsOpen (take k us)
open_front k us o =
    let whole : take k us ++ (drop k us ++ o.0) ≡ us ++ o.0 = sym (append_assoc (take k us) (drop k us) o.0) ∙ ap (λ z. z ++ o.0) (take-append-drop k us) in
    (drop k us ++ o.0, subst IsReadable (sym whole) o.1)

open_whole : (us : List Lexeme) → IsReadable us → IsOpen us
open_whole us r = ([], subst IsReadable (sym (append-nil us)) r)

take_take : (j k : ℕ) (us : List Lexeme) → j ≤ k → take j (take k us) ≡ take j us
take_take zero k us b = refl
take_take (suc j) zero us b = absurd (omega (arith, b))
take_take (suc j) (suc k) [] b = refl
take_take (suc j) (suc k) (u ∷ us) b = ap (λ z. u ∷ z) (take_take j k us (omega (arith, b)))

-- what comes later is not open
closed_later : (k j : ℕ) (ts : List Lexeme) → k < j → IsRefusedAt k ts → IsOpen (take j ts) → ⊥
closed_later k j ts b r o = r.2 (subst IsOpen (take_take (suc k) j ts (omega (arith, b))) (open_front (suc k) (take j ts) o))

never_open : (k : ℕ) (ts : List Lexeme) → IsRefusedAt k ts → IsOpen ts → ⊥
never_open k ts r o = r.2 (open_front (suc k) ts o)

data Order (j k : ℕ) : Type 0 where
  less : j < k → Order j k
  equal : j ≡ k → Order j k
  more : k < j → Order j k

ordered : (j k : ℕ) → Order j k
ordered zero zero = equal refl
ordered zero (suc k) = less (omega (arith))
ordered (suc j) zero = more (omega (arith))
ordered (suc j) (suc k) = one_up (ordered j k)
  where
    one_up : Order j k → Order (suc j) (suc k)
    one_up (less b) = less (omega (arith, b))
    one_up (equal e) = equal (ap suc e)
    one_up (more b) = more (omega (arith, b))

refused_once : (j k : ℕ) (ts : List Lexeme) → IsRefusedAt j ts → IsRefusedAt k ts → Order j k → j ≡ k
refused_once j k ts r s (less b) = absurd (closed_later j k ts b r s.1)
refused_once j k ts r s (equal e) = e
refused_once j k ts r s (more b) = absurd (closed_later k j ts b s r.1)

one_place : (p q : Pos) (ts : List Lexeme) → IsUnreadableAt p ts → IsUnreadableAt q ts → p ≡ q
one_place p q ts (inl r) (inl s) = r.2 ∙ (ap (λ k. place_at k ts) (refused_once r.0 s.0 ts r.1 s.1 (ordered r.0 s.0)) ∙ sym s.2)
one_place p q ts (inl r) (inr s) = absurd (never_open r.0 ts r.1 s.1)
one_place p q ts (inr r) (inl s) = absurd (never_open s.0 ts s.1 r.1)
one_place p q ts (inr r) (inr s) = r.2 ∙ sym s.2

no_form : (p : Pos) (ts : List Lexeme) → IsUnreadableAt p ts → IsReadable ts → ⊥
no_form p ts (inl r) f = never_open r.0 ts r.1 (open_whole ts f)
no_form p ts (inr r) f = r.0 f

one_value : (f g : Body) (ts : List Lexeme) → form ts ≡ got f [] → form ts ≡ got g [] → f ≡ g
one_value f g ts e h = let same : got f [] ≡ got g [] = sym e ∙ h in cc

not_both : (f : Body) (p : Pos) (ts : List Lexeme) → form ts ≡ got f [] → form ts ≡ deep p → ⊥
not_both f p ts e h = let bad : got f [] ≡ deep p = sym e ∙ h in cc

same_deep : (f : Found Body) (p q : Pos) → f ≡ deep p → f ≡ deep q → p ≡ q
same_deep (got b us) p q e h = cc
same_deep wrong p q e h = cc
same_deep (deep r) p q e h = cc

one_depth : (p q : Pos) (ts : List Lexeme) → form ts ≡ deep p → form ts ≡ deep q → p ≡ q
one_depth p q ts e h = same_deep (form ts) p q e h

module _ (law : ReadLaw) where
  pub read_form : (ts us : List Lexeme) (b : Body) → IsReadable ts → form ts ≡ got b us → IsReading (reading.Form b) ts
  read_form ts us b r g =
      let found : (deep_form r.1 ≡ None) × (b ≡ r.0) = one_found (deep_form r.1) r.0 b ts us (law r.0 ts r.1) g in
      subst (λ x. IsReading (reading.Form x) ts) (sym found.1) (r.1, found.0)

  pub read_deep : (ts : List Lexeme) (p : Pos) → IsReadable ts → form ts ≡ deep p → IsReading (reading.Unreadable p) ts
  read_deep ts p r g = inr (r.0, r.1, deep_found (deep_form r.1) p r.0 ts (law r.0 ts r.1) g)

  pub read_wrong : (ts : List Lexeme) → IsReadable ts → form ts ≡ wrong → ⊥
  read_wrong ts r g = none_wrong (deep_form r.1) r.0 ts (law r.0 ts r.1) g

  form_of : (f : Body) (ts : List Lexeme) → IsReading (reading.Form f) ts → form ts ≡ got f []
  form_of f ts r = by_none (deep_form r.0) f ts r.1 (law f ts r.0)

  deep_of : (p : Pos) (ts : List Lexeme) → IsTooDeepAt p ts → form ts ≡ deep p
  deep_of p ts r = by_some (deep_form r.1) p r.0 ts r.2 (law r.0 ts r.1)

  pub one_reading : (ts : List Lexeme) (r s : Reading) → IsReading r ts → IsReading s ts → r ≡ s
  one_reading ts (reading.Form f) (reading.Form g) r s = ap (λ x. reading.Form x) (one_value f g ts (form_of f ts r) (form_of g ts s))
  one_reading ts (reading.Form f) (reading.Unreadable q) r (inl s) = absurd (no_form q ts s (f, r.0))
  one_reading ts (reading.Form f) (reading.Unreadable q) r (inr s) = absurd (not_both f q ts (form_of f ts r) (deep_of q ts s))
  one_reading ts (reading.Unreadable p) (reading.Form g) (inl r) s = absurd (no_form p ts r (g, s.0))
  one_reading ts (reading.Unreadable p) (reading.Form g) (inr r) s = absurd (not_both g p ts (form_of g ts s) (deep_of p ts r))
  one_reading ts (reading.Unreadable p) (reading.Unreadable q) (inl r) (inl s) = ap (λ x. reading.Unreadable x) (one_place p q ts r s)
  one_reading ts (reading.Unreadable p) (reading.Unreadable q) (inl r) (inr s) = absurd (no_form p ts r (s.0, s.1))
  one_reading ts (reading.Unreadable p) (reading.Unreadable q) (inr r) (inl s) = absurd (no_form q ts s (r.0, r.1))
  one_reading ts (reading.Unreadable p) (reading.Unreadable q) (inr r) (inr s) = ap (λ x. reading.Unreadable x) (one_depth p q ts (deep_of p ts r) (deep_of q ts s))
