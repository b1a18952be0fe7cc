-- What a good table spells is read step by step.
use Rattle.std.proofs.Common.{◌≡◌, List, [], ◌∷◌, ◌++◌, Bool, true, false, refl, ap, ◌∙◌, subst, inl, inr}
use Rattle.std.specs.Prelude.{Option, Some, None, ◌&&◌, is_none, if◌then◌else◌}
use Rattle.std.specs.List.{list_any, list_all}
use Rattle.iv_recogniser.specs.declared.class.Class.{Class}
use Rattle.iv_recogniser.specs.declared.class.Sort.{Sort}
use Rattle.iv_recogniser.specs.declared.part.Part.{Part}
use Rattle.iv_recogniser.specs.declared.part.Symbol.{Symbol}
use Rattle.iv_recogniser.specs.declared.part.Symbol.TheVariants.{Word, Goes}
use Rattle.iv_recogniser.specs.Class.{same_class, has}
use Rattle.iv_recogniser.specs.Spell.{Grammar, IsIn, Spells, word, part}
use Rattle.iv_recogniser.specs.Step.{found, may_end, went, step, empties}
use Rattle.iv_recogniser.proofs.Sets.{Among, and_left, and_right}
use Rattle.iv_recogniser.proofs.Same.{all_among}
use Rattle.iv_recogniser.proofs.Checks.{firsts, is_made, is_ended, is_closed, are_closed, is_good}
use Rattle.iv_recogniser.proofs.Predict.{picked_true, none_is, made_found, made_goes, made_empty, empty_in, found_in, firsts_join, spelled_first}

-- one of the classes stands first
step_sound_word : (g : Grammar) (k : Sort) (s s' : List Symbol) (c : Class) (cs : List Class) → step g (Word k ∷ s) c ≡ Some s' → Spells g s' cs → Spells g (Word k ∷ s) (c ∷ cs)
step_sound_word g k s s' c cs e d =
    let cases : (b : Bool) → has k c ≡ b → (if b then Some s else None) ≡ Some s' → Spells g (Word k ∷ s) (c ∷ cs) = λ b.
    elim b as (λ v. has k c ≡ v → (if v then Some s else None) ≡ Some s' → Spells g (Word k ∷ s) (c ∷ cs)) [
      | true ↦ (λ h q. let is : s' ≡ s = cc in word h (subst (λ u. Spells g u cs) is d))
      | false ↦ (λ h q. let bad : None ≡ Some s' = q in cc)
    ] in
    cases (has k c) refl e

pub step_sound : (g : Grammar) (s s' : List Symbol) (c : Class) (cs : List Class) → step g s c ≡ Some s' → Spells g s' cs → Spells g s (c ∷ cs)
step_sound g [] s' c cs e d = cc
step_sound g (Word k ∷ s) s' c cs e d = step_sound_word g k s s' c cs e d
step_sound g (Goes p ∷ s) s' c cs e d =
    let none_found : (b : Bool) → may_end (g p) ≡ b → went None b s (step g s c) ≡ Some s' → Spells g (Goes p ∷ s) (c ∷ cs) = λ b.
    elim b as (λ v. may_end (g p) ≡ v → went None v s (step g s c) ≡ Some s' → Spells g (Goes p ∷ s) (c ∷ cs)) [
      | true ↦ (λ h q. part [] (empty_in (g p) h) (step_sound g s s' c cs q d))
      | false ↦ (λ h q. let bad : None ≡ Some s' = q in cc)
    ] in
    let cases : (o : Option (List Symbol)) → found (g p) c ≡ o → went o (may_end (g p)) s (step g s c) ≡ Some s' → Spells g (Goes p ∷ s) (c ∷ cs) = λ o.
    elim o as (λ v. found (g p) c ≡ v → went v (may_end (g p)) s (step g s c) ≡ Some s' → Spells g (Goes p ∷ s) (c ∷ cs)) [
      | Some r ↦ (λ h q. let is : s' ≡ r ++ s = cc in let f = found_in (g p) c r h in part (Word f.0 ∷ r) f.1.0 (word f.1.1 (subst (λ u. Spells g u cs) is d)))
      | None ↦ (λ h q. none_found (may_end (g p)) refl q)
    ] in
    cases (found (g p) c) refl e

-- the table's follow sets hold on a stack
abbrev pub Fits : Grammar → (Part → List Class) → List Symbol → Type 0
Fits g follow [] = Unit {0}
Fits g follow (Word k ∷ s) = Fits g follow s
Fits g follow (Goes p ∷ s) = ((c : Class) → Among c (firsts g s) → Among c (follow p)) × Fits g follow s

pub good_made : (g : Grammar) (follow : Part → List Class) (p : Part) → is_good g follow p ≡ true → is_made (g p) ≡ true
good_made g follow p h = and_left (is_made (g p)) (is_ended (g p) (follow p) && are_closed g follow (follow p) (g p)) h

good_ended : (g : Grammar) (follow : Part → List Class) (p : Part) → is_good g follow p ≡ true → is_ended (g p) (follow p) ≡ true
good_ended g follow p h = and_left (is_ended (g p) (follow p)) (are_closed g follow (follow p) (g p)) (and_right (is_made (g p)) (is_ended (g p) (follow p) && are_closed g follow (follow p) (g p)) h)

good_closed : (g : Grammar) (follow : Part → List Class) (p : Part) → is_good g follow p ≡ true → are_closed g follow (follow p) (g p) ≡ true
good_closed g follow p h = and_right (is_ended (g p) (follow p)) (are_closed g follow (follow p) (g p)) (and_right (is_made (g p)) (is_ended (g p) (follow p) && are_closed g follow (follow p) (g p)) h)

-- nothing that follows a part that may end goes on with it
ended_none : (rows : List (List Symbol)) (after : List Class) (c : Class) → is_ended rows after ≡ true → may_end rows ≡ true → Among c after → found rows c ≡ None
ended_none rows after c h e i =
    let all : list_all (λ d. is_none (found rows d)) after ≡ true = (let same : (b : Bool) → b ≡ true → (if b then list_all (λ d. is_none (found rows d)) after else true) ≡ true → list_all (λ d. is_none (found rows d)) after ≡ true = λ b. elim b as (λ v. v ≡ true → (if v then list_all (λ d. is_none (found rows d)) after else true) ≡ true → list_all (λ d. is_none (found rows d)) after ≡ true) [ true ↦ (λ y q. q) | false ↦ (λ y q. let bad : false ≡ true = y in cc) ] in same (may_end rows) e h) in
    none_is (found rows c) (all_among (λ d. is_none (found rows d)) c after i all)

-- each row of a closed list is closed
closed_row : (g : Grammar) (follow : Part → List Class) (after : List Class) (rows : List (List Symbol)) (r : List Symbol) → are_closed g follow after rows ≡ true → IsIn r rows → is_closed g follow after r ≡ true
closed_row g follow after [] r h i = elim i [ ]
closed_row g follow after (t ∷ rows) r h (inl e) = ap (is_closed g follow after) e ∙ and_left (is_closed g follow after t) (are_closed g follow after rows) h
closed_row g follow after (t ∷ rows) r h (inr i) = closed_row g follow after rows r (and_right (is_closed g follow after t) (are_closed g follow after rows) h) i

-- a closed row on top of a stack
pub fits_push : (g : Grammar) (follow : Part → List Class) (after : List Class) (r s : List Symbol) → is_closed g follow after r ≡ true → ((c : Class) → Among c (firsts g s) → Among c after) → Fits g follow s → Fits g follow (r ++ s)
fits_push g follow after [] s h a f = f
fits_push g follow after (Word k ∷ r) s h a f = fits_push g follow after r s h a f
fits_push g follow after (Goes q ∷ r) s h a f =
    let first : (list_all (λ c. list_any (same_class c) (follow q)) (firsts g r) && (if empties g r then list_all (λ c. list_any (same_class c) (follow q)) after else true)) ≡ true = and_left (list_all (λ c. list_any (same_class c) (follow q)) (firsts g r) && (if empties g r then list_all (λ c. list_any (same_class c) (follow q)) after else true)) (is_closed g follow after r) h in
    let own = and_left (list_all (λ c. list_any (same_class c) (follow q)) (firsts g r)) (if empties g r then list_all (λ c. list_any (same_class c) (follow q)) after else true) first in
    let past = and_right (list_all (λ c. list_any (same_class c) (follow q)) (firsts g r)) (if empties g r then list_all (λ c. list_any (same_class c) (follow q)) after else true) first in
    let through : (b : Bool) → b ≡ true → (if b then list_all (λ c. list_any (same_class c) (follow q)) after else true) ≡ true → list_all (λ c. list_any (same_class c) (follow q)) after ≡ true = λ b. elim b as (λ v. v ≡ true → (if v then list_all (λ c. list_any (same_class c) (follow q)) after else true) ≡ true → list_all (λ c. list_any (same_class c) (follow q)) after ≡ true) [ true ↦ (λ y q. q) | false ↦ (λ y q. let bad : false ≡ true = y in cc) ] in (
      (λ c i. elim (firsts_join g c r s i) [
        | inl j ↦ all_among (λ d. list_any (same_class d) (follow q)) c (firsts g r) j own
        | inr j ↦ all_among (λ d. list_any (same_class d) (follow q)) c after (a c j.1) (through (empties g r) j.0 past)
      ]),
      fits_push g follow after r s (and_right (list_all (λ c. list_any (same_class c) (follow q)) (firsts g r) && (if empties g r then list_all (λ c. list_any (same_class c) (follow q)) after else true)) (is_closed g follow after r) h) a f,
    )

-- what a step leaves, which spells the rest
pub data Stepping (g : Grammar) (follow : Part → List Class) (s : List Symbol) (c : Class) (cs : List Class) : Type 0 where
  stepped : (s' : List Symbol) → step g s c ≡ Some s' → Spells g s' cs → Fits g follow s' → Stepping g follow s c cs

module _ (g : Grammar) (follow : Part → List Class) (good : (p : Part) → is_good g follow p ≡ true) where
  word_step : (k : Sort) (s : List Symbol) (c : Class) (cs : List Class) → has k c ≡ true → Spells g s cs → Fits g follow s → Stepping g follow (Word k ∷ s) c cs
  word_step k s c cs h d f = stepped s (picked_true (has k c) s None h) d f

  row_step : (p : Part) (k : Sort) (r s : List Symbol) (c : Class) (cs : List Class) → IsIn (Word k ∷ r) (g p) → has k c ≡ true → Spells g (r ++ s) cs → Fits g follow (Goes p ∷ s) → Stepping g follow (Goes p ∷ s) c cs
  row_step p k r s c cs i h d f =
      let e : found (g p) c ≡ Some r = made_found (g p) k r c (good_made g follow p (good p)) i h in
      stepped (r ++ s) (ap (λ o. went o (may_end (g p)) s (step g s c)) e) d
      (fits_push g follow (follow p) r s (closed_row g follow (follow p) (g p) (Word k ∷ r) (good_closed g follow p (good p)) i) f.0 f.1)

  past_step : (p : Part) (s : List Symbol) (c : Class) (cs : List Class) → IsIn [] (g p) → Spells g s (c ∷ cs) → Fits g follow (Goes p ∷ s) → Stepping g follow s c cs → Stepping g follow (Goes p ∷ s) c cs
  past_step p s c cs i d f (stepped s' e d' f') =
      let ends : may_end (g p) ≡ true = made_empty (g p) (good_made g follow p (good p)) i in
      let first = spelled_first (λ q. good_made g follow q (good q)) d in
      let gone : found (g p) c ≡ None = ended_none (g p) (follow p) c (good_ended g follow p (good p)) ends (f.0 c first) in
      stepped s' (ap (λ o. went o (may_end (g p)) s (step g s c)) gone ∙ ap (λ b. went None b s (step g s c)) ends ∙ e) d' f'

  pub step_complete : {s : List Symbol} {c : Class} {cs : List Class} → Spells g s (c ∷ cs) → Fits g follow s → Stepping g follow s c cs
  step_complete (word {k = k} {c = c} {s = s} {cs = cs} h d) f = word_step k s c cs h d f
  step_complete {c = c} {cs = cs} (part {p = p} {s = s} [] i d) f = past_step p s c cs i d f (step_complete d f.1)
  step_complete (part {p = p} {s = s} (Goes q ∷ r) i d) f = absurd (made_goes (g p) q r (good_made g follow p (good p)) i)
  step_complete {c = c} {cs = cs} (part {p = p} {s = s} (Word k ∷ r) i (word h d)) f = row_step p k r s c cs i h d f
