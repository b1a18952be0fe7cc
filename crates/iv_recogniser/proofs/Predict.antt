-- One class ahead decides each step: the recogniser reads what the table spells, and no more.
use Rattle.std.proofs.Common.{◌≡◌, List, [], ◌∷◌, ◌++◌, Bool, true, false, refl, ap, sym, ◌∙◌, subst, inl, inr}
use Rattle.std.specs.Prelude.{Option, Some, None, ◌⊎◌, ◌&&◌, is_none, if◌then◌else◌}
use Rattle.std.specs.List.{list_all}
use Rattle.iv_recogniser.specs.declared.class.Class.{Class}
use Rattle.iv_recogniser.specs.declared.class.Sort.{Sort}
use Rattle.iv_recogniser.specs.declared.part.Part.{Part}
use Rattle.iv_recogniser.specs.declared.part.Symbol.{Symbol}
use Rattle.iv_recogniser.specs.declared.part.Symbol.TheVariants.{Word, Goes}
use Rattle.iv_recogniser.specs.Class.{has}
use Rattle.iv_recogniser.specs.Spell.{Grammar, IsIn, Spells, word, part}
use Rattle.iv_recogniser.specs.Step.{behind, first_some, found, may_end, empties}
use Rattle.iv_recogniser.specs.Class.{members}
use Rattle.iv_recogniser.proofs.Sets.{Among, and_left, and_right, among_parts, among_left, among_right}
use Rattle.iv_recogniser.proofs.Numbers.{has_members}
use Rattle.iv_recogniser.proofs.Same.{all_among}
use Rattle.iv_recogniser.proofs.Checks.{heads, firsts, is_alone, is_made}

-- a tested choice
pub picked_true : (b : Bool) (r : List Symbol) (o : Option (List Symbol)) → b ≡ true → (if b then Some r else o) ≡ Some r
picked_true true r o h = refl
picked_true false r o h = let bad : false ≡ true = h in cc

pub none_is : (o : Option (List Symbol)) → is_none o ≡ true → o ≡ None
none_is None h = refl
none_is (Some r) h = let bad : false ≡ true = h in cc

-- the row that begins with a class is found
found_behind : (k : Sort) (r : List Symbol) (c : Class) (o : Option (List Symbol)) → has k c ≡ true → first_some (behind (Word k ∷ r) c) o ≡ Some r
found_behind k r c o h = ap (λ x. first_some x o) (picked_true (has k c) r None h)

passed_behind : (k : Sort) (r : List Symbol) (c : Class) (o : Option (List Symbol)) → has k c ≡ false → first_some (behind (Word k ∷ r) c) o ≡ o
passed_behind k r c o h = rw h refl

-- no row is found where a class begins none of them; at most one begins with it
alone_found : (rows : List (List Symbol)) (k : Sort) (r : List Symbol) (c : Class) → is_alone rows ≡ true → IsIn (Word k ∷ r) rows → has k c ≡ true → found rows c ≡ Some r
alone_found [] k r c a i h = elim i [ ]
alone_found ([] ∷ rows) k r c a i h = let bad : false ≡ true = a in cc
alone_found ((Goes q ∷ t) ∷ rows) k r c a i h = let bad : false ≡ true = a in cc
alone_found ((Word j ∷ t) ∷ rows) k r c a (inl e) h =
    let kj : k ≡ j = cc in let rt : r ≡ t = cc in
    subst (λ u. first_some (behind (Word j ∷ t) c) (found rows c) ≡ Some u) (sym rt) (found_behind j t c (found rows c) (subst (λ u. has u c ≡ true) kj h))
alone_found ((Word j ∷ t) ∷ rows) k r c a (inr i) h =
    let rest : found rows c ≡ Some r = alone_found rows k r c (and_right (list_all (λ d. is_none (found rows d)) (members j)) (is_alone rows) a) i h in
    let cases : (b : Bool) → has j c ≡ b → first_some (behind (Word j ∷ t) c) (found rows c) ≡ Some r = λ b e.
    elim b as (λ v. has j c ≡ v → first_some (behind (Word j ∷ t) c) (found rows c) ≡ Some r) [
      | true ↦ (λ y. let gone : found rows c ≡ None = none_is (found rows c) (all_among (λ d. is_none (found rows d)) c (members j) (has_members j c y) (and_left (list_all (λ d. is_none (found rows d)) (members j)) (is_alone rows) a)) in let bad : Some r ≡ None = sym rest ∙ gone in cc)
      | false ↦ (λ n. passed_behind j t c (found rows c) n ∙ rest)
    ] e in
    cases (has j c) refl

pub made_found : (rows : List (List Symbol)) (k : Sort) (r : List Symbol) (c : Class) → is_made rows ≡ true → IsIn (Word k ∷ r) rows → has k c ≡ true → found rows c ≡ Some r
made_found [] k r c a i h = elim i [ ]
made_found ([] ∷ rows) k r c a (inl e) h = cc
made_found ([] ∷ rows) k r c a (inr i) h = alone_found rows k r c a i h
made_found ((x ∷ t) ∷ rows) k r c a i h = alone_found ((x ∷ t) ∷ rows) k r c a i h

-- no row of those begins with a part or is empty
alone_goes : (rows : List (List Symbol)) (q : Part) (r : List Symbol) → is_alone rows ≡ true → IsIn (Goes q ∷ r) rows → ⊥
alone_goes [] q r a i = elim i [ ]
alone_goes ([] ∷ rows) q r a i = let bad : false ≡ true = a in cc
alone_goes ((Goes p ∷ t) ∷ rows) q r a i = let bad : false ≡ true = a in cc
alone_goes ((Word j ∷ t) ∷ rows) q r a (inl e) = cc
alone_goes ((Word j ∷ t) ∷ rows) q r a (inr i) = alone_goes rows q r (and_right (list_all (λ d. is_none (found rows d)) (members j)) (is_alone rows) a) i

pub made_goes : (rows : List (List Symbol)) (q : Part) (r : List Symbol) → is_made rows ≡ true → IsIn (Goes q ∷ r) rows → ⊥
made_goes [] q r a i = elim i [ ]
made_goes ([] ∷ rows) q r a (inl e) = cc
made_goes ([] ∷ rows) q r a (inr i) = alone_goes rows q r a i
made_goes ((x ∷ t) ∷ rows) q r a i = alone_goes ((x ∷ t) ∷ rows) q r a i

alone_empty : (rows : List (List Symbol)) → is_alone rows ≡ true → IsIn [] rows → ⊥
alone_empty [] a i = elim i [ ]
alone_empty ([] ∷ rows) a i = let bad : false ≡ true = a in cc
alone_empty ((Goes p ∷ t) ∷ rows) a i = let bad : false ≡ true = a in cc
alone_empty ((Word j ∷ t) ∷ rows) a (inl e) = cc
alone_empty ((Word j ∷ t) ∷ rows) a (inr i) = alone_empty rows (and_right (list_all (λ d. is_none (found rows d)) (members j)) (is_alone rows) a) i

-- a part with an empty row may end
pub made_empty : (rows : List (List Symbol)) → is_made rows ≡ true → IsIn [] rows → may_end rows ≡ true
made_empty [] a i = elim i [ ]
made_empty ([] ∷ rows) a i = refl
made_empty ((x ∷ t) ∷ rows) a i = absurd (alone_empty ((x ∷ t) ∷ rows) a i)

pub empty_in : (rows : List (List Symbol)) → may_end rows ≡ true → IsIn [] rows
empty_in [] h = let bad : false ≡ true = h in cc
empty_in ([] ∷ rows) h = inl refl
empty_in ((x ∷ r) ∷ rows) h = let bad : false ≡ true = h in cc

-- a found row is one of them
pub found_in : (rows : List (List Symbol)) (c : Class) (r : List Symbol) → found rows c ≡ Some r → (k : Sort) × (IsIn (Word k ∷ r) rows × (has k c ≡ true))
found_in [] c r e = cc
found_in ([] ∷ rows) c r e = let (k, (i, h)) = found_in rows c r e in (k, (inr i, h))
found_in ((Goes p ∷ t) ∷ rows) c r e = let (k, (i, h)) = found_in rows c r e in (k, (inr i, h))
found_in ((Word j ∷ t) ∷ rows) c r e =
    let cases : (b : Bool) → has j c ≡ b → (k : Sort) × (IsIn (Word k ∷ r) ((Word j ∷ t) ∷ rows) × (has k c ≡ true)) = λ b q.
    elim b as (λ v. has j c ≡ v → (k : Sort) × (IsIn (Word k ∷ r) ((Word j ∷ t) ∷ rows) × (has k c ≡ true))) [
      | true ↦ (λ y. let s : Some t ≡ Some r = sym (found_behind j t c (found rows c) y) ∙ e in let is : r ≡ t = cc in (j, (inl (ap (λ u. Word j ∷ u) is), y)))
      | false ↦ (λ n. let s = found_in rows c r (sym (passed_behind j t c (found rows c) n) ∙ e) in (s.0, (inr s.1.0, s.1.1)))
    ] q in
    cases (has j c) refl

-- a class that is found is among the heads
found_head : (rows : List (List Symbol)) (k : Sort) (r : List Symbol) (c : Class) → IsIn (Word k ∷ r) rows → has k c ≡ true → Among c (heads rows)
found_head [] k r c i h = elim i [ ]
found_head ([] ∷ rows) k r c (inl e) h = cc
found_head ([] ∷ rows) k r c (inr i) h = found_head rows k r c i h
found_head ((Goes p ∷ t) ∷ rows) k r c (inl e) h = cc
found_head ((Goes p ∷ t) ∷ rows) k r c (inr i) h = found_head rows k r c i h
found_head ((Word j ∷ t) ∷ rows) k r c (inl e) h =
    let kj : k ≡ j = cc in among_left c (members j) (heads rows) (has_members j c (subst (λ u. has u c ≡ true) kj h))
found_head ((Word j ∷ t) ∷ rows) k r c (inr i) h = among_right c (members j) (heads rows) (found_head rows k r c i h)

-- what begins two joined
joined : (b : Bool) (a : Bool) → b ≡ true → a ≡ true → (b && a) ≡ true
joined true a e h = h
joined false a e h = let bad : false ≡ true = e in cc

pub firsts_join : (g : Grammar) (c : Class) (r s : List Symbol) → Among c (firsts g (r ++ s)) → Among c (firsts g r) ⊎ ((empties g r ≡ true) × Among c (firsts g s))
firsts_join g c [] s h = inr (refl, h)
firsts_join g c (Word k ∷ r) s h = inl h
firsts_join g c (Goes p ∷ r) s h =
    let A : Bool → Type 0 = λ v. Among c (heads (g p) ++ (if v then firsts g r else [])) ⊎ (((v && empties g r) ≡ true) × Among c (firsts g s)) in
    let cases : (b : Bool) → Among c (heads (g p) ++ (if b then firsts g (r ++ s) else [])) → A b = λ b.
    elim b as (λ v. Among c (heads (g p) ++ (if v then firsts g (r ++ s) else [])) → A v) [
      | true ↦ (λ q. elim (among_parts c (heads (g p)) (firsts g (r ++ s)) q) [
        | inl i ↦ inl (among_left c (heads (g p)) (firsts g r) i)
        | inr i ↦ elim (firsts_join g c r s i) [ inl j ↦ inl (among_right c (heads (g p)) (firsts g r) j) | inr j ↦ inr j ]
      ])
      | false ↦ (λ q. inl q)
    ] in
    cases (may_end (g p)) h

-- the first class that symbols spell is among what begins them
pub spelled_first : {g : Grammar} {s : List Symbol} {c : Class} {cs : List Class} → ((p : Part) → is_made (g p) ≡ true) → Spells g s (c ∷ cs) → Among c (firsts g s)
spelled_first made (word {k = k} {c = c} h d) = has_members k c h
spelled_first {g = g} {c = c} made (part {p = p} {s = s} [] i d) =
    let e : may_end (g p) ≡ true = made_empty (g p) (made p) i in
    among_right c (heads (g p)) (if may_end (g p) then firsts g s else []) (rw e (spelled_first made d))
spelled_first {g = g} {c = c} made (part {p = p} {s = s} (Goes q ∷ r) i d) = absurd (made_goes (g p) q r (made p) i)
spelled_first {g = g} {c = c} made (part {p = p} {s = s} (Word k ∷ r) i (word h d)) =
    among_left c (heads (g p)) (if may_end (g p) then firsts g s else []) (found_head (g p) k r c i h)
