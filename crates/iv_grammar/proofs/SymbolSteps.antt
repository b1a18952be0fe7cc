-- Steps of the search for the longest symbol.
use Rattle.std.proofs.Common.{◌≡◌, ◌⊎◌, inl, inr, ℕ, zero, suc, ◌+◌, ◌-◌, ◌<◌, ◌≤◌, List, [], ◌∷◌, ◌++◌, length, take, drop, get_or, slice_get, refl, ap, sym, ◌∙◌, subst, arith, length-drop, length-append}
use Rattle.std.specs.Prelude.{Bool, true, false, cond, nat_eq, unwrap_or, Option, None, Some}
use Rattle.std.proofs.lemmas.Bool.Decides.{nat_tests}
use Rattle.std.specs.Str.{bytes_eq}
use Rattle.std.proofs.lemmas.Slice.Eq.{bytes_eq-Decides}
use Rattle.std.specs.Option.{option_map_or}
use Rattle.std.proofs.lemmas.List.{length-take-le, drop-drop, drop_all}
use Rattle.iv_grammar.specs.declared.sign.Sign.{Sign}
use Rattle.iv_grammar.specs.declared.symbols.Entry.{Entry}
use Rattle.iv_grammar.specs.Symbol.{Table, look, IsLongestSymbol}
use Rattle.iv_grammar.specs.Chain.{begins, text_at, before_at, IsChain, AreChained, IsIndex, table_of, count_of}
use Rattle.iv_grammar.proofs.CutSteps.{sides}

differ : (x y : List ℕ) → (x ≡ y → ⊥) → bytes_eq x y ≡ false
differ x y f = by_test (bytes_eq x y) refl
  where
    by_test : (v : Bool) → bytes_eq x y ≡ v → v ≡ false
    by_test true e = absurd (f ((bytes_eq-Decides x y).0 e))
    by_test false e = refl

-- an entry that isn't better
pub kept : (table : Table) (text : List ℕ) (best : Option (ℕ × Sign)) (w : List ℕ) (s : Sign) → ((n : ℕ) → 0 < n → n ≤ length text → count_of best ≤ n → take n text ≡ w → ⊥)
    → IsLongestSymbol table text best → IsLongestSymbol ((w, s) ∷ table) text best
kept table text None w s h l = λ n some fits. rw (differ (take n text) w (h n some fits (omega arith))) (l n some fits)
kept table text (Some f) w s h l = (
  l.0,
  l.1,
  rw (differ (take f.0 text) w (h f.0 (l.0) (l.1) (omega arith))) (l.2),
  λ n more fits. rw (differ (take n text) w (h n (omega (arith, more)) fits (omega (arith, more)))) (l.3 n more fits),
)

pub kept_empty : (table : Table) (text : List ℕ) (best : Option (ℕ × Sign)) (w : List ℕ) (s : Sign) → length w ≡ 0 → IsLongestSymbol table text best → IsLongestSymbol ((w, s) ∷ table) text best
kept_empty table text best w s e = kept table text best w s (λ n some fits more is. omega (arith, e, some, ap length is, length-take-le n text fits))

pub kept_short : (table : Table) (text : List ℕ) (best : Option (ℕ × Sign)) (w : List ℕ) (s : Sign) → length w < count_of best → IsLongestSymbol table text best → IsLongestSymbol ((w, s) ∷ table) text best
kept_short table text best w s e = kept table text best w s (λ n some fits more is. omega (arith, e, more, ap length is, length-take-le n text fits))

pub kept_other : (table : Table) (text : List ℕ) (best : Option (ℕ × Sign)) (w : List ℕ) (s : Sign) → (take (length w) text ≡ w → ⊥) → IsLongestSymbol table text best → IsLongestSymbol ((w, s) ∷ table) text best
kept_other table text best w s differs = kept table text best w s (λ n some fits more is.
    let len : n ≡ length w = omega (arith, ap length is, length-take-le n text fits) in
    differs (ap (λ k. take k text) (sym len) ∙ is))

-- and one that is
old_none : (table : Table) (text : List ℕ) (best : Option (ℕ × Sign)) → IsLongestSymbol table text best → (n : ℕ) → 0 < n → n ≤ length text → count_of best < n → look table (take n text) ≡ None
old_none table text None l n some fits more = l n some fits
old_none table text (Some f) l n some fits more = l.3 n more fits

take_within : (n : ℕ) (xs : List ℕ) → length (take n xs) ≤ length xs
take_within zero xs = omega arith
take_within (suc n) [] = omega arith
take_within (suc n) (x ∷ xs) = omega (arith, take_within n xs)

pub taken : (table : Table) (text : List ℕ) (best : Option (ℕ × Sign)) (w : List ℕ) (s : Sign) → 0 < length w → count_of best ≤ length w → take (length w) text ≡ w
    → IsLongestSymbol table text best → IsLongestSymbol ((w, s) ∷ table) text (Some (length w, s))
taken table text best w s some more is l = (
  some,
  omega (arith, ap length is, take_within (length w) text),
  rw ((bytes_eq-Decides (take (length w) text) w).1 is) refl,
  λ n longer in_text.
      let other : bytes_eq (take n text) w ≡ false = differ (take n text) w (λ e. omega (arith, longer, ap length e, length-take-le n text in_text)) in
      rw other (old_none table text best l n (omega (arith, some, longer)) in_text (omega (arith, more, longer))),
)

-- entries that begin with another character are passed by
first_differs : (c : ℕ) (text w : List ℕ) (n : ℕ) → begins c text ≡ true → begins c w ≡ false → 0 < n → take n text ≡ w → ⊥
first_differs c [] w n b d some e = cc
first_differs c (x ∷ xs) w zero b d some e = omega (arith, some)
first_differs c (x ∷ xs) w (suc n) b d some e = let bad : true ≡ false = sym b ∙ (ap (begins c) e ∙ d) in cc

pass_front : (c : ℕ) (text : List ℕ) (best : Option (ℕ × Sign)) (es : List Entry) (d : ℕ) → begins c text ≡ true → d ≤ length es → ((k : ℕ) → k < d → begins c (text_at es k) ≡ false)
    → IsLongestSymbol (table_of (drop d es)) text best → IsLongestSymbol (table_of es) text best
pass_front c text best es zero b h f l = l
pass_front c text best [] (suc d) b h f l = absurd (omega (arith, h))
pass_front c text best (e ∷ es) (suc d) b h f l =
    kept (table_of es) text best e.text e.sign (λ n some fits more is. first_differs c text e.text n b (f 0 (omega arith)) some is)
    (pass_front c text best es d b (omega (arith, h)) (λ k less. f (suc k) (omega (arith, less))) l)

slice_get-drop : (es : List Entry) (i k : ℕ) → slice_get (drop i es) k ≡ slice_get es (i + k)
slice_get-drop es zero k = let e : k ≡ 0 + k = omega arith in ap (slice_get es) e
slice_get-drop [] (suc i) k = refl
slice_get-drop (e ∷ es) (suc i) k = let s : suc (i + k) ≡ suc i + k = omega arith in slice_get-drop es i k ∙ ap (slice_get (e ∷ es)) s

text_drop : (es : List Entry) (i k : ℕ) → text_at (drop i es) k ≡ text_at es (i + k)
text_drop es i k = ap (λ o. option_map_or (λ e. e.text) o []) (slice_get-drop es i k)

pass : (c : ℕ) (text : List ℕ) (best : Option (ℕ × Sign)) (es : List Entry) (i j : ℕ) → begins c text ≡ true → i ≤ j → j ≤ length es → ((k : ℕ) → i ≤ k → k < j → begins c (text_at es k) ≡ false)
    → IsLongestSymbol (table_of (drop j es)) text best → IsLongestSymbol (table_of (drop i es)) text best
pass c text best es i j b h fits f l =
    let d : i + (j - i) ≡ j = omega (arith, h) in
    let rest : drop (j - i) (drop i es) ≡ drop j es = drop-drop (j - i) i es ∙ ap (λ n. drop n es) d in
    pass_front c text best (drop i es) (j - i) b (omega (arith, length-drop i es, fits)) (λ k less. ap (begins c) (text_drop es i k) ∙ f (i + k) (omega arith) (omega (arith, less)))
    (subst (λ xs. IsLongestSymbol (table_of xs) text best) (sym rest) l)

-- the search begins behind the last entry with the character
pub begun : (c : ℕ) (text : List ℕ) (es : List Entry) (from : ℕ) → begins c text ≡ true → IsChain es c from (length es) → IsLongestSymbol (table_of (drop from es)) text None
begun c text es from b ch =
    let all : drop (length es) es ≡ [] = drop_all (length es) es (omega arith) in
    pass c text None es from (length es) b ch.within (omega arith) ch.between (subst (λ xs. IsLongestSymbol (table_of xs) text None) (sym all) (λ n some fits. refl))

at_some : (es : List Entry) (i : ℕ) (e : Entry) → i < length es → e ≡ get_or es i e → slice_get es i ≡ Some e
at_some [] i e h f = absurd (omega (arith, h))
at_some (x ∷ xs) zero e h f = ap (λ y. Some y) (sym f)
at_some (x ∷ xs) (suc i) e h f = at_some xs i e (omega (arith, h)) f

drop-at : (es : List Entry) (i : ℕ) (e : Entry) → slice_get es i ≡ Some e → drop i es ≡ e ∷ drop (suc i) es
drop-at [] i e h = cc
drop-at (x ∷ xs) zero e h = let same : x ≡ e = cc in ap (λ y. y ∷ xs) same
drop-at (x ∷ xs) (suc i) e h = drop-at xs i e h

-- what holds of the search at a place
pub record Searched (es : List Entry) (c : ℕ) (text : List ℕ) (at : ℕ) (best : Option (ℕ × Sign)) : Type 0 where
  pub within : at ≤ length es
  pub begins_so : (i : ℕ) → suc i ≡ at → begins c (text_at es i) ≡ true
  pub longest : IsLongestSymbol (table_of (drop at es)) text best

pub searched_start : (es : List Entry) (c : ℕ) (text : List ℕ) (from : ℕ) → begins c text ≡ true → IsChain es c from (length es) → Searched es c text from None
searched_start es c text from b ch = record { within = ch.within; begins_so = ch.at; longest = begun c text es from b ch }

searched_by : (es : List Entry) (c : ℕ) (text : List ℕ) (i at : ℕ) (e : Entry) (best next : Option (ℕ × Sign)) → AreChained es → begins c text ≡ true → suc i ≡ at → slice_get es i ≡ Some e → Searched es c text at best
    → ((table : Table) → IsLongestSymbol table text best → IsLongestSymbol ((e.text, e.sign) ∷ table) text next) → Searched es c text e.before next × (e.before < at)
searched_by es c text i at e best next chained b is f s better =
    let less : i < length es = omega (arith, is, s.within) in
    let before : before_at es i ≡ e.before = ap (λ o. option_map_or (λ x. x.before) o 0) f in
    let ch : IsChain es c e.before i = subst (λ j. IsChain es c j i) before (chained.chain i c less (s.begins_so i is)) in
    let at_i : drop i es ≡ e ∷ drop at es = drop-at es i e f ∙ ap (λ j. e ∷ drop j es) is in
    let here : IsLongestSymbol (table_of (drop i es)) text next = subst (λ xs. IsLongestSymbol (table_of xs) text next) (sym at_i) (better (table_of (drop at es)) s.longest) in
    (record { within = omega (arith, ch.within, less); begins_so = ch.at; longest = pass c text next es e.before i b ch.within (omega (arith, less)) ch.between here }, omega (arith, ch.within, is))

pub searched_on : (es : List Entry) (c : ℕ) (text : List ℕ) (at : ℕ) (e : Entry) (best next : Option (ℕ × Sign)) → AreChained es → begins c text ≡ true → 0 < at → e ≡ get_or es (at - 1) e → Searched es c text at best
    → ((table : Table) → IsLongestSymbol table text best → IsLongestSymbol ((e.text, e.sign) ∷ table) text next) → Searched es c text e.before next × (e.before < at)
searched_on es c text at e best next chained b some is s better =
    searched_by es c text (at - 1) at e best next chained b (omega (arith, some)) (at_some es (at - 1) e (omega (arith, some, s.within)) is) s better

pub searched_all : (es : List Entry) (c : ℕ) (text : List ℕ) (at : ℕ) (best : Option (ℕ × Sign)) → at ≤ 0 → Searched es c text at best → IsLongestSymbol (table_of es) text best
searched_all es c text zero best h s = s.longest
searched_all es c text (suc at) best h s = absurd (omega (arith, h))

-- one entry more
get_front : (es : List Entry) (e : Entry) (i : ℕ) → i < length es → slice_get (es ++ e ∷ []) i ≡ slice_get es i
get_front [] e i h = absurd (omega (arith, h))
get_front (x ∷ xs) e zero h = refl
get_front (x ∷ xs) e (suc i) h = get_front xs e i (omega (arith, h))

get_last : (es : List Entry) (e : Entry) → slice_get (es ++ e ∷ []) (length es) ≡ Some e
get_last [] e = refl
get_last (x ∷ xs) e = get_last xs e

text_front : (es : List Entry) (e : Entry) (i : ℕ) → i < length es → text_at (es ++ e ∷ []) i ≡ text_at es i
text_front es e i h = ap (λ o. option_map_or (λ x. x.text) o []) (get_front es e i h)

text_last : (es : List Entry) (e : Entry) (i : ℕ) → i ≡ length es → text_at (es ++ e ∷ []) i ≡ e.text
text_last es e i h = ap (λ j. text_at (es ++ e ∷ []) j) h ∙ ap (λ o. option_map_or (λ x. x.text) o []) (get_last es e)

chain_more : (es : List Entry) (e : Entry) (c j n : ℕ) → n ≤ length es → IsChain es c j n → IsChain (es ++ e ∷ []) c j n
chain_more es e c j n h ch = record {
  within = ch.within;
  at = λ i is. ap (begins c) (text_front es e i (omega (arith, is, ch.within, h))) ∙ ch.at i is;
  between = λ i low high. ap (begins c) (text_front es e i (omega (arith, high, h))) ∙ ch.between i low high;
}

chain_past : (es : List Entry) (e : Entry) (c j : ℕ) → begins c e.text ≡ false → IsChain es c j (length es) → IsChain (es ++ e ∷ []) c j (length es + 1)
chain_past es e c j d ch = record {
  within = omega (arith, ch.within);
  at = λ i is. ap (begins c) (text_front es e i (omega (arith, is, ch.within))) ∙ ch.at i is;
  between = λ i low high. past i low (is_less i high);
}
  where
    is_less : (i : ℕ) → i < length es + 1 → (i < length es) ⊎ (i ≡ length es)
    is_less i high = elim (sides i (length es)) [ inl h ↦ inl h | inr x ↦ elim x [ inl h ↦ inr h | inr h ↦ absurd (omega (arith, h, high)) ] ]

    past : (i : ℕ) → j ≤ i → (i < length es) ⊎ (i ≡ length es) → begins c (text_at (es ++ e ∷ []) i) ≡ false
    past i low (inl h) = ap (begins c) (text_front es e i h) ∙ ch.between i low h
    past i low (inr h) = ap (begins c) (text_last es e i h) ∙ d

chain_new : (es : List Entry) (e : Entry) (c : ℕ) → begins c e.text ≡ true → IsChain (es ++ e ∷ []) c (length es + 1) (length es + 1)
chain_new es e c b = record {
  within = omega arith;
  at = λ i is. ap (begins c) (text_last es e i (omega (arith, is))) ∙ b;
  between = λ i low high. absurd (omega (arith, low, high));
}

pub entered : (es : List Entry) (latest next : ℕ → ℕ) (e : Entry) → IsIndex es latest → ((c : ℕ) → begins c e.text ≡ true → (next c ≡ length es + 1) × (e.before ≡ latest c)) → ((c : ℕ) → begins c e.text ≡ false → next c ≡ latest c)
    → IsIndex (es ++ e ∷ []) next
entered es latest next e index new old = record { latest_of = λ c. leads c (begins c e.text) refl; chained = record { chain = λ i c h b. chain i c (which i h) b } }
  where
    len : length (es ++ e ∷ []) ≡ length es + 1
    len = length-append es (e ∷ [])

    leads : (c : ℕ) (v : Bool) → begins c e.text ≡ v → IsChain (es ++ e ∷ []) c (next c) (length (es ++ e ∷ []))
    leads c true b = subst (λ n. IsChain (es ++ e ∷ []) c (next c) n) (sym len) (subst (λ j. IsChain (es ++ e ∷ []) c j (length es + 1)) (sym ((new c b).0)) (chain_new es e c b))
    leads c false b = subst (λ n. IsChain (es ++ e ∷ []) c (next c) n) (sym len) (subst (λ j. IsChain (es ++ e ∷ []) c j (length es + 1)) (sym (old c b)) (chain_past es e c (latest c) b (index.latest_of c)))

    which : (i : ℕ) → i < length (es ++ e ∷ []) → (i < length es) ⊎ (i ≡ length es)
    which i h = elim (sides i (length es)) [ inl k ↦ inl k | inr x ↦ elim x [ inl k ↦ inr k | inr k ↦ absurd (omega (arith, k, h, len)) ] ]

    chain : (i c : ℕ) → (i < length es) ⊎ (i ≡ length es) → begins c (text_at (es ++ e ∷ []) i) ≡ true → IsChain (es ++ e ∷ []) c (before_at (es ++ e ∷ []) i) i
    chain i c (inl h) b =
        let old_b : begins c (text_at es i) ≡ true = ap (begins c) (sym (text_front es e i h)) ∙ b in
        let at : before_at es i ≡ before_at (es ++ e ∷ []) i = ap (λ o. option_map_or (λ x. x.before) o 0) (sym (get_front es e i h)) in
        subst (λ j. IsChain (es ++ e ∷ []) c j i) at (chain_more es e c (before_at es i) i (omega (arith, h)) (index.chained.chain i c h old_b))
    chain i c (inr h) b =
        let new_b : begins c e.text ≡ true = ap (begins c) (sym (text_last es e i h)) ∙ b in
        let at : e.before ≡ before_at (es ++ e ∷ []) i = ap (λ o. option_map_or (λ x. x.before) o 0) (sym (get_last es e)) ∙ ap (λ j. before_at (es ++ e ∷ []) j) (sym h) in
        let from : latest c ≡ before_at (es ++ e ∷ []) i = sym ((new c new_b).1) ∙ at in
        subst (λ n. IsChain (es ++ e ∷ []) c (before_at (es ++ e ∷ []) i) n) (sym h) (subst (λ j. IsChain (es ++ e ∷ []) c j (length es)) from (chain_more es e c (latest c) (length es) (omega arith) (index.latest_of c)))

-- an entry that is pushed, under the tables of the latest entries as a map has them
pub pushed_index : (es new : List Entry) (old_get new_get : ℕ → Option ℕ) (e : Entry) (c n : ℕ) → IsIndex es (λ d. unwrap_or (old_get d) 0) → ((d : ℕ) → begins d e.text ≡ nat_eq c d) → e.before ≡ unwrap_or (old_get c) 0
    → n ≡ length new → ((d : ℕ) → new_get d ≡ cond (nat_eq c d) (Some n) (old_get d)) → new ≡ es ++ e ∷ [] → IsIndex new (λ d. unwrap_or (new_get d) 0)
pushed_index es new old_get new_get e c n index is before len update whole =
    subst (λ xs. IsIndex xs (λ d. unwrap_or (new_get d) 0)) (sym whole) (entered es (λ d. unwrap_or (old_get d) 0) (λ d. unwrap_or (new_get d) 0) e index newer older)
  where
    newer : (d : ℕ) → begins d e.text ≡ true → (unwrap_or (new_get d) 0 ≡ length es + 1) × (e.before ≡ unwrap_or (old_get d) 0)
    newer d b =
        let hit : nat_eq c d ≡ true = sym (is d) ∙ b in
        let same : c ≡ d = grind (arith, nat_tests, hit) in
        let value : unwrap_or (new_get d) 0 ≡ n = ap (λ o. unwrap_or o 0) (update d ∙ ap (λ v. cond v (Some n) (old_get d)) hit) in
        (omega (arith, value, len, ap length whole, length-append es (e ∷ [])), before ∙ ap (λ x. unwrap_or (old_get x) 0) same)

    older : (d : ℕ) → begins d e.text ≡ false → unwrap_or (new_get d) 0 ≡ unwrap_or (old_get d) 0
    older d b = ap (λ o. unwrap_or o 0) (update d ∙ ap (λ v. cond v (Some n) (old_get d)) (sym (is d) ∙ b))

-- an entry with no character
pub empty_index : (es new : List Entry) (latest : ℕ → ℕ) (e : Entry) → IsIndex es latest → ((d : ℕ) → begins d e.text ≡ false) → new ≡ es ++ e ∷ [] → IsIndex new latest
empty_index es new latest e index none whole =
    subst (λ xs. IsIndex xs latest) (sym whole) (entered es latest latest e index (λ d b. absurd (let bad : true ≡ false = sym b ∙ none d in let worse : ⊥ = cc in worse)) (λ d b. refl))
