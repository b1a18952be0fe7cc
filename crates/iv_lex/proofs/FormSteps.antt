-- Steps of the measuring of forms.
use Rattle.std.proofs.Common.{◌≡◌, ℕ, ◌+◌, ◌-◌, ◌<◌, ◌≤◌, suc, zero, List, [], ◌∷◌, length, get_or, drop, refl, ap, sym, ◌∙◌, arith, drop-cons, add-one, length-drop}
use Rattle.std.specs.Prelude.{true, false, Bool, not, ◌&&◌, Option, Some, None}
use Rattle.std.specs.Option.{option_map}
use Rattle.std.proofs.lemmas.List.{drop-drop, drop_all}
use Rattle.iv_lex.specs.declared.letters.Letter.{Letter}
use Rattle.iv_lex.specs.declared.nests.Nest.{Nest}
use Rattle.iv_lex.specs.Letter.{is_char}
use Rattle.iv_lex.specs.Form.{goes_on, name_more, string_from, nested_from, front, depth_after, is_last}

-- the letters from an index on, whose first is this
pub first_of : (ls : List Letter) (n : ℕ) (x : Letter) → n < length ls → x ≡ get_or ls n x → drop n ls ≡ x ∷ drop (n + 1) ls
first_of ls n x h e = rw (add-one, drop-cons ls n x) (ap (λ y. y ∷ drop (suc n) ls) (sym e))

-- one step of an optional count
pub counted : (n : ℕ) (o : Option ℕ) → option_map (λ k. n + k) (option_map suc o) ≡ option_map (λ k. n + 1 + k) o
counted n None = refl
counted n (Some k) = let e : n + suc k ≡ n + 1 + k = omega arith in ap (λ m. Some m) e

-- a name that goes on
pub name_step : (ls : List Letter) → 0 < length ls → goes_on ls ≡ true → name_more ls ≡ suc (name_more (drop 1 ls))
name_step [] h e = absurd (omega arith)
name_step (l ∷ ls) h e = rw e refl

-- a string that goes on
pub string_step : (escaped : Bool) (ls : List Letter) (n : ℕ) (x : Letter) (next : Bool) → n < length ls → x ≡ get_or ls n x → (not escaped && is_char 34 x) ≡ false → next ≡ (not escaped && is_char 92 x) → option_map (λ k. n + k) (string_from escaped (drop n ls)) ≡ option_map (λ k. n + 1 + k) (string_from next (drop (n + 1) ls))
string_step escaped ls n x next h e stays is =
    let head = first_of ls n x h e in
    rw (head, stays, ← is) (counted n (string_from next (drop (n + 1) ls)))

-- a string that ends
pub string_end : (escaped : Bool) (ls : List Letter) (n : ℕ) (x : Letter) → n < length ls → x ≡ get_or ls n x → (not escaped && is_char 34 x) ≡ true → option_map (λ k. n + k) (string_from escaped (drop n ls)) ≡ Some (n + 1)
string_end escaped ls n x h e ends =
    let head = first_of ls n x h e in
    rw (head, ends) refl

-- a name that goes on at an index
pub name_at : (ls : List Letter) (n : ℕ) → n < length ls → goes_on (drop n ls) ≡ true → n + 1 + name_more (drop (n + 1) ls) ≡ n + name_more (drop n ls)
name_at ls n h e =
    let len : 0 < length (drop n ls) = omega (arith, length-drop n ls) in
    let step : name_more (drop n ls) ≡ suc (name_more (drop 1 (drop n ls))) = name_step (drop n ls) len e in
    let same : name_more (drop 1 (drop n ls)) ≡ name_more (drop (n + 1) ls) = ap name_more (drop-drop 1 n ls) in
    omega (arith, step, same)

-- nothing more counted
pub counted_none : (o : Option ℕ) → o ≡ option_map (λ k. 0 + k) o
counted_none None = refl
counted_none (Some k) = let e : k ≡ 0 + k = omega arith in ap (λ m. Some m) e

-- one more counted, of some more
pub counted_suc : (n : ℕ) (o : Option ℕ) → option_map suc (option_map (λ k. n + k) o) ≡ option_map (λ k. suc n + k) o
counted_suc n None = refl
counted_suc n (Some k) = let e : suc (n + k) ≡ suc n + k = omega arith in ap (λ m. Some m) e

-- some more counted, of some more
pub counted_both : (n f : ℕ) (o : Option ℕ) → option_map (λ k. n + k) (option_map (λ k. f + k) o) ≡ option_map (λ k. n + f + k) o
counted_both n f None = refl
counted_both n f (Some k) = let e : n + (f + k) ≡ n + f + k = omega arith in ap (λ m. Some m) e

-- the letters that belong to the front before are skipped
pub nested_skipped : (nest : Nest) (n depth : ℕ) (ls : List Letter) → n ≤ length ls → nested_from nest n depth ls ≡ option_map (λ k. n + k) (nested_from nest 0 depth (drop n ls))
unfolding nested_from
nested_skipped nest zero depth ls h = counted_none (nested_from nest 0 depth ls)
nested_skipped nest (suc n) depth [] h = absurd (omega arith)
nested_skipped nest (suc n) depth (l ∷ ls) h =
    ap (option_map suc) (nested_skipped nest n depth ls (omega arith)) ∙ counted_suc n (nested_from nest 0 depth (drop n ls))

-- a front that isn't the last
pub nested_step : (nest : Nest) (f depth : ℕ) (ls : List Letter) → 0 < length ls → is_last nest depth ls ≡ false → f ≡ front nest ls → 0 < f → f ≤ length ls → nested_from nest 0 depth ls ≡ option_map (λ k. f + k) (nested_from nest 0 (depth_after nest depth ls) (drop f ls))
unfolding nested_from
nested_step nest f depth [] some more is low high = absurd (omega arith)
nested_step nest zero depth (l ∷ ls) some more is low high = absurd (omega arith)
nested_step nest (suc m) depth (l ∷ ls) some more is low high =
    let less : front nest (l ∷ ls) - 1 ≡ m = omega (arith, is) in
    rw (more, less) (ap (option_map suc) (nested_skipped nest m (depth_after nest depth (l ∷ ls)) ls (omega arith)) ∙ counted_suc m (nested_from nest 0 (depth_after nest depth (l ∷ ls)) (drop m ls)))

-- the last front
pub nested_end : (nest : Nest) (depth : ℕ) (ls : List Letter) → 0 < length ls → is_last nest depth ls ≡ true → nested_from nest 0 depth ls ≡ Some (front nest ls)
unfolding nested_from
nested_end nest depth [] some last = absurd (omega arith)
nested_end nest depth (l ∷ ls) some last = rw last refl

-- no front is left
pub nested_none : (nest : Nest) (n depth : ℕ) (ls : List Letter) → length ls ≤ n → option_map (λ k. n + k) (nested_from nest 0 depth (drop n ls)) ≡ None
unfolding nested_from
nested_none nest n depth ls h = rw (drop_all n ls h) refl

-- a front that isn't the last, at an index
pub nested_at : (nest : Nest) (n f d depth : ℕ) (ls : List Letter) → n < length ls → is_last nest depth (drop n ls) ≡ false → f ≡ front nest (drop n ls) → 0 < f → f ≤ length (drop n ls) → d ≡ depth_after nest depth (drop n ls) → option_map (λ k. n + k) (nested_from nest 0 depth (drop n ls)) ≡ option_map (λ k. n + f + k) (nested_from nest 0 d (drop (n + f) ls))
nested_at nest n f d depth ls h more is low high after =
    let some : 0 < length (drop n ls) = omega (arith, length-drop n ls) in
    ap (option_map (λ k. n + k)) (nested_step nest f depth (drop n ls) some more is low high)
    ∙ counted_both n f (nested_from nest 0 (depth_after nest depth (drop n ls)) (drop f (drop n ls)))
    ∙ ap (λ m. option_map (λ k. n + f + k) (nested_from nest 0 m (drop f (drop n ls)))) (sym after)
    ∙ ap (λ xs. option_map (λ k. n + f + k) (nested_from nest 0 d xs)) (drop-drop f n ls)
