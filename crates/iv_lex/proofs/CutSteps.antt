-- How letters are cut: in one way, and by the measure.
use Rattle.std.proofs.Common.{◌≡◌, ◌⊎◌, inl, inr, ℕ, zero, suc, ◌-◌, ◌<◌, ◌≤◌, List, [], ◌∷◌, ◌++◌, length, take, drop, refl, ap, sym, ◌∙◌, arith, subst, length-drop}
use Rattle.std.specs.Prelude.{Bool, true, false, Option, Some, None}
use Rattle.std.proofs.Math.Seq.{take-append_seam, drop-append_seam}
use Rattle.std.proofs.lemmas.List.{take-append-drop, length-take-le}
use Rattle.iv_lex.specs.declared.letters.Letter.{Letter}
use Rattle.iv_lex.specs.declared.starts.Start.{Start}
use Rattle.iv_lex.specs.declared.starts.Start.TheVariants.{Blank, Comment, Cartouche, Quote, Name, Digits, Variable, TypeVariable, Named, Sign, Run, Double, Single, Nothing}
use Rattle.iv_lex.specs.declared.cutting.Kind.{Kind}
use Rattle.iv_lex.specs.declared.cutting.Kind.TheVariants.{Bad}
use Rattle.iv_lex.specs.declared.cutting.Token.{Token}
use Rattle.iv_lex.specs.Start.{start_at}
use Rattle.iv_lex.specs.Letter.{letters_of}
use Rattle.iv_lex.specs.Token.{tokens_from, tokens_of, token_list, token_of, kind_at, count_at}
use Rattle.iv_lex.specs.Shape.{Stands}
use Rattle.iv_lex.specs.Cut.{IsLongest, IsStray, IsCut, end, gap, token, stray}
use Rattle.iv_lex.proofs.PlaceSteps.{count_some}
use Rattle.iv_lex.proofs.Fronts.{is_nothing, counted, kinded, stands_fits}
use Rattle.iv_lex.proofs.Standing.{all_that_begins}

-- the letters that belong to what stands before are skipped
skipped : (n : ℕ) (ls : List Letter) → tokens_from n ls ≡ tokens_from 0 (drop n ls)
skipped zero ls = refl
skipped (suc n) [] = refl
skipped (suc n) (l ∷ ls) = skipped n ls

-- what stands at the front, and then the rest behind it
step : (l : Letter) (ls : List Letter) (n : ℕ) → n ≡ count_at (l ∷ ls) → 0 < n → tokens_from 0 (l ∷ ls) ≡ token_list (kind_at (l ∷ ls)) (take n (l ∷ ls)) ++ tokens_from 0 (drop n (l ∷ ls))
step l ls zero is low = absurd (omega arith)
step l ls (suc m) is low =
    let less : count_at (l ∷ ls) - 1 ≡ m = omega (arith, is) in
    rw (less, ← is) (ap (λ ts. token_list (kind_at (l ∷ ls)) (take (suc m) (l ∷ ls)) ++ ts) (skipped m ls))

-- where nothing begins, one letter is a bad token
nothing_is : (s : Start) → is_nothing s ≡ true → s ≡ Nothing
nothing_is Nothing e = refl
nothing_is Blank e = cc
nothing_is Comment e = cc
nothing_is Cartouche e = cc
nothing_is Quote e = cc
nothing_is Name e = cc
nothing_is Digits e = cc
nothing_is Variable e = cc
nothing_is TypeVariable e = cc
nothing_is Named e = cc
nothing_is Sign e = cc
nothing_is Run e = cc
nothing_is Double e = cc
nothing_is Single e = cc

no_stand : (ls : List Letter) → is_nothing (start_at ls) ≡ true → IsStray ls
no_stand ls e kind v u is h =
    let f = (stands_fits kind v u h).some in
    let g : is_nothing (start_at ls) ≡ false = ap (λ x. is_nothing (start_at x)) (sym is) ∙ f in
    let bad : true ≡ false = sym e ∙ g in cc

-- what the measure takes is the longest
longest_of : (ls w rest : List Letter) → w ++ rest ≡ ls → length w ≡ count_at ls → IsLongest w rest
longest_of ls w rest is e kind v u same more h =
    let f = (stands_fits kind v u h).fits in
    let c : count_at (v ++ u) ≡ count_at ls = ap count_at (same ∙ is) in
    absurd (omega (arith, e, more, f, c))

-- the letters are cut, and in one way
cut_front : (k : Option Kind) (ls : List Letter) (n : ℕ) (ts : List Token) → Stands k (take n ls) (drop n ls) → IsLongest (take n ls) (drop n ls) → IsCut (drop n ls) ts → IsCut ls (token_list k (take n ls) ++ ts)
cut_front None ls n ts h l c = subst (λ v. IsCut v ts) (take-append-drop n ls) (gap (take n ls) (drop n ls) ts h l c)
cut_front (Some kind) ls n ts h l c = subst (λ v. IsCut v (token_of kind (take n ls) ∷ ts)) (take-append-drop n ls) (token kind (take n ls) (drop n ls) ts h l c)

nothing_counts : (l : Letter) (ls : List Letter) → is_nothing (start_at (l ∷ ls)) ≡ true → count_at (l ∷ ls) ≡ 1
nothing_counts l ls e = counted Nothing (l ∷ ls) (Some 1) (nothing_is _ e) refl

nothing_kind : (l : Letter) (ls : List Letter) → is_nothing (start_at (l ∷ ls)) ≡ true → kind_at (l ∷ ls) ≡ Some Bad
nothing_kind l ls e = kinded Nothing (l ∷ ls) (Some 1) (nothing_is _ e) refl

stray_cut : (l : Letter) (ls : List Letter) → IsStray (l ∷ ls) → (n : ℕ) (k : Option Kind) → n ≡ 1 → k ≡ Some Bad → IsCut (drop n (l ∷ ls)) (tokens_from 0 (drop n (l ∷ ls))) → IsCut (l ∷ ls) (token_list k (take n (l ∷ ls)) ++ tokens_from 0 (drop n (l ∷ ls)))
stray_cut l ls h n k f g c =
    let base : IsCut (l ∷ ls) (token_of Bad (l ∷ []) ∷ tokens_from 0 ls) = stray l ls (tokens_from 0 ls) h (subst (λ i. IsCut (drop i (l ∷ ls)) (tokens_from 0 (drop i (l ∷ ls)))) f c) in
    let P : ℕ → Option Kind → Type 0 = λ i x. IsCut (l ∷ ls) (token_list x (take i (l ∷ ls)) ++ tokens_from 0 (drop i (l ∷ ls))) in
    subst (λ i. P i k) (sym f) (subst (λ x. P 1 x) (sym g) base)

front_cut : (l : Letter) (ls : List Letter) (v : Bool) → is_nothing (start_at (l ∷ ls)) ≡ v → IsCut (drop (count_at (l ∷ ls)) (l ∷ ls)) (tokens_from 0 (drop (count_at (l ∷ ls)) (l ∷ ls))) → IsCut (l ∷ ls) (token_list (kind_at (l ∷ ls)) (take (count_at (l ∷ ls)) (l ∷ ls)) ++ tokens_from 0 (drop (count_at (l ∷ ls)) (l ∷ ls)))
front_cut l ls false e c =
    let t = all_that_begins l ls e in
    let n : ℕ = count_at (l ∷ ls) in
    cut_front (kind_at (l ∷ ls)) (l ∷ ls) n (tokens_from 0 (drop n (l ∷ ls))) (t.0) (longest_of (l ∷ ls) (take n (l ∷ ls)) (drop n (l ∷ ls)) (take-append-drop n (l ∷ ls)) (length-take-le n (l ∷ ls) (t.1))) c
front_cut l ls true e c = stray_cut l ls (no_stand (l ∷ ls) e) (count_at (l ∷ ls)) (kind_at (l ∷ ls)) (nothing_counts l ls e) (nothing_kind l ls e) c

cut_by : (fuel : ℕ) (ls : List Letter) → length ls ≤ fuel → IsCut ls (tokens_from 0 ls)
cut_by fuel [] h = end
cut_by zero (l ∷ ls) h = absurd (omega arith)
cut_by (suc fuel) (l ∷ ls) h =
    let n : ℕ = count_at (l ∷ ls) in
    let some : 0 < n = count_some l ls in
    let less : length (drop n (l ∷ ls)) ≤ fuel = omega (arith, length-drop n (l ∷ ls), some, h) in
    subst (IsCut (l ∷ ls)) (sym (step l ls n refl some)) (front_cut l ls _ refl (cut_by fuel (drop n (l ∷ ls)) less))

-- the letters of a document are cut into its tokens
pub document_cut : (bytes : List ℕ) → IsCut (letters_of bytes) (tokens_of bytes)
document_cut bytes = cut_by (length (letters_of bytes)) (letters_of bytes) (omega arith)

-- any cut is the one by the measure
is_less : (a b d : ℕ) → a ≤ b → b - a ≡ d → (a ≡ b) ⊎ (a < b)
is_less a b zero h e = inl (omega (arith, h, e))
is_less a b (suc d) h e = inr (omega (arith, h, e))

takes_all : (k : Option Kind) (l : Letter) (ls w rest : List Letter) → w ++ rest ≡ l ∷ ls → Stands k w rest → IsLongest w rest → length w ≡ count_at (l ∷ ls)
takes_all k l ls w rest is h long =
    let f = stands_fits k w rest h in
    let n : ℕ = count_at (l ∷ ls) in
    let fits : length w ≤ n = omega (arith, f.fits, ap count_at is) in
    let some : is_nothing (start_at (l ∷ ls)) ≡ false = ap (λ v. is_nothing (start_at v)) (sym is) ∙ f.some in
    let t = all_that_begins l ls some in
    elim (is_less (length w) n (n - length w) fits refl) [
      | inl e ↦ e
      | inr less ↦ absurd (long (kind_at (l ∷ ls)) (take n (l ∷ ls)) (drop n (l ∷ ls)) (take-append-drop n (l ∷ ls) ∙ sym is) (omega (arith, less, length-take-le n (l ∷ ls) (t.1))) (t.0))
    ]

front_by : (k x : Option Kind) (w v rest u : List Letter) (ts us : List Token) → x ≡ k → v ≡ w → u ≡ rest → ts ≡ tokens_from 0 rest → us ≡ token_list x v ++ tokens_from 0 u → token_list k w ++ ts ≡ us
front_by k x w v rest u ts us e f g h i =
    ap (λ t. token_list k w ++ t) h
    ∙ (ap (λ r. token_list k w ++ tokens_from 0 r) (sym g)
    ∙ (ap (λ a. token_list k a ++ tokens_from 0 u) (sym f)
    ∙ (ap (λ y. token_list y v ++ tokens_from 0 u) (sym e) ∙ sym i)))

front_is : (k : Option Kind) (ls w rest : List Letter) (ts : List Token) → w ++ rest ≡ ls → Stands k w rest → IsLongest w rest → ts ≡ tokens_from 0 rest → token_list k w ++ ts ≡ tokens_from 0 ls
front_is k [] w rest ts is h long same = absurd (let bad : true ≡ false = ap (λ v. is_nothing (start_at v)) (sym is) ∙ (stands_fits k w rest h).some in cc)
front_is k (l ∷ ls) w rest ts is h long same =
    let n : ℕ = count_at (l ∷ ls) in
    let all : length w ≡ n = takes_all k l ls w rest is h long in
    let kind : kind_at (l ∷ ls) ≡ k = ap kind_at (sym is) ∙ (stands_fits k w rest h).kind (all ∙ ap count_at (sym is)) in
    let front : take n (l ∷ ls) ≡ w = ap (λ i. take i (l ∷ ls)) (sym all) ∙ (ap (take (length w)) (sym is) ∙ take-append_seam w rest) in
    let back : drop n (l ∷ ls) ≡ rest = ap (λ i. drop i (l ∷ ls)) (sym all) ∙ (ap (drop (length w)) (sym is) ∙ drop-append_seam w rest) in
    front_by k (kind_at (l ∷ ls)) w (take n (l ∷ ls)) rest (drop n (l ∷ ls)) ts _ kind front back same (step l ls n refl (count_some l ls))

nothing_begins : (l : Letter) (ls : List Letter) (v : Bool) → IsStray (l ∷ ls) → is_nothing (start_at (l ∷ ls)) ≡ v → v ≡ true
nothing_begins l ls true h e = refl
nothing_begins l ls false h e =
    let n : ℕ = count_at (l ∷ ls) in
    absurd (h (kind_at (l ∷ ls)) (take n (l ∷ ls)) (drop n (l ∷ ls)) (take-append-drop n (l ∷ ls)) ((all_that_begins l ls e).0))

stray_is : (l : Letter) (ls : List Letter) (ts : List Token) → IsStray (l ∷ ls) → ts ≡ tokens_from 0 ls → token_of Bad (l ∷ []) ∷ ts ≡ tokens_from 0 (l ∷ ls)
stray_is l ls ts h same =
    let e : is_nothing (start_at (l ∷ ls)) ≡ true = nothing_begins l ls _ h refl in
    let n : ℕ = count_at (l ∷ ls) in
    let c : n ≡ 1 = nothing_counts l ls e in
    front_by (Some Bad) (kind_at (l ∷ ls)) (l ∷ []) (take n (l ∷ ls)) ls (drop n (l ∷ ls)) ts _ (nothing_kind l ls e) (ap (λ i. take i (l ∷ ls)) c) (ap (λ i. drop i (l ∷ ls)) c) same (step l ls n refl (count_some l ls))

cut_is : (ls : List Letter) (ts : List Token) → IsCut ls ts → ts ≡ tokens_from 0 ls
cut_is ks us end = refl
cut_is ks us (gap w rest ts h long c) = front_is None (w ++ rest) w rest ts refl h long (cut_is rest ts c)
cut_is ks us (token kind w rest ts h long c) = front_is (Some kind) (w ++ rest) w rest ts refl h long (cut_is rest ts c)
cut_is ks us (stray l rest ts h c) = stray_is l rest ts h (cut_is rest ts c)

pub one_cut : (ls : List Letter) (ts us : List Token) → IsCut ls ts → IsCut ls us → ts ≡ us
one_cut ls ts us c d = cut_is ls ts c ∙ sym (cut_is ls us d)
