-- How a text is cut: in one way, and by what is found in front.
use Rattle.std.proofs.Common.{◌≡◌, ◌⊎◌, inl, inr, ℕ, zero, suc, ◌+◌, ◌<◌, ◌≤◌, List, [], ◌∷◌, ◌++◌, length, take, drop, get_or, refl, ap, sym, ◌∙◌, subst, arith, append_assoc, append-nil, length-append}
use Rattle.std.specs.Prelude.{Bool, true, false, None, Some}
use Rattle.std.proofs.Math.Seq.{take-append_seam, drop-append_seam}
use Rattle.std.proofs.lemmas.List.{take-append-drop, length-take-le, drop-drop, drop_all}
use Rattle.iv_grammar.specs.declared.sign.Sign.{Sign}
use Rattle.iv_grammar.specs.declared.cutting.Token.{Token}
use Rattle.iv_grammar.specs.declared.cutting.Token.TheVariants as token
use Rattle.iv_grammar.specs.Word.{is_blank, IsWord}
use Rattle.iv_grammar.specs.Measure.{first_is, word_count, word_of}
use Rattle.iv_grammar.specs.Symbol.{Table, look, IsLongestSymbol}
use Rattle.iv_grammar.specs.Cut.{Stands, symbol, word, IsLongest, IsStray, IsCut, end, gap, step, IsFirst, Goes, Pushed}
use Rattle.iv_grammar.proofs.WordSteps.{word_fits, word_is, word_some, word_found}

-- characters are one token
stands_one : (table : Table) (w : List ℕ) (t u : Token) → Stands table w t → Stands table w u → t ≡ u
stands_one table w t u (symbol s h e) (symbol r k f) = let same : Some s ≡ Some r = sym e ∙ f in cc
stands_one table w t u (symbol s h e) (word k i f) = absurd (let same : Some s ≡ None = sym e ∙ f in cc)
stands_one table w t u (word k i e) (symbol s h f) = absurd (let same : Some s ≡ None = sym f ∙ e in cc)
stands_one table w t u (word k i e) (word l j f) = ap (λ x. token.Word x w) (sym (word_is k w i) ∙ word_is l w j)

stands_some : (table : Table) (w : List ℕ) (t : Token) → Stands table w t → 0 < length w
stands_some table w t (symbol s h e) = h
stands_some table w t (word k i e) = word_some k w i

pub sides : (a b : ℕ) → (a < b) ⊎ ((a ≡ b) ⊎ (b < a))
sides zero zero = inr (inl refl)
sides zero (suc b) = inl (omega arith)
sides (suc a) zero = inr (inr (omega arith))
sides (suc a) (suc b) = elim (sides a b) [ inl h ↦ inl (omega (arith, h)) | inr x ↦ elim x [ inl e ↦ inr (inl (ap suc e)) | inr h ↦ inr (inr (omega (arith, h))) ] ]

heads : (c d : ℕ) (cs ds : List ℕ) → c ∷ cs ≡ d ∷ ds → c ≡ d
heads c d cs ds e = cc

tails : (c d : ℕ) (cs ds : List ℕ) → c ∷ cs ≡ d ∷ ds → cs ≡ ds
tails c d cs ds e = cc

no_gap : (c : ℕ) (left w rest : List ℕ) → is_blank c ≡ true → first_is is_blank w ≡ false → 0 < length w → c ∷ left ≡ w ++ rest → ⊥
no_gap c left [] rest d b h e = omega (arith, h)
no_gap c left (x ∷ xs) rest d b h e =
    let same : c ≡ x = heads c x left (xs ++ rest) e in
    let bad : true ≡ false = sym d ∙ (ap is_blank same ∙ b) in cc

no_nil : (c : ℕ) (cs : List ℕ) → [] ≡ c ∷ cs → ⊥
no_nil c cs e = cc

-- a front of some characters
front_of : (v u cs : List ℕ) → v ++ u ≡ cs → v ≡ take (length v) cs
front_of v u cs e = sym (take-append_seam v u) ∙ ap (take (length v)) e

back_of : (v u cs : List ℕ) → v ++ u ≡ cs → u ≡ drop (length v) cs
back_of v u cs e = sym (drop-append_seam v u) ∙ ap (drop (length v)) e

nil_cut : (table : Table) (cs : List ℕ) (ts : List Token) → IsCut table cs ts → cs ≡ [] → ts ≡ []
nil_cut table cs ts end e = refl
nil_cut table cs ts (gap c rest us b h) e = absurd (no_nil c rest (sym e))
nil_cut table cs ts (step t w rest us b s l h) e = absurd (omega (arith, ap length e, length-append w rest, stands_some table w t s))

gap_back : (table : Table) (c : ℕ) (cs : List ℕ) → is_blank c ≡ true → (ls : List ℕ) (ts : List Token) → IsCut table ls ts → ls ≡ c ∷ cs → (us : List Token) × ((ts ≡ us) × IsCut table cs us)
gap_back table c cs b ls ts end e = absurd (no_nil c cs e)
gap_back table c cs b ls ts (gap d left us k h) e = (us, (refl, subst (λ x. IsCut table x us) (tails d c left cs e) h))
gap_back table c cs b ls ts (step u v left us d k m h) e = absurd (no_gap c cs v left b d (stands_some table v u k) (sym e))

step_same : (table : Table) (t u : Token) (w rest v left : List ℕ) (us : List Token) → Stands table w t → Stands table v u → IsCut table left us → v ++ left ≡ w ++ rest → length w ≡ length v
    → (xs : List Token) × ((u ∷ us ≡ t ∷ xs) × IsCut table rest xs)
step_same table t u w rest v left us s k h e same =
    let front : v ≡ w = front_of v left (w ++ rest) e ∙ (ap (λ n. take n (w ++ rest)) (sym same) ∙ take-append_seam w rest) in
    let back : left ≡ rest = back_of v left (w ++ rest) e ∙ (ap (λ n. drop n (w ++ rest)) (sym same) ∙ drop-append_seam w rest) in
    (us, (ap (λ x. x ∷ us) (stands_one table w u t (subst (λ x. Stands table x u) front k) s), subst (λ x. IsCut table x us) back h))

step_back : (table : Table) (t : Token) (w rest : List ℕ) → first_is is_blank w ≡ false → Stands table w t → IsLongest table w rest → (cs : List ℕ) (ts : List Token) → IsCut table cs ts → cs ≡ w ++ rest
    → (us : List Token) × ((ts ≡ t ∷ us) × IsCut table rest us)
step_back table t w rest b s l cs ts end e = absurd (omega (arith, ap length e, length-append w rest, stands_some table w t s))
step_back table t w rest b s l cs ts (gap c left us d h) e = absurd (no_gap c left w rest d b (stands_some table w t s) e)
step_back table t w rest b s l cs ts (step u v left us d k m h) e =
    elim (sides (length w) (length v)) [
      | inl less ↦ absurd (l u v left e less k)
      | inr x ↦ elim x [ inl same ↦ step_same table t u w rest v left us s k h e same | inr more ↦ absurd (m t w rest (sym e) more s) ]
    ]

-- there is one cut
pub one_cut : (table : Table) (cs : List ℕ) (ts us : List Token) → IsCut table cs ts → IsCut table cs us → ts ≡ us
one_cut table cs ts us end d = sym (nil_cut table [] us d refl)
one_cut table cs ts us (gap c rest xs b h) d =
    let g = gap_back table c rest b (c ∷ rest) us d refl in
    one_cut table rest xs (g.0) h (g.1.1) ∙ sym (g.1.0)
one_cut table cs ts us (step t w rest xs b s l h) d =
    let g = step_back table t w rest b s l (w ++ rest) us d refl in
    ap (λ z. t ∷ z) (one_cut table rest xs (g.0) h (g.1.1)) ∙ sym (g.1.0)

-- a blank in front, and a token
pub goes_blank : (table : Table) (c : ℕ) (cs : List ℕ) → is_blank c ≡ true → Goes table (c ∷ cs) cs []
goes_blank table c cs b = record { on = λ ts h. gap c cs ts b h; back = λ ts h. gap_back table c cs b (c ∷ cs) ts h refl }

first_take : (n : ℕ) (cs : List ℕ) → 0 < n → first_is is_blank cs ≡ false → first_is is_blank (take n cs) ≡ false
first_take zero cs h e = absurd (omega arith)
first_take (suc n) [] h e = refl
first_take (suc n) (c ∷ cs) h e = e

pub goes_token : (table : Table) (cs : List ℕ) (n : ℕ) (t : Token) → first_is is_blank cs ≡ false → IsFirst table cs n t → Goes table cs (drop n cs) (t ∷ [])
goes_token table cs n t b f =
    let whole : take n cs ++ drop n cs ≡ cs = take-append-drop n cs in
    let plain : first_is is_blank (take n cs) ≡ false = first_take n cs f.some b in
    record {
      on = λ ts h. subst (λ x. IsCut table x (t ∷ ts)) whole (step t (take n cs) (drop n cs) ts plain f.stands f.longest h);
      back = λ ts h. step_back table t (take n cs) (drop n cs) plain f.stands f.longest cs ts h (sym whole);
    }

pub goes_then : (table : Table) (a b c : List ℕ) (xs ys : List Token) → Goes table a b xs → Goes table b c ys → Goes table a c (xs ++ ys)
goes_then table a b c xs ys g h = record {
  on = λ ts k. subst (λ z. IsCut table a z) (sym (append_assoc xs ys ts)) (g.on (ys ++ ts) (h.on ts k));
  back = λ ts k.
      let x = g.back ts k in
      let y = h.back (x.0) (x.1.1) in
      (y.0, (x.1.0 ∙ (ap (λ z. xs ++ z) (y.1.0) ∙ sym (append_assoc xs ys (y.0))), y.1.1));
}

-- the loop
pub goes_nothing : (table : Table) (text : List ℕ) → Goes table text (drop 0 text) []
goes_nothing table text = record { on = λ ts h. h; back = λ ts h. (ts, (refl, h)) }

pub goes_pushed : (table : Table) (text : List ℕ) (at n : ℕ) (old new : List Token) → Goes table text (drop at text) old → Pushed table (drop at text) (drop n (drop at text)) old new → Goes table text (drop (at + n) text) new
goes_pushed table text at n old new g p =
    let whole : Goes table text (drop n (drop at text)) (old ++ p.0) = goes_then table text (drop at text) (drop n (drop at text)) old (p.0) g (p.1.1) in
    subst (λ z. Goes table text (drop (at + n) text) z) (sym (p.1.0)) (subst (λ r. Goes table text r (old ++ p.0)) (drop-drop n at text) whole)

pub blank_pushed : (table : Table) (cs : List ℕ) (old : List Token) → first_is is_blank cs ≡ true → Pushed table cs (drop 1 cs) old old
blank_pushed table [] old b = cc
blank_pushed table (c ∷ cs) old b = ([], (sym (append-nil old), goes_blank table c cs b))

pub token_pushed : (table : Table) (cs : List ℕ) (n : ℕ) (t : Token) (old new : List Token) → first_is is_blank cs ≡ false → IsFirst table cs n t → new ≡ old ++ t ∷ [] → Pushed table cs (drop n cs) old new
token_pushed table cs n t old new b f e = (t ∷ [], (e, goes_token table cs n t b f))

pub goes_all : (table : Table) (text : List ℕ) (at : ℕ) (found : List Token) → length text ≤ at → Goes table text (drop at text) found → IsCut table text found
goes_all table text at found h g =
    subst (λ z. IsCut table text z) (append-nil found) (g.on [] (subst (λ r. IsCut table r []) (sym (drop_all at text h)) end))

pub goes_only : (table : Table) (text : List ℕ) (at : ℕ) (found : List Token) → length text ≤ at → Goes table text (drop at text) found → (ts : List Token) → IsCut table text ts → ts ≡ found
goes_only table text at found h g ts k = one_cut table text ts found k (goes_all table text at found h g)

no_cut : (table : Table) (cs : List ℕ) → 0 < length cs → first_is is_blank cs ≡ false → IsStray table cs → (ls : List ℕ) (ts : List Token) → IsCut table ls ts → ls ≡ cs → ⊥
no_cut table cs some b st ls ts end e = omega (arith, some, ap length e)
no_cut table cs some b st ls ts (gap c left us d h) e = let bad : true ≡ false = sym d ∙ (ap (first_is is_blank) e ∙ b) in cc
no_cut table cs some b st ls ts (step u v left us d k m h) e = st u v left e k

pub stray_none : (table : Table) (cs : List ℕ) → 0 < length cs → first_is is_blank cs ≡ false → IsStray table cs → (ts : List Token) → IsCut table cs ts → ⊥
stray_none table cs some b st ts h = no_cut table cs some b st cs ts h refl

pub goes_stray : (table : Table) (text rest : List ℕ) (found : List Token) → Goes table text rest found → ((ts : List Token) → IsCut table rest ts → ⊥) → (ts : List Token) → IsCut table text ts → ⊥
goes_stray table text rest found g none ts h = let x = g.back ts h in none (x.0) (x.1.1)

-- what is found in front
no_longer : (table : Table) (cs : List ℕ) (n : ℕ) → word_count cs ≤ n → ((m : ℕ) → n < m → m ≤ length cs → look table (take m cs) ≡ None) → (t : Token) (v u : List ℕ) → v ++ u ≡ cs → n < length v → length v ≤ length cs → Stands table v t → ⊥
no_longer table cs n words none t v u is longer fits (symbol s h f) =
    let bad : Some s ≡ None = sym f ∙ (ap (look table) (front_of v u cs is) ∙ none (length v) longer fits) in cc
no_longer table cs n words none t v u is longer fits (word k i f) = omega (arith, word_fits k v u i, ap word_count is, words, longer)

longest_by : (table : Table) (cs : List ℕ) (n : ℕ) → n ≤ length cs → word_count cs ≤ n → ((m : ℕ) → n < m → m ≤ length cs → look table (take m cs) ≡ None) → IsLongest table (take n cs) (drop n cs)
longest_by table cs n in_cs words none t v u e more st =
    let is : v ++ u ≡ cs = e ∙ take-append-drop n cs in
    let len : length (take n cs) ≡ n = length-take-le n cs in_cs in
    no_longer table cs n words none t v u is (omega (arith, more, len)) (omega (arith, ap length is, length-append v u)) st

pub first_sign : (table : Table) (cs : List ℕ) (n : ℕ) (s : Sign) → IsLongestSymbol table cs (Some (n, s)) → word_count cs ≤ n → IsFirst table cs n (token.Sign s)
first_sign table cs n s l words = record {
  some = l.0;
  within = l.1;
  stands = symbol s (omega (arith, l.0, length-take-le n cs (l.1))) (l.2);
  longest = longest_by table cs n (l.1) words (l.3);
}

pub first_word : (table : Table) (cs : List ℕ) (n : ℕ) → n ≡ word_count cs → 0 < n → n ≤ length cs → ((m : ℕ) → n ≤ m → m ≤ length cs → look table (take m cs) ≡ None) → IsFirst table cs n (token.Word (word_of (take n cs)) (take n cs))
first_word table cs n is some within none = record {
  some = some;
  within = within;
  stands = word (word_of (take n cs)) (subst (λ i. IsWord (word_of (take i cs)) (take i cs)) (sym is) (word_found cs (omega (arith, some, is)))) (none n (omega arith) within);
  longest = longest_by table cs n within (omega (arith, is)) (λ m h k. none m (omega (arith, h)) k);
}

pub no_front : (table : Table) (cs : List ℕ) → IsLongestSymbol table cs None → word_count cs ≡ 0 → IsStray table cs
no_front table cs none words t v u is (symbol s h f) =
    let fits : length v ≤ length cs = omega (arith, ap length is, length-append v u) in
    let bad : Some s ≡ None = sym f ∙ (ap (look table) (front_of v u cs is) ∙ none (length v) h fits) in cc
no_front table cs none words t v u is (word k i f) = omega (arith, word_fits k v u i, ap word_count is, words, word_some k v i)

-- the first character
pub first_at : (cs : List ℕ) (x d : ℕ) (v : Bool) → 0 < length cs → x ≡ get_or cs 0 d → is_blank x ≡ v → first_is is_blank cs ≡ v
first_at [] x d v h e f = absurd (omega (arith, h))
first_at (c ∷ cs) x d v h e f = ap is_blank (sym e) ∙ f
