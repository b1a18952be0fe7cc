-- Methods within methods are read as the forms say, where their levels fit; else they are too deep.
use Rattle.std.proofs.Common.{◌≡◌, ◌≤◌, ◌<◌, ℕ, suc, max, Bool, true, false, List, [], ◌∷◌, ◌++◌, length, refl, arith, append_assoc, append-nil}
use Rattle.std.specs.Prelude.{Option, None, ◌||◌}
use Rattle.std.proofs.Math.Nat.{max-le, le-max_left, le-max_right, max-zero, zero-max}
use Rattle.iv_text.specs.declared.Pos.{Pos}
use Rattle.iv_recogniser.specs.declared.class.Class.TheVariants as class
use Rattle.iv_recogniser.specs.declared.class.Sort.TheVariants as sort
use Rattle.iv_recogniser.specs.Class.{has}
use Rattle.iv_forms.specs.declared.fact.Fact.{Fact}
use Rattle.iv_forms.specs.declared.prop.VarGroup.{VarGroup}
use Rattle.iv_forms.specs.declared.method.Section.{Section}
use Rattle.iv_forms.specs.declared.method.Subject.{Subject}
use Rattle.iv_forms.specs.declared.method.MethodText.{MethodText}
use Rattle.iv_forms.specs.declared.method.MethodText.TheVariants as VMethod
use Rattle.iv_forms.specs.declared.method.Pattern.{Pattern}
use Rattle.iv_forms.specs.declared.method.Arg.{Arg}
use Rattle.iv_forms.specs.declared.method.Arg.TheVariants as VArg
use Rattle.iv_forms.specs.declared.method.Case.{Case}
use Rattle.iv_forms.specs.declared.method.Case.TheVariants as VCase
use Rattle.iv_forms.specs.declared.lexeme.Lexeme.{Lexeme}
use Rattle.iv_forms.specs.Lexeme.{Is, IsA}
use Rattle.iv_forms.specs.FactForm.{fact, IsFacts, facts}
use Rattle.iv_forms.specs.PropForm.{IsOptFor}
use Rattle.iv_forms.specs.MethodForm.{IsPattern, IsMorePatterns, IsSection, section, IsSections, no_sections, sections, IsSubject, premises, conclusion, subject_term, subject_facts, IsMethod, method, IsCore, core_name, core_dash, core_paren, IsSuffix, no_suffix, try, repeat, first, IsAlt, alt, IsMoreAlt, no_bar, bar, IsSemi, semi, IsMoreSemi, no_semicolon, semicolon, IsSeq, seq, IsMoreSeq, no_comma, comma, IsItem, item_method, item_rule, item_call, item_sections, item_match, IsArg, arg_term, arg_method, IsArgs, no_args, args, IsCases, cases, IsMoreCases, no_more_cases, more_cases, IsCase, case_is}
use Rattle.iv_readmethod.specs.declared.levelled.Levelled.{Levelled}
use Rattle.iv_readmethod.specs.declared.levelled.Join.{Join}
use Rattle.iv_readmethod.specs.declared.levelled.Join.TheVariants as VJoin
use Rattle.iv_facts.specs.Found.{Found, got, then_, begins, behind}
use Rattle.iv_facts.specs.FactLevels.{first_of}
use Rattle.iv_readmethod.specs.Patterns as P
use Rattle.iv_readmethod.specs.Methods as M
use Rattle.iv_readmethod.specs.MethodLevels.{suffix_levels, method_levels, core_levels, alt_levels, more_alt_levels, semi_levels, more_semi_levels, seq_levels, more_seq_levels, item_levels, arg_levels, args_levels, cases_levels, more_cases_levels, case_levels, deep_sections, deep_subject, fact_in_method, fact_in_core, fact_in_alt, fact_in_more_alt, fact_in_semi, fact_in_more_semi, fact_in_seq, fact_in_more_seq, fact_in_item, fact_in_arg, fact_in_args, fact_in_cases, fact_in_more_cases, fact_in_case}
use Rattle.iv_readmethod.proofs.Joins.{joins_stop}
use Rattle.iv_readmethod.proofs.Lengths.{len_IsItem, len_IsSeq, len_IsSemi, len_IsArg, len_IsCase}
use Rattle.iv_readmethod.proofs.Firsts.{free_IsSuffix, free_IsArgs, free_IsSections, free_IsMorePatterns}
use Rattle.iv_readmethod.proofs.PatternsRead.{and_false, opt_nat_read, pattern_read, more_patterns_read}
use Rattle.iv_readmethod.proofs.Ends.{ends, ends_alt, ends_semi, ends_seq, ends_item, ends_more, ends_here, free_ends}
use Rattle.iv_readmethod.proofs.Readings.{Holds, holds_flat, holds_mapped, holds_both, first_with, first_assoc, Reads, fits, next_reads, raised_reads, inside_reads, link, listed}
use Rattle.iv_readmethod.proofs.MethodsRead.{Noted, noted, sections_read, rule_read, subject_read, closed_ends}
use Rattle.iv_readmethod.specs.Laws.{Below}

max_assoc : (a b c : ℕ) → max (max a b) c ≡ max a (max b c)
max_assoc a b c =
    let one : max (max a b) c ≤ max a (max b c) = max-le (max-le (le-max_left a (max b c)) (omega (arith, le-max_left b c, le-max_right a (max b c)))) (omega (arith, le-max_right b c, le-max_right a (max b c))) in
    let other : max a (max b c) ≤ max (max a b) c = max-le (omega (arith, le-max_left a b, le-max_left (max a b) c)) (max-le (omega (arith, le-max_right a b, le-max_left (max a b) c)) (le-max_right (max a b) c)) in
    omega (arith, one, other)

-- the same with its parts written in another way
moved : {A : Type 0} {left a b : ℕ} {o p : Option Pos} {x z : A} {us : List Lexeme} {f : Found (Levelled A)} → a ≡ b → o ≡ p → x ≡ z → Reads left a a o x us f → Reads left b b p z us f
moved e i j r = rw (← e, ← i, ← j) r

holds_moved : {A : Type 0} {a b : ℕ} {o : Option Pos} {x : A} {y : Levelled A} → a ≡ b → Holds a o x y → Holds b o x y
holds_moved e h = rw (← e) h

reads_flat : {A : Type 0} {left : ℕ} {x : A} {us : List Lexeme} {f : Found (Levelled A)} → f ≡ got (M.flat x) us → Reads left 0 0 None x us f
reads_flat {x = x} e = fits (M.flat x) (omega arith) (holds_flat x) e

reads_mapped : {A B : Type 0} (f : A → B) {left n : ℕ} {o : Option Pos} {x : A} {us : List Lexeme} {found : Found (Levelled A)} → Reads left n n o x us found → Reads left n n o (f x) us (then_ found (λ y vs. got (M.mapped f y) vs))
reads_mapped f r = next_reads _ r (omega arith) (λ y b h. fits (M.mapped f y) b (holds_mapped f h) refl)

-- behind a part without levels
then_noted : {A B : Type 0} {left more m : ℕ} {o q : Option Pos} {x : A} {z : B} {us vs : List Lexeme} {f : Found (Levelled A)} (next : Levelled A → List Lexeme → Found (Levelled B))
    → Noted o x us f → ((y : Levelled A) → Holds 0 o x y → Reads left more m q z vs (next y us)) → Reads left more m q z vs (then_ f next)
unfolding then_
then_noted next (noted y h e) k = rw e (k y h)

noted_reads : {A : Type 0} {left : ℕ} {o : Option Pos} {x : A} {us : List Lexeme} {f : Found (Levelled A)} → Noted o x us f → Reads left 0 0 o x us f
noted_reads (noted y h e) = fits y (omega arith) h e

-- levels of a chain are no fewer than those of its front
grows_suffix : (n : ℕ) {m v : MethodText} {ts us : List Lexeme} (d : IsSuffix m v ts us) → n ≤ suffix_levels n d
grows_suffix n no_suffix = omega arith
grows_suffix n (try q) = omega arith
grows_suffix n (repeat q) = omega arith
grows_suffix n (first a k b) = omega arith

grows_seq : (n : ℕ) {m v : MethodText} {ts us : List Lexeme} (d : IsMoreSeq m v ts us) → n ≤ more_seq_levels n d
grows_seq n no_comma = omega arith
grows_seq n (comma c i r) = omega (arith, grows_seq (suc (max n (item_levels i))) r, le-max_left n (item_levels i))

grows_semi : (n : ℕ) {m v : MethodText} {ts us : List Lexeme} (d : IsMoreSemi m v ts us) → n ≤ more_semi_levels n d
grows_semi n no_semicolon = omega arith
grows_semi n (semicolon c i r) = omega (arith, grows_semi (suc (max n (seq_levels i))) r, le-max_left n (seq_levels i))

grows_alt : (n : ℕ) {m v : MethodText} {ts us : List Lexeme} (d : IsMoreAlt m v ts us) → n ≤ more_alt_levels n d
grows_alt n no_bar = omega arith
grows_alt n (bar c i r) = omega (arith, grows_alt (suc (max n (semi_levels i))) r, le-max_left n (semi_levels i))

-- what stands behind the first of a chain
seq_ends : {m v : MethodText} {ts us : List Lexeme} → IsMoreSeq m v ts us → ends ends_seq us ≡ true → ends ends_item ts ≡ true
seq_ends {us = us} no_comma e = ends_more class.Comma ends_seq us e
seq_ends (comma {c = x} {ts = ts} c i r) e = ends_here class.Comma ends_seq x ts c

semi_ends : {m v : MethodText} {ts us : List Lexeme} → IsMoreSemi m v ts us → ends ends_semi us ≡ true → ends ends_seq ts ≡ true
semi_ends {us = us} no_semicolon e = ends_more class.Semicolon ends_semi us e
semi_ends (semicolon {c = x} {ts = ts} c i r) e = ends_here class.Semicolon ends_semi x ts c

alt_ends : {m v : MethodText} {ts us : List Lexeme} → IsMoreAlt m v ts us → ends ends_alt us ≡ true → ends ends_semi ts ≡ true
alt_ends {us = us} no_bar e = ends_more class.Bar ends_alt us e
alt_ends (bar {c = x} {ts = ts} c i r) e = ends_here class.Bar ends_alt x ts c

-- how an item is told
as_method : (inside : List Lexeme → Found (Levelled MethodText)) (left : ℕ) (n : Lexeme) (us : List Lexeme) → begins (sort.Only class.Open) us ≡ false → begins sort.Name us ≡ false → begins sort.Term us ≡ false
    → M.item inside left (n ∷ us) ≡ M.method inside left (n ∷ us)
unfolding M.item
as_method inside left n us o e t = rw (o, e, t, and_false, and_false, and_false) refl

as_other : (inside : List Lexeme → Found (Levelled MethodText)) (left : ℕ) (n : Lexeme) (us : List Lexeme) → has (sort.Only class.Rule) n.class ≡ false → has (sort.Only class.Match) n.class ≡ false → has sort.CallName n.class ≡ false
    → M.item inside left (n ∷ us) ≡ M.method inside left (n ∷ us)
unfolding M.item
as_other inside left n us r m c = rw (r, m, c) refl

as_rule : (inside : List Lexeme → Found (Levelled MethodText)) (left : ℕ) (n : Lexeme) (us : List Lexeme) → has (sort.Only class.Rule) n.class ≡ true → begins sort.Name us ≡ true → M.item inside left (n ∷ us) ≡ M.rule (n ∷ us)
unfolding M.item
as_rule inside left n us r e = rw (r, e) refl

as_match : (inside : List Lexeme → Found (Levelled MethodText)) (left : ℕ) (n : Lexeme) (us : List Lexeme) → has (sort.Only class.Rule) n.class ≡ false → has (sort.Only class.Match) n.class ≡ true
    → (begins (sort.Only class.Open) us || begins sort.Name us) ≡ true → M.item inside left (n ∷ us) ≡ M.match_ inside left (n ∷ us)
unfolding M.item
as_match inside left n us r m e = rw (r, m, e) refl

as_call : (inside : List Lexeme → Found (Levelled MethodText)) (left : ℕ) (n : Lexeme) (us : List Lexeme) → has (sort.Only class.Rule) n.class ≡ false → has (sort.Only class.Match) n.class ≡ false → has sort.CallName n.class ≡ true
    → (begins (sort.Only class.Open) us || begins sort.Term us) ≡ true → M.item inside left (n ∷ us) ≡ M.call inside left (n ∷ us)
unfolding M.item
as_call inside left n us r m c e = rw (r, m, c, e) refl

or_last : (a : Bool) {b : Bool} → b ≡ true → (a || b) ≡ true
or_last true e = refl
or_last false e = e

-- parentheses around what is read inside
parens_read : (a b : Lexeme) {n : ℕ} {o : Option Pos} {x : MethodText} {us : List Lexeme} (ts : List Lexeme) → IsA class.Open a → IsA class.Close b → (left : ℕ) → Reads left (suc n) n o x (b ∷ us) (M.inside left ts)
    → Reads left (suc n) (suc n) o x us (M.parens (M.inside left) left (a ∷ ts))
unfolding M.parens then_
parens_read p q {us = us} ts a c left r = rw a (next_reads _ r (omega arith) (λ y b h. rw c (raised_reads us h)))

module _ (law : Below) where
  ends_close : (b : Lexeme) (us : List Lexeme) → IsA class.Close b → ends ends_alt (b ∷ us) ≡ true
  ends_close b us h = ends_here class.Close (class.OutOf ∷ []) b us h

  ends_out : (b : Lexeme) (us : List Lexeme) → IsA class.OutOf b → ends ends_alt (b ∷ us) ≡ true
  ends_out b us h = ends_more class.Close (class.OutOf ∷ []) (b ∷ us) (ends_here class.OutOf [] b us h)

  suffix_read : {m v : MethodText} {ts us : List Lexeme} (d : IsSuffix m v ts us) → begins (sort.Only class.Question) us ≡ false → begins (sort.Only class.Plus) us ≡ false → begins (sort.Only class.Left) us ≡ false
      → {left n : ℕ} {o : Option Pos} {y : Levelled MethodText} → n ≤ left → Holds n o m y → Reads left (suffix_levels n d) (suffix_levels n d) o v us (M.suffix left y ts)
  unfolding M.suffix then_
  suffix_read no_suffix q p l {y = y} b h = rw (q, p, l) (fits y b h refl)
  suffix_read {us = us} (try t) q p l b h = rw t (raised_reads us (holds_mapped VMethod.Try h))
  suffix_read {us = us} (repeat {q = x} t) q p l b h = rw (law.sets.apart (sort.Only class.Question) (sort.Only class.Plus) refl x.class t, t) (raised_reads us (holds_mapped VMethod.Repeat h))
  suffix_read {us = us} (first {a = x} {b = z} {n = k} a n c) q p l b h =
      let number : has sort.Numeral z.class ≡ false = law.sets.apart sort.Numeral (sort.Only class.Right) refl z.class c in
      rw (law.sets.apart (sort.Only class.Question) (sort.Only class.Left) refl x.class a, law.sets.apart (sort.Only class.Plus) (sort.Only class.Left) refl x.class a, a, opt_nat_read law n number, c) (raised_reads us (holds_mapped (λ m. VMethod.First m k) h))

  item_as_method : (inside : List Lexeme → Found (Levelled MethodText)) (left : ℕ) {v : MethodText} {ts us : List Lexeme} → IsMethod v ts us → ends ends_item us ≡ true → M.item inside left ts ≡ M.method inside left ts
  item_as_method inside left {us = us} (method (core_name {n = n} {ts = ts} h) s) e =
      as_method inside left n ts (free_IsSuffix law (sort.Only class.Open) refl refl refl s (free_ends law (sort.Only class.Open) ends_item refl us e)) (free_IsSuffix law sort.Name refl refl refl s (free_ends law sort.Name ends_item refl us e))
      (free_IsSuffix law sort.Term refl refl refl s (free_ends law sort.Term ends_item refl us e))
  item_as_method inside left (method (core_dash {d = d} {ts = ts} h) s) e =
      as_other inside left d ts (law.sets.apart (sort.Only class.Rule) (sort.Only class.Minus) refl d.class h) (law.sets.apart (sort.Only class.Match) (sort.Only class.Minus) refl d.class h) (law.sets.apart sort.CallName (sort.Only class.Minus) refl d.class h)
  item_as_method inside left (method (core_paren {a = a} {ts = ts} h m c) s) e =
      as_other inside left a ts (law.sets.apart (sort.Only class.Rule) (sort.Only class.Open) refl a.class h) (law.sets.apart (sort.Only class.Match) (sort.Only class.Open) refl a.class h) (law.sets.apart sort.CallName (sort.Only class.Open) refl a.class h)

  -- arguments end where sections begin
  no_arg : {xs : List Section} {ts us : List Lexeme} → IsSections xs ts us → ends ends_item us ≡ true → M.goes_arg ts ≡ false
  unfolding M.goes_arg P.named
  no_arg {us = us} no_sections e = rw (free_ends law (sort.Only class.Open) ends_item refl us e, free_ends law sort.Term ends_item refl us e) refl
  no_arg (sections (section {x = x} n c f) r) e = rw (law.sets.apart (sort.Only class.Open) sort.Identifier refl x.class n, n, c, and_false) refl

  no_colon : {xs : List Section} {ts us : List Lexeme} → IsSections xs ts us → ends ends_item us ≡ true → begins (sort.Only class.Colon) ts ≡ false
  no_colon {us = us} d e = free_IsSections law (sort.Only class.Colon) refl d (free_ends law (sort.Only class.Colon) ends_item refl us e)

  goes_on : {x : Arg} {ts us : List Lexeme} → IsArg x ts us → begins (sort.Only class.Colon) us ≡ false → M.goes_arg ts ≡ true
  unfolding M.goes_arg P.named
  goes_on (arg_term {t = t} h) e = rw (e, and_false, h) (or_last (has (sort.Only class.Open) t.class) refl)
  goes_on (arg_method a m b) e = rw a refl

  call_read : (n : Lexeme) (us : List Lexeme) {es : List Arg} {xs : List Section} {vs ws : List Lexeme} {k left : ℕ} {o : Option Pos} → Is sort.CallName n → (x : IsSections xs vs ws) → ends ends_item ws ≡ true
      → Reads left k k o es vs (M.args (M.inside left) left us) → Reads left k k (first_of o (deep_sections x)) (VMethod.Call n.token es xs) ws (M.call (M.inside left) left (n ∷ us))
  unfolding M.call then_
  call_read n us {k = k} c x e r =
      rw c (next_reads _ r (omega arith) (λ y b h. then_noted _ (sections_read law x e) (λ w i. fits (M.both (VMethod.Call n.token) y w) b (holds_moved (max-zero k) (holds_both (VMethod.Call n.token) h i)) refl)))

  match_read : (w : Lexeme) {s : Subject} {cs : List Case} {ts us vs : List Lexeme} {k left : ℕ} {o : Option Pos} → IsA class.Match w → (x : IsSubject s ts us) → begins (sort.Only class.In) us ≡ true
      → Reads left k k o cs vs (M.cases (M.inside left) left us) → Reads left k k (first_of (deep_subject x) o) (VMethod.Match s cs) vs (M.match_ (M.inside left) left (w ∷ ts))
  unfolding M.match_ then_
  match_read w {k = k} m x e r =
      rw m (then_noted _ (subject_read law x e) (λ y h. next_reads _ r (omega arith) (λ w b i. fits (M.both VMethod.Match y w) b (holds_moved (zero-max k) (holds_both VMethod.Match h i)) refl)))

  begins_in : {cs : List Case} {ts us : List Lexeme} → IsCases cs ts us → begins (sort.Only class.In) ts ≡ true
  begins_in (cases w c r) = w

  begins_name : {fs : List Fact} {ts us : List Lexeme} → IsFacts fs ts us → begins sort.Name ts ≡ true
  begins_name (facts (fact h s a) r) = h

  begins_subject : {s : Subject} {ts us : List Lexeme} → IsSubject s ts us → (begins (sort.Only class.Open) ts || begins sort.Name ts) ≡ true
  begins_subject (premises {w = t} w) = or_last (has (sort.Only class.Open) t.class) (law.sets.within (sort.Only class.Premises) sort.Name refl t w)
  begins_subject (conclusion {w = t} w) = or_last (has (sort.Only class.Open) t.class) (law.sets.within (sort.Only class.Conclusion) sort.Name refl t w)
  begins_subject (subject_term a t b) = rw a refl
  begins_subject (subject_facts {n = t} h s a r b) = or_last (has (sort.Only class.Open) t.class) h

  begins_arg : {x : Arg} {ts us : List Lexeme} → IsArg x ts us → (begins (sort.Only class.Open) ts || begins sort.Term ts) ≡ true
  begins_arg (arg_term {t = t} h) = or_last (has (sort.Only class.Open) t.class) h
  begins_arg (arg_method a m b) = rw a refl

  begins_section : {x : Section} {ts us : List Lexeme} → IsSection x ts us → (begins (sort.Only class.Open) ts || begins sort.Term ts) ≡ true
  begins_section (section {x = t} n c f) = or_last (has (sort.Only class.Open) t.class) (law.sets.within sort.Identifier sort.Term refl t n)

  method_by : (inside : List Lexeme → Found (Levelled MethodText)) (left : ℕ) (ts : List Lexeme) {m v : MethodText} {us vs : List Lexeme} {k : ℕ} {o : Option Pos} → Reads left k k o m us (M.core inside left ts) → (s : IsSuffix m v us vs)
      → begins (sort.Only class.Question) vs ≡ false → begins (sort.Only class.Plus) vs ≡ false → begins (sort.Only class.Left) vs ≡ false → Reads left (suffix_levels k s) (suffix_levels k s) o v vs (M.method inside left ts)
  unfolding M.method
  method_by inside left ts {k = k} r s q p l = next_reads _ r (grows_suffix k s) (λ y b h. suffix_read s q p l b h)

  name_by : (inside : List Lexeme → Found (Levelled MethodText)) (left : ℕ) (n : Lexeme) (ts : List Lexeme) → Is sort.Name n → Reads left 0 0 None (VMethod.Name n.token) ts (M.core inside left (n ∷ ts))
  unfolding M.core then_
  name_by inside left n ts h = rw (law.sets.apart (sort.Only class.Open) sort.Name refl n.class h, law.sets.apart (sort.Only class.Minus) sort.Name refl n.class h, h) (reads_flat refl)

  dash_by : (inside : List Lexeme → Found (Levelled MethodText)) (left : ℕ) (d : Lexeme) (ts : List Lexeme) → IsA class.Minus d → Reads left 0 0 None VMethod.Dash ts (M.core inside left (d ∷ ts))
  unfolding M.core
  dash_by inside left d ts h = rw (law.sets.apart (sort.Only class.Open) (sort.Only class.Minus) refl d.class h, h) (reads_flat refl)

  paren_by : (left : ℕ) (a b : Lexeme) (ts : List Lexeme) {n : ℕ} {o : Option Pos} {x : MethodText} {us : List Lexeme} → IsA class.Open a → IsA class.Close b → ((l : ℕ) → Reads l n n o x (b ∷ us) (M.alt (M.inside l) l ts))
      → Reads left (suc n) (suc n) o (VMethod.Paren x) us (M.core (M.inside left) left (a ∷ ts))
  unfolding M.core
  paren_by left a b ts o c r = rw o (reads_mapped VMethod.Paren (parens_read a b ts o c left (inside_reads ts r left)))

  term_by : (inside : List Lexeme → Found (Levelled MethodText)) (left : ℕ) (t : Lexeme) (ts : List Lexeme) → Is sort.Term t → Reads left 0 0 None (VArg.Term t.token) ts (M.arg inside left (t ∷ ts))
  unfolding M.arg then_
  term_by inside left t ts h = rw (law.sets.apart (sort.Only class.Open) sort.Term refl t.class h, h) (reads_flat refl)

  inner_by : (left : ℕ) (a b : Lexeme) (ts : List Lexeme) {n : ℕ} {o : Option Pos} {x : MethodText} {us : List Lexeme} → IsA class.Open a → IsA class.Close b → ((l : ℕ) → Reads l n n o x (b ∷ us) (M.alt (M.inside l) l ts))
      → Reads left (suc n) (suc n) o (VArg.Method x) us (M.arg (M.inside left) left (a ∷ ts))
  unfolding M.arg
  inner_by left a b ts o c r = rw o (reads_mapped VArg.Method (parens_read a b ts o c left (inside_reads ts r left)))

  none_by : (inside : List Lexeme → Found (Levelled MethodText)) (left : ℕ) (us : List Lexeme) → M.goes_arg us ≡ false → Reads left 0 0 None [] us (M.args inside left us)
  unfolding M.args M.lists
  none_by inside left us g = reads_flat (joins_stop M.goes_arg (M.arg inside left) (λ xs x us. got (M.more xs x) us) (M.flat []) us us g)

  some_by : (inside : List Lexeme → Found (Levelled MethodText)) (left : ℕ) (ts : List Lexeme) {e : Arg} {es : List Arg} {us vs : List Lexeme} {k : ℕ} (n : ℕ) {o p : Option Pos} → length us < length ts → M.goes_arg ts ≡ true
      → Reads left k k o e us (M.arg inside left ts)
      → ((y : Levelled (List Arg)) → k ≤ left → Holds k o (e ∷ []) y → (steps : List Lexeme) → length us ≤ length steps
      → Reads left (max k n) (max k n) p es vs (M.joins M.goes_arg (M.arg inside left) (λ xs x us. got (M.more xs x) us) y steps us))
      → Reads left (max k n) (max k n) p es vs (M.args inside left ts)
  unfolding M.args M.lists
  some_by inside left [] n l g r next = absurd (omega (arith, l))
  some_by inside left (s ∷ steps) {k = k} n l g r next =
      listed M.goes_arg (M.arg inside left) (s ∷ steps) s steps g (holds_flat []) r (le-max_left k n) (λ w b h. next w b (holds_moved (zero-max k) h) steps (omega (arith, l)))

  case_by : (left : ℕ) {p : Pattern} {ps : List Pattern} {gs : List VarGroup} (a i z : Lexeme) {m : MethodText} {ts us vs : List Lexeme} (ws : List Lexeme) {ys : List Lexeme} {n : ℕ} {o : Option Pos}
      → IsPattern p ts us → IsMorePatterns ps us vs → IsOptFor gs vs (a ∷ i ∷ ws) → IsA class.Arrow a → IsA class.Into i → IsA class.OutOf z → ((l : ℕ) → Reads l n n o m (z ∷ ys) (M.alt (M.inside l) l ws))
      → Reads left (suc n) (suc n) o (VCase.Case (p ∷ ps) gs m) ys (M.case (M.inside left) left ts)
  unfolding M.case P.more_patterns then_
  case_by left {p = p} {ps = ps} {gs = gs} a i z {us = us} ws {ys = ys} d ds fs arrow into out r =
      let open_ : has (sort.Only class.Open) a.class ≡ false = law.sets.apart (sort.Only class.Open) (sort.Only class.Arrow) refl a.class arrow in
      let colon : has (sort.Only class.Colon) a.class ≡ false = law.sets.apart (sort.Only class.Colon) (sort.Only class.Arrow) refl a.class arrow in
      let also : has (sort.Only class.And) a.class ≡ false = law.sets.apart (sort.Only class.And) (sort.Only class.Arrow) refl a.class arrow in
      rw (
        pattern_read law d (free_IsMorePatterns law (sort.Only class.Open) refl ds (law.firsts.opt_for (sort.Only class.Open) refl fs open_)) (free_IsMorePatterns law (sort.Only class.Colon) refl ds (law.firsts.opt_for (sort.Only class.Colon) refl fs colon)),
        more_patterns_read law ds (law.firsts.opt_for (sort.Only class.And) refl fs also) (law.firsts.opt_for (sort.Only class.Open) refl fs open_) (law.firsts.opt_for (sort.Only class.Colon) refl fs colon) (p ∷ []) us (omega arith),
        law.names.opt_for fs (law.sets.apart (sort.Only class.For) (sort.Only class.Arrow) refl a.class arrow) (law.sets.apart (sort.Only class.Colons) (sort.Only class.Arrow) refl a.class arrow) (law.sets.apart sort.Identifier (sort.Only class.Arrow) refl a.class arrow) also,
        arrow,
        into,
      )
      (next_reads _ (inside_reads ws r left) (omega arith) (λ y b h. rw out (raised_reads ys (holds_mapped (VCase.Case (p ∷ ps) gs) h))))

  cases_by : (inside : List Lexeme → Found (Levelled MethodText)) (left : ℕ) (w : Lexeme) (ts : List Lexeme) {c : Case} {cs : List Case} {us vs : List Lexeme} {k : ℕ} (n : ℕ) {o p : Option Pos} → IsA class.In w → Reads left k k o c us (M.case inside left ts)
      → ((y : Levelled (List Case)) → k ≤ left → Holds k o (c ∷ []) y
      → Reads left (max k n) (max k n) p cs vs (M.joins (begins (sort.Only class.CaseBar)) (λ vs. M.case inside left (behind vs)) (λ xs x us. got (M.more xs x) us) y us us))
      → Reads left (max k n) (max k n) p cs vs (M.cases inside left (w ∷ ts))
  unfolding M.cases M.more_cases M.lists then_
  cases_by inside left w ts {k = k} n h r next =
      rw h (next_reads _ r (le-max_left k n) (λ y b i. next (M.more (M.flat []) y) b (holds_moved (zero-max k) (holds_both (λ xs x. xs ++ x ∷ []) (holds_flat []) i))))

  linked_by : (left : ℕ) (join : Join) (part : List Lexeme → Found (Levelled MethodText)) (ts : List Lexeme) {m v : MethodText} {us vs : List Lexeme} {k n : ℕ} {o p : Option Pos} → Reads left k k o m us (part ts) → k ≤ n
      → ((y : Levelled MethodText) → k ≤ left → Holds k o m y
      → Reads left n n p v vs (M.joins (begins (sort.Only (M.between join))) (λ vs. part (behind vs)) (λ m n vs. M.raised left (M.both (M.joined join) m n) vs) y us us))
      → Reads left n n p v vs (M.linked left join part ts)
  unfolding M.linked
  linked_by left join part ts r l next = next_reads _ r l next

  mutual
    unfolding M.alt M.semi M.seq

    pub method_read : {v : MethodText} {ts us : List Lexeme} (d : IsMethod v ts us) → begins (sort.Only class.Question) us ≡ false → begins (sort.Only class.Plus) us ≡ false → begins (sort.Only class.Left) us ≡ false → (left : ℕ)
        → Reads left (method_levels d) (method_levels d) (fact_in_method d) v us (M.method (M.inside left) left ts)
    method_read {ts = ts} (method c s) q p l left = method_by (M.inside left) left ts (core_read c left) s q p l

    core_read : {v : MethodText} {ts us : List Lexeme} (d : IsCore v ts us) (left : ℕ) → Reads left (core_levels d) (core_levels d) (fact_in_core d) v us (M.core (M.inside left) left ts)
    core_read (core_name {n = n} {ts = ts} h) left = name_by (M.inside left) left n ts h
    core_read (core_dash {d = d} {ts = ts} h) left = dash_by (M.inside left) left d ts h
    core_read (core_paren {a = x} {b = y} {ts = ts} {us = us} a m b) left = paren_by left x y ts a b (λ l. alt_read m (ends_close y us b) l)

    alt_read : {v : MethodText} {ts us : List Lexeme} (d : IsAlt v ts us) → ends ends_alt us ≡ true → (left : ℕ) → Reads left (alt_levels d) (alt_levels d) (fact_in_alt d) v us (M.alt (M.inside left) left ts)
    alt_read {ts = ts} (alt {us = us} i r) e left = linked_by left VJoin.Or (M.semi (M.inside left) left) ts (semi_read i (alt_ends r e) left) (grows_alt (semi_levels i) r) (λ y b h. more_alt_read r e left b h us (omega arith))

    more_alt_read : {m v : MethodText} {ts us : List Lexeme} (d : IsMoreAlt m v ts us) → ends ends_alt us ≡ true → (left : ℕ) {n : ℕ} {o : Option Pos} {y : Levelled MethodText} → n ≤ left → Holds n o m y → (steps : List Lexeme) → length ts ≤ length steps
        → Reads left (more_alt_levels n d) (more_alt_levels n d) (first_of o (fact_in_more_alt d)) v us (M.joins (begins (sort.Only class.Bar)) (λ vs. M.semi (M.inside left) left (behind vs)) (λ m n vs. M.raised left (M.both VMethod.Or m n) vs) y steps ts)
    more_alt_read {us = us} no_bar e left {o = o} {y = y} b h steps l = rw (first_with o) (fits y b h (joins_stop (begins (sort.Only class.Bar)) (λ vs. M.semi (M.inside left) left (behind vs)) (λ m n vs. M.raised left (M.both VMethod.Or m n) vs) y steps us (free_ends law (sort.Only class.Bar) ends_alt refl us e)))
    more_alt_read (bar c i r) e left b h [] l = absurd (omega (arith, l))
    more_alt_read (bar {c = t} {ts = ts} c i r) e left {n = n} {o = o} b h (s ∷ steps) l =
        rw (← first_assoc o (fact_in_semi i) (fact_in_more_alt r))
        (link VJoin.Or (M.semi (M.inside left) left) (t ∷ ts) s steps c h (semi_read i (alt_ends r e) left) (grows_alt (suc (max n (semi_levels i))) r) (λ w b2 h2. more_alt_read r e left b2 h2 steps (omega (arith, l, len_IsSemi law i))))

    semi_read : {v : MethodText} {ts us : List Lexeme} (d : IsSemi v ts us) → ends ends_semi us ≡ true → (left : ℕ) → Reads left (semi_levels d) (semi_levels d) (fact_in_semi d) v us (M.semi (M.inside left) left ts)
    semi_read {ts = ts} (semi {us = us} i r) e left = linked_by left VJoin.On (M.seq (M.inside left) left) ts (seq_read i (semi_ends r e) left) (grows_semi (seq_levels i) r) (λ y b h. more_semi_read r e left b h us (omega arith))

    more_semi_read : {m v : MethodText} {ts us : List Lexeme} (d : IsMoreSemi m v ts us) → ends ends_semi us ≡ true → (left : ℕ) {n : ℕ} {o : Option Pos} {y : Levelled MethodText} → n ≤ left → Holds n o m y → (steps : List Lexeme) → length ts ≤ length steps
        → Reads left (more_semi_levels n d) (more_semi_levels n d) (first_of o (fact_in_more_semi d)) v us
        (M.joins (begins (sort.Only class.Semicolon)) (λ vs. M.seq (M.inside left) left (behind vs)) (λ m n vs. M.raised left (M.both VMethod.On m n) vs) y steps ts)
    more_semi_read {us = us} no_semicolon e left {o = o} {y = y} b h steps l = rw (first_with o) (fits y b h (joins_stop (begins (sort.Only class.Semicolon)) (λ vs. M.seq (M.inside left) left (behind vs)) (λ m n vs. M.raised left (M.both VMethod.On m n) vs) y steps us (free_ends law (sort.Only class.Semicolon) ends_semi refl us e)))
    more_semi_read (semicolon c i r) e left b h [] l = absurd (omega (arith, l))
    more_semi_read (semicolon {c = t} {ts = ts} c i r) e left {n = n} {o = o} b h (s ∷ steps) l =
        rw (← first_assoc o (fact_in_seq i) (fact_in_more_semi r))
        (link VJoin.On (M.seq (M.inside left) left) (t ∷ ts) s steps c h (seq_read i (semi_ends r e) left) (grows_semi (suc (max n (seq_levels i))) r) (λ w b2 h2. more_semi_read r e left b2 h2 steps (omega (arith, l, len_IsSeq law i))))

    seq_read : {v : MethodText} {ts us : List Lexeme} (d : IsSeq v ts us) → ends ends_seq us ≡ true → (left : ℕ) → Reads left (seq_levels d) (seq_levels d) (fact_in_seq d) v us (M.seq (M.inside left) left ts)
    seq_read {ts = ts} (seq {us = us} i r) e left = linked_by left VJoin.Then (M.item (M.inside left) left) ts (item_read i (seq_ends r e) left) (grows_seq (item_levels i) r) (λ y b h. more_seq_read r e left b h us (omega arith))

    more_seq_read : {m v : MethodText} {ts us : List Lexeme} (d : IsMoreSeq m v ts us) → ends ends_seq us ≡ true → (left : ℕ) {n : ℕ} {o : Option Pos} {y : Levelled MethodText} → n ≤ left → Holds n o m y → (steps : List Lexeme) → length ts ≤ length steps
        → Reads left (more_seq_levels n d) (more_seq_levels n d) (first_of o (fact_in_more_seq d)) v us (M.joins (begins (sort.Only class.Comma)) (λ vs. M.item (M.inside left) left (behind vs)) (λ m n vs. M.raised left (M.both VMethod.Then m n) vs) y steps ts)
    more_seq_read {us = us} no_comma e left {o = o} {y = y} b h steps l = rw (first_with o) (fits y b h (joins_stop (begins (sort.Only class.Comma)) (λ vs. M.item (M.inside left) left (behind vs)) (λ m n vs. M.raised left (M.both VMethod.Then m n) vs) y steps us (free_ends law (sort.Only class.Comma) ends_seq refl us e)))
    more_seq_read (comma c i r) e left b h [] l = absurd (omega (arith, l))
    more_seq_read (comma {c = t} {ts = ts} c i r) e left {n = n} {o = o} b h (s ∷ steps) l =
        rw (← first_assoc o (fact_in_item i) (fact_in_more_seq r))
        (link VJoin.Then (M.item (M.inside left) left) (t ∷ ts) s steps c h (item_read i (seq_ends r e) left) (grows_seq (suc (max n (item_levels i))) r) (λ w b2 h2. more_seq_read r e left b2 h2 steps (omega (arith, l, len_IsItem law i))))

    item_read : {v : MethodText} {ts us : List Lexeme} (d : IsItem v ts us) → ends ends_item us ≡ true → (left : ℕ) → Reads left (item_levels d) (item_levels d) (fact_in_item d) v us (M.item (M.inside left) left ts)
    item_read {us = us} (item_method m) e left =
        rw (item_as_method (M.inside left) left m e)
        (method_read m (free_ends law (sort.Only class.Question) ends_item refl us e) (free_ends law (sort.Only class.Plus) ends_item refl us e) (free_ends law (sort.Only class.Left) ends_item refl us e) left)
    item_read {us = us} (item_rule {w = w} {ts = ts} r fs) e left = rw (as_rule (M.inside left) left w ts r (begins_name fs)) (noted_reads (rule_read law w r fs (closed_ends law us e)))
    item_read (item_call {n = n} {ts = ts} c x es xs) e left =
        rw (as_call (M.inside left) left n ts (law.sets.apart (sort.Only class.Rule) sort.CallName refl n.class c) (law.sets.apart (sort.Only class.Match) sort.CallName refl n.class c) c (begins_arg x)) (call_read n ts c xs e (some_by (M.inside left) left ts (args_levels es) (len_IsArg law x) (goes_on x (free_IsArgs law (sort.Only class.Colon) refl refl es (no_colon xs e))) (arg_read x left) (λ y b h steps l. more_args_read es (no_arg xs e) (no_colon xs e) left b h steps l)))
    item_read (item_sections {n = n} {ts = ts} c x xs) e left =
        rw (as_call (M.inside left) left n ts (law.sets.apart (sort.Only class.Rule) sort.CallName refl n.class c) (law.sets.apart (sort.Only class.Match) sort.CallName refl n.class c) c (begins_section x)) (call_read n ts c (sections x xs) e (none_by (M.inside left) left ts (no_arg (sections x xs) e)))
    item_read {us = us} (item_match {w = w} {ts = ts} m s cs) e left =
        rw (as_match (M.inside left) left w ts (law.sets.apart (sort.Only class.Rule) (sort.Only class.Match) refl w.class m) m (begins_subject s)) (match_read w m s (begins_in cs) (cases_read cs (free_ends law (sort.Only class.CaseBar) ends_item refl us e) left))

    arg_read : {v : Arg} {ts us : List Lexeme} (d : IsArg v ts us) (left : ℕ) → Reads left (arg_levels d) (arg_levels d) (fact_in_arg d) v us (M.arg (M.inside left) left ts)
    arg_read (arg_term {t = t} {ts = ts} h) left = term_by (M.inside left) left t ts h
    arg_read (arg_method {a = x} {b = y} {ts = ts} {us = us} a m b) left = inner_by left x y ts a b (λ l. alt_read m (ends_close y us b) l)

    more_args_read : {v zs : List Arg} {ts us : List Lexeme} (d : IsArgs v ts us) → M.goes_arg us ≡ false → begins (sort.Only class.Colon) us ≡ false → (left : ℕ) {n : ℕ} {o : Option Pos} {y : Levelled (List Arg)} → n ≤ left → Holds n o zs y
        → (steps : List Lexeme) → length ts ≤ length steps
        → Reads left (max n (args_levels d)) (max n (args_levels d)) (first_of o (fact_in_args d)) (zs ++ v) us (M.joins M.goes_arg (M.arg (M.inside left) left) (λ xs x us. got (M.more xs x) us) y steps ts)
    more_args_read {zs = zs} {us = us} no_args g k left {n = n} {o = o} {y = y} b h steps l = rw (max-zero n, first_with o, append-nil zs) (fits y b h (joins_stop M.goes_arg (M.arg (M.inside left) left) (λ xs x us. got (M.more xs x) us) y steps us g))
    more_args_read (args x r) g k left b h [] l = absurd (omega (arith, l, len_IsArg law x))
    more_args_read {zs = zs} (args {e = v} {es = vs} {ts = ts} x r) g k left {n = n} {o = o} b h (s ∷ steps) l =
        moved (max_assoc n (arg_levels x) (args_levels r)) (first_assoc o (fact_in_arg x) (fact_in_args r)) (append_assoc zs (v ∷ []) vs)
        (listed M.goes_arg (M.arg (M.inside left) left) ts s steps (goes_on x (free_IsArgs law (sort.Only class.Colon) refl refl r k)) h (arg_read x left)
        (omega (arith, le-max_right n (arg_levels x), le-max_left (max n (arg_levels x)) (args_levels r)))
        (λ w c i. more_args_read r g k left (max-le b c) i steps (omega (arith, l, len_IsArg law x))))

    case_read : {v : Case} {ts us : List Lexeme} (d : IsCase v ts us) (left : ℕ) → Reads left (case_levels d) (case_levels d) (fact_in_case d) v us (M.case (M.inside left) left ts)
    case_read (case_is {a = x} {i = y} {o = t} {ws = ws} {ys = ys} p ps gs a i m z) left = case_by left x y t ws p ps gs a i z (λ l. alt_read m (ends_out t ys z) l)

    cases_read : {v : List Case} {ts us : List Lexeme} (d : IsCases v ts us) → begins (sort.Only class.CaseBar) us ≡ false → (left : ℕ) → Reads left (cases_levels d) (cases_levels d) (fact_in_cases d) v us (M.cases (M.inside left) left ts)
    cases_read (cases {w = t} {ts = ts} {us = us} w c r) e left = cases_by (M.inside left) left t ts (more_cases_levels r) w (case_read c left) (λ y b h. more_cases_read r e left b h us (omega arith))

    more_cases_read : {v zs : List Case} {ts us : List Lexeme} (d : IsMoreCases v ts us) → begins (sort.Only class.CaseBar) us ≡ false → (left : ℕ) {n : ℕ} {o : Option Pos} {y : Levelled (List Case)} → n ≤ left → Holds n o zs y
        → (steps : List Lexeme) → length ts ≤ length steps
        → Reads left (max n (more_cases_levels d)) (max n (more_cases_levels d)) (first_of o (fact_in_more_cases d)) (zs ++ v) us
        (M.joins (begins (sort.Only class.CaseBar)) (λ vs. M.case (M.inside left) left (behind vs)) (λ xs x us. got (M.more xs x) us) y steps ts)
    more_cases_read {zs = zs} {us = us} no_more_cases e left {n = n} {o = o} {y = y} b h steps l = rw (max-zero n, first_with o, append-nil zs) (fits y b h (joins_stop (begins (sort.Only class.CaseBar)) (λ vs. M.case (M.inside left) left (behind vs)) (λ xs x us. got (M.more xs x) us) y steps us e))
    more_cases_read (more_cases w c r) e left b h [] l = absurd (omega (arith, l, len_IsCase law c))
    more_cases_read {zs = zs} (more_cases {b = t} {c = v} {cs = vs} {ts = ts} w c r) e left {n = n} {o = o} b h (s ∷ steps) l =
        moved (max_assoc n (case_levels c) (more_cases_levels r)) (first_assoc o (fact_in_case c) (fact_in_more_cases r)) (append_assoc zs (v ∷ []) vs)
        (listed (begins (sort.Only class.CaseBar)) (λ vs. M.case (M.inside left) left (behind vs)) (t ∷ ts) s steps w h (case_read c left)
        (omega (arith, le-max_right n (case_levels c), le-max_left (max n (case_levels c)) (more_cases_levels r)))
        (λ w2 c2 i. more_cases_read r e left (max-le b c2) i steps (omega (arith, l, len_IsCase law c))))
