-- Selections, attributes and facts are read as the forms say.
use Rattle.std.proofs.Common.{◌≡◌, ◌≤◌, ℕ, zero, suc, true, false, List, [], ◌∷◌, ◌++◌, length, refl, sym, ◌∙◌, arith, append_assoc, append-nil, ap}
use Rattle.iv_recogniser.specs.declared.class.Class.TheVariants as class
use Rattle.iv_recogniser.specs.declared.class.Sort.{Sort}
use Rattle.iv_recogniser.specs.declared.class.Sort.TheVariants as sort
use Rattle.iv_recogniser.specs.Class.{has}
use Rattle.iv_forms.specs.declared.fact.Sel.{Sel}
use Rattle.iv_forms.specs.declared.fact.Mark.{Mark}
use Rattle.iv_forms.specs.declared.fact.Where.{Where}
use Rattle.iv_forms.specs.declared.fact.TermPlace.{TermPlace}
use Rattle.iv_forms.specs.declared.fact.Fact.{Fact}
use Rattle.iv_forms.specs.declared.fact.Att.{Att}
use Rattle.iv_forms.specs.declared.fact.Att.TheVariants as VAtt
use Rattle.iv_forms.specs.declared.fact.Place.{Place}
use Rattle.iv_forms.specs.declared.lexeme.Lexeme.{Lexeme}
use Rattle.iv_forms.specs.Lexeme.{Is, IsA}
use Rattle.iv_forms.specs.FactForm.{IsSel, one, range, IsMoreSels, no_more_sels, more_sels, IsSels, no_sels, sels, IsMark, no_mark, strong, weak, IsTermPlace, term_hole, term_given, IsTermPlaces, no_term_places, term_places, IsWhere, where_is, IsMoreWheres, no_more_wheres, more_wheres, IsFact, fact, IsOptAtts, no_atts, some_atts, IsAtts, atts, IsMoreAtts, no_more_atts, more_atts, IsAtt, of_facts, then_fact, of_terms, where_are, att_name, IsPlace, fact_hole, fact_given, IsPlaces, no_places, places, IsMoreFacts, no_more_facts, more_facts, and_facts, IsFacts, facts}
use Rattle.iv_facts.specs.Found.{Found, got, then_, begins, behind, many, unless_deep}
use Rattle.iv_facts.specs.FactLevels.{limit, fact_levels, opt_atts_levels, atts_levels, more_atts_levels, att_levels, place_levels, places_levels, deep_fact, deep_more_facts, deep_facts}
use Rattle.iv_facts.specs.Facts as F
use Rattle.iv_facts.proofs.Steps.{many_stop}
use Rattle.iv_facts.proofs.Held.{Held, plain, both, after, same_value, one_up, none_left, limited, then_unless, no_and, or_so}
use Rattle.iv_facts.specs.Laws.{clear}
use Rattle.iv_facts.proofs.Sorts.{Law, apart}
use Rattle.iv_facts.proofs.Lengths.{len_IsSel, len_IsTermPlace, len_IsWhere, len_IsAtt, len_IsPlace, len_IsFact}
use Rattle.iv_facts.proofs.Firsts.{free_IsMoreSels, free_IsSels, free_IsMark, free_IsOptAtts, free_IsMoreAtts, free_IsFact, free_IsPlaces, free_IsMoreFacts}

module _ (law : Law) where
  pub sel_read : {s : Sel} {ts us : List Lexeme} → IsSel s ts us → begins (sort.Only class.Minus) us ≡ false → F.sel ts ≡ got s us
  unfolding F.sel then_
  sel_read (one h) e = rw (h, e) refl
  sel_read (range h d m) e = rw (h, d, m) refl

  more_sels_read : {ss : List Sel} {ts us : List Lexeme} → IsMoreSels ss ts us → begins (sort.Only class.Comma) us ≡ false → begins (sort.Only class.Minus) us ≡ false
      → (found : List Sel) (steps : List Lexeme) → length ts ≤ length steps → many (begins (sort.Only class.Comma)) (λ us. F.sel (behind us)) found steps ts ≡ got (found ++ ss) us
  unfolding many then_
  more_sels_read {us = us} no_more_sels e m found steps b = many_stop _ _ found steps _ e ∙ ap (λ z. got z us) (sym (append-nil found))
  more_sels_read (more_sels c s r) e m found [] b = absurd (omega (arith, b))
  more_sels_read (more_sels {s = x} {ss = xs} {vs = vs} c s r) e m found (_ ∷ steps) b =
      rw (c, sel_read s (free_IsMoreSels law (sort.Only class.Minus) refl r m))
      (more_sels_read r e m (found ++ x ∷ []) steps (omega (arith, b, len_IsSel s)) ∙ ap (λ z. got z vs) (append_assoc found (x ∷ []) xs))

  pub sels_read : {ss : List Sel} {ts us : List Lexeme} → IsSels ss ts us → begins (sort.Only class.Open) us ≡ false → F.sels ts ≡ got ss us
  unfolding F.sels F.more_sels then_
  sels_read no_sels e = rw e refl
  sels_read (sels {b = c} {s = x} {us = us} a s m b) e =
      let minus : has (sort.Only class.Minus) c.class ≡ false = apart law (sort.Only class.Minus) (sort.Only class.Close) refl c.class b in
      let comma : has (sort.Only class.Comma) c.class ≡ false = apart law (sort.Only class.Comma) (sort.Only class.Close) refl c.class b in
      rw (a, sel_read s (free_IsMoreSels law (sort.Only class.Minus) refl m minus), more_sels_read m comma minus (x ∷ []) us (omega (arith)), b) refl

  mark_read : {m : Mark} {ts us : List Lexeme} → IsMark m ts us → begins (sort.Only class.Exclamation) us ≡ false → begins (sort.Only class.Question) us ≡ false → F.mark ts ≡ got m us
  unfolding F.mark
  mark_read no_mark e q = rw (e, q) refl
  mark_read (strong h) e q = rw h refl
  mark_read (weak {q = t} h) e q =
      let other : has (sort.Only class.Exclamation) t.class ≡ false = apart law (sort.Only class.Exclamation) (sort.Only class.Question) refl t.class h in
      rw (other, h) refl

  term_place_read : {p : TermPlace} {ts us : List Lexeme} → IsTermPlace p ts us → F.term_place ts ≡ got p us
  unfolding F.term_place then_
  term_place_read (term_hole h) = rw h refl
  term_place_read (term_given {t = t} h) =
      let other : has (sort.Only class.Dummy) t.class ≡ false = apart law (sort.Only class.Dummy) sort.Term refl t.class h in
      rw (other, h) refl

  term_place_goes : {p : TermPlace} {ts us : List Lexeme} → IsTermPlace p ts us → F.goes_term_place ts ≡ true
  unfolding F.goes_term_place
  term_place_goes (term_hole h) = rw h refl
  term_place_goes (term_given {t = t} h) = or_so (has (sort.Only class.Dummy) t.class) h

  term_places_read : {ps : List TermPlace} {ts us : List Lexeme} → IsTermPlaces ps ts us → F.goes_term_place us ≡ false → (found : List TermPlace) (steps : List Lexeme) → length ts ≤ length steps
      → many F.goes_term_place F.term_place found steps ts ≡ got (found ++ ps) us
  unfolding many then_
  term_places_read {us = us} no_term_places e found steps b = many_stop _ _ found steps _ e ∙ ap (λ z. got z us) (sym (append-nil found))
  term_places_read (term_places p r) e found [] b = absurd (omega (arith, b, len_IsTermPlace p))
  term_places_read (term_places {p = x} {ps = xs} {vs = vs} p r) e found (_ ∷ steps) b =
      rw (term_place_goes p, term_place_read p)
      (term_places_read r e (found ++ x ∷ []) steps (omega (arith, b, len_IsTermPlace p)) ∙ ap (λ z. got z vs) (append_assoc found (x ∷ []) xs))

  where_read : {x : Where} {ts us : List Lexeme} → IsWhere x ts us → F.where_ ts ≡ got x us
  unfolding F.where_ then_
  where_read (where_is x e t) = rw (x, e, t) refl

  more_wheres_read : {es : List Where} {ts us : List Lexeme} → IsMoreWheres es ts us → begins (sort.Only class.And) us ≡ false → (found : List Where) (steps : List Lexeme) → length ts ≤ length steps
      → many (begins (sort.Only class.And)) (λ us. F.where_ (behind us)) found steps ts ≡ got (found ++ es) us
  unfolding many then_
  more_wheres_read {us = us} no_more_wheres e found steps b = many_stop _ _ found steps _ e ∙ ap (λ z. got z us) (sym (append-nil found))
  more_wheres_read (more_wheres c s r) e found [] b = absurd (omega (arith, b))
  more_wheres_read (more_wheres {e = x} {es = xs} {vs = vs} c s r) e found (_ ∷ steps) b =
      rw (c, where_read s)
      (more_wheres_read r e (found ++ x ∷ []) steps (omega (arith, b, len_IsWhere s)) ∙ ap (λ z. got z vs) (append_assoc found (x ∷ []) xs))

  wheres_read : {x : Where} {es : List Where} {ts us vs : List Lexeme} → IsWhere x ts us → IsMoreWheres es us vs → begins (sort.Only class.And) vs ≡ false → F.wheres ts ≡ got (x ∷ es) vs
  unfolding F.wheres F.more_wheres then_
  wheres_read {x = x} {us = us} s r e = rw (where_read s, more_wheres_read r e (x ∷ []) us (omega arith)) refl

  goes_term_place_not : (us : List Lexeme) → begins (sort.Only class.Dummy) us ≡ false → begins sort.Term us ≡ false → F.goes_term_place us ≡ false
  unfolding F.goes_term_place
  goes_term_place_not us d t = rw (d, t) refl

  goes_place_not : (us : List Lexeme) → begins (sort.Only class.Dummy) us ≡ false → begins sort.Name us ≡ false → F.goes_place us ≡ false
  unfolding F.goes_place
  goes_place_not us d n = rw (d, n) refl

  named_att_read : (n : Lexeme) {m : Mark} {ts us : List Lexeme} → Is sort.Name n → IsMark m ts us → begins (sort.Only class.Exclamation) us ≡ false → begins (sort.Only class.Question) us ≡ false
      → F.named_att (n ∷ ts) ≡ got (VAtt.Name n.token m) us
  unfolding F.named_att then_
  named_att_read t n m e q = rw (n, mark_read m e q) refl

  -- what stands behind an attribute is of no set that has neither `,` nor `]`
  abbrev Ends : List Lexeme → Type 0
  Ends us = (k : Sort) → clear k (sort.Only class.Comma) ≡ true → clear k (sort.Only class.Right) ≡ true → begins k us ≡ false

  ends : {xs : List Att} {b : Lexeme} {us vs : List Lexeme} → IsMoreAtts xs us (b ∷ vs) → IsA class.Right b → Ends us
  ends {b = b} m h k p q = free_IsMoreAtts law k p m (apart law k (sort.Only class.Right) q b.class h)

  -- where a reader of facts finds them by their levels
  abbrev Finds : (List Lexeme → Found Fact) → ℕ → Type 0
  Finds reader left = (f : Fact) (ts us : List Lexeme) (d : IsFact f ts us) → begins (sort.Only class.Open) us ≡ false → begins (sort.Only class.Left) us ≡ false → Held left (fact_levels d) f us (reader ts)

  -- and one of attributes behind `[`
  abbrev FindsAtts : (List Lexeme → Found (List Att)) → ℕ → Type 0
  FindsAtts inside left = (xs : List Att) (ts us : List Lexeme) (d : IsAtts xs ts us) → Held left (atts_levels d) xs us (inside (behind ts))

  pub fact_begins : {f : Fact} {ts us : List Lexeme} → IsFact f ts us → begins sort.Name ts ≡ true
  fact_begins (fact n s a) = n

  pub atts_begin : {xs : List Att} {ts us : List Lexeme} → IsAtts xs ts us → begins (sort.Only class.Left) ts ≡ true
  atts_begin (atts a x r b) = a

  place_goes : {p : Place} {ts us : List Lexeme} → IsPlace p ts us → F.goes_place ts ≡ true
  unfolding F.goes_place
  place_goes (fact_hole h) = rw h refl
  place_goes {ts = ts} (fact_given f) = or_so (begins (sort.Only class.Dummy) ts) (fact_begins f)

  place_held : (reader : List Lexeme → Found Fact) (left : ℕ) → Finds reader left → {p : Place} {ts us : List Lexeme} (d : IsPlace p ts us)
      → begins (sort.Only class.Open) us ≡ false → begins (sort.Only class.Left) us ≡ false → Held left (place_levels d) p us (F.place_with reader ts)
  unfolding F.place_with then_
  place_held reader left finds (fact_hole h) o l = plain (rw h refl)
  place_held reader left finds {ts = ts} (fact_given f) o l =
      let other : begins (sort.Only class.Dummy) ts ≡ false = free_IsFact law (sort.Only class.Dummy) refl f in
      rw other (after _ (finds _ _ _ f o l) refl)

  places_held : (reader : List Lexeme → Found Fact) (left : ℕ) → Finds reader left → {ps : List Place} {ts us : List Lexeme} (d : IsPlaces ps ts us)
      → begins (sort.Only class.Open) us ≡ false → begins (sort.Only class.Left) us ≡ false → F.goes_place us ≡ false → (found : List Place) (steps : List Lexeme) → length ts ≤ length steps
      → Held left (places_levels d) (found ++ ps) us (many F.goes_place (F.place_with reader) found steps ts)
  unfolding many
  places_held reader left finds {us = us} no_places o l g found steps b = plain (many_stop _ _ found steps _ g ∙ ap (λ z. got z us) (sym (append-nil found)))
  places_held reader left finds (places p r) o l g found [] b = absurd (omega (arith, b, len_IsPlace p))
  places_held reader left finds (places {p = x} {ps = xs} p r) o l g found (_ ∷ steps) b =
      rw (place_goes p)
      (both _ (place_held reader left finds p (free_IsPlaces law (sort.Only class.Open) refl refl r o) (free_IsPlaces law (sort.Only class.Left) refl refl r l))
      (same_value (append_assoc found (x ∷ []) xs) (places_held reader left finds r o l g (found ++ x ∷ []) steps (omega (arith, b, len_IsPlace p)))))

  att_held : (reader : List Lexeme → Found Fact) (left : ℕ) → Finds reader left → {x : Att} {ts us : List Lexeme} (d : IsAtt x ts us) → Ends us → Held left (att_levels d) x us (F.att_with reader ts)
  unfolding F.att_with F.places_with F.term_places then_
  att_held reader left finds {us = us} (of_facts {p = x} {ps = xs} {ts = ts} w p r) e =
      let dummy : begins (sort.Only class.Dummy) us ≡ false = e (sort.Only class.Dummy) refl refl in
      let name : begins sort.Name us ≡ false = e sort.Name refl refl in
      rw (w, place_goes p)
      (after _ (places_held reader left finds (places p r) (e (sort.Only class.Open) refl refl) (e (sort.Only class.Left) refl refl) (goes_place_not us dummy name) [] ts (omega arith)) refl)
  att_held reader left finds {us = us} (then_fact {w = t} {ts = ts} w f) e =
      let other : has (sort.Only class.OfFacts) t.class ≡ false = apart law (sort.Only class.OfFacts) (sort.Only class.ThenFact) refl t.class w in
      rw (other, w, fact_begins f) (after _ (finds _ _ _ f (e (sort.Only class.Open) refl refl) (e (sort.Only class.Left) refl refl)) refl)
  att_held reader left finds {us = us} (of_terms {w = t} {p = x} {ps = xs} {ts = ts} w p r) e =
      let other : has (sort.Only class.OfFacts) t.class ≡ false = apart law (sort.Only class.OfFacts) (sort.Only class.OfTerms) refl t.class w in
      let then_other : has (sort.Only class.ThenFact) t.class ≡ false = apart law (sort.Only class.ThenFact) (sort.Only class.OfTerms) refl t.class w in
      let dummy : begins (sort.Only class.Dummy) us ≡ false = e (sort.Only class.Dummy) refl refl in
      let term : begins sort.Term us ≡ false = e sort.Term refl refl in
      plain (rw (other, then_other, w, term_place_goes p, term_places_read (term_places p r) (goes_term_place_not us dummy term) [] ts (omega arith)) refl)
  att_held reader left finds {us = us} (where_are {w = t} w s r) e =
      let other : has (sort.Only class.OfFacts) t.class ≡ false = apart law (sort.Only class.OfFacts) (sort.Only class.Where) refl t.class w in
      let then_other : has (sort.Only class.ThenFact) t.class ≡ false = apart law (sort.Only class.ThenFact) (sort.Only class.Where) refl t.class w in
      let of_other : has (sort.Only class.OfTerms) t.class ≡ false = apart law (sort.Only class.OfTerms) (sort.Only class.Where) refl t.class w in
      plain (rw (other, then_other, of_other, w, wheres_read s r (e (sort.Only class.And) refl refl)) refl)
  att_held reader left finds {us = us} (att_name {n = t} {ts = ts} n m) e =
      let dummy : begins (sort.Only class.Dummy) ts ≡ false = free_IsMark law (sort.Only class.Dummy) refl refl m (e (sort.Only class.Dummy) refl refl) in
      let name : begins sort.Name ts ≡ false = free_IsMark law sort.Name refl refl m (e sort.Name refl refl) in
      let term : begins sort.Term ts ≡ false = free_IsMark law sort.Term refl refl m (e sort.Term refl refl) in
      let where_other : has (sort.Only class.Where) t.class ≡ false = apart law (sort.Only class.Where) sort.Name refl t.class n in
      plain
      (rw (
        no_and (has (sort.Only class.OfFacts) t.class) (goes_place_not ts dummy name),
        no_and (has (sort.Only class.ThenFact) t.class) name,
        no_and (has (sort.Only class.OfTerms) t.class) (goes_term_place_not ts dummy term),
        where_other,
      )
      (named_att_read t n m (e (sort.Only class.Exclamation) refl refl) (e (sort.Only class.Question) refl refl)))

  more_atts_held : (reader : List Lexeme → Found Fact) (left : ℕ) → Finds reader left → {xs : List Att} {b : Lexeme} {ts us : List Lexeme} (d : IsMoreAtts xs ts (b ∷ us)) → IsA class.Right b
      → (found : List Att) (steps : List Lexeme) → length ts ≤ length steps
      → Held left (more_atts_levels d) (found ++ xs) (b ∷ us) (many (begins (sort.Only class.Comma)) (λ us. F.att_with reader (behind us)) found steps ts)
  unfolding many
  more_atts_held reader left finds {b = t} {us = us} no_more_atts h found steps b =
      let comma : has (sort.Only class.Comma) t.class ≡ false = apart law (sort.Only class.Comma) (sort.Only class.Right) refl t.class h in
      plain (many_stop _ _ found steps _ comma ∙ ap (λ z. got z (t ∷ us)) (sym (append-nil found)))
  more_atts_held reader left finds (more_atts c x r) h found [] b = absurd (omega (arith, b))
  more_atts_held reader left finds (more_atts {x = y} {xs = ys} c x r) h found (_ ∷ steps) b =
      rw c
      (both _ (att_held reader left finds x (ends r h))
      (same_value (append_assoc found (y ∷ []) ys) (more_atts_held reader left finds r h (found ++ y ∷ []) steps (omega (arith, b, len_IsAtt x)))))

  atts_held : (reader : List Lexeme → Found Fact) (left : ℕ) → Finds reader left → (xs : List Att) (ts us : List Lexeme) (d : IsAtts xs ts us) → Held (suc left) (atts_levels d) xs us (F.atts_with reader (behind ts))
  unfolding F.atts_with F.more_atts_with then_
  atts_held reader left finds _ _ _ (atts {x = y} {us = us} a x r b) =
      one_up (both _ (att_held reader left finds x (ends r b)) (after _ (more_atts_held reader left finds r b (y ∷ []) us (omega arith)) (rw b refl)))

  opt_atts_held : (inside : List Lexeme → Found (List Att)) (left : ℕ) → FindsAtts inside left → {xs : List Att} {ts us : List Lexeme} (d : IsOptAtts xs ts us) → begins (sort.Only class.Left) us ≡ false
      → Held left (opt_atts_levels d) xs us (F.opt_atts_with inside ts)
  unfolding F.opt_atts_with
  opt_atts_held inside left finds no_atts e = plain (rw e refl)
  opt_atts_held inside left finds (some_atts {xs = xs} {ts = ts} {us = us} d) e = rw (atts_begin d) (finds xs ts us d)

  fact_held : (inside : List Lexeme → Found (List Att)) (left : ℕ) → FindsAtts inside left → Finds (F.fact_with inside) left
  unfolding F.fact_with then_
  fact_held inside left finds _ _ _ (fact n s a) o l =
      rw (n, sels_read s (free_IsOptAtts law (sort.Only class.Open) refl a o)) (after _ (opt_atts_held inside left finds a l) refl)

  inside_held : (left : ℕ) → FindsAtts (F.inside left) left
  unfolding F.inside
  inside_held zero _ _ _ (atts {ts = ts} a x r b) = none_left ts
  inside_held (suc left) xs ts us d = atts_held (F.fact_with (F.inside left)) left (fact_held (F.inside left) left (inside_held left)) xs ts us d

  pub fact_read : (left : ℕ) {f : Fact} {ts us : List Lexeme} (d : IsFact f ts us) → begins (sort.Only class.Open) us ≡ false → begins (sort.Only class.Left) us ≡ false
      → Held left (fact_levels d) f us (F.fact left ts)
  unfolding F.fact
  fact_read left d o l = fact_held (F.inside left) left (inside_held left) _ _ _ d o l

  pub opt_atts_read : (left : ℕ) {xs : List Att} {ts us : List Lexeme} (d : IsOptAtts xs ts us) → begins (sort.Only class.Left) us ≡ false → Held left (opt_atts_levels d) xs us (F.opt_atts left ts)
  unfolding F.opt_atts
  opt_atts_read left d l = opt_atts_held (F.inside left) left (inside_held left) d l

  pub a_fact_read : {f : Fact} {ts us : List Lexeme} (d : IsFact f ts us) → begins (sort.Only class.Open) us ≡ false → begins (sort.Only class.Left) us ≡ false → F.a_fact ts ≡ unless_deep (deep_fact d) f us
  unfolding F.a_fact
  a_fact_read {ts = ts} d o l = limited ts (fact_read limit d o l)

  pub fact_goes : {f : Fact} {ts us : List Lexeme} → IsFact f ts us → begins (sort.Only class.Colon) us ≡ false → F.goes_fact ts ≡ true
  unfolding F.goes_fact
  fact_goes (fact {n = t} n s a) e =
      let colon = free_IsSels law (sort.Only class.Colon) refl s (free_IsOptAtts law (sort.Only class.Colon) refl a e) in
      or_so (has (sort.Only class.And) t.class) (rw (n, no_and (has sort.Identifier t.class) colon) refl)

  and_goes : (a : Lexeme) (ts : List Lexeme) → IsA class.And a → F.goes_fact (a ∷ ts) ≡ true
  unfolding F.goes_fact
  and_goes a ts h = rw h refl

  pub next_fact_read : {f : Fact} {ts us : List Lexeme} (d : IsFact f ts us) → begins (sort.Only class.Open) us ≡ false → begins (sort.Only class.Left) us ≡ false → F.next_fact ts ≡ unless_deep (deep_fact d) f us
  unfolding F.next_fact
  next_fact_read {ts = ts} d o l =
      let other : begins (sort.Only class.And) ts ≡ false = free_IsFact law (sort.Only class.And) refl d in
      rw other (a_fact_read d o l)

  pub more_facts_read : {fs : List Fact} {ts us : List Lexeme} (d : IsMoreFacts fs ts us) → begins (sort.Only class.Open) us ≡ false → begins (sort.Only class.Left) us ≡ false
      → begins (sort.Only class.Colon) us ≡ false → F.goes_fact us ≡ false → (found : List Fact) (steps : List Lexeme) → length ts ≤ length steps
      → many F.goes_fact F.next_fact found steps ts ≡ unless_deep (deep_more_facts d) (found ++ fs) us
  unfolding many F.next_fact
  more_facts_read {us = us} no_more_facts o l c g found steps b = many_stop F.goes_fact F.next_fact found steps us g ∙ ap (λ z. got z us) (sym (append-nil found))
  more_facts_read (more_facts f r) o l c g found [] b = absurd (omega (arith, b, len_IsFact f))
  more_facts_read (more_facts {f = x} {fs = xs} {us = us} {vs = vs} f r) o l c g found (_ ∷ steps) b =
      rw (fact_goes f (free_IsMoreFacts law (sort.Only class.Colon) refl refl r c))
      (then_unless (deep_fact f) (deep_more_facts r) x _ us vs _
      (next_fact_read f (free_IsMoreFacts law (sort.Only class.Open) refl refl r o) (free_IsMoreFacts law (sort.Only class.Left) refl refl r l))
      (more_facts_read r o l c g (found ++ x ∷ []) steps (omega (arith, b, len_IsFact f)) ∙ ap (λ z. unless_deep (deep_more_facts r) z vs) (append_assoc found (x ∷ []) xs)))
  more_facts_read (and_facts a f r) o l c g found [] b = absurd (omega (arith, b))
  more_facts_read (and_facts {a = t} {f = x} {fs = xs} {ts = ts} {us = us} {vs = vs} a f r) o l c g found (_ ∷ steps) b =
      rw (and_goes t ts a, a)
      (then_unless (deep_fact f) (deep_more_facts r) x _ us vs _
      (a_fact_read f (free_IsMoreFacts law (sort.Only class.Open) refl refl r o) (free_IsMoreFacts law (sort.Only class.Left) refl refl r l))
      (more_facts_read r o l c g (found ++ x ∷ []) steps (omega (arith, b, len_IsFact f)) ∙ ap (λ z. unless_deep (deep_more_facts r) z vs) (append_assoc found (x ∷ []) xs)))

  pub facts_read : {fs : List Fact} {ts us : List Lexeme} (d : IsFacts fs ts us) → begins (sort.Only class.Open) us ≡ false → begins (sort.Only class.Left) us ≡ false
      → begins (sort.Only class.Colon) us ≡ false → F.goes_fact us ≡ false → F.facts ts ≡ unless_deep (deep_facts d) fs us
  unfolding F.facts F.more_facts
  facts_read (facts {f = x} {fs = xs} {us = us} {vs = vs} f r) o l c g =
      then_unless (deep_fact f) (deep_more_facts r) x (x ∷ xs) us vs _
      (a_fact_read f (free_IsMoreFacts law (sort.Only class.Open) refl refl r o) (free_IsMoreFacts law (sort.Only class.Left) refl refl r l))
      (more_facts_read r o l c g (x ∷ []) us (omega arith))
