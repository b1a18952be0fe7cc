-- Facts in methods are read as the forms say, or passed over.
use Rattle.std.proofs.Common.{◌≡◌, ℕ, ◌<◌, ◌+◌, ◌-◌, Bool, true, false, List, [], ◌∷◌, refl, ◌∙◌, arith}
use Rattle.std.proofs.lemmas.Bool.Decides.{nat_tests}
use Rattle.std.specs.Prelude.{◌||◌, nat_lt}
use Rattle.iv_recogniser.specs.declared.class.Class.TheVariants as class
use Rattle.iv_recogniser.specs.declared.class.Sort.{Sort}
use Rattle.iv_recogniser.specs.declared.class.Sort.TheVariants as sort
use Rattle.iv_recogniser.specs.Class.{has}
use Rattle.iv_forms.specs.declared.fact.Sel.{Sel}
use Rattle.iv_forms.specs.declared.fact.Mark.{Mark}
use Rattle.iv_forms.specs.declared.fact.Where.{Where}
use Rattle.iv_forms.specs.declared.fact.TermPlace.{TermPlace}
use Rattle.iv_forms.specs.declared.fact.Fact.{Fact}
use Rattle.iv_forms.specs.declared.fact.Att.{Att}
use Rattle.iv_forms.specs.declared.fact.Place.{Place}
use Rattle.iv_forms.specs.declared.lexeme.Lexeme.{Lexeme}
use Rattle.iv_forms.specs.Lexeme.{Is}
use Rattle.iv_forms.specs.FactForm.{IsSel, one, range, IsMoreSels, no_more_sels, more_sels, IsSels, no_sels, sels, IsMark, no_mark, strong, weak, IsTermPlace, term_hole, term_given, IsTermPlaces, no_term_places, term_places, IsWhere, where_is, IsMoreWheres, no_more_wheres, more_wheres, IsFact, fact, IsOptAtts, no_atts, some_atts, IsAtts, atts, IsMoreAtts, no_more_atts, more_atts, IsAtt, of_facts, then_fact, of_terms, where_are, att_name, IsPlace, fact_hole, fact_given, IsPlaces, no_places, places, IsMoreFacts, no_more_facts, more_facts, and_facts, IsFacts, facts}
use Rattle.iv_facts.specs.Found.{begins}
use Rattle.iv_readmethod.specs.Methods.{past, brackets, stays}
use Rattle.iv_facts.specs.Facts.{goes_fact}
use Rattle.iv_readmethod.proofs.PatternsRead.{and_false}
use Rattle.iv_readmethod.specs.Laws.{Below}
use Rattle.iv_facts.specs.Laws.{clear}

-- what stands behind facts in a method: no selection, no attributes, no further fact and no `:`
pub record Closed (us : List Lexeme) : Type 0 where
  pub open_ : begins (sort.Only class.Open) us ≡ false
  pub left : begins (sort.Only class.Left) us ≡ false
  pub colon : begins (sort.Only class.Colon) us ≡ false
  pub goes : goes_fact us ≡ false

positive : (n : ℕ) → 0 < n → nat_lt 0 n ≡ true
positive n b = grind (arith, nat_tests)

or_by : (a : Bool) {b : Bool} → b ≡ true → (a || b) ≡ true
or_by true e = refl
or_by false e = e

step : (n m : ℕ) (t : Lexeme) (ts : List Lexeme) → stays n (t ∷ ts) ≡ true → brackets n t.class ≡ m → past n (t ∷ ts) ≡ past m ts
unfolding past
step n m t ts s b = rw (s, b) refl

within_brackets : (n : ℕ) (ts : List Lexeme) → 0 < n → stays n ts ≡ true
unfolding stays
within_brackets n ts b = rw (positive n b) refl

-- tokens are passed over, from so many open brackets to so many
data Skips (n m : ℕ) (ts us : List Lexeme) : Type 0 where
  skips : past n ts ≡ past m us → Skips n m ts us

and_then : {a b c : ℕ} {ts us vs : List Lexeme} → Skips a b ts us → Skips b c us vs → Skips a c ts vs
and_then (skips e) (skips f) = skips (e ∙ f)

skipped : {a b : ℕ} {ts us : List Lexeme} → Skips a b ts us → past a ts ≡ past b us
skipped (skips e) = e

opened_paren : (n : ℕ) (a : Lexeme) (ts : List Lexeme) → Is (sort.Only class.Open) a → Skips n (n + 1) (a ∷ ts) ts
unfolding stays brackets
opened_paren n a ts h = skips (step n (n + 1) a ts (or_by (nat_lt 0 n) (rw h refl)) (rw h refl))

opened_bracket : (n : ℕ) (a : Lexeme) (ts : List Lexeme) → Is (sort.Only class.Left) a → Skips n (n + 1) (a ∷ ts) ts
unfolding stays brackets
opened_bracket n a ts h = skips (step n (n + 1) a ts (or_by (nat_lt 0 n) (or_by (begins (sort.Only class.Open) (a ∷ ts)) (rw h refl))) (rw (or_by (has (sort.Only class.Open) a.class) h) refl))

one_less : (n : ℕ) → n + 1 - 1 ≡ n
one_less n = omega arith

module _ (law : Below) where
  -- tokens that are no brackets
  plain : (l : Sort) → clear (sort.Only class.Open) l ≡ true → clear (sort.Only class.Left) l ≡ true → clear (sort.Only class.Close) l ≡ true → clear (sort.Only class.Right) l ≡ true → (t : Lexeme) → Is l t → (n : ℕ) → brackets n t.class ≡ n
  unfolding brackets
  plain l o f c r t h n = rw (law.sets.apart (sort.Only class.Open) l o t.class h, law.sets.apart (sort.Only class.Left) l f t.class h, law.sets.apart (sort.Only class.Close) l c t.class h, law.sets.apart (sort.Only class.Right) l r t.class h) refl

  pass : (l : Sort) → clear (sort.Only class.Open) l ≡ true → clear (sort.Only class.Left) l ≡ true → clear (sort.Only class.Close) l ≡ true → clear (sort.Only class.Right) l ≡ true → {t : Lexeme} {ts : List Lexeme} → Is l t → (n : ℕ) → 0 < n
      → Skips n n (t ∷ ts) ts
  pass l o f c r {t = t} {ts = ts} h n b = skips (step n n t ts (within_brackets n (t ∷ ts) b) (plain l o f c r t h n))

  closed_paren : (n : ℕ) (c : Lexeme) (ts : List Lexeme) → Is (sort.Only class.Close) c → Skips (n + 1) n (c ∷ ts) ts
  unfolding brackets
  closed_paren n c ts h =
      skips (step (n + 1) n c ts (within_brackets (n + 1) (c ∷ ts) (omega arith)) (rw (law.sets.apart (sort.Only class.Open) (sort.Only class.Close) refl c.class h, law.sets.apart (sort.Only class.Left) (sort.Only class.Close) refl c.class h, h) (one_less n)))

  closed_bracket : (n : ℕ) (c : Lexeme) (ts : List Lexeme) → Is (sort.Only class.Right) c → Skips (n + 1) n (c ∷ ts) ts
  unfolding brackets
  closed_bracket n c ts h =
      skips (step (n + 1) n c ts (within_brackets (n + 1) (c ∷ ts) (omega arith))
      (rw (law.sets.apart (sort.Only class.Open) (sort.Only class.Right) refl c.class h, law.sets.apart (sort.Only class.Left) (sort.Only class.Right) refl c.class h, law.sets.apart (sort.Only class.Close) (sort.Only class.Right) refl c.class h, h) (one_less n)))

  past_sel : {s : Sel} {ts us : List Lexeme} → IsSel s ts us → (n : ℕ) → 0 < n → Skips n n ts us
  past_sel (one h) n b = pass sort.Numeral refl refl refl refl h n b
  past_sel (range h d m) n b = and_then (pass sort.Numeral refl refl refl refl h n b) (and_then (pass (sort.Only class.Minus) refl refl refl refl d n b) (pass sort.Numeral refl refl refl refl m n b))

  past_more_sels : {ss : List Sel} {ts us : List Lexeme} → IsMoreSels ss ts us → (n : ℕ) → 0 < n → Skips n n ts us
  past_more_sels no_more_sels n b = skips refl
  past_more_sels (more_sels c s r) n b = and_then (pass (sort.Only class.Comma) refl refl refl refl c n b) (and_then (past_sel s n b) (past_more_sels r n b))

  past_sels : {ss : List Sel} {ts us : List Lexeme} → IsSels ss ts us → (n : ℕ) → Skips n n ts us
  past_sels no_sels n = skips refl
  past_sels (sels a s m b) n =
      let up : 0 < n + 1 = omega arith in
      and_then (opened_paren n _ _ a) (and_then (past_sel s (n + 1) up) (and_then (past_more_sels m (n + 1) up) (closed_paren n _ _ b)))

  past_mark : {m : Mark} {ts us : List Lexeme} → IsMark m ts us → (n : ℕ) → 0 < n → Skips n n ts us
  past_mark no_mark n b = skips refl
  past_mark (strong e) n b = pass (sort.Only class.Exclamation) refl refl refl refl e n b
  past_mark (weak q) n b = pass (sort.Only class.Question) refl refl refl refl q n b

  past_term_place : {p : TermPlace} {ts us : List Lexeme} → IsTermPlace p ts us → (n : ℕ) → 0 < n → Skips n n ts us
  past_term_place (term_hole d) n b = pass (sort.Only class.Dummy) refl refl refl refl d n b
  past_term_place (term_given t) n b = pass sort.Term refl refl refl refl t n b

  past_term_places : {ps : List TermPlace} {ts us : List Lexeme} → IsTermPlaces ps ts us → (n : ℕ) → 0 < n → Skips n n ts us
  past_term_places no_term_places n b = skips refl
  past_term_places (term_places p ps) n b = and_then (past_term_place p n b) (past_term_places ps n b)

  past_where : {e : Where} {ts us : List Lexeme} → IsWhere e ts us → (n : ℕ) → 0 < n → Skips n n ts us
  past_where (where_is x e t) n b = and_then (pass sort.Identifier refl refl refl refl x n b) (and_then (pass (sort.Only class.Equal) refl refl refl refl e n b) (pass sort.Term refl refl refl refl t n b))

  past_more_wheres : {es : List Where} {ts us : List Lexeme} → IsMoreWheres es ts us → (n : ℕ) → 0 < n → Skips n n ts us
  past_more_wheres no_more_wheres n b = skips refl
  past_more_wheres (more_wheres a e r) n b = and_then (pass (sort.Only class.And) refl refl refl refl a n b) (and_then (past_where e n b) (past_more_wheres r n b))

  mutual
    past_fact : {f : Fact} {ts us : List Lexeme} → IsFact f ts us → (n : ℕ) → 0 < n → Skips n n ts us
    past_fact (fact h s a) n b = and_then (pass sort.Name refl refl refl refl h n b) (and_then (past_sels s n) (past_opt_atts a n))

    past_opt_atts : {xs : List Att} {ts us : List Lexeme} → IsOptAtts xs ts us → (n : ℕ) → Skips n n ts us
    past_opt_atts no_atts n = skips refl
    past_opt_atts (some_atts a) n = past_atts a n

    past_atts : {xs : List Att} {ts us : List Lexeme} → IsAtts xs ts us → (n : ℕ) → Skips n n ts us
    past_atts (atts a x r b) n =
        let up : 0 < n + 1 = omega arith in
        and_then (opened_bracket n _ _ a) (and_then (past_att x (n + 1) up) (and_then (past_more_atts r (n + 1) up) (closed_bracket n _ _ b)))

    past_more_atts : {xs : List Att} {ts us : List Lexeme} → IsMoreAtts xs ts us → (n : ℕ) → 0 < n → Skips n n ts us
    past_more_atts no_more_atts n b = skips refl
    past_more_atts (more_atts c x r) n b = and_then (pass (sort.Only class.Comma) refl refl refl refl c n b) (and_then (past_att x n b) (past_more_atts r n b))

    past_att : {x : Att} {ts us : List Lexeme} → IsAtt x ts us → (n : ℕ) → 0 < n → Skips n n ts us
    past_att (of_facts w p ps) n b = and_then (pass (sort.Only class.OfFacts) refl refl refl refl w n b) (and_then (past_place p n b) (past_places ps n b))
    past_att (then_fact w f) n b = and_then (pass (sort.Only class.ThenFact) refl refl refl refl w n b) (past_fact f n b)
    past_att (of_terms w p ps) n b = and_then (pass (sort.Only class.OfTerms) refl refl refl refl w n b) (and_then (past_term_place p n b) (past_term_places ps n b))
    past_att (where_are w e es) n b = and_then (pass (sort.Only class.Where) refl refl refl refl w n b) (and_then (past_where e n b) (past_more_wheres es n b))
    past_att (att_name h m) n b = and_then (pass sort.Name refl refl refl refl h n b) (past_mark m n b)

    past_place : {p : Place} {ts us : List Lexeme} → IsPlace p ts us → (n : ℕ) → 0 < n → Skips n n ts us
    past_place (fact_hole d) n b = pass (sort.Only class.Dummy) refl refl refl refl d n b
    past_place (fact_given f) n b = past_fact f n b

    past_places : {ps : List Place} {ts us : List Lexeme} → IsPlaces ps ts us → (n : ℕ) → 0 < n → Skips n n ts us
    past_places no_places n b = skips refl
    past_places (places p ps) n b = and_then (past_place p n b) (past_places ps n b)

  -- a name that isn't an identifier in front of `:` goes on
  goes_name : (n : Lexeme) (ts : List Lexeme) → Is sort.Name n → begins (sort.Only class.Colon) ts ≡ false → goes_fact (n ∷ ts) ≡ true
  unfolding goes_fact
  goes_name n ts h e = rw (e, and_false, h) (or_by (has (sort.Only class.And) n.class) refl)

  stays_out : (ts : List Lexeme) → goes_fact ts ≡ true → stays 0 ts ≡ true
  unfolding stays
  stays_out ts h = or_by (begins (sort.Only class.Open) ts) (or_by (begins (sort.Only class.Left) ts) h)

  past_one : {f : Fact} {ts us : List Lexeme} → IsFact f ts us → begins (sort.Only class.Colon) us ≡ false → past 0 ts ≡ past 0 us
  past_one (fact {n = n} {ts = ts} h s a) e =
      let colon : begins (sort.Only class.Colon) ts ≡ false = law.firsts.sels (sort.Only class.Colon) refl s (law.firsts.opt_atts (sort.Only class.Colon) refl a e) in
      step 0 0 n ts (stays_out (n ∷ ts) (goes_name n ts h colon)) (plain sort.Name refl refl refl refl n h 0) ∙ skipped (past_sels s 0) ∙ skipped (past_opt_atts a 0)

  past_more : {fs : List Fact} {ts us : List Lexeme} → IsMoreFacts fs ts us → begins (sort.Only class.Colon) us ≡ false → past 0 ts ≡ past 0 us
  unfolding goes_fact
  past_more no_more_facts e = refl
  past_more (more_facts f r) e = past_one f (law.firsts.more_facts (sort.Only class.Colon) refl refl r e) ∙ past_more r e
  past_more (and_facts {a = a} {ts = ts} h f r) e =
      step 0 0 a ts (stays_out (a ∷ ts) (rw h refl)) (plain (sort.Only class.And) refl refl refl refl a h 0) ∙ past_one f (law.firsts.more_facts (sort.Only class.Colon) refl refl r e) ∙ past_more r e

  past_end : (us : List Lexeme) → Closed us → past 0 us ≡ us
  unfolding past stays
  past_end [] h = refl
  past_end (t ∷ ts) h = rw (h.open_, h.left, h.goes) refl

  pub past_facts : {fs : List Fact} {ts us : List Lexeme} → IsFacts fs ts us → Closed us → past 0 ts ≡ us
  past_facts {us = us} (facts f r) h = past_one f (law.firsts.more_facts (sort.Only class.Colon) refl refl r h.colon) ∙ past_more r h.colon ∙ past_end us h
