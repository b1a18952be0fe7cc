-- Methods are read as the forms say, where their levels fit; else they are too deep.
use Rattle.std.proofs.Common.{◌≡◌, ◌≤◌, Bool, true, false, List, [], ◌∷◌, ◌++◌, length, refl, arith, append_assoc, append-nil, inl, inr, ◌⊎◌}
use Rattle.std.specs.Prelude.{Option, Some, None, ◌||◌}
use Rattle.iv_text.specs.declared.Pos.{Pos}
use Rattle.iv_recogniser.specs.declared.class.Class.{Class}
use Rattle.iv_recogniser.specs.declared.class.Class.TheVariants as class
use Rattle.iv_recogniser.specs.declared.class.Sort.TheVariants as sort
use Rattle.iv_forms.specs.declared.fact.Sel.{Sel}
use Rattle.iv_forms.specs.declared.fact.Fact.{Fact}
use Rattle.iv_forms.specs.declared.fact.Att.{Att}
use Rattle.iv_forms.specs.declared.method.Section.{Section}
use Rattle.iv_forms.specs.declared.method.Subject.{Subject}
use Rattle.iv_forms.specs.declared.method.Subject.TheVariants as VSubject
use Rattle.iv_forms.specs.declared.method.MethodText.TheVariants as VMethod
use Rattle.iv_forms.specs.declared.lexeme.Lexeme.{Lexeme}
use Rattle.iv_forms.specs.Lexeme.{Is, IsA}
use Rattle.iv_forms.specs.FactForm.{IsSels, sels, IsOptAtts, some_atts, fact, IsMoreFacts, more_facts, and_facts, IsFacts, facts}
use Rattle.iv_forms.specs.MethodForm.{IsSection, section, IsSections, no_sections, sections, IsBeyond, other_name, with_sels, with_atts, with_facts, IsSubject, premises, conclusion, subject_term, subject_facts}
use Rattle.iv_readmethod.specs.declared.levelled.Levelled.{Levelled}
use Rattle.iv_facts.specs.Found.{Found, got, then_, begins, unless_deep}
use Rattle.iv_facts.specs.FactLevels.{first_of, deep_facts}
use Rattle.iv_facts.specs.Facts.{goes_fact}
use Rattle.iv_facts.specs.Facts as F
use Rattle.iv_readmethod.specs.Patterns as P
use Rattle.iv_readmethod.specs.Methods as M
use Rattle.iv_readmethod.specs.MethodLevels.{deep_section, deep_sections, deep_subject}
use Rattle.iv_readmethod.proofs.Joins.{joins_stop}
use Rattle.iv_readmethod.proofs.Lengths.{len_IsSection}
use Rattle.iv_readmethod.proofs.PatternsRead.{and_false}
use Rattle.iv_readmethod.proofs.Ends.{ends, ends_item, free_ends}
use Rattle.iv_readmethod.proofs.MethodFacts.{Closed, past_facts}
use Rattle.iv_readmethod.proofs.Readings.{Holds, holds_flat, holds_mapped, holds_both, first_with, first_assoc}
use Rattle.iv_readmethod.specs.Laws.{Below}
use Rattle.iv_facts.specs.Laws.{clear}

-- a part without levels is read
pub data Noted {A : Type 0} (o : Option Pos) (x : A) (us : List Lexeme) (f : Found (Levelled A)) : Type 0 where
  noted : (y : Levelled A) → Holds 0 o x y → f ≡ got y us → Noted o x us f

noted_flat : {A : Type 0} {x : A} {us : List Lexeme} {f : Found (Levelled A)} → f ≡ got (M.flat x) us → Noted None x us f
noted_flat {x = x} e = noted _ (holds_flat x) e

-- what is read next
next_noted : {A B : Type 0} {o q : Option Pos} {x : A} {z : B} {us vs : List Lexeme} {f : Found (Levelled A)} (next : Levelled A → List Lexeme → Found (Levelled B))
    → Noted o x us f → ((y : Levelled A) → Holds 0 o x y → Noted q z vs (next y us)) → Noted q z vs (then_ f next)
unfolding then_
next_noted next (noted y h e) k = rw e (k y h)

noted_mapped : {A B : Type 0} (f : A → B) {o : Option Pos} {x : A} {us : List Lexeme} {found : Found (Levelled A)} → Noted o x us found → Noted o (f x) us (then_ found (λ y vs. got (M.mapped f y) vs))
noted_mapped f r = next_noted _ r (λ y h. noted (M.mapped f y) (holds_mapped f h) refl)

noted_by : {fs : List Fact} {us : List Lexeme} (ts : List Lexeme) (o : Option Pos) → F.facts ts ≡ unless_deep o fs us → M.past 0 ts ≡ us → Noted o fs us (M.noted_facts ts)
unfolding M.noted_facts M.noted
noted_by ts None e p = rw e (noted_flat refl)
noted_by ts (Some q) e p = rw (e, p) (noted (record { value = []; levels = 0; deep = Some q }) (record { levels = refl; deep = refl; value = λ i. cc }) refl)

or_here : {a : Bool} (b : Bool) → a ≡ true → (a || b) ≡ true
or_here b e = rw e refl

module _ (law : Below) where
  noted_read : {fs : List Fact} {ts us : List Lexeme} (d : IsFacts fs ts us) → Closed us → Noted (deep_facts d) fs us (M.noted_facts ts)
  noted_read {ts = ts} d h = noted_by ts (deep_facts d) (law.facts.facts d h.open_ h.left h.colon h.goes) (past_facts law d h)

  pub closed_ends : (us : List Lexeme) → ends ends_item us ≡ true → Closed us
  unfolding goes_fact
  closed_ends us e = record {
    open_ = free_ends law (sort.Only class.Open) ends_item refl us e;
    left = free_ends law (sort.Only class.Left) ends_item refl us e;
    colon = free_ends law (sort.Only class.Colon) ends_item refl us e;
    goes = rw (free_ends law (sort.Only class.And) ends_item refl us e, free_ends law sort.Name ends_item refl us e) refl;
  }

  closed_sections : {xs : List Section} {ts us : List Lexeme} → IsSections xs ts us → ends ends_item us ≡ true → Closed ts
  unfolding goes_fact
  closed_sections {us = us} no_sections e = closed_ends us e
  closed_sections (sections (section {x = x} n c f) r) e = record {
    open_ = law.sets.apart (sort.Only class.Open) sort.Identifier refl x.class n;
    left = law.sets.apart (sort.Only class.Left) sort.Identifier refl x.class n;
    colon = law.sets.apart (sort.Only class.Colon) sort.Identifier refl x.class n;
    goes = rw (law.sets.apart (sort.Only class.And) sort.Identifier refl x.class n, law.sets.within sort.Identifier sort.Name refl x n, n, c) refl;
  }

  section_read : {x : Section} {ts us : List Lexeme} (d : IsSection x ts us) → Closed us → Noted (deep_section d) x us (M.section ts)
  unfolding M.section then_
  section_read (section {x = x} n c f) h = rw (n, c) (noted_mapped (λ fs. record { name = x.token; facts = fs }) (noted_read f h))

  named_section : {x : Section} {ts us : List Lexeme} → IsSection x ts us → P.named ts ≡ true
  unfolding P.named
  named_section (section n c f) = rw (n, c) refl

  more_sections : {xs zs : List Section} {ts us : List Lexeme} {o : Option Pos} (d : IsSections xs ts us) → ends ends_item us ≡ true → (y : Levelled (List Section)) → Holds 0 o zs y → (steps : List Lexeme) → length ts ≤ length steps
      → Noted (first_of o (deep_sections d)) (zs ++ xs) us (M.joins P.named M.section (λ xs x us. got (M.more xs x) us) y steps ts)
  unfolding M.joins P.named then_
  more_sections {zs = zs} {us = us} {o = o} no_sections e y h steps b =
      rw (first_with o, append-nil zs) (noted y h (joins_stop P.named M.section (λ xs x us. got (M.more xs x) us) y steps us (rw (free_ends law sort.Identifier ends_item refl us e) refl)))
  more_sections (sections x r) e y h [] b = absurd (omega (arith, b, len_IsSection law x))
  more_sections {zs = zs} {us = us} {o = o} (sections {x = v} {xs = vs} x r) e y h (_ ∷ steps) b =
      rw (named_section x, ← first_assoc o (deep_section x) (deep_sections r), ← append_assoc zs (v ∷ []) vs)
      (next_noted (λ x us. M.joins P.named M.section (λ xs x us. got (M.more xs x) us) (M.more y x) steps us) (section_read x (closed_sections r e)) (λ w i. more_sections r e (M.more y w) (holds_both (λ xs x. xs ++ x ∷ []) h i) steps (omega (arith, b, len_IsSection law x))))

  pub sections_read : {xs : List Section} {ts us : List Lexeme} (d : IsSections xs ts us) → ends ends_item us ≡ true → Noted (deep_sections d) xs us (M.sections ts)
  unfolding M.sections M.lists
  sections_read {ts = ts} d e = more_sections d e (M.flat []) (holds_flat []) ts (omega arith)

  pub rule_read : {fs : List Fact} {ts us : List Lexeme} (w : Lexeme) → IsA class.Rule w → (d : IsFacts fs ts us) → Closed us → Noted (deep_facts d) (VMethod.Rule w.token fs) us (M.rule (w ∷ ts))
  unfolding M.rule then_
  rule_read w r d h = rw r (noted_mapped (VMethod.Rule w.token) (noted_read d h))

  -- facts that are more than one word don't stand alone in front of `in`
  beyond : {n : Lexeme} {ss : List Sel} {xs : List Att} {fs : List Fact} {ts us vs ws : List Lexeme} → IsBeyond n ss xs fs → IsSels ss ts us → IsOptAtts xs us vs → IsMoreFacts fs vs ws
      → (Is sort.SubjectName n) ⊎ (begins (sort.Only class.In) ts ≡ false)
  beyond (other_name h) s a r = inl h
  beyond with_sels (sels {a = p} h s m c) a r = inr (law.sets.apart (sort.Only class.In) (sort.Only class.Open) refl p.class h)
  beyond (with_atts x xs) s (some_atts a) r = inr (law.firsts.sels (sort.Only class.In) refl s (law.firsts.atts (sort.Only class.In) refl a))
  beyond with_facts s a (more_facts f r) = inr (law.firsts.sels (sort.Only class.In) refl s (law.firsts.opt_atts (sort.Only class.In) refl a (law.firsts.fact (sort.Only class.In) refl f)))
  beyond with_facts s a (and_facts {a = p} h f r) = inr (law.firsts.sels (sort.Only class.In) refl s (law.firsts.opt_atts (sort.Only class.In) refl a (law.sets.apart (sort.Only class.In) (sort.Only class.And) refl p.class h)))

  not_alone : (c : Class) → clear (sort.Only c) sort.SubjectName ≡ true → (n : Lexeme) (ts : List Lexeme) → (Is sort.SubjectName n) ⊎ (begins (sort.Only class.In) ts ≡ false) → M.alone c (n ∷ ts) ≡ false
  unfolding M.alone
  not_alone c l n ts (inl h) = rw (law.sets.apart (sort.Only c) sort.SubjectName l n.class h) refl
  not_alone c l n ts (inr e) = rw (e, and_false) refl

  closed_in : (us : List Lexeme) → begins (sort.Only class.In) us ≡ true → Closed us
  unfolding goes_fact
  closed_in [] e = record { open_ = refl; left = refl; colon = refl; goes = refl }
  closed_in (t ∷ ts) e = record {
    open_ = law.sets.apart (sort.Only class.Open) (sort.Only class.In) refl t.class e;
    left = law.sets.apart (sort.Only class.Left) (sort.Only class.In) refl t.class e;
    colon = law.sets.apart (sort.Only class.Colon) (sort.Only class.In) refl t.class e;
    goes = rw (law.sets.apart (sort.Only class.And) (sort.Only class.In) refl t.class e, law.sets.apart sort.Name (sort.Only class.In) refl t.class e) refl;
  }

  pub subject_read : {s : Subject} {ts us : List Lexeme} (d : IsSubject s ts us) → begins (sort.Only class.In) us ≡ true → Noted (deep_subject d) s us (M.subject ts)
  unfolding M.subject M.subject_term M.alone then_
  subject_read (premises w) e = rw (w, e) (noted_flat refl)
  subject_read (conclusion {w = t} w) e = rw (law.sets.apart (sort.Only class.Premises) (sort.Only class.Conclusion) refl t.class w, w, e) (noted_flat refl)
  subject_read (subject_term {a = p} a t b) e =
      rw (law.sets.apart (sort.Only class.Premises) (sort.Only class.Open) refl p.class a, law.sets.apart (sort.Only class.Conclusion) (sort.Only class.Open) refl p.class a, a, t, b) (noted_flat refl)
  subject_read {us = us} (subject_facts {n = n} {ts = ts} h s a r b) e =
      rw (not_alone class.Premises refl n ts (beyond b s a r), not_alone class.Conclusion refl n ts (beyond b s a r), law.sets.apart (sort.Only class.Open) sort.Name refl n.class h)
      (noted_mapped VSubject.Facts (noted_read (facts (fact {n = n} h s a) r) (closed_in us e)))
