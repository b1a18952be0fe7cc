-- The parts of `method`, notes and obtained names are read as the forms say.
use Rattle.std.proofs.Common.{◌≡◌, ◌≤◌, Bool, true, false, List, [], ◌∷◌, ◌++◌, length, refl, sym, ◌∙◌, arith, append_assoc, append-nil, ap}
use Rattle.std.specs.Prelude.{Option, Some, None}
use Rattle.iv_text.specs.declared.Pos.{Pos}
use Rattle.iv_lex.specs.declared.cutting.Token.{Token}
use Rattle.iv_recogniser.specs.declared.class.Class.TheVariants as class
use Rattle.iv_recogniser.specs.declared.class.Sort.TheVariants as sort
use Rattle.iv_recogniser.specs.Class.{has}
use Rattle.iv_forms.specs.declared.fact.Fact.{Fact}
use Rattle.iv_forms.specs.declared.fact.Att.{Att}
use Rattle.iv_forms.specs.declared.prop.Label.{Label}
use Rattle.iv_forms.specs.declared.prop.Prop.{Prop}
use Rattle.iv_forms.specs.declared.prop.Group.{Group}
use Rattle.iv_forms.specs.declared.prop.VarGroup.{VarGroup}
use Rattle.iv_forms.specs.declared.command.Parts.{Parts}
use Rattle.iv_forms.specs.declared.command.NoteGroup.{NoteGroup}
use Rattle.iv_forms.specs.declared.command.Obtained.{Obtained}
use Rattle.iv_forms.specs.declared.lexeme.Lexeme.{Lexeme}
use Rattle.iv_forms.specs.Lexeme.{Is, IsA, AreAll, no_more, one_more}
use Rattle.iv_forms.specs.FactForm as FF
use Rattle.iv_forms.specs.FactForm.{IsFact, IsOptAtts, IsMoreFacts, IsFacts}
use Rattle.iv_forms.specs.PropForm as PF
use Rattle.iv_forms.specs.PropForm.{IsOptLabel, IsProp, IsMoreProps, IsGroup, IsMoreGroups, IsProps, IsOfType, IsVarGroup, IsMoreVars, IsVars}
use Rattle.iv_forms.specs.CommandForm as C
use Rattle.iv_forms.specs.CommandForm.{IsParts, IsNoteGroup, IsMoreNotes, IsNotes, IsObtained}
use Rattle.iv_facts.specs.declared.props.Named.{Named}
use Rattle.iv_facts.specs.Found.{got, wrong, deep, then_, begins, behind, one, many, fold, unless_deep}
use Rattle.iv_facts.specs.FactLevels.{opt_atts_levels, deep_at, first_of, deep_fact, deep_more_facts, deep_facts}
use Rattle.iv_readpart.specs.CommandLevels.{deep_note_group, deep_more_notes, deep_notes, deep_obtained}
use Rattle.iv_facts.specs.Facts as F
use Rattle.iv_facts.specs.Props as P
use Rattle.iv_readpart.specs.Commands as K
use Rattle.iv_facts.proofs.Steps.{many_stop, fold_stop}
use Rattle.iv_facts.proofs.Held.{then_unless, then_got, or_so}
use Rattle.iv_read.proofs.Lengths.{len_IsNoteGroup}
use Rattle.iv_read.proofs.Firsts as First
use Rattle.iv_read.specs.Laws.{Below}

-- the names of a part, where it is there, and those that were found
abbrev joined : List Token → List Token → List Token
joined xs [] = xs
joined xs (y ∷ ys) = y ∷ ys

joined_none : (xs : List Token) → joined [] xs ≡ xs
joined_none [] = refl
joined_none (x ∷ xs) = refl

abbrev merged : Parts → Parts → Parts
merged p q = record { methods = joined p.methods q.methods; uses = joined p.uses q.uses; declares = joined p.declares q.declares }

-- no token of the set is next
wrong_one : (us : List Lexeme) → begins (sort.Only class.Equal) us ≡ false → one (sort.Only class.Equal) us ≡ wrong
wrong_one [] e = refl
wrong_one (t ∷ ts) e = rw e refl

first_assoc : (p q r : Option Pos) → first_of (first_of p q) r ≡ first_of p (first_of q r)
first_assoc None q r = refl
first_assoc (Some p) q r = refl

twice : (p q r s : Option Pos) → first_of (first_of p q) (first_of (first_of q r) s) ≡ first_of p (first_of (first_of q r) s)
twice None None r s = refl
twice None (Some q) r s = refl
twice (Some p) q r s = refl

module _ (law : Below) where
  parts_from : {q : Parts} {ts us : List Lexeme} → IsParts q ts us → begins sort.Identifier us ≡ false → K.begins_part us ≡ false → (p : Parts) (steps : List Lexeme) → length ts ≤ length steps
      → fold K.begins_part K.part p steps ts ≡ got (merged p q) us
  unfolding fold then_ K.part K.begins_part
  parts_from {us = us} C.no_parts i e p steps b = fold_stop K.begins_part K.part p steps us e
  parts_from (C.methods_part w x xs r z) i e p [] b = absurd (omega (arith, b))
  parts_from (C.uses_part w x xs r z) i e p [] b = absurd (omega (arith, b))
  parts_from (C.declares_part w x xs r z) i e p [] b = absurd (omega (arith, b))
  parts_from (C.methods_part {x = y} {xs = ys} {p = q} w x xs r z) i e p (_ ∷ steps) b =
      rw (w, law.names.some_of sort.Identifier y x xs (First.free_IsParts law sort.Identifier refl refl refl r i))
      (rw (parts_from r i e (record { methods = y.token ∷ ys; uses = p.uses; declares = p.declares }) steps (omega (arith, b, law.lengths.tokens xs)), z) refl)
  parts_from (C.uses_part {w = v} {x = y} {xs = ys} {p = q} w x xs r z) i e p (_ ∷ steps) b =
      rw (law.sets.apart (sort.Only class.Methods) (sort.Only class.Uses) refl v.class w, w, law.names.some_of sort.Identifier y x xs (First.free_IsParts law sort.Identifier refl refl refl r i))
      (rw (parts_from r i e (record { methods = p.methods; uses = y.token ∷ ys; declares = p.declares }) steps (omega (arith, b, law.lengths.tokens xs)), z) refl)
  parts_from (C.declares_part {w = v} {x = y} {xs = ys} {p = q} w x xs r z) i e p (_ ∷ steps) b =
      rw (
        law.sets.apart (sort.Only class.Methods) (sort.Only class.Declares) refl v.class w,
        law.sets.apart (sort.Only class.Uses) (sort.Only class.Declares) refl v.class w,
        w,
        law.names.some_of sort.Identifier y x xs (First.free_IsParts law sort.Identifier refl refl refl r i),
      )
      (rw (parts_from r i e (record { methods = p.methods; uses = p.uses; declares = y.token ∷ ys }) steps (omega (arith, b, law.lengths.tokens xs)), z) refl)

  pub parts_read : {q : Parts} {ts us : List Lexeme} → IsParts q ts us → begins sort.Identifier us ≡ false → K.begins_part us ≡ false → K.parts ts ≡ got q us
  unfolding K.parts
  parts_read {q = q} {ts = ts} d i e = rw (parts_from d i e (record { methods = []; uses = []; declares = [] }) ts (omega (arith)), joined_none q.methods, joined_none q.uses, joined_none q.declares) refl

  -- a name with attributes and no `=` behind it begins no note
  unnamed : (ts us : List Lexeme) (n : Named) (q : Option Pos) → begins (sort.Only class.Equal) us ≡ false → P.named_atts ts ≡ unless_deep q n us → K.begins_note ts ≡ false
  unfolding K.begins_note K.note_name then_
  unnamed ts us n None e g = rw (g, wrong_one us e) refl
  unnamed ts us n (Some p) e g = rw g refl

  no_equal : (n : Lexeme) {xs : List Att} {ts us : List Lexeme} → Is sort.Name n → IsOptAtts xs ts us → begins (sort.Only class.Left) us ≡ false → begins (sort.Only class.Equal) us ≡ false → K.begins_note (n ∷ ts) ≡ false
  no_equal n {ts = ts} {us = us} h a l e = unnamed (n ∷ ts) us _ (deep_at (n ∷ ts) (opt_atts_levels a)) e (law.props.named_atts n h a l)

  no_note : {f : Fact} {ts us : List Lexeme} → IsFact f ts us → begins (sort.Only class.Left) us ≡ false → begins (sort.Only class.Equal) us ≡ false → K.begins_note ts ≡ false
  no_note (FF.fact {n = n} h FF.no_sels a) l e = no_equal n h a l e
  no_note (FF.fact {n = n} h (FF.sels {a = x} o s m c) a) l e =
      no_equal n h FF.no_atts (law.sets.apart (sort.Only class.Left) (sort.Only class.Open) refl x.class o) (law.sets.apart (sort.Only class.Equal) (sort.Only class.Open) refl x.class o)

  -- facts go on behind `and` where no name and `=` stand
  and_goes : (w : Lexeme) (ts : List Lexeme) → IsA class.And w → K.begins_note ts ≡ false → K.goes_noted (w ∷ ts) ≡ true
  unfolding K.goes_noted
  and_goes w ts a n = or_so (has sort.Name w.class) (rw (a, n) refl)

  and_next : (w : Lexeme) (ts : List Lexeme) → IsA class.And w → K.next_noted (w ∷ ts) ≡ F.a_fact ts
  unfolding K.next_noted
  and_next w ts a = rw a refl

  -- what stands behind the facts of a note: nothing that goes on with them, or a name that is too deep
  data Tail (us : List Lexeme) : Option Pos → Type 0 where
    stops : K.goes_noted us ≡ false → Tail us None
    sinks : (p : Pos) → K.goes_noted us ≡ true → K.next_noted us ≡ deep p → Tail us (Some p)

  -- facts go on where one stands
  goes_on : {f : Fact} {ts us : List Lexeme} → IsFact f ts us → K.goes_noted ts ≡ true
  unfolding K.goes_noted
  goes_on (FF.fact h ss a) = rw h refl

  next_noted_read : {f : Fact} {ts us : List Lexeme} (d : IsFact f ts us) → begins (sort.Only class.Open) us ≡ false → begins (sort.Only class.Left) us ≡ false → K.next_noted ts ≡ unless_deep (deep_fact d) f us
  unfolding K.next_noted
  next_noted_read d o l = rw (law.firsts.fact (sort.Only class.And) refl d) (law.facts.fact d o l)

  more_noted_read : {fs : List Fact} {ts us : List Lexeme} (q : Option Pos) (d : IsMoreFacts fs ts us) → begins (sort.Only class.Open) us ≡ false → begins (sort.Only class.Left) us ≡ false → begins (sort.Only class.Equal) us ≡ false
      → Tail us q → (found : List Fact) (steps : List Lexeme) → length ts ≤ length steps → many K.goes_noted K.next_noted found steps ts ≡ unless_deep (first_of (deep_more_facts d) q) (found ++ fs) us
  unfolding many then_ K.goes_noted
  more_noted_read {us = us} None FF.no_more_facts o l e (stops g) found steps b = many_stop K.goes_noted K.next_noted found steps us g ∙ ap (λ z. got z us) (sym (append-nil found))
  more_noted_read {us = []} (Some p) FF.no_more_facts o l e (sinks r g n) found [] b = let bad : false ≡ true = g in cc
  more_noted_read {us = u ∷ us} (Some p) FF.no_more_facts o l e (sinks r g n) found [] b = absurd (omega (arith, b))
  more_noted_read (Some p) FF.no_more_facts o l e (sinks r g n) found (_ ∷ steps) b = rw (g, n) refl
  more_noted_read q (FF.more_facts d r) o l e t found [] b = absurd (omega (arith, b, law.lengths.fact d))
  more_noted_read q (FF.and_facts a d r) o l e t found [] b = absurd (omega (arith, b))
  more_noted_read q (FF.more_facts {f = f} {fs = fs} {us = us} {vs = vs} d r) o l e t found (_ ∷ steps) b =
      rw (goes_on d)
      (then_unless (deep_fact d) (first_of (deep_more_facts r) q) f _ us vs _ (next_noted_read d (law.firsts.more_facts (sort.Only class.Open) refl refl r o) (law.firsts.more_facts (sort.Only class.Left) refl refl r l))
      (more_noted_read q r o l e t (found ++ f ∷ []) steps (omega (arith, b, law.lengths.fact d)) ∙ ap (λ z. unless_deep (first_of (deep_more_facts r) q) z vs) (append_assoc found (f ∷ []) fs))
      ∙ ap (λ z. unless_deep z (found ++ f ∷ fs) vs) (sym (first_assoc (deep_fact d) (deep_more_facts r) q)))
  more_noted_read q (FF.and_facts {a = w} {f = f} {fs = fs} {ts = ts} {us = us} {vs = vs} a d r) o l e t found (_ ∷ steps) b =
      let left : begins (sort.Only class.Left) us ≡ false = law.firsts.more_facts (sort.Only class.Left) refl refl r l in
      let equal : begins (sort.Only class.Equal) us ≡ false = law.firsts.more_facts (sort.Only class.Equal) refl refl r e in
      rw (and_goes w ts a (no_note d left equal))
      (then_unless (deep_fact d) (first_of (deep_more_facts r) q) f _ us vs _ (and_next w ts a ∙ law.facts.fact d (law.firsts.more_facts (sort.Only class.Open) refl refl r o) left)
      (more_noted_read q r o l e t (found ++ f ∷ []) steps (omega (arith, b, law.lengths.fact d)) ∙ ap (λ z. unless_deep (first_of (deep_more_facts r) q) z vs) (append_assoc found (f ∷ []) fs))
      ∙ ap (λ z. unless_deep z (found ++ f ∷ fs) vs) (sym (first_assoc (deep_fact d) (deep_more_facts r) q)))

  noted_read : {fs : List Fact} {ts us : List Lexeme} (q : Option Pos) (d : IsFacts fs ts us) → begins (sort.Only class.Open) us ≡ false → begins (sort.Only class.Left) us ≡ false → begins (sort.Only class.Equal) us ≡ false
      → Tail us q → K.noted ts ≡ unless_deep (first_of (deep_facts d) q) fs us
  unfolding K.noted K.more_noted
  noted_read q (FF.facts {f = f} {fs = fs} {us = us} {vs = vs} d r) o l e t =
      then_unless (deep_fact d) (first_of (deep_more_facts r) q) f (f ∷ fs) us vs _ (law.facts.fact d (law.firsts.more_facts (sort.Only class.Open) refl refl r o) (law.firsts.more_facts (sort.Only class.Left) refl refl r l))
      (more_noted_read q r o l e t (f ∷ []) us (omega (arith)))
      ∙ ap (λ z. unless_deep z (f ∷ fs) vs) (sym (first_assoc (deep_fact d) (deep_more_facts r) q))

  -- the place of a group's name, where it is too deep
  abbrev name_place : {gs : List NoteGroup} {ts us : List Lexeme} → IsMoreNotes gs ts us → Option Pos
  name_place C.no_more_notes = None
  name_place (C.more_notes a (C.note_group {n = n} {ts = ts} h xs e fs) r) = deep_at (n ∷ ts) (opt_atts_levels xs)

  name_first : {gs : List NoteGroup} {ts us : List Lexeme} (p : Option Pos) (d : IsMoreNotes gs ts us) → first_of (first_of p (name_place d)) (deep_more_notes d) ≡ first_of p (deep_more_notes d)
  name_first p C.no_more_notes = first_assoc p None None
  name_first p (C.more_notes a (C.note_group {n = n} {ts = ts} h xs e fs) r) = twice p (deep_at (n ∷ ts) (opt_atts_levels xs)) (deep_facts fs) (deep_more_notes r)

  -- what stands behind the facts of a group: another group, or the end
  named_tail : (w n c : Lexeme) {xs : List Att} {ts us : List Lexeme} (q : Option Pos) → IsA class.And w → Is sort.Name n → (a : IsOptAtts xs ts (c ∷ us)) → IsA class.Equal c → q ≡ deep_at (n ∷ ts) (opt_atts_levels a)
      → P.named_atts (n ∷ ts) ≡ unless_deep q (record { name = n.token; atts = xs }) (c ∷ us) → Tail (w ∷ n ∷ ts) q
  unfolding K.goes_noted K.next_noted K.begins_note K.note_name then_
  named_tail w n c None a h xs e z g = stops (rw (law.sets.apart sort.Name (sort.Only class.And) refl w.class a, a, g, e) refl)
  named_tail w n c {ts = ts} (Some p) a h xs e z g =
      sinks p (rw (law.sets.apart sort.Name (sort.Only class.And) refl w.class a, a, g) refl)
      (rw (a, law.facts.fact (FF.fact {n = n} h FF.no_sels xs) (law.sets.apart (sort.Only class.Open) (sort.Only class.Equal) refl c.class e) (law.sets.apart (sort.Only class.Left) (sort.Only class.Equal) refl c.class e), ← z) refl)

  notes_tail : {gs : List NoteGroup} {ts us : List Lexeme} (d : IsMoreNotes gs ts us) → K.goes_noted us ≡ false → Tail ts (name_place d)
  notes_tail C.no_more_notes g = stops g
  notes_tail (C.more_notes {a = w} a (C.note_group {n = n} {e = c} {ts = ts} h xs e fs) r) g =
      named_tail w n c (deep_at (n ∷ ts) (opt_atts_levels xs)) a h xs e refl (law.props.named_atts n h xs (law.sets.apart (sort.Only class.Left) (sort.Only class.Equal) refl c.class e))

  note_group_read : {g : NoteGroup} {ts us : List Lexeme} (q : Option Pos) (d : IsNoteGroup g ts us) → begins (sort.Only class.Open) us ≡ false → begins (sort.Only class.Left) us ≡ false → begins (sort.Only class.Equal) us ≡ false
      → Tail us q → K.note_group ts ≡ unless_deep (first_of (deep_note_group d) q) g us
  unfolding K.note_group K.note_name then_
  note_group_read q (C.note_group {n = n} {e = c} {xs = xs} {fs = fs} {ts = ts} {us = us} {vs = vs} h a e f) o l k t =
      let left : has (sort.Only class.Left) c.class ≡ false = law.sets.apart (sort.Only class.Left) (sort.Only class.Equal) refl c.class e in
      then_unless (deep_at (n ∷ ts) (opt_atts_levels a)) (first_of (deep_facts f) q) (record { name = n.token; atts = xs }) (record { name = Some n.token; atts = xs; facts = fs }) us vs _
      (then_got (deep_at (n ∷ ts) (opt_atts_levels a)) (record { name = n.token; atts = xs }) (record { name = n.token; atts = xs }) (c ∷ us) us _ (law.props.named_atts n h a left) (rw e refl))
      (then_got (first_of (deep_facts f) q) fs (record { name = Some n.token; atts = xs; facts = fs }) vs vs _ (noted_read q f o l k t) refl)
      ∙ ap (λ z. unless_deep z (record { name = Some n.token; atts = xs; facts = fs }) vs) (sym (first_assoc (deep_at (n ∷ ts) (opt_atts_levels a)) (deep_facts f) q))

  more_notes_read : {gs : List NoteGroup} {ts us : List Lexeme} (d : IsMoreNotes gs ts us) → begins (sort.Only class.Open) us ≡ false → begins (sort.Only class.Left) us ≡ false → begins (sort.Only class.Equal) us ≡ false
      → K.goes_noted us ≡ false → begins (sort.Only class.And) us ≡ false → (found : List NoteGroup) (steps : List Lexeme) → length ts ≤ length steps
      → many (begins (sort.Only class.And)) (λ us. K.note_group (behind us)) found steps ts ≡ unless_deep (deep_more_notes d) (found ++ gs) us
  unfolding many
  more_notes_read {us = us} C.no_more_notes o l k g a found steps b = many_stop (begins (sort.Only class.And)) (λ us. K.note_group (behind us)) found steps us a ∙ ap (λ z. got z us) (sym (append-nil found))
  more_notes_read (C.more_notes h d r) o l k g a found [] b = absurd (omega (arith, b))
  more_notes_read (C.more_notes {g = x} {gs = xs} {us = us} {vs = vs} h d r) o l k g a found (_ ∷ steps) b =
      rw h
      (then_unless (first_of (deep_note_group d) (name_place r)) (deep_more_notes r) x _ us vs _
      (note_group_read (name_place r) d (First.free_IsMoreNotes law (sort.Only class.Open) refl r o) (First.free_IsMoreNotes law (sort.Only class.Left) refl r l) (First.free_IsMoreNotes law (sort.Only class.Equal) refl r k) (notes_tail r g))
      (more_notes_read r o l k g a (found ++ x ∷ []) steps (omega (arith, b, len_IsNoteGroup law d)))
      ∙ (ap (λ z. unless_deep z ((found ++ x ∷ []) ++ xs) vs) (name_first (deep_note_group d) r) ∙ ap (λ z. unless_deep (first_of (deep_note_group d) (deep_more_notes r)) z vs) (append_assoc found (x ∷ []) xs)))

  -- a first group with a name: where the name is too deep, so is the fact of this name
  named_first : (n c : Lexeme) {xs : List Att} {fs : List Fact} {ts us vs : List Lexeme} (p q : Option Pos) (h : Is sort.Name n) (a : IsOptAtts xs ts (c ∷ us)) (e : IsA class.Equal c) (f : IsFacts fs us vs) → p ≡ deep_at (n ∷ ts) (opt_atts_levels a)
      → P.named_atts (n ∷ ts) ≡ unless_deep p (record { name = n.token; atts = xs }) (c ∷ us) → K.note_group (n ∷ ts) ≡ unless_deep (first_of (first_of p (deep_facts f)) q) (record { name = Some n.token; atts = xs; facts = fs }) vs
      → K.first_note (n ∷ ts) ≡ unless_deep (first_of (first_of p (deep_facts f)) q) (record { name = Some n.token; atts = xs; facts = fs }) vs
  unfolding K.first_note K.begins_note K.note_name K.noted then_
  named_first n c None q h a e f z g k = rw (g, e) k
  named_first n c {ts = ts} (Some p) q h a e f z g k =
      rw (g, law.facts.fact (FF.fact {n = n} h FF.no_sels a) (law.sets.apart (sort.Only class.Open) (sort.Only class.Equal) refl c.class e) (law.sets.apart (sort.Only class.Left) (sort.Only class.Equal) refl c.class e), ← z) refl

  bare_first : {fs : List Fact} {ts us : List Lexeme} (q : Option Pos) (f : IsFacts fs ts us) → K.begins_note ts ≡ false → K.noted ts ≡ unless_deep (first_of (deep_facts f) q) fs us
      → K.first_note ts ≡ unless_deep (first_of (deep_facts f) q) (record { name = None; atts = []; facts = fs }) us
  unfolding K.first_note
  bare_first {fs = fs} {us = us} q f n e = rw n (then_got (first_of (deep_facts f) q) fs (record { name = None; atts = []; facts = fs }) us us _ e refl)

  no_note_facts : {fs : List Fact} {ts us : List Lexeme} → IsFacts fs ts us → begins (sort.Only class.Left) us ≡ false → begins (sort.Only class.Equal) us ≡ false → K.begins_note ts ≡ false
  no_note_facts (FF.facts d r) l e = no_note d (law.firsts.more_facts (sort.Only class.Left) refl refl r l) (law.firsts.more_facts (sort.Only class.Equal) refl refl r e)

  pub notes_read : {gs : List NoteGroup} {ts us : List Lexeme} (d : IsNotes gs ts us) → begins (sort.Only class.Open) us ≡ false → begins (sort.Only class.Left) us ≡ false → begins (sort.Only class.Equal) us ≡ false
      → K.goes_noted us ≡ false → begins (sort.Only class.And) us ≡ false → K.notes ts ≡ unless_deep (deep_notes d) gs us
  unfolding K.notes K.more_notes
  notes_read (C.named_notes {g = x} {gs = xs} {us = us} {vs = vs} (C.note_group {n = n} {e = c} {ts = ts} h a e f) r) o l k g b =
      let p : Option Pos = first_of (deep_at (n ∷ ts) (opt_atts_levels a)) (deep_facts f) in
      let open_ : begins (sort.Only class.Open) us ≡ false = First.free_IsMoreNotes law (sort.Only class.Open) refl r o in
      let left : begins (sort.Only class.Left) us ≡ false = First.free_IsMoreNotes law (sort.Only class.Left) refl r l in
      let equal : begins (sort.Only class.Equal) us ≡ false = First.free_IsMoreNotes law (sort.Only class.Equal) refl r k in
      then_unless (first_of p (name_place r)) (deep_more_notes r) x (x ∷ xs) us vs _
      (named_first n c (deep_at (n ∷ ts) (opt_atts_levels a)) (name_place r) h a e f refl (law.props.named_atts n h a (law.sets.apart (sort.Only class.Left) (sort.Only class.Equal) refl c.class e))
      (note_group_read (name_place r) (C.note_group h a e f) open_ left equal (notes_tail r g)))
      (more_notes_read r o l k g b (x ∷ []) us (omega (arith)))
      ∙ ap (λ z. unless_deep z (x ∷ xs) vs) (name_first p r)
  notes_read (C.bare_notes {fs = fs} {gs = xs} {us = us} {vs = vs} f r) o l k g b =
      let left : begins (sort.Only class.Left) us ≡ false = First.free_IsMoreNotes law (sort.Only class.Left) refl r l in
      let equal : begins (sort.Only class.Equal) us ≡ false = First.free_IsMoreNotes law (sort.Only class.Equal) refl r k in
      then_unless (first_of (deep_facts f) (name_place r)) (deep_more_notes r) (record { name = None; atts = []; facts = fs }) (record { name = None; atts = []; facts = fs } ∷ xs) us vs _
      (bare_first (name_place r) f (no_note_facts f left equal) (noted_read (name_place r) f (First.free_IsMoreNotes law (sort.Only class.Open) refl r o) left equal (notes_tail r g)))
      (more_notes_read r o l k g b (record { name = None; atts = []; facts = fs } ∷ []) us (omega (arith)))
      ∙ ap (λ z. unless_deep z (record { name = None; atts = []; facts = fs } ∷ xs) vs) (name_first (deep_facts f) r)

  -- no `::` and no `where` behind the names and `and` with which propositions begin
  ahead_stays : (t : Lexeme) (ts : List Lexeme) → has sort.Identifier t.class ≡ true → K.names_ahead (t ∷ ts) ≡ K.names_ahead ts
  ahead_stays t ts h = rw h refl

  ahead_and : (t : Lexeme) (ts : List Lexeme) → IsA class.And t → K.names_ahead (t ∷ ts) ≡ K.names_ahead ts
  ahead_and t ts h = rw (law.sets.apart sort.Identifier (sort.Only class.And) refl t.class h, h) refl

  ahead_ends : (t : Lexeme) (ts : List Lexeme) → has sort.Identifier t.class ≡ false → has (sort.Only class.And) t.class ≡ false → has (sort.Only class.Colons) t.class ≡ false → has (sort.Only class.Where) t.class ≡ false → K.names_ahead (t ∷ ts) ≡ false
  ahead_ends t ts i a c w = rw (i, a, c, w) refl

  ahead_open : (t : Lexeme) (ts : List Lexeme) → IsA class.Open t → K.names_ahead (t ∷ ts) ≡ false
  ahead_open t ts h =
      ahead_ends t ts (law.sets.apart sort.Identifier (sort.Only class.Open) refl t.class h) (law.sets.apart (sort.Only class.And) (sort.Only class.Open) refl t.class h)
      (law.sets.apart (sort.Only class.Colons) (sort.Only class.Open) refl t.class h) (law.sets.apart (sort.Only class.Where) (sort.Only class.Open) refl t.class h)

  ahead_left : (t : Lexeme) (ts : List Lexeme) → IsA class.Left t → K.names_ahead (t ∷ ts) ≡ false
  ahead_left t ts h =
      ahead_ends t ts (law.sets.apart sort.Identifier (sort.Only class.Left) refl t.class h) (law.sets.apart (sort.Only class.And) (sort.Only class.Left) refl t.class h)
      (law.sets.apart (sort.Only class.Colons) (sort.Only class.Left) refl t.class h) (law.sets.apart (sort.Only class.Where) (sort.Only class.Left) refl t.class h)

  ahead_colon : (t : Lexeme) (ts : List Lexeme) → IsA class.Colon t → K.names_ahead (t ∷ ts) ≡ false
  ahead_colon t ts h =
      ahead_ends t ts (law.sets.apart sort.Identifier (sort.Only class.Colon) refl t.class h) (law.sets.apart (sort.Only class.And) (sort.Only class.Colon) refl t.class h)
      (law.sets.apart (sort.Only class.Colons) (sort.Only class.Colon) refl t.class h) (law.sets.apart (sort.Only class.Where) (sort.Only class.Colon) refl t.class h)

  -- a term is a name, or ends the names
  ahead_term : (t : Lexeme) (ts : List Lexeme) → Is sort.Term t → K.names_ahead ts ≡ false → K.names_ahead (t ∷ ts) ≡ false
  ahead_term t ts h e = by_kind (has sort.Identifier t.class) refl
    where
      by_kind : (b : Bool) → has sort.Identifier t.class ≡ b → K.names_ahead (t ∷ ts) ≡ false
      by_kind true i = ahead_stays t ts i ∙ e
      by_kind false i = ahead_ends t ts i (law.sets.apart (sort.Only class.And) sort.Term refl t.class h) (law.sets.apart (sort.Only class.Colons) sort.Term refl t.class h) (law.sets.apart (sort.Only class.Where) sort.Term refl t.class h)

  ahead_prop : {p : Prop} {ts us : List Lexeme} → IsProp p ts us → K.names_ahead us ≡ false → K.names_ahead ts ≡ false
  ahead_prop (PF.prop {t = t} {ts = ts} h PF.no_patterns) e = ahead_term t ts h e
  ahead_prop (PF.prop {t = t} h (PF.patterns {a = x} {w = v} {t = y} {ts = ts} a w k xs b)) e = ahead_term t (x ∷ v ∷ y ∷ ts) h (ahead_open x (v ∷ y ∷ ts) a)

  ahead_name : (t : Lexeme) (ts : List Lexeme) → Is sort.Name t → K.names_ahead ts ≡ false → K.names_ahead (t ∷ ts) ≡ false
  ahead_name t ts h e = ahead_term t ts (law.sets.within sort.Name sort.Term refl t h) e

  ahead_atts : {xs : List Att} {ts us : List Lexeme} → FF.IsAtts xs ts us → K.names_ahead ts ≡ false
  ahead_atts (FF.atts {a = x} {ts = ts} a y r b) = ahead_left x ts a

  ahead_label : {l : Option Label} {ts us : List Lexeme} → IsOptLabel l ts us → K.names_ahead us ≡ false → K.names_ahead ts ≡ false
  ahead_label PF.no_label e = e
  ahead_label (PF.a_label (PF.named_label {n = n} {c = c} {us = us} h FF.no_atts k)) e = ahead_name n (c ∷ us) h (ahead_colon c us k)
  ahead_label (PF.a_label (PF.named_label {n = n} {ts = ts} h (FF.some_atts a) k)) e = ahead_name n ts h (ahead_atts a)
  ahead_label (PF.a_label (PF.bare_label a k)) e = ahead_atts a

  ahead_more_props : {ps : List Prop} {ts us : List Lexeme} → IsMoreProps ps ts us → K.names_ahead us ≡ false → K.names_ahead ts ≡ false
  ahead_more_props PF.no_more_props e = e
  ahead_more_props (PF.more_props p r) e = ahead_prop p (ahead_more_props r e)

  ahead_group : {g : Group} {ts us : List Lexeme} → IsGroup g ts us → K.names_ahead us ≡ false → K.names_ahead ts ≡ false
  ahead_group (PF.group l p r) e = ahead_label l (ahead_prop p (ahead_more_props r e))

  ahead_more_groups : {gs : List Group} {ts us : List Lexeme} → IsMoreGroups gs ts us → K.names_ahead us ≡ false → K.names_ahead ts ≡ false
  ahead_more_groups PF.no_more_groups e = e
  ahead_more_groups (PF.more_groups {a = w} {ts = ts} a g r) e = ahead_and w ts a ∙ ahead_group g (ahead_more_groups r e)

  ahead_props : {gs : List Group} {ts us : List Lexeme} → IsProps gs ts us → K.names_ahead us ≡ false → K.names_ahead ts ≡ false
  ahead_props (PF.props g r) e = ahead_group g (ahead_more_groups r e)

  -- behind fixed names stands one of them
  ahead_all : {xs : List Token} {ts us : List Lexeme} → AreAll sort.Identifier xs ts us → K.names_ahead us ≡ true → K.names_ahead ts ≡ true
  ahead_all no_more e = e
  ahead_all (one_more {x = x} {ts = ts} h r) e = ahead_stays x ts h ∙ ahead_all r e

  ahead_colons : (t : Lexeme) (ts : List Lexeme) → IsA class.Colons t → K.names_ahead (t ∷ ts) ≡ true
  ahead_colons t ts h = rw (law.sets.apart sort.Identifier (sort.Only class.Colons) refl t.class h, law.sets.apart (sort.Only class.And) (sort.Only class.Colons) refl t.class h, h) refl

  ahead_where : (t : Lexeme) (ts : List Lexeme) → IsA class.Where t → K.names_ahead (t ∷ ts) ≡ true
  ahead_where t ts h =
      rw (law.sets.apart sort.Identifier (sort.Only class.Where) refl t.class h, law.sets.apart (sort.Only class.And) (sort.Only class.Where) refl t.class h, law.sets.apart (sort.Only class.Colons) (sort.Only class.Where) refl t.class h, h) refl

  ahead_type : {t : Option Token} {ts us : List Lexeme} → IsOfType t ts us → K.names_ahead us ≡ true → K.names_ahead ts ≡ true
  ahead_type PF.no_type e = e
  ahead_type (PF.of_type {c = c} {t = t} {ts = ts} h k) e = ahead_colons c (t ∷ ts) h

  ahead_var_group : {g : VarGroup} {ts us : List Lexeme} → IsVarGroup g ts us → K.names_ahead us ≡ true → K.names_ahead ts ≡ true
  ahead_var_group (PF.var_group {x = x} {ts = ts} h xs t) e = ahead_stays x ts h ∙ ahead_all xs (ahead_type t e)

  ahead_more_vars : {gs : List VarGroup} {ts us : List Lexeme} → IsMoreVars gs ts us → K.names_ahead us ≡ true → K.names_ahead ts ≡ true
  ahead_more_vars PF.no_more_vars e = e
  ahead_more_vars (PF.more_vars {a = w} {ts = ts} a g r) e = ahead_and w ts a ∙ ahead_var_group g (ahead_more_vars r e)

  ahead_vars : {gs : List VarGroup} {ts us : List Lexeme} → IsVars gs ts us → K.names_ahead us ≡ true → K.names_ahead ts ≡ true
  ahead_vars (PF.vars g r) e = ahead_var_group g (ahead_more_vars r e)

  pub obtained_read : {o : Obtained} {ts us : List Lexeme} (d : IsObtained o ts us) → K.names_ahead us ≡ false → begins (sort.Only class.Open) us ≡ false → begins sort.Term us ≡ false → begins (sort.Only class.Colon) us ≡ false
      → begins (sort.Only class.Left) us ≡ false → begins (sort.Only class.And) us ≡ false → K.obtained ts ≡ unless_deep (deep_obtained d) o us
  unfolding K.obtained then_
  obtained_read (C.obtained_props {gs = gs} {us = us} d) n o t c e a = rw (ahead_props d n) (then_got (deep_obtained (C.obtained_props d)) gs (record { names = []; props = gs }) us us _ (law.props.props d o t c e a) refl)
  obtained_read (C.obtained_names {xs = xs} {w = v} {gs = gs} {us = us} {vs = vs} x w d) n o t c e a =
      rw (
        ahead_vars x (ahead_where v us w),
        law.names.vars x (law.sets.apart (sort.Only class.Colons) (sort.Only class.Where) refl v.class w) (law.sets.apart sort.Identifier (sort.Only class.Where) refl v.class w) (law.sets.apart (sort.Only class.And) (sort.Only class.Where) refl v.class w),
        w,
      )
      (then_got (deep_obtained (C.obtained_names x w d)) gs (record { names = xs; props = gs }) vs vs _ (law.props.props d o t c e a) refl)
