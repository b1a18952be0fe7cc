-- Forms that are put together of parts.
use Rattle.std.proofs.Common.{◌≡◌, ℕ, List, ◌∷◌, Bool, true, false, refl, inl, inr}
use Rattle.std.specs.Prelude.{Option, Some, None, ◌⊎◌, ◌||◌}
use Rattle.iv_recogniser.specs.declared.class.Class.TheVariants as class
use Rattle.iv_recogniser.specs.declared.class.Sort.TheVariants as sort
use Rattle.iv_recogniser.specs.Class.{same_class}
use Rattle.iv_forms.specs.declared.fact.Mark.TheVariants as VMark
use Rattle.iv_forms.specs.declared.fact.Fact.{Fact}
use Rattle.iv_forms.specs.declared.prop.Label.{Label}
use Rattle.iv_forms.specs.declared.prop.Group.{Group}
use Rattle.iv_forms.specs.declared.method.MethodText.{MethodText}
use Rattle.iv_forms.specs.declared.method.MethodText.TheVariants as VMethod
use Rattle.iv_forms.specs.declared.command.NoteGroup.{NoteGroup}
use Rattle.iv_forms.specs.declared.command.Obtained.{Obtained}
use Rattle.iv_forms.specs.declared.lexeme.Lexeme.{Lexeme}
use Rattle.iv_forms.specs.Lexeme.{Is, IsA, no_more, one_more}
use Rattle.iv_forms.specs.FactForm.{IsFact, IsMark, IsMoreFacts, and_facts, fact, facts, more_facts, no_atts, no_more_facts, no_sels, strong, weak}
use Rattle.iv_forms.specs.PropForm.{IsMoreGroups, IsOptLabel, IsProps, group, more_groups, more_props, more_vars, no_label, no_more_props, no_patterns, no_type, prop, props, var_group, vars}
use Rattle.iv_forms.specs.MethodForm.{IsAlt, IsArgs, IsItem, IsMethod, IsMoreAlt, IsMoreSemi, IsMoreSeq, IsOptNat, IsSections, IsSemi, IsSeq, IsSubject, IsSuffix, a_number, alt, arg_term, args, bar, comma, conclusion, core_name, core_paren, item_call, item_method, item_sections, method, no_args, no_number, premises, sections, semi, semicolon, seq}
use Rattle.iv_forms.specs.CommandForm.{IsMoreNotes, IsNotes, IsObtained, IsSomeNat, IsStatement, bare_notes, long, more_notes, named_notes, none_given, obtained_names, obtained_props, one_given, short}
use Rattle.iv_forms.proofs.Sorts.{Law, ident_term}
use Rattle.iv_forms.proofs.Means.{Some_of, Both_of, Called, call_args, call_sections, Told, brief, full, Tail, prop_tail, var_tail}

or_parts : (a b : Bool) → (a || b) ≡ true → (a ≡ true) ⊎ (b ≡ true)
or_parts true b h = inl refl
or_parts false b h = inr h

or_false : (a : Bool) → (a || false) ≡ true → a ≡ true
or_false true h = refl
or_false false h = h

pub mark_of : (t : Lexeme) {ts : List Lexeme} → Is sort.Mark t → Some_of IsMark (t ∷ ts) ts
mark_of t h =
    elim (or_parts (same_class t.class class.Question) (same_class t.class class.Exclamation || false) h) [
      | inl q ↦ (VMark.Weak, weak q)
      | inr e ↦ (VMark.Strong, strong (or_false (same_class t.class class.Exclamation) e))
    ]

pub and_props : {a : Lexeme} {gs : List Group} {ts us : List Lexeme} → IsA class.And a → IsProps gs ts us → IsMoreGroups gs (a ∷ ts) us
and_props a (props g gs) = more_groups a g gs

abbrev or_one : Option ℕ → ℕ
or_one None = 1
or_one (Some n) = n

pub opt_nat : {o : Option ℕ} {ts us : List Lexeme} → IsSomeNat o ts us → IsOptNat (or_one o) ts us
opt_nat none_given = no_number
opt_nat (one_given n) = a_number n

pub seq_of : {ts us vs : List Lexeme} → Some_of IsItem ts us → ((m : MethodText) → Some_of (IsMoreSeq m) us vs) → Some_of IsSeq ts vs
seq_of i p = ((p i.0).0, seq i.1 (p i.0).1)

pub semi_of : {ts us vs ws : List Lexeme} → Some_of IsItem ts us → ((m : MethodText) → Some_of (IsMoreSeq m) us vs) → ((m : MethodText) → Some_of (IsMoreSemi m) vs ws) → Some_of IsSemi ts ws
semi_of i p q = ((q (p i.0).0).0, semi (seq i.1 (p i.0).1) (q (p i.0).0).1)

pub alt_of : {ts us vs ws ys : List Lexeme} → Some_of IsItem ts us → ((m : MethodText) → Some_of (IsMoreSeq m) us vs) → ((m : MethodText) → Some_of (IsMoreSemi m) vs ws) → ((m : MethodText) → Some_of (IsMoreAlt m) ws ys) → Some_of IsAlt ts ys
alt_of i p q r = ((r (q (p i.0).0).0).0, alt (semi (seq i.1 (p i.0).1) (q (p i.0).0).1) (r (q (p i.0).0).0).1)

pub bar_of : (m : MethodText) {c : Lexeme} {ts us vs : List Lexeme} → IsA class.Bar c → Some_of IsSemi ts us → ((m : MethodText) → Some_of (IsMoreAlt m) us vs) → Some_of (IsMoreAlt m) (c ∷ ts) vs
bar_of m c s r = ((r (VMethod.Or m s.0)).0, bar c s.1 (r (VMethod.Or m s.0)).1)

pub semicolon_of : (m : MethodText) {c : Lexeme} {ts us vs : List Lexeme} → IsA class.Semicolon c → Some_of IsSeq ts us → ((m : MethodText) → Some_of (IsMoreSemi m) us vs) → Some_of (IsMoreSemi m) (c ∷ ts) vs
semicolon_of m c s r = ((r (VMethod.On m s.0)).0, semicolon c s.1 (r (VMethod.On m s.0)).1)

pub comma_of : (m : MethodText) {c : Lexeme} {ts us vs : List Lexeme} → IsA class.Comma c → Some_of IsItem ts us → ((m : MethodText) → Some_of (IsMoreSeq m) us vs) → Some_of (IsMoreSeq m) (c ∷ ts) vs
comma_of m c s r = ((r (VMethod.Then m s.0)).0, comma c s.1 (r (VMethod.Then m s.0)).1)

pub paren_of : {a b : Lexeme} {ts us vs : List Lexeme} → IsA class.Open a → Some_of IsAlt ts (b ∷ us) → IsA class.Close b → ((m : MethodText) → Some_of (IsSuffix m) us vs) → Some_of IsMethod (a ∷ ts) vs
paren_of a x b f = ((f (VMethod.Paren x.0)).0, method (core_paren a x.1 b) (f (VMethod.Paren x.0)).1)

pub bare : {n : Lexeme} {v : MethodText} {ts us : List Lexeme} → Is sort.Name n → IsSuffix (VMethod.Name n.token) v ts us → IsItem v (n ∷ ts) us
bare n s = item_method (method (core_name n) s)

pub item_of : {n : Lexeme} {ts us : List Lexeme} → Is sort.CallName n → Called ts us → Some_of IsItem (n ∷ ts) us
item_of n (call_args e es xs) = (_, item_call n e es xs)
item_of n (call_sections x xs) = (_, item_sections n x xs)

pub args_of : {ts us : List Lexeme} → Called ts us → Both_of IsArgs IsSections ts us
args_of (call_args e es xs) = (_, _, _, args e es, xs)
args_of (call_sections x xs) = (_, _, _, no_args, sections x xs)

pub call_after : {x : Lexeme} {ts us : List Lexeme} → Is sort.Term x → Both_of IsArgs IsSections ts us → Called (x ∷ ts) us
call_after x b = call_args (arg_term x) b.3 b.4

pub fact_then : {n : Lexeme} {ts us : List Lexeme} → Is sort.Name n → Both_of IsMoreFacts IsSections ts us → Both_of IsMoreFacts IsSections (n ∷ ts) us
fact_then n b = (_, _, _, more_facts (fact n no_sels no_atts) b.3, b.4)

pub word_alone : {w : Lexeme} {ts : List Lexeme} → IsA class.Premises w ⊎ IsA class.Conclusion w → Some_of IsSubject (w ∷ ts) ts
word_alone (inl h) = (_, premises h)
word_alone (inr h) = (_, conclusion h)

pub and_notes : {a : Lexeme} {gs : List NoteGroup} {ts us : List Lexeme} → IsA class.And a → IsNotes gs ts us → Both_of IsMoreFacts IsMoreNotes (a ∷ ts) us
and_notes a (named_notes g gs) = (_, _, _, no_more_facts, more_notes a g gs)
and_notes a (bare_notes (facts f fs) gs) = (_, _, _, and_facts a f fs, gs)

pub noted : {f : Fact} {ts us vs : List Lexeme} → IsFact f ts us → Both_of IsMoreFacts IsMoreNotes us vs → Some_of IsNotes ts vs
noted f b = (_, bare_notes (facts f b.3) b.4)

pub labelled : {l : Option Label} {ts us vs : List Lexeme} → IsOptLabel l ts us → Told us vs → Some_of IsStatement ts vs
labelled l (brief p) = (_, short l p)
labelled l (full xs gs w p) = (_, long l xs gs w p)

pub and_tail : {a : Lexeme} {o : Obtained} {ts us : List Lexeme} → IsA class.And a → IsObtained o ts us → Tail (a ∷ ts) us
and_tail a (obtained_props gs) = prop_tail no_more_props (and_props a gs)
and_tail a (obtained_names (vars g gs) w ps) = var_tail no_more no_type (more_vars a g gs) w ps

module _ (law : Law) where
  pub ident_tail : (x : Lexeme) {ts us : List Lexeme} → Is sort.Identifier x → Tail ts us → Tail (x ∷ ts) us
  ident_tail x h (prop_tail ps gs) = prop_tail (more_props (prop (ident_term law x h) no_patterns) ps) gs
  ident_tail x h (var_tail xs t gs w ps) = var_tail (one_more h xs) t gs w ps

  pub obtained_tail : (x : Lexeme) {ts us : List Lexeme} → Is sort.Identifier x → Tail ts us → Some_of IsObtained (x ∷ ts) us
  obtained_tail x h (prop_tail ps gs) = (_, obtained_props (props (group no_label (prop (ident_term law x h) no_patterns) ps) gs))
  obtained_tail x h (var_tail xs t gs w ps) = (_, obtained_names (vars (var_group h xs t) gs) w ps)
