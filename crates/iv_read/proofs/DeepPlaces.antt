-- Where a part is too deep, one of the tokens begins.
use Rattle.std.proofs.Common.{List, inr}
use Rattle.iv_forms.specs.declared.prop.Group.{Group}
use Rattle.iv_forms.specs.declared.command.Axiom.{Axiom}
use Rattle.iv_forms.specs.declared.command.Statement.{Statement}
use Rattle.iv_forms.specs.declared.command.NoteGroup.{NoteGroup}
use Rattle.iv_forms.specs.declared.command.Obtained.{Obtained}
use Rattle.iv_forms.specs.declared.command.Body.{Body}
use Rattle.iv_forms.specs.declared.lexeme.Lexeme.{Lexeme}
use Rattle.iv_forms.specs.CommandForm as C
use Rattle.iv_forms.specs.CommandForm.{IsAxiom, axiom_is, IsMoreAxioms, no_more_axioms, more_axioms, IsAxioms, no_axioms, axioms, IsAssumes, no_assumes, assumes, IsStatement, short, long, IsNoteGroup, note_group, IsMoreNotes, no_more_notes, more_notes, IsNotes, named_notes, bare_notes, IsObtained, obtained_props, obtained_names, IsForm}
use Rattle.iv_facts.specs.FactLevels.{opt_atts_levels}
use Rattle.iv_readpart.specs.CommandLevels.{deep_axiom, deep_more_axioms, deep_axioms, deep_assumes, deep_statement, deep_note_group, deep_more_notes, deep_notes, deep_obtained}
use Rattle.iv_read.specs.FormLevels.{deep_form}
use Rattle.iv_read.proofs.Tails.{tail_IsAxiomConsts, tail_IsAxiom, tail_IsParts, tail_IsFixes, tail_IsNoteGroup}
use Rattle.iv_facts.specs.Found.{Placed, nowhere}
use Rattle.iv_facts.proofs.FactPlaces.{either, later, behind_token, at_token}
use Rattle.iv_read.specs.Laws.{Below}

module _ (law : Below) where
  axiom_places : {x : Axiom} {ts us : List Lexeme} (d : IsAxiom x ts us) → Placed ts (deep_axiom d)
  axiom_places (axiom_is {n = n} {ts = ts} h a c t) = at_token n ts (opt_atts_levels a)

  more_axioms_places : {xs : List Axiom} {ts us : List Lexeme} (d : IsMoreAxioms xs ts us) → Placed ts (deep_more_axioms d)
  more_axioms_places no_more_axioms = nowhere
  more_axioms_places (more_axioms a x xs) = behind_token (either (axiom_places x) (later (λ p. tail_IsAxiom law p x) (more_axioms_places xs)))

  axioms_places : {xs : List Axiom} {ts us : List Lexeme} (d : IsAxioms xs ts us) → Placed ts (deep_axioms d)
  axioms_places no_axioms = nowhere
  axioms_places (axioms w x xs) = behind_token (either (axiom_places x) (later (λ p. tail_IsAxiom law p x) (more_axioms_places xs)))

  assumes_places : {gs : List Group} {ts us : List Lexeme} (d : IsAssumes gs ts us) → Placed ts (deep_assumes d)
  assumes_places no_assumes = nowhere
  assumes_places (assumes w gs) = behind_token (law.places.props gs)

  statement_places : {s : Statement} {ts us : List Lexeme} (d : IsStatement s ts us) → Placed ts (deep_statement d)
  statement_places (short l x) = law.places.opt_label l
  statement_places (long l f a s x) = either (law.places.opt_label l) (later (λ p q. law.tails.opt_label p l (tail_IsFixes law p f q)) (assumes_places a))

  note_group_places : {g : NoteGroup} {ts us : List Lexeme} (d : IsNoteGroup g ts us) → Placed ts (deep_note_group d)
  note_group_places (note_group {n = n} {ts = ts} h a e fs) = either (at_token n ts (opt_atts_levels a)) (later (λ p q. inr (law.tails.opt_atts p a (inr q))) (law.places.facts fs))

  more_notes_places : {gs : List NoteGroup} {ts us : List Lexeme} (d : IsMoreNotes gs ts us) → Placed ts (deep_more_notes d)
  more_notes_places no_more_notes = nowhere
  more_notes_places (more_notes a g gs) = behind_token (either (note_group_places g) (later (λ p. tail_IsNoteGroup law p g) (more_notes_places gs)))

  notes_places : {gs : List NoteGroup} {ts us : List Lexeme} (d : IsNotes gs ts us) → Placed ts (deep_notes d)
  notes_places (named_notes g gs) = either (note_group_places g) (later (λ p. tail_IsNoteGroup law p g) (more_notes_places gs))
  notes_places (bare_notes fs gs) = either (law.places.facts fs) (later (λ p. law.tails.facts p fs) (more_notes_places gs))

  obtained_places : {o : Obtained} {ts us : List Lexeme} (d : IsObtained o ts us) → Placed ts (deep_obtained d)
  obtained_places (obtained_props gs) = law.places.props gs
  obtained_places (obtained_names xs w gs) = later (λ p q. law.tails.vars p xs (inr q)) (law.places.props gs)

  pub form_places : {f : Body} {ts us : List Lexeme} (d : IsForm f ts us) → Placed ts (deep_form d)
  form_places (C.axiomatization w cs xs) = behind_token (later (λ p. tail_IsAxiomConsts law p cs) (axioms_places xs))
  form_places (C.lemmas {n = n} {ts = ts} w h a e fs) = behind_token (either (at_token n ts (opt_atts_levels a)) (later (λ p q. inr (law.tails.opt_atts p a (inr q))) (law.places.facts fs)))
  form_places (C.method_ w x gs r e m) = behind_token (behind_token (later (λ p q. law.tails.opt_for p gs (tail_IsParts law p r (inr q))) (law.method_places.one m)))
  form_places (C.define w x t h l b) = behind_token (behind_token (later (λ p q. law.tails.of_type p t (inr q)) (law.places.opt_label l)))
  form_places (C.by w m n) = behind_token (either (law.method_places.one m) (later (λ p. law.method_tails.one p m) (law.method_places.opt n)))
  form_places (C.declare w fs) = behind_token (law.places.facts fs)
  form_places (C.lemma_ w s) = behind_token (statement_places s)
  form_places (C.theorem_ w s) = behind_token (statement_places s)
  form_places (C.corollary w s) = behind_token (statement_places s)
  form_places (C.proposition w s) = behind_token (statement_places s)
  form_places (C.assume w gs) = behind_token (law.places.props gs)
  form_places (C.presume w gs) = behind_token (law.places.props gs)
  form_places (C.note w gs) = behind_token (notes_places gs)
  form_places (C.from w fs) = behind_token (law.places.facts fs)
  form_places (C.with_ w fs) = behind_token (law.places.facts fs)
  form_places (C.have w c) = behind_token (law.places.claim c)
  form_places (C.show w c) = behind_token (law.places.claim c)
  form_places (C.hence w c) = behind_token (law.places.claim c)
  form_places (C.thus w c) = behind_token (law.places.claim c)
  form_places (C.obtain w o) = behind_token (obtained_places o)
  form_places (C.apply w m) = behind_token (law.method_places.one m)
  form_places (C.using_ w fs) = behind_token (law.places.facts fs)
  form_places (C.proof w m) = behind_token (law.method_places.opt m)
  form_places (C.qed w m) = behind_token (law.method_places.opt m)
  form_places (C.theory a b c d e f) = nowhere
  form_places (C.end_ a) = nowhere
  form_places (C.chapter a b) = nowhere
  form_places (C.section_ a b) = nowhere
  form_places (C.subsection a b) = nowhere
  form_places (C.subsubsection a b) = nowhere
  form_places (C.paragraph a b) = nowhere
  form_places (C.subparagraph a b) = nowhere
  form_places (C.prose a b) = nowhere
  form_places (C.txt a b) = nowhere
  form_places (C.typedecl a b c) = nowhere
  form_places (C.consts a b c) = nowhere
  form_places (C.judgment a b c d e) = nowhere
  form_places (C.named_theorems a b) = nowhere
  form_places (C.fix a b) = nowhere
  form_places (C.let_ a b c) = nowhere
  form_places (C.left_brace a) = nowhere
  form_places (C.right_brace a) = nowhere
  form_places (C.next_ a) = nowhere
  form_places (C.then_ a) = nowhere
  form_places (C.also a) = nowhere
  form_places (C.moreover a) = nowhere
  form_places (C.finally a) = nowhere
  form_places (C.ultimately a) = nowhere
  form_places (C.defer a b) = nowhere
  form_places (C.prefer a b) = nowhere
  form_places (C.back a) = nowhere
  form_places (C.dot a) = nowhere
  form_places (C.dots a) = nowhere
  form_places (C.done_ a) = nowhere
  form_places (C.oops a) = nowhere
