-- The first part of a command that has too many levels. Of this project.
use Rattle.std.specs.Prelude.{List, Option, None}
use Rattle.iv_text.specs.declared.Pos.{Pos}
use Rattle.iv_forms.specs.declared.prop.Group.{Group}
use Rattle.iv_forms.specs.declared.command.Axiom.{Axiom}
use Rattle.iv_forms.specs.declared.command.Statement.{Statement}
use Rattle.iv_forms.specs.declared.command.NoteGroup.{NoteGroup}
use Rattle.iv_forms.specs.declared.command.Obtained.{Obtained}
use Rattle.iv_forms.specs.declared.lexeme.Lexeme.{Lexeme}
use Rattle.iv_forms.specs.CommandForm.{IsAxiom, axiom_is, IsMoreAxioms, no_more_axioms, more_axioms, IsAxioms, no_axioms, axioms, IsAssumes, no_assumes, assumes, IsStatement, short, long, IsNoteGroup, note_group, IsMoreNotes, no_more_notes, more_notes, IsNotes, named_notes, bare_notes, IsObtained, obtained_props, obtained_names}
use Rattle.iv_facts.specs.FactLevels.{opt_atts_levels, deep_at, first_of, deep_facts, deep_opt_label, deep_props}

abbrev pub deep_axiom : {x : Axiom} {ts us : List Lexeme} → IsAxiom x ts us → Option Pos
deep_axiom {ts = ts} (axiom_is n a c t) = deep_at ts (opt_atts_levels a)

abbrev pub deep_more_axioms : {xs : List Axiom} {ts us : List Lexeme} → IsMoreAxioms xs ts us → Option Pos
deep_more_axioms no_more_axioms = None
deep_more_axioms (more_axioms a x xs) = first_of (deep_axiom x) (deep_more_axioms xs)

abbrev pub deep_axioms : {xs : List Axiom} {ts us : List Lexeme} → IsAxioms xs ts us → Option Pos
deep_axioms no_axioms = None
deep_axioms (axioms w x xs) = first_of (deep_axiom x) (deep_more_axioms xs)

abbrev pub deep_assumes : {gs : List Group} {ts us : List Lexeme} → IsAssumes gs ts us → Option Pos
deep_assumes no_assumes = None
deep_assumes (assumes w gs) = deep_props gs

abbrev pub deep_statement : {s : Statement} {ts us : List Lexeme} → IsStatement s ts us → Option Pos
deep_statement (short l p) = deep_opt_label l
deep_statement (long l f a s p) = first_of (deep_opt_label l) (deep_assumes a)

abbrev pub deep_note_group : {g : NoteGroup} {ts us : List Lexeme} → IsNoteGroup g ts us → Option Pos
deep_note_group {ts = ts} (note_group n a e fs) = first_of (deep_at ts (opt_atts_levels a)) (deep_facts fs)

abbrev pub deep_more_notes : {gs : List NoteGroup} {ts us : List Lexeme} → IsMoreNotes gs ts us → Option Pos
deep_more_notes no_more_notes = None
deep_more_notes (more_notes a g gs) = first_of (deep_note_group g) (deep_more_notes gs)

abbrev pub deep_notes : {gs : List NoteGroup} {ts us : List Lexeme} → IsNotes gs ts us → Option Pos
deep_notes (named_notes g gs) = first_of (deep_note_group g) (deep_more_notes gs)
deep_notes (bare_notes fs gs) = first_of (deep_facts fs) (deep_more_notes gs)

abbrev pub deep_obtained : {o : Obtained} {ts us : List Lexeme} → IsObtained o ts us → Option Pos
deep_obtained (obtained_props gs) = deep_props gs
deep_obtained (obtained_names xs w gs) = deep_props gs
