-- Written by tools/outer_laws.py from tools/readings.txt.
-- With which tokens a form begins: none of a set that has none of its first ones.
use Rattle.std.proofs.Common.{◌≡◌, true, false, List}
use Rattle.iv_forms.specs.declared.lexeme.Lexeme.{Lexeme}
use Rattle.iv_recogniser.specs.declared.class.Sort.{Sort}
use Rattle.iv_recogniser.specs.declared.class.Class.TheVariants as class
use Rattle.iv_recogniser.specs.declared.class.Sort.TheVariants as sort
use Rattle.iv_facts.specs.Found.{begins}
use Rattle.iv_facts.specs.Laws.{clear}
use Rattle.iv_read.specs.Laws.{Below}
use Rattle.iv_forms.specs.declared.prop.Group.{Group}
use Rattle.iv_forms.specs.declared.prop.VarGroup.{VarGroup}
use Rattle.iv_forms.specs.declared.command.Fixity.{Fixity}
use Rattle.iv_forms.specs.declared.command.Constant.{Constant}
use Rattle.iv_forms.specs.declared.command.Axiom.{Axiom}
use Rattle.iv_forms.specs.declared.command.Parts.{Parts}
use Rattle.iv_forms.specs.declared.command.NoteGroup.{NoteGroup}
use Rattle.iv_forms.specs.CommandForm.{IsAndConsts, IsAssumes, IsAxiom, IsAxioms, IsConst, IsFix, IsFixes, IsFixity, IsMoreAxioms, IsMoreConsts, IsMoreNotes, IsNoteGroup, IsParts, and_consts, assumes, axiom_is, axioms, binder, const, declares_part, fix_is, fixes, infix_is, infixl_is, infixr_is, methods_part, more_axioms, more_consts, more_notes, no_and_consts, no_assumes, no_axioms, no_fix, no_fixes, no_more_axioms, no_more_consts, no_more_notes, no_parts, note_group, plain, prefix, uses_part}

module _ (law : Below) where
  pub free_IsFixity : (k : Sort) → clear k (sort.Only class.Plain) ≡ true → clear k (sort.Only class.Prefix) ≡ true → clear k (sort.Only class.Infix) ≡ true → clear k (sort.Only class.Infixl) ≡ true → clear k (sort.Only class.Infixr) ≡ true → clear k (sort.Only class.Binder) ≡ true → {v : Fixity} {ts us : List Lexeme} → IsFixity v ts us → begins k ts ≡ false
  free_IsFixity k not_plain not_prefix not_infix not_infixl not_infixr not_binder (plain a) = law.sets.apart k (sort.Only class.Plain) not_plain _ a
  free_IsFixity k not_plain not_prefix not_infix not_infixl not_infixr not_binder (prefix a b c d f) = law.sets.apart k (sort.Only class.Prefix) not_prefix _ a
  free_IsFixity k not_plain not_prefix not_infix not_infixl not_infixr not_binder (infix_is a b c) = law.sets.apart k (sort.Only class.Infix) not_infix _ a
  free_IsFixity k not_plain not_prefix not_infix not_infixl not_infixr not_binder (infixl_is a b c) = law.sets.apart k (sort.Only class.Infixl) not_infixl _ a
  free_IsFixity k not_plain not_prefix not_infix not_infixl not_infixr not_binder (infixr_is a b c) = law.sets.apart k (sort.Only class.Infixr) not_infixr _ a
  free_IsFixity k not_plain not_prefix not_infix not_infixl not_infixr not_binder (binder a b c) = law.sets.apart k (sort.Only class.Binder) not_binder _ a

  pub free_IsFix : (k : Sort) → clear k (sort.Only class.Open) ≡ true → {v : Fixity} {ts us : List Lexeme} → IsFix v ts us → begins k us ≡ false → begins k ts ≡ false
  free_IsFix k not_open no_fix e = e
  free_IsFix k not_open (fix_is a b c) e = law.sets.apart k (sort.Only class.Open) not_open _ a

  pub free_IsConst : (k : Sort) → clear k sort.Identifier ≡ true → {v : Constant} {ts us : List Lexeme} → IsConst v ts us → begins k ts ≡ false
  free_IsConst k not_identifier (const a b c d) = law.sets.apart k sort.Identifier not_identifier _ a

  pub free_IsMoreConsts : (k : Sort) → clear k sort.Identifier ≡ true → {v : List Constant} {ts us : List Lexeme} → IsMoreConsts v ts us → begins k us ≡ false → begins k ts ≡ false
  free_IsMoreConsts k not_identifier no_more_consts e = e
  free_IsMoreConsts k not_identifier (more_consts a b) e = free_IsConst k not_identifier a

  pub free_IsAndConsts : (k : Sort) → clear k (sort.Only class.And) ≡ true → {v : List Constant} {ts us : List Lexeme} → IsAndConsts v ts us → begins k us ≡ false → begins k ts ≡ false
  free_IsAndConsts k not_and no_and_consts e = e
  free_IsAndConsts k not_and (and_consts a b c) e = law.sets.apart k (sort.Only class.And) not_and _ a

  pub free_IsAxiom : (k : Sort) → clear k sort.Name ≡ true → {v : Axiom} {ts us : List Lexeme} → IsAxiom v ts us → begins k ts ≡ false
  free_IsAxiom k not_name (axiom_is a b c d) = law.sets.apart k sort.Name not_name _ a

  pub free_IsMoreAxioms : (k : Sort) → clear k (sort.Only class.And) ≡ true → {v : List Axiom} {ts us : List Lexeme} → IsMoreAxioms v ts us → begins k us ≡ false → begins k ts ≡ false
  free_IsMoreAxioms k not_and no_more_axioms e = e
  free_IsMoreAxioms k not_and (more_axioms a b c) e = law.sets.apart k (sort.Only class.And) not_and _ a

  pub free_IsAxioms : (k : Sort) → clear k (sort.Only class.Where) ≡ true → {v : List Axiom} {ts us : List Lexeme} → IsAxioms v ts us → begins k us ≡ false → begins k ts ≡ false
  free_IsAxioms k not_where no_axioms e = e
  free_IsAxioms k not_where (axioms a b c) e = law.sets.apart k (sort.Only class.Where) not_where _ a

  pub free_IsParts : (k : Sort) → clear k (sort.Only class.Methods) ≡ true → clear k (sort.Only class.Uses) ≡ true → clear k (sort.Only class.Declares) ≡ true → {v : Parts} {ts us : List Lexeme} → IsParts v ts us → begins k us ≡ false → begins k ts ≡ false
  free_IsParts k not_methods not_uses not_declares no_parts e = e
  free_IsParts k not_methods not_uses not_declares (methods_part a b c d z) e = law.sets.apart k (sort.Only class.Methods) not_methods _ a
  free_IsParts k not_methods not_uses not_declares (uses_part a b c d z) e = law.sets.apart k (sort.Only class.Uses) not_uses _ a
  free_IsParts k not_methods not_uses not_declares (declares_part a b c d z) e = law.sets.apart k (sort.Only class.Declares) not_declares _ a

  pub free_IsFixes : (k : Sort) → clear k (sort.Only class.Fixes) ≡ true → {v : List VarGroup} {ts us : List Lexeme} → IsFixes v ts us → begins k us ≡ false → begins k ts ≡ false
  free_IsFixes k not_fixes no_fixes e = e
  free_IsFixes k not_fixes (fixes a b) e = law.sets.apart k (sort.Only class.Fixes) not_fixes _ a

  pub free_IsAssumes : (k : Sort) → clear k (sort.Only class.Assumes) ≡ true → {v : List Group} {ts us : List Lexeme} → IsAssumes v ts us → begins k us ≡ false → begins k ts ≡ false
  free_IsAssumes k not_assumes no_assumes e = e
  free_IsAssumes k not_assumes (assumes a b) e = law.sets.apart k (sort.Only class.Assumes) not_assumes _ a

  pub free_IsNoteGroup : (k : Sort) → clear k sort.Name ≡ true → {v : NoteGroup} {ts us : List Lexeme} → IsNoteGroup v ts us → begins k ts ≡ false
  free_IsNoteGroup k not_name (note_group a b c d) = law.sets.apart k sort.Name not_name _ a

  pub free_IsMoreNotes : (k : Sort) → clear k (sort.Only class.And) ≡ true → {v : List NoteGroup} {ts us : List Lexeme} → IsMoreNotes v ts us → begins k us ≡ false → begins k ts ≡ false
  free_IsMoreNotes k not_and no_more_notes e = e
  free_IsMoreNotes k not_and (more_notes a b c) e = law.sets.apart k (sort.Only class.And) not_and _ a
