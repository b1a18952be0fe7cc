-- Written by tools/outer_laws.py from tools/readings.txt.
-- How many tokens a form leaves.
use Rattle.std.proofs.Common.{◌<◌, ◌≤◌, List, length, arith}
use Rattle.iv_forms.specs.declared.lexeme.Lexeme.{Lexeme}
use Rattle.iv_read.specs.Laws.{Below}
use Rattle.iv_forms.specs.declared.command.Fixity.{Fixity}
use Rattle.iv_forms.specs.declared.command.Constant.{Constant}
use Rattle.iv_forms.specs.declared.command.Axiom.{Axiom}
use Rattle.iv_forms.specs.declared.command.NoteGroup.{NoteGroup}
use Rattle.iv_forms.specs.declared.command.Equation.{Equation}
use Rattle.iv_forms.specs.CommandForm.{IsAxiom, IsConst, IsEquation, IsFix, IsFixity, IsNoteGroup, axiom_is, binder, const, equation, fix_is, infix_is, infixl_is, infixr_is, no_fix, note_group, plain, prefix}

module _ (law : Below) where
  pub len_IsFixity : {v : Fixity} {ts us : List Lexeme} → IsFixity v ts us → length us < length ts
  len_IsFixity (plain a) = omega (arith)
  len_IsFixity (prefix a b c d e) = omega (arith)
  len_IsFixity (infix_is a b c) = omega (arith)
  len_IsFixity (infixl_is a b c) = omega (arith)
  len_IsFixity (infixr_is a b c) = omega (arith)
  len_IsFixity (binder a b c) = omega (arith)

  pub len_IsFix : {v : Fixity} {ts us : List Lexeme} → IsFix v ts us → length us ≤ length ts
  len_IsFix no_fix = omega (arith)
  len_IsFix (fix_is a b c) = omega (arith, len_IsFixity b)

  pub len_IsConst : {v : Constant} {ts us : List Lexeme} → IsConst v ts us → length us < length ts
  len_IsConst (const a b c d) = omega (arith, len_IsFix d)

  pub len_IsAxiom : {v : Axiom} {ts us : List Lexeme} → IsAxiom v ts us → length us < length ts
  len_IsAxiom (axiom_is a b c d) = omega (arith, law.lengths.opt_atts b)

  pub len_IsNoteGroup : {v : NoteGroup} {ts us : List Lexeme} → IsNoteGroup v ts us → length us < length ts
  len_IsNoteGroup (note_group a b c d) = omega (arith, law.lengths.opt_atts b, law.lengths.facts d)

  pub len_IsEquation : {v : Equation} {ts us : List Lexeme} → IsEquation v ts us → length us < length ts
  len_IsEquation (equation a b c) = omega (arith)
