-- Written by tools/outer_laws.py from tools/readings.txt.
-- Where a place among the tokens that a form leaves is: among those that it reads.
use Rattle.std.proofs.Common.{List, inr}
use Rattle.iv_text.specs.declared.Pos.{Pos}
use Rattle.iv_forms.specs.declared.lexeme.Lexeme.{Lexeme}
use Rattle.iv_facts.specs.Found.{IsAmong}
use Rattle.iv_read.specs.Laws.{Below}
use Rattle.iv_forms.specs.declared.prop.VarGroup.{VarGroup}
use Rattle.iv_forms.specs.declared.command.Fixity.{Fixity}
use Rattle.iv_forms.specs.declared.command.Constant.{Constant}
use Rattle.iv_forms.specs.declared.command.Axiom.{Axiom}
use Rattle.iv_forms.specs.declared.command.Parts.{Parts}
use Rattle.iv_forms.specs.declared.command.NoteGroup.{NoteGroup}
use Rattle.iv_forms.specs.CommandForm.{IsAndConsts, IsAxiom, IsAxiomConsts, IsConst, IsFix, IsFixes, IsFixity, IsNoteGroup, IsParts, and_consts, axiom_consts, axiom_is, binder, const, declares_part, fix_is, fixes, infix_is, infixl_is, infixr_is, methods_part, no_and_consts, no_axiom_consts, no_fix, no_fixes, no_parts, note_group, plain, prefix, uses_part}

module _ (law : Below) where
  pub tail_IsFixity : (p : Pos) → {v : Fixity} {ts us : List Lexeme} → IsFixity v ts us → IsAmong p us → IsAmong p ts
  tail_IsFixity p (plain a) q = inr q
  tail_IsFixity p (prefix a b c d e) q = inr (inr (inr (inr (inr q))))
  tail_IsFixity p (infix_is a b c) q = inr (inr (inr q))
  tail_IsFixity p (infixl_is a b c) q = inr (inr (inr q))
  tail_IsFixity p (infixr_is a b c) q = inr (inr (inr q))
  tail_IsFixity p (binder a b c) q = inr (inr (inr q))

  pub tail_IsFix : (p : Pos) → {v : Fixity} {ts us : List Lexeme} → IsFix v ts us → IsAmong p us → IsAmong p ts
  tail_IsFix p no_fix q = q
  tail_IsFix p (fix_is a b c) q = inr (tail_IsFixity p b (inr q))

  pub tail_IsConst : (p : Pos) → {v : Constant} {ts us : List Lexeme} → IsConst v ts us → IsAmong p us → IsAmong p ts
  tail_IsConst p (const a b c d) q = inr (inr (inr (tail_IsFix p d q)))

  pub tail_IsAndConsts : (p : Pos) → {v : List Constant} {ts us : List Lexeme} → IsAndConsts v ts us → IsAmong p us → IsAmong p ts
  tail_IsAndConsts p no_and_consts q = q
  tail_IsAndConsts p (and_consts a b c) q = inr (tail_IsConst p b (tail_IsAndConsts p c q))

  pub tail_IsAxiomConsts : (p : Pos) → {v : List Constant} {ts us : List Lexeme} → IsAxiomConsts v ts us → IsAmong p us → IsAmong p ts
  tail_IsAxiomConsts p no_axiom_consts q = q
  tail_IsAxiomConsts p (axiom_consts a b) q = tail_IsConst p a (tail_IsAndConsts p b q)

  pub tail_IsAxiom : (p : Pos) → {v : Axiom} {ts us : List Lexeme} → IsAxiom v ts us → IsAmong p us → IsAmong p ts
  tail_IsAxiom p (axiom_is a b c d) q = inr (law.tails.opt_atts p b (inr (inr q)))

  pub tail_IsParts : (p : Pos) → {v : Parts} {ts us : List Lexeme} → IsParts v ts us → IsAmong p us → IsAmong p ts
  tail_IsParts p no_parts q = q
  tail_IsParts p (methods_part a b c d z) q = inr (inr (law.tails.tokens p c (tail_IsParts p d q)))
  tail_IsParts p (uses_part a b c d z) q = inr (inr (law.tails.tokens p c (tail_IsParts p d q)))
  tail_IsParts p (declares_part a b c d z) q = inr (inr (law.tails.tokens p c (tail_IsParts p d q)))

  pub tail_IsFixes : (p : Pos) → {v : List VarGroup} {ts us : List Lexeme} → IsFixes v ts us → IsAmong p us → IsAmong p ts
  tail_IsFixes p no_fixes q = q
  tail_IsFixes p (fixes a b) q = inr (law.tails.vars p b q)

  pub tail_IsNoteGroup : (p : Pos) → {v : NoteGroup} {ts us : List Lexeme} → IsNoteGroup v ts us → IsAmong p us → IsAmong p ts
  tail_IsNoteGroup p (note_group a b c d) q = inr (law.tails.opt_atts p b (inr (law.tails.facts p d q)))
