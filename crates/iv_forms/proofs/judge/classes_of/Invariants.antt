use Rattle.std.proofs.Common.{◌≡◌, map, take}
use Rattle.iv_forms.proofs.judge.classes_of.Given as goal

abbrev pub invariant-loop-lexeme : goal.invariant-loop-lexeme
invariant-loop-lexeme l = l.classes.items ≡ map (λ t. t.class) (take l.lexeme-index l.lexemes)
