use Rattle.std.proofs.Common.{length}
use Rattle.iv_lex.proofs.forms.+spells.Given as goal

abbrev pub decreases-spells : goal.decreases-spells
decreases-spells l = length l.word.now
