use Rattle.std.proofs.Common.{◌≤◌}
use Rattle.iv_seq.proofs.Theory.{all_fit}
use Rattle.tests_seq.proofs.work.short_of_one.Goals as goal

pub new-sequence-requires : goal.new-sequence-requires
new-sequence-requires g c = λ x h. all_fit (λ y. y ≤ c.args.of) c.args.numbers.items c.requires.all x (c.new.ensures.fits.0 x h)
