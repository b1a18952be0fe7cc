use Rattle.std.proofs.Common.{arith, sym, ◌∙◌}
use Rattle.iv_lex.proofs.StartSteps.{named_fits, named_start}
use Rattle.iv_lex.proofs.starts.Start.measured.Goals as goal

pub returns-in-Named-clause-within : goal.returns-in-Named-clause-within
returns-in-Named-clause-within c =
    let more = rw c.rest_from.ensures at c.alphas.ensures.more in
    let named = named_start c.args.letters.now (sym c.requires.start ∙ c.in-Named.is) in
    omega (arith, more, named_fits c.args.letters.now named)
