use Rattle.std.proofs.Common.{arith, ◌≡◌, length, take}
use Rattle.iv_grammar.proofs.SymbolSteps.{taken}
use Rattle.iv_grammar.proofs.symbols.better.Goals as goal

pub returns : goal.returns
returns c = λ table l.
    let is : take (length c.args.word.now) c.args.text.now ≡ c.args.word.now = c.stands.ensures.0 c.if-not-stands.false in
    taken table c.args.text.now c.args.best c.args.word.now c.args.sign (omega arith) (omega (arith, c.count_of.ensures)) is l
