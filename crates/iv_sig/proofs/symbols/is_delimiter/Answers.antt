use Rattle.iv_sig.specs.Fixity.{is_delimiter}
use Rattle.iv_sig.proofs.symbols.is_delimiter.Goals as goal

pub returns : goal.returns
unfolding is_delimiter
returns c = rw c.as_slice.ensures at c.is_among.ensures
