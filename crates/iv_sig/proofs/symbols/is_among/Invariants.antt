use Rattle.std.proofs.Common.{◌≡◌, drop}
use Rattle.std.specs.List.{list_any}
use Rattle.std.specs.Str.{bytes_eq}
use Rattle.iv_sig.proofs.symbols.is_among.Given as goal

abbrev pub invariant-loop-other : goal.invariant-loop-other
invariant-loop-other l = list_any (λ d. bytes_eq l.text d.now) l.others ≡ list_any (λ d. bytes_eq l.text d.now) (drop l.other-index l.others)
