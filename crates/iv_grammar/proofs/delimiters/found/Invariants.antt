use Rattle.std.proofs.Common.{◌≡◌, drop}
use Rattle.std.specs.Prelude.{find}
use Rattle.std.specs.Str.{bytes_eq}
use Rattle.iv_grammar.proofs.delimiters.found.Given as goal

abbrev pub invariant-loop-printed : goal.invariant-loop-printed
invariant-loop-printed l = find (λ e. bytes_eq l.text e.0.now) l.table ≡ find (λ e. bytes_eq l.text e.0.now) (drop l.printed-index l.table)
