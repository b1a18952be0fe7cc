use Rattle.std.proofs.Common.{◌≡◌, drop}
use Rattle.std.specs.List.{list_any}
use Rattle.iv_sig.specs.Fixity.{is_barred}
use Rattle.iv_sig.proofs.symbols.has_barred.Given as goal

abbrev pub invariant-loop-c : goal.invariant-loop-c
invariant-loop-c l = list_any is_barred l.chars ≡ list_any is_barred (drop l.c-index l.chars)
