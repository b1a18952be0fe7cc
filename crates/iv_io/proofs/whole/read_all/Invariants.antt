use Rattle.std.proofs.Common.{◌≡◌, ℕ, ◌-◌, ◌<◌, ◌≤◌, List, Some, length, take, drop}
use Rattle.iv_io.specs.Counts.{counted}
use Rattle.iv_io.proofs.whole.read_all.Given as goal

abbrev pub invariant-reads : goal.invariant-reads
invariant-reads g l = record {
  room : 0 < length l.buffer;
  within : length l.bytes.items ≤ l.limit;
  faults : g.S.Source.faults l.source ≡ g.S.Source.faults l.fn.source;
  grown : g.S.Source.taken l.fn.source ≤ g.S.Source.taken l.source;
  taken : counted (g.S.Source.taken l.source) 0 ≡ counted (g.S.Source.taken l.fn.source) (length l.bytes.items);
  told : (b : List ℕ) → g.S.Source.left l.fn.source ≡ Some b →
      (l.bytes.items ≡ take (length l.bytes.items) b) × (length l.bytes.items ≤ length b)
      × (g.S.Source.left l.source ≡ Some (drop (length l.bytes.items) b));
}

abbrev pub decreases-reads : goal.decreases-reads
decreases-reads g l = l.limit - length l.bytes.items
