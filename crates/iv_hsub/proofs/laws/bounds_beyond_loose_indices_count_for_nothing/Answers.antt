use Rattle.iv_hsub.proofs.Stated.{loose_bounded, bounds_grow, bounds_shrink, closed_stays}
use Rattle.iv_hsub.proofs.laws.bounds_beyond_loose_indices_count_for_nothing.Goals as goal

pub returns : goal.returns
returns c = record {
  loose = loose_bounded;
  grow = bounds_grow;
  shrink = bounds_shrink;
  closed = closed_stays;
}
