use Rattle.iv_seq.proofs.Theory.{bound-append, bound-bound, bound-one, bound-itself, leaves-append}
use Rattle.iv_seq.proofs.Readings.{leaves-bound}
use Rattle.iv_seq.proofs.laws.searches_nest.Goals as goal

pub returns : goal.returns
returns g c = record {
  joined = bound-append;
  bound = bound-bound;
  one = bound-one;
  itself = bound-itself;
  leaves_joined = leaves-append;
  leaves_bound = leaves-bound;
}
