use Rattle.iv_seq.proofs.Readings.{read_leaves, read_large, read_work, read_all_work, read_bind, read_or_else, read_take, read_rest, read_all}
use Rattle.iv_seq.proofs.laws.trees_are_read_as_moments.Goals as goal

pub returns : goal.returns
returns g c = record {
  leaves = read_leaves;
  large = read_large;
  work = read_work;
  all_work = read_all_work;
  bind = read_bind;
  or_else = read_or_else;
  take = read_take;
  rest = read_rest;
  all = read_all;
}
