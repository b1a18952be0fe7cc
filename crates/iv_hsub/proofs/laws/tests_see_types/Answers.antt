use Rattle.iv_hsub.proofs.Terms.Hhf.{imp-true, all-true}
use Rattle.iv_hsub.proofs.laws.tests_see_types.Goals as goal

pub returns : goal.returns
returns c = record {
  imp = imp-true;
  all = all-true;
}
