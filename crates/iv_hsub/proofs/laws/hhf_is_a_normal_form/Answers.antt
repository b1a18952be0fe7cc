use Rattle.iv_hsub.proofs.Terms.Hhf.{IsHhf-hhf, hhf-same, hhf-twice}
use Rattle.iv_hsub.proofs.Stated.{hhf_keeps}
use Rattle.iv_hsub.proofs.laws.hhf_is_a_normal_form.Goals as goal

pub returns : goal.returns
returns c = record {
  typed = hhf_keeps;
  form = IsHhf-hhf;
  kept = hhf-same;
  once = hhf-twice;
}
