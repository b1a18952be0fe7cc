use Rattle.iv_hsub.proofs.Stated.{hsub_keeps, happ_keeps, eta_keeps, raise_keeps}
use Rattle.iv_hsub.proofs.laws.substitution_gives_terms.Goals as goal

pub returns : goal.returns
returns c = record {
  hsub = hsub_keeps;
  happ = happ_keeps;
  eta = eta_keeps;
  raise = raise_keeps;
}
