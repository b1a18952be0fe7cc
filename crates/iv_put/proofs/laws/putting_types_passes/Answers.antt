use Rattle.iv_put.proofs.Facts.Passing.{retype_raise, retype_eta, retype_happ, retype_put, retype_hsub}
use Rattle.iv_put.proofs.laws.putting_types_passes.Goals as goal

pub returns-clause-raise : goal.returns-clause-raise
returns-clause-raise c = retype_raise

pub returns-clause-eta : goal.returns-clause-eta
returns-clause-eta c = retype_eta

pub returns-clause-happ : goal.returns-clause-happ
returns-clause-happ c = retype_happ

pub returns-clause-put : goal.returns-clause-put
returns-clause-put c = retype_put

pub returns-clause-hsub : goal.returns-clause-hsub
returns-clause-hsub c = retype_hsub
