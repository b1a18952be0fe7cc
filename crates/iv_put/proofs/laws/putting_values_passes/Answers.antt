use Rattle.iv_put.proofs.Facts.Passing.{inst_raise, inst_eta, inst_happ, inst_put, inst_hsub}
use Rattle.iv_put.proofs.laws.putting_values_passes.Goals as goal

pub returns-clause-raise : goal.returns-clause-raise
returns-clause-raise c = inst_raise

pub returns-clause-eta : goal.returns-clause-eta
returns-clause-eta c = inst_eta

pub returns-clause-happ : goal.returns-clause-happ
returns-clause-happ c = inst_happ

pub returns-clause-put : goal.returns-clause-put
returns-clause-put c = inst_put

pub returns-clause-hsub : goal.returns-clause-hsub
returns-clause-hsub c = inst_hsub
