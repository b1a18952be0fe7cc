-- What holds of the variables of terms and of what is put for them, for whoever proves laws or code above this crate: the one file of
-- this folder that other crates name.
pub use Rattle.iv_put.proofs.Facts.Vars.{vars-raise, all-raise, vars-expand, vars-eta, vars-put, all-put, vars-happ, use_value-vars, Brings, inst-vars}
unfoldable pub use Rattle.iv_put.proofs.Facts.Vars.{Keeps}
pub use Rattle.iv_put.proofs.Facts.Composed.{vars-both, vars_all-both, vars-one, vars-retype, Fits-retype, retype-inst, fit-typed, fitting, fitting-typed, fit-same, fitting-same, inst-fitting}
unfoldable pub use Rattle.iv_put.proofs.Facts.Composed.{retype_value, fit, Closed}
pub use Rattle.iv_put.proofs.Facts.Entries.{map-by, maps-by, map-composed, value-in}
pub use Rattle.iv_put.proofs.Facts.Passing.{fitted, fitted-typed, inst-fitted, inst_all-fitted}
