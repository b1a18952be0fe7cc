-- Lemmas over the definitions of terms that compute, for whoever proves laws or code above this crate: the one file of this folder
-- that other crates name.
pub use Rattle.iv_hsub.proofs.Terms.Base.{lt_cases, eq_true, eq_false, types_len-join, type_at-here, fun-parts, cod-fun, fun_induction}
pub use Rattle.iv_hsub.proofs.Terms.Raise.{raise-low, raise-high, IsTerm-raise, AreArgs-raise, type_of-raise, result-raise}
pub use Rattle.iv_hsub.proofs.Terms.Eta.{last, EtaCase, eta_cases, eta-short, eta-expand, append-nil, append-append, occurs-fresh, IsTerm-eta, expand-term}
unfoldable pub use Rattle.iv_hsub.proofs.Terms.Put.{Good, Has}
pub use Rattle.iv_hsub.proofs.Terms.Put.{happ-nil, happ-spine, happ-lam, happ-stuck, happ-good, lam-type, index_cases, put-low, put-here, put-high, put-term, put-args}
pub use Rattle.iv_hsub.proofs.Terms.Closed.{raise-closed, loose-term, type_of-front, IsTerm-wider}
pub use Rattle.iv_hsub.proofs.Terms.Cancel.{put-cancel, put-expand, put_all-append}
unfoldable pub use Rattle.iv_hsub.proofs.Terms.Algebra.{Raises}
pub use Rattle.iv_hsub.proofs.Terms.Algebra.{raise-eta, raise-swap, raise_all-append, raise-above, raise-below, takes_cases, happ-raises}
unfoldable pub use Rattle.iv_hsub.proofs.Terms.Commute.{Uses, Commutes}
pub use Rattle.iv_hsub.proofs.Terms.Commute.{both, put-eta, put-put, happ-append, happ-eta, eta-at_index, raised-type}
pub use Rattle.iv_hsub.proofs.Terms.Abstract.{is_free-true, bind-cases, contracts-bind, bind-term, bind-args}
pub use Rattle.iv_hsub.proofs.Terms.Short.{short-term, short-args}
pub use Rattle.iv_hsub.proofs.Terms.Retype.{fun-map, cod-map, raise-retype, raise_all-retype, raise_head-retype, retype_all-append, retype-expand, retype-eta, retype-term, retype-has}
unfoldable pub use Rattle.iv_hsub.proofs.Terms.Inst.{Typed}
pub use Rattle.iv_hsub.proofs.Terms.Inst.{closed-has, raise-none, put-none, result-inst, inst_all-append, inst-term, inst-args, vars-all, typed-term, typed-args, inst-raise, inst_all-raise, inst-eta}
pub use Rattle.iv_hsub.proofs.Terms.Hhf.{imp-true, all-true, is_imp-raise, is_all-raise, nil-true, imp-term, all_head-term, all_of-term, expand-has, raise-has, variable-has, all-type, all-argument, imp-arguments, push-term, hhf-term, hhf-args, IsHhf-imp, IsHhf-all, IsHhf-hhf, AreHhf-hhf, push-plain, hhf_spine-other_head, hhf_spine-same, hhf-same, hhf_all-same, hhf-twice}
pub use Rattle.iv_hsub.proofs.Terms.Moves.{imp-test, all-test}
pub use Rattle.iv_hsub.proofs.Terms.Tests.{never, is_not}
