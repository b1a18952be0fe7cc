-- Which implications, equations and quantified terms are propositions.
use Rattle.std.proofs.Common.{refl, sym, ap}
use Rattle.iv_term.specs.declared.typ.Typ.{Typ}
use Rattle.iv_term.specs.declared.typ.Typ.TheBlock.{Nil as no_types}
use Rattle.iv_term.specs.declared.term.Term.{Term}
use Rattle.iv_term.specs.Typ.{prop, fun}
use Rattle.iv_term.specs.Term.{imp}
use Rattle.iv_hsub.specs.Typing.{dom, cod, result_type, type_of, HasType}
use Rattle.iv_rules.specs.Equality.{eq, all}
use Rattle.iv_rules.specs.Sequent.{IsProp}
use Rattle.iv_rules.specs.Laws.{ImpIsProp, EqIsProp, AllIsProp}

pub imp-is : (s t : Term) → IsProp s → IsProp t → IsProp (imp s t)
unfolding type_of result_type dom cod
imp-is s t h k = ((tt, (ap (λ c. fun c (fun prop prop)) (sym h.1), (h.0, (ap (λ c. fun c prop) (sym k.1), (k.0, tt))))), refl)

pub eq-is : (c : Typ) (s t : Term) → HasType no_types c s → HasType no_types c t → IsProp (eq c s t)
unfolding type_of result_type dom cod
eq-is c s t h k = ((tt, (ap (λ d. fun d (fun c prop)) (sym h.1), (h.0, (ap (λ d. fun d prop) (sym k.1), (k.0, tt))))), refl)

pub all-is : (c : Typ) (f : Term) → HasType no_types (fun c prop) f → IsProp (all c f)
unfolding type_of result_type dom cod
all-is c f h = ((tt, (ap (λ d. fun d prop) (sym h.1), (h.0, tt))), refl)

pub imp_is_prop : ImpIsProp
unfolding type_of result_type dom cod
imp_is_prop a b =
    (λ h. let k = h.0.1 in ((k.1.0, sym (ap dom k.0)), (k.1.1.1.0, sym (ap dom k.1.1.0))), λ h. imp-is a b h.0 h.1)

pub eq_is_prop : EqIsProp
unfolding type_of result_type dom cod
eq_is_prop a s t =
    (λ h. let k = h.0.1 in ((k.1.0, sym (ap dom k.0)), (k.1.1.1.0, sym (ap dom k.1.1.0))), λ h. eq-is a s t h.0 h.1)

pub all_is_prop : AllIsProp
unfolding type_of result_type dom cod
all_is_prop a f = (λ h. let k = h.0.1 in (k.1.0, sym (ap dom k.0)), λ h. all-is a f h)
