-- The laws in the words of their contracts.
use Rattle.std.proofs.Common.{◌∙◌, ap, sym, le_of_eq}
use Rattle.iv_term.specs.declared.typ.Typ.TheBlock.{Nil}
use Rattle.iv_term.specs.Typ.{fun, ty_cons}
use Rattle.iv_hsub.specs.Typing.{types_len, join}
use Rattle.iv_hsub.specs.Laws.{LooseIsBounded, BoundsCanGrow, BoundsCanShrink, ClosedStays, PutsCommute, HsubsCommute, HsubKeepsTypes, HappKeepsTypes, EtaKeepsTypes, RaiseKeepsTypes, AbstractKeepsTypes, AbstractIsUndone, HhfKeepsTypes, RetypeKeepsTypes, InstKeepsTypes}
use Rattle.iv_hsub.proofs.Terms.Retype.{retype-has}
use Rattle.iv_hsub.proofs.Terms.Inst.{inst-term}
use Rattle.iv_hsub.proofs.Terms.Closed.{raise-closed, loose-term, type_of-front, IsTerm-front, IsTerm-wider}
use Rattle.iv_hsub.proofs.Terms.Raise.{IsTerm-raise, type_of-raise}
use Rattle.iv_hsub.proofs.Terms.Eta.{IsTerm-eta}
use Rattle.iv_hsub.proofs.Terms.Put.{Good, Has, happ-good, hsub-term}
use Rattle.iv_hsub.proofs.Terms.Abstract.{abstract_over-term, abstract_over-back}
use Rattle.iv_hsub.specs.Hsub.{hsub}
use Rattle.iv_hsub.proofs.Terms.Hhf.{hhf-term}
use Rattle.iv_hsub.proofs.Terms.Commute.{Commutes, put-put}

pub hsub_keeps : HsubKeepsTypes
hsub_keeps bounds a c v b p q = let r = hsub-term bounds a v b q.0 p.0 p.1 in (r.0, r.1 ∙ q.1)

pub happ_keeps : HappKeepsTypes
unfolding Good
happ_keeps bounds a v us p q = happ-good a bounds v us p.0 p.1 q

pub eta_keeps : EtaKeepsTypes
eta_keeps bounds a c b p = let r = IsTerm-eta bounds a b p.0 in (r.0, r.1 ∙ ap (fun a) p.1)

pub raise_keeps : RaiseKeepsTypes
unfolding join types_len
raise_keeps bounds a c t p = (IsTerm-raise Nil (ty_cons a Nil) bounds t p.0, type_of-raise Nil (ty_cons a Nil) bounds t ∙ p.1)

pub abstract_keeps : AbstractKeepsTypes
abstract_keeps bounds x a c t p = let r = abstract_over-term x a bounds t p.0 in (r.0, r.1 ∙ ap (fun a) p.1)

pub abstract_undone : AbstractIsUndone
abstract_undone bounds x a c t p = abstract_over-back x a bounds c t p

pub hhf_keeps : HhfKeepsTypes
unfolding Has
hhf_keeps bounds c t p = let r = hhf-term bounds t p.0 in (r.0, r.1 ∙ p.1)

pub puts_commute : PutsCommute
unfolding Commutes
puts_commute inner between bounds a b w v t p q r = put-put a b inner between bounds w v t p q r

pub hsubs_commute : HsubsCommute
unfolding Commutes hsub join types_len
hsubs_commute bounds a b w v t p q r = put-put a b Nil Nil bounds w v t p q r

pub loose_bounded : LooseIsBounded
loose_bounded = loose-term

pub bounds_grow : BoundsCanGrow
bounds_grow bounds outer c t p = (IsTerm-wider bounds outer t p.0, type_of-front bounds outer t (loose-term bounds t p.0) ∙ p.1)

pub bounds_shrink : BoundsCanShrink
bounds_shrink bounds outer c t q p = (IsTerm-front bounds outer t q p.0, sym (type_of-front bounds outer t q) ∙ p.1)

pub closed_stays : ClosedStays
closed_stays n t e = raise-closed n 0 t (le_of_eq e)

pub types_keep : RetypeKeepsTypes
types_keep f bounds c t p = retype-has f bounds c t p

pub values_keep : InstKeepsTypes
values_keep F bounds c t k p = let r = inst-term F bounds t k p.0 in (r.0, r.1 ∙ p.1)
