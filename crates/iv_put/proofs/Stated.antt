-- The laws in the words of their contracts.
use Rattle.std.proofs.Common.{◌∙◌, refl, ap, subst}
use Rattle.iv_term.specs.declared.typ.Types.{Types}
use Rattle.iv_term.specs.declared.term.Term.{Term}
use Rattle.iv_hsub.specs.Typing.{type_of, IsTerm, HasType}
use Rattle.iv_subst.specs.TySubst.{TyMap, put_typ, put_typs, at}
use Rattle.iv_hsub.specs.Retype.{retype}
use Rattle.iv_put.specs.Subst.{by_map, applied}
use Rattle.iv_put.specs.Laws.{MapsAreFunctions, ApplyKeepsTypes, NothingStays, ComposedIsBoth, ComposedCanApply, NextCanApply, ComposedIsClosed}
use Rattle.iv_hsub.proofs.Theory.{retype-has}
use Rattle.iv_put.proofs.Facts.Entries.{map-by, maps-by, applied-term, applied-nothing, apply-compose, can_apply-compose, can_apply-next, closed-composed}

pub retype_keeps : (s : TyMap) (bounds : Types) (t : Term) → IsTerm bounds t
    → HasType (put_typs (at s) bounds) (put_typ (at s) (type_of bounds t)) (retype (by_map s) t)
retype_keeps s bounds t p =
    let r = retype-has (by_map s) bounds (type_of bounds t) t (p, refl) in
    subst (λ bs. HasType bs (put_typ (at s) (type_of bounds t)) (retype (by_map s) t)) (maps-by s bounds) (r.0, r.1 ∙ map-by s (type_of bounds t))

pub maps_are : MapsAreFunctions
maps_are = map-by

pub apply_keeps : ApplyKeepsTypes
apply_keeps s bounds c t p k =
    let r = applied-term s bounds t p.0 k in
    subst (λ bs. HasType bs (put_typ (at s.0) c) (applied s t)) (maps-by s.0 bounds) (r.0, r.1 ∙ map-by s.0 (type_of bounds t) ∙ ap (put_typ (at s.0)) p.1)

pub nothing_stays : NothingStays
nothing_stays = applied-nothing

pub composed_both : ComposedIsBoth
composed_both first next bounds t = apply-compose first next bounds t

pub composed_can : ComposedCanApply
composed_can first next t = can_apply-compose first next t

pub next_can : NextCanApply
next_can first next bounds t = can_apply-next first next bounds t

pub composed_closed : ComposedIsClosed
composed_closed first next = closed-composed first next
