-- The laws in the words of their contracts.
use Rattle.std.proofs.Common.{List, [], ◌∷◌, refl, sym, ◌∙◌, ap}
use Rattle.iv_hsub.specs.Typing.{type_of}
use Rattle.iv_subst.specs.TySubst.{put_typs, at}
use Rattle.iv_put.specs.Subst.{Substitution}
use Rattle.iv_unify.specs.declared.pair.Pair.{Pair}
use Rattle.iv_unify.specs.Scope.{Scope, Leads}
use Rattle.iv_unify.specs.Laws.{AreOver, AreAlike, LeavesUnify, HaveTypesAlike, UnifiersUnifyTypes}
use Rattle.iv_unify.proofs.Scopes.{leading_types}
use Rattle.iv_unify.proofs.Sound.{leaves-unify}
use Rattle.iv_unify.proofs.Readied.{simplifies_all}
use Rattle.iv_unify.proofs.Assign.{assigns_all}
use Rattle.iv_unify.proofs.Choose.{chooses_all}
use Rattle.iv_unify.proofs.Close.{closes_all}

pub leaves_unify : LeavesUnify
leaves_unify = leaves-unify simplifies_all assigns_all chooses_all closes_all

types-alike : (G D : Scope) (s : Substitution) → Leads s G D → (qs : List Pair) → AreOver G qs → AreAlike s qs → HaveTypesAlike s qs
unfolding AreOver AreAlike HaveTypesAlike
types-alike G D s l [] o a = tt
types-alike G D s l (q ∷ qs) o a =
    let x = leading_types s G D q.bounds (type_of q.bounds q.left) q.left l (o.0.left_term, refl) o.0.left_over in
    let y = leading_types s G D q.bounds (type_of q.bounds q.right) q.right l (o.0.right_term, refl) o.0.right_over in
    (sym x.1 ∙ ap (type_of (put_typs (at s.0) q.bounds)) a.0 ∙ y.1, types-alike G D s l qs o.1 a.1)

pub unify_types : UnifiersUnifyTypes
unify_types G ps s o u = types-alike G u.1.0 s u.1.1 ps o u.0
