-- Bodies of functions: alike bodies make alike functions.
use Rattle.std.proofs.Common.{◌≡◌, sym, ◌∙◌, ap, subst}
use Rattle.iv_term.specs.declared.typ.Typ.{Typ}
use Rattle.iv_term.specs.declared.typ.Types.{Types}
use Rattle.iv_term.specs.declared.typ.Typ.TheBlock.{Nil as no_types}
use Rattle.iv_term.specs.declared.term.Head.{Head}
use Rattle.iv_term.specs.declared.term.Term.{Term}
use Rattle.iv_term.specs.declared.term.Term.TheBlock.{Spine, Nil}
use Rattle.iv_term.specs.Typ.{fun, ty_cons}
use Rattle.iv_term.specs.Term.{lam, tm_cons}
use Rattle.iv_hsub.specs.Typing.{type_of, IsTerm, HasType}
use Rattle.iv_hsub.specs.Index.{index, raise, raise_all, eta}
use Rattle.iv_hsub.specs.Hhf.{expand}
use Rattle.iv_hsub.specs.Retype.{map_typ, map_typs, retype}
use Rattle.iv_hsub.specs.Inst.{inst, Vars}
use Rattle.iv_hsub.proofs.Theory.{fun-parts, eta-short, eta-expand, expand-has, retype-eta, retype-term, Has}
use Rattle.iv_laws.specs.Forms.{body}
use Rattle.iv_put.specs.Subst.{Substitution, by_map, values, applied, CanApply}
use Rattle.iv_put.specs.Putting.{AreValuesClosed}
use Rattle.iv_put.proofs.Theory.{value-in, vars-raise}
use Rattle.iv_put.proofs.Facts.Vars.{all-append}
use Rattle.iv_put.proofs.Facts.Passing.{inst_eta}
use Rattle.iv_put.specs.Subst.{AreClosed}
use Rattle.std.proofs.Common.{Some, None}
use Rattle.iv_term.specs.declared.term.Head.TheVariants.{Const, Free, Schematic, Bound}

-- a function is the abstraction of its body
pub opened-is : (bs : Types) (c d : Typ) (t : Term) → HasType bs (fun c d) t → t ≡ eta c (body t)
unfolding type_of
opened-is bs c d (lam a b) h =
    let e = (fun-parts a (type_of (ty_cons a bs) b) c d h.1).0 in
    ap (λ z. lam z b) e ∙ sym (eta-short c b h.0.1)
opened-is bs c d (Spine h ts) p = sym (eta-expand c h ts)

pub body-has : (bs : Types) (c d : Typ) (t : Term) → HasType bs (fun c d) t → HasType (ty_cons c bs) d (body t)
unfolding type_of Has
body-has bs c d (lam a b) h =
    let e = fun-parts a (type_of (ty_cons a bs) b) c d h.1 in
    subst (λ z. HasType (ty_cons z bs) d b) e.0 (h.0.0, e.1)
body-has bs c d (Spine h ts) p = expand-has bs c d h ts p

pub body-vars : (P : Head → Typ → Type 0) (t : Term) → Vars P t → Vars P (body t)
unfolding raise expand
body-vars P (lam a b) p = p
body-vars P (Spine h ts) p =
    let r = vars-raise P 1 0 (Spine h ts) p in
    (r.0, all-append P (raise_all 1 0 ts) (tm_cons (index 0) Nil) r.1 ((tt, tt), tt))

pub values-closed : (e : Substitution) → AreClosed e.1 → AreValuesClosed (values e)
values-closed e c (Const x a) v q = absurd (let bad : None ≡ Some v = q in cc)
values-closed e c (Free x a) v q = absurd (let bad : None ≡ Some v = q in cc)
values-closed e c (Schematic x a) v q = value-in (IsTerm no_types) e.1 x v c q
values-closed e c (Bound n) v q = absurd (let bad : None ≡ Some v = q in cc)

-- a substitution passes contraction
pub applied-eta : (e : Substitution) (bs : Types) (c : Typ) (b : Term) → AreClosed e.1 → IsTerm (ty_cons c bs) b → CanApply e b
    → applied e (eta c b) ≡ eta (map_typ (by_map e.0) c) (applied e b)
unfolding map_typs
applied-eta e bs c b k p q =
    ap (inst (values e)) (retype-eta (by_map e.0) c b)
    ∙ inst_eta (values e) (map_typs (by_map e.0) bs) (map_typ (by_map e.0) c) (retype (by_map e.0) b) (values-closed e k) (retype-term (by_map e.0) (ty_cons c bs) b p).0 q

pub bodies-alike : (e : Substitution) (bs : Types) (c d : Typ) (t u : Term) → AreClosed e.1 → HasType bs (fun c d) t → HasType bs (fun c d) u
    → CanApply e (body t) → CanApply e (body u) → applied e (body t) ≡ applied e (body u) → applied e t ≡ applied e u
bodies-alike e bs c d t u k p q v w a =
    ap (applied e) (opened-is bs c d t p) ∙ applied-eta e bs c (body t) k (body-has bs c d t p).0 v
    ∙ ap (eta (map_typ (by_map e.0) c)) a
    ∙ sym (applied-eta e bs c (body u) k (body-has bs c d u q).0 w) ∙ sym (ap (applied e) (opened-is bs c d u q))
