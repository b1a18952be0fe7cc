-- Terms whose parts may be new.
use Rattle.std.proofs.Common.{◌≡◌, List, ℕ, Option, IfOk, sym, ◌∙◌, ap}
use Rattle.std.specs.Option.{unwrap_or}
use Rattle.std.specs.Prelude.{Result}
use Rattle.std.proofs.lemmas.Result.{IfOk-weaker}
use Rattle.iv_text.specs.declared.want.Want.{Want}
use Rattle.iv_text.specs.declared.name.Name.{Name}
use Rattle.iv_term.specs.declared.typ.Typ.{Typ}
use Rattle.iv_term.specs.declared.term.Head.{Head}
use Rattle.iv_term.specs.declared.term.Head.TheVariants.{Const, Free, Schematic}
use Rattle.iv_term.specs.declared.term.Term.{Term}
use Rattle.iv_term.specs.declared.term.Terms.{Terms}
use Rattle.iv_term.specs.declared.term.Term.TheBlock.{Spine}
use Rattle.iv_term.specs.Term.{lam, tm_cons}
use Rattle.iv_hsub.specs.Index.{eta}
use Rattle.iv_subst.specs.TySubst.{TyMap, put_typ, at}
use Rattle.iv_hsub.specs.Retype.{map_typ}
use Rattle.iv_put.specs.Subst.{by_map}
use Rattle.iv_put.proofs.Facts.Entries.{map-by}

pub const-changed : (r : Result (Option Head) Want) (c : List ℕ) (o : Option Typ) (s : TyMap) (a : Typ)
    → IfOk r (λ n. (b : Typ) → unwrap_or n (Const c b) ≡ Const c (unwrap_or o b)) → unwrap_or o a ≡ put_typ (at s) a
    → IfOk r (λ n. unwrap_or n (Const c a) ≡ Const c (map_typ (by_map s) a))
const-changed r c o s a h e =
    IfOk-weaker r (λ n. (b : Typ) → unwrap_or n (Const c b) ≡ Const c (unwrap_or o b)) (λ n. unwrap_or n (Const c a) ≡ Const c (map_typ (by_map s) a))
    (λ n p. p a ∙ ap (Const c) (e ∙ sym (map-by s a))) h

pub free-changed : (r : Result (Option Head) Want) (x : Name) (o : Option Typ) (s : TyMap) (a : Typ)
    → IfOk r (λ n. (b : Typ) → unwrap_or n (Free x b) ≡ Free x (unwrap_or o b)) → unwrap_or o a ≡ put_typ (at s) a
    → IfOk r (λ n. unwrap_or n (Free x a) ≡ Free x (map_typ (by_map s) a))
free-changed r x o s a h e =
    IfOk-weaker r (λ n. (b : Typ) → unwrap_or n (Free x b) ≡ Free x (unwrap_or o b)) (λ n. unwrap_or n (Free x a) ≡ Free x (map_typ (by_map s) a))
    (λ n p. p a ∙ ap (Free x) (e ∙ sym (map-by s a))) h

pub schematic-changed : (r : Result (Option Head) Want) (x : Name) (o : Option Typ) (s : TyMap) (a : Typ)
    → IfOk r (λ n. (b : Typ) → unwrap_or n (Schematic x b) ≡ Schematic x (unwrap_or o b)) → unwrap_or o a ≡ put_typ (at s) a
    → IfOk r (λ n. unwrap_or n (Schematic x a) ≡ Schematic x (map_typ (by_map s) a))
schematic-changed r x o s a h e =
    IfOk-weaker r (λ n. (b : Typ) → unwrap_or n (Schematic x b) ≡ Schematic x (unwrap_or o b)) (λ n. unwrap_or n (Schematic x a) ≡ Schematic x (map_typ (by_map s) a))
    (λ n p. p a ∙ ap (Schematic x) (e ∙ sym (map-by s a))) h

pub abs-changed : (r : Result (Option Term) Want) (s : TyMap) (o : Option Typ) (q : Option Term) (a : Typ) (b u : Term)
    → IfOk r (λ n. unwrap_or n (lam a b) ≡ lam (unwrap_or o a) (unwrap_or q b)) → unwrap_or o a ≡ put_typ (at s) a → unwrap_or q b ≡ u
    → IfOk r (λ n. unwrap_or n (lam a b) ≡ lam (map_typ (by_map s) a) u)
abs-changed r s o q a b u h e f =
    let g = e ∙ sym (map-by s a) in
    IfOk-weaker r (λ n. unwrap_or n (lam a b) ≡ lam (unwrap_or o a) (unwrap_or q b)) (λ n. unwrap_or n (lam a b) ≡ lam (map_typ (by_map s) a) u)
    (λ n p. p ∙ (λ i. lam (g i) (f i))) h

pub spine-changed : (r : Result (Option Term) Want) (o : Option Head) (q : Option Terms) (h k : Head) (ts us : Terms)
    → IfOk r (λ n. unwrap_or n (Spine h ts) ≡ Spine (unwrap_or o h) (unwrap_or q ts)) → unwrap_or o h ≡ k → unwrap_or q ts ≡ us
    → IfOk r (λ n. unwrap_or n (Spine h ts) ≡ Spine k us)
spine-changed r o q h k ts us w e f =
    IfOk-weaker r (λ n. unwrap_or n (Spine h ts) ≡ Spine (unwrap_or o h) (unwrap_or q ts)) (λ n. unwrap_or n (Spine h ts) ≡ Spine k us)
    (λ n p. p ∙ (λ i. Spine (e i) (f i))) w

pub cons-changed : (r : Result (Option Terms) Want) (o : Option Term) (q : Option Terms) (t u : Term) (ts us : Terms)
    → IfOk r (λ n. unwrap_or n (tm_cons t ts) ≡ tm_cons (unwrap_or o t) (unwrap_or q ts)) → unwrap_or o t ≡ u → unwrap_or q ts ≡ us
    → IfOk r (λ n. unwrap_or n (tm_cons t ts) ≡ tm_cons u us)
cons-changed r o q t u ts us h e f =
    IfOk-weaker r (λ n. unwrap_or n (tm_cons t ts) ≡ tm_cons (unwrap_or o t) (unwrap_or q ts)) (λ n. unwrap_or n (tm_cons t ts) ≡ tm_cons u us)
    (λ n p. p ∙ (λ i. tm_cons (e i) (f i))) h

pub eta-changed : (r : Result (Option Term) Want) (s : TyMap) (o : Option Typ) (q : Option Term) (a : Typ) (b u : Term)
    → IfOk r (λ n. unwrap_or n (lam a b) ≡ eta (unwrap_or o a) (unwrap_or q b)) → unwrap_or o a ≡ put_typ (at s) a → unwrap_or q b ≡ u
    → IfOk r (λ n. unwrap_or n (lam a b) ≡ eta (map_typ (by_map s) a) u)
eta-changed r s o q a b u h e f =
    let g = e ∙ sym (map-by s a) in
    IfOk-weaker r (λ n. unwrap_or n (lam a b) ≡ eta (unwrap_or o a) (unwrap_or q b)) (λ n. unwrap_or n (lam a b) ≡ eta (map_typ (by_map s) a) u)
    (λ n p. p ∙ (λ i. eta (g i) (f i))) h

-- a head that has no value
pub head-stays : (r : Result (Option Term) Want) (o : Option Head) (h k : Head) (ts us : Terms) (w : Term)
    → IfOk r (λ n. unwrap_or n (Spine h ts) ≡ Spine (unwrap_or o h) us) → unwrap_or o h ≡ k → w ≡ Spine k us
    → IfOk r (λ n. unwrap_or n (Spine h ts) ≡ w)
head-stays r o h k ts us w p e q =
    IfOk-weaker r (λ n. unwrap_or n (Spine h ts) ≡ Spine (unwrap_or o h) us) (λ n. unwrap_or n (Spine h ts) ≡ w)
    (λ n f. f ∙ ap (λ z. Spine z us) e ∙ sym q) p
