-- Types put in a term go past hereditary substitution. The induction is on the type before types are put in it.
use Rattle.std.proofs.Common.{◌≡◌, suc, ◌<◌, ◌⊎◌, inl, inr, refl, sym, ◌∙◌, ap, subst}
use Rattle.iv_term.specs.declared.typ.Typ.{Typ}
use Rattle.iv_term.specs.declared.typ.Types.{Types}
use Rattle.iv_term.specs.declared.typ.Typ.TheBlock.{Nil as no_types}
use Rattle.iv_term.specs.declared.term.Head.{Head}
use Rattle.iv_term.specs.declared.term.Head.TheVariants.{Const, Free, Schematic, Bound}
use Rattle.iv_term.specs.declared.term.Term.{Term}
use Rattle.iv_term.specs.declared.term.Terms.{Terms}
use Rattle.iv_term.specs.declared.term.Term.TheBlock.{Spine, Nil}
use Rattle.iv_term.specs.Typ.{fun, ty_cons}
use Rattle.iv_term.specs.Term.{lam, tm_cons}
use Rattle.iv_hsub.specs.Typing.{cod, types_len, type_at, join, head_type, IsTerm, AreArgs, HasType}
use Rattle.iv_hsub.specs.Index.{raise, eta}
use Rattle.iv_hsub.specs.Hsub.{put_head, put, put_all, happ}
use Rattle.iv_hsub.proofs.Theory.{type_at-here, fun_induction}
use Rattle.iv_hsub.proofs.Theory.{happ-nil, happ-spine, happ-lam, put-low, put-here, put-high, index_cases, put-term, put-args, happ-good, Has, lam-type}
use Rattle.iv_hsub.proofs.Theory.{raised-type}
use Rattle.iv_hsub.specs.Retype.{map_typ, retype_head, retype, retype_all}
use Rattle.iv_hsub.proofs.Theory.{fun-map, cod-map, raise-retype, retype_all-append, retype-eta}

module _ (f : Typ → Typ) where
  -- types go past values of type a at arguments
  unfoldable pub Passes : Typ → Type 0
  Passes a = (bs : Types) (v : Term) (us : Terms) → HasType bs a v → AreArgs bs a us
      → retype f (happ a v us) ≡ happ (map_typ f a) (retype f v) (retype_all f us)

  module _ (a : Typ) (passes : Passes a) (bs : Types) (v : Term) (pv : HasType bs a v) where
    retype-put_head : (es : Types) (h : Head) (us : Terms) → AreArgs (join es bs) (head_type (join es (ty_cons a bs)) h) us
        → retype f (put_head (happ a) v (types_len es) h us) ≡ put_head (happ (map_typ f a)) (retype f v) (types_len es) (retype_head f h) (retype_all f us)
    unfolding Passes retype
    retype-put_head es (Const x c) us q = refl
    retype-put_head es (Free x c) us q = refl
    retype-put_head es (Schematic x c) us q = refl
    retype-put_head es (Bound n) us q = go (index_cases n (types_len es))
      where
        go : (n < types_len es) ⊎ ((n ≡ types_len es) ⊎ (types_len es < n))
            → retype f (put_head (happ a) v (types_len es) (Bound n) us) ≡ put_head (happ (map_typ f a)) (retype f v) (types_len es) (Bound n) (retype_all f us)
        go (inl h) = ap (retype f) (put-low (happ a) v (types_len es) n us h) ∙ sym (put-low (happ (map_typ f a)) (retype f v) (types_len es) n (retype_all f us) h)
        go (inr (inl h)) =
            let e : type_at (join es (ty_cons a bs)) n ≡ a = ap (type_at (join es (ty_cons a bs))) h ∙ type_at-here es bs a in
            let r = subst (λ c. AreArgs (join es bs) c us) e q in
            ap (λ m. retype f (put_head (happ a) v (types_len es) (Bound m) us)) h
            ∙ ap (retype f) (put-here (happ a) v (types_len es) us)
            ∙ passes (join es bs) (raise (types_len es) 0 v) us (raised-type es bs a v pv) r
            ∙ ap (λ w. happ (map_typ f a) w (retype_all f us)) (raise-retype f (types_len es) 0 v)
            ∙ sym (ap (λ m. put_head (happ (map_typ f a)) (retype f v) (types_len es) (Bound m) (retype_all f us)) h
            ∙ put-here (happ (map_typ f a)) (retype f v) (types_len es) (retype_all f us))
        go (inr (inr h)) = ap (retype f) (put-high (happ a) v (types_len es) n us h) ∙ sym (put-high (happ (map_typ f a)) (retype f v) (types_len es) n (retype_all f us) h)

    mutual
      unfolding retype put types_len join

      pub retype-put : (es : Types) (t : Term) → IsTerm (join es (ty_cons a bs)) t
          → retype f (put (happ a) v (types_len es) t) ≡ put (happ (map_typ f a)) (retype f v) (types_len es) (retype f t)
      retype-put es (lam c b) p = retype-eta f c (put (happ a) v (suc (types_len es)) b) ∙ ap (eta (map_typ f c)) (retype-put (ty_cons c es) b p.0)
      retype-put es (Spine h ts) p =
          let c = head_type (join es (ty_cons a bs)) h in
          retype-put_head es h (put_all (happ a) v (types_len es) ts) (put-args a (happ a) (happ-good a) bs v pv.0 pv.1 es c ts p.1)
          ∙ ap (put_head (happ (map_typ f a)) (retype f v) (types_len es) (retype_head f h)) (retype-puts es c ts p.1)

      pub retype-puts : (es : Types) (c : Typ) (ts : Terms) → AreArgs (join es (ty_cons a bs)) c ts
          → retype_all f (put_all (happ a) v (types_len es) ts) ≡ put_all (happ (map_typ f a)) (retype f v) (types_len es) (retype_all f ts)
      retype-puts es c Nil p = refl
      retype-puts es c (tm_cons t ts) p = let x = retype-put es t p.1.0 in let y = retype-puts es (cod c) ts p.1.1 in λ i. tm_cons (x i) (y i)

  passes-step : (a : Typ) → ((x y : Typ) → a ≡ fun x y → Passes x × Passes y) → Passes a
  unfolding Passes retype types_len join Has
  passes-step a parts bs v Nil pv pu = ap (retype f) (happ-nil a v) ∙ sym (happ-nil (map_typ f a) (retype f v))
  passes-step a parts bs (Spine h ts) (tm_cons u us) pv pu =
      ap (retype f) (happ-spine a h ts (tm_cons u us)) ∙ ap (Spine (retype_head f h)) (retype_all-append f ts (tm_cons u us))
      ∙ sym (happ-spine (map_typ f a) (retype_head f h) (retype_all f ts) (retype_all f (tm_cons u us)))
  passes-step a parts bs (lam d t) (tm_cons u us) pv pu =
      let k = lam-type bs a d t u pv.1 pu.0 in
      let s = parts d (cod a) k.0 in
      let m = put-term d (happ d) (happ-good d) bs u pu.1.0 k.1.0 no_types t pv.0.0 in
      let c = cod-map f d a k.0 in
      let e : map_typ f a ≡ fun (map_typ f d) (cod (map_typ f a)) = ap (map_typ f) k.0 ∙ fun-map f d (cod a) ∙ ap (fun (map_typ f d)) (sym c) in
      ap (retype f) (happ-lam a d t u us k.0)
      ∙ s.1 bs (put (happ d) u 0 t) us (m.0, m.1 ∙ k.1.1) pu.1.1
      ∙ ap (λ z. happ (map_typ f (cod a)) z (retype_all f us)) (retype-put d s.0 bs u (pu.1.0, k.1.0) no_types t pv.0.0)
      ∙ ap (λ z. happ z (put (happ (map_typ f d)) (retype f u) 0 (retype f t)) (retype_all f us)) (sym c)
      ∙ sym (happ-lam (map_typ f a) (map_typ f d) (retype f t) (retype f u) (retype_all f us) e)

  pub retype-passes : (a : Typ) → Passes a
  retype-passes a = fun_induction Passes passes-step a

  pub retype-happ : (a : Typ) (bs : Types) (v : Term) (us : Terms) → HasType bs a v → AreArgs bs a us
      → retype f (happ a v us) ≡ happ (map_typ f a) (retype f v) (retype_all f us)
  unfolding Passes
  retype-happ a = retype-passes a
