-- Hereditary substitution: what a value is at arguments, and the result is a term of the same type.
use Rattle.std.proofs.Common.{◌≡◌, ℕ, suc, pred, ◌+◌, ◌<◌, Bool, true, false, ◌⊎◌, inl, inr, if◌then◌else◌, refl, sym, ◌∙◌, ap, subst, arith}
use Rattle.iv_term.specs.declared.typ.Typ.{Typ}
use Rattle.iv_term.specs.declared.typ.Types.{Types}
use Rattle.iv_term.specs.declared.typ.Typ.TheBlock.{Con, Fixed, Schematic as Variable, Nil as no_types}
use Rattle.iv_term.specs.declared.term.Head.{Head}
use Rattle.iv_term.specs.declared.term.Head.TheVariants.{Const, Free, Schematic, Bound}
use Rattle.iv_term.specs.declared.term.Term.{Term}
use Rattle.iv_term.specs.declared.term.Terms.{Terms}
use Rattle.iv_term.specs.declared.term.Term.TheBlock.{Spine, Nil}
use Rattle.iv_term.specs.Typ.{fun, ty_cons, same_typ}
use Rattle.iv_term.specs.Term.{lam, tm_cons}
use Rattle.iv_term.proofs.Laws.Same.{same_typ-true, same_typ-same}
use Rattle.iv_hsub.specs.Typing.{cod, types_len, type_at, head_type, result_type, type_of, IsHead, IsTerm, AreArgs, join}
use Rattle.iv_hsub.specs.Index.{raise}
use Rattle.iv_hsub.specs.Hsub.{append, put_head, put, put_all, happ, hsub}
use Rattle.iv_hsub.proofs.Terms.Base.{lt_true, lt_false, eq_true, eq_false, types_len-join, type_at-low, type_at-high, type_at-here, fun_induction, fun-parts}
use Rattle.iv_hsub.proofs.Terms.Raise.{IsTerm-raise, type_of-raise}
use Rattle.iv_hsub.proofs.Terms.Eta.{append-nil, result-append, AreArgs-append, IsTerm-eta}

-- what a value is at arguments, by its form
pub happ-nil : (a : Typ) (v : Term) → happ a v Nil ≡ v
unfolding happ
happ-nil (Con c (ty_cons a (ty_cons b no_types))) v = refl
happ-nil (Con c no_types) v = refl
happ-nil (Con c (ty_cons a no_types)) v = refl
happ-nil (Con c (ty_cons a (ty_cons b (ty_cons d rest)))) v = refl
happ-nil (Fixed c) v = refl
happ-nil (Variable c) v = refl

happ-spine_more : (a : Typ) (h : Head) (ts : Terms) (u : Term) (us : Terms) → happ a (Spine h ts) (tm_cons u us) ≡ Spine h (append ts (tm_cons u us))
unfolding happ
happ-spine_more (Con c (ty_cons a (ty_cons b no_types))) h ts u us = refl
happ-spine_more (Con c no_types) h ts u us = refl
happ-spine_more (Con c (ty_cons a no_types)) h ts u us = refl
happ-spine_more (Con c (ty_cons a (ty_cons b (ty_cons d rest)))) h ts u us = refl
happ-spine_more (Fixed c) h ts u us = refl
happ-spine_more (Variable c) h ts u us = refl

pub happ-spine : (a : Typ) (h : Head) (ts us : Terms) → happ a (Spine h ts) us ≡ Spine h (append ts us)
happ-spine a h ts Nil = happ-nil a (Spine h ts) ∙ ap (Spine h) (sym (append-nil ts))
happ-spine a h ts (tm_cons u us) = happ-spine_more a h ts u us

happ-at_fun : (y d : Typ) (b u : Term) (us : Terms) → happ (fun d y) (lam d b) (tm_cons u us) ≡ happ y (put (happ d) u 0 b) us
unfolding happ
happ-at_fun y d b u us = rw (same_typ-same (fun d y)) refl

pub happ-lam : (a d : Typ) (b u : Term) (us : Terms) → a ≡ fun d (cod a) → happ a (lam d b) (tm_cons u us) ≡ happ (cod a) (put (happ d) u 0 b) us
happ-lam a d b u us e = subst (λ c. happ c (lam d b) (tm_cons u us) ≡ happ (cod a) (put (happ d) u 0 b) us) (sym e) (happ-at_fun (cod a) d b u us)

stuck : (b : Bool) (t u : Term) → b ≡ false → (if b then t else u) ≡ u
stuck b t u e = rw e refl

pub happ-stuck : (a d : Typ) (b u : Term) (us : Terms) → (a ≡ fun d (cod a) → ⊥) → happ a (lam d b) (tm_cons u us) ≡ lam d b
unfolding happ cod
happ-stuck (Con c (ty_cons x (ty_cons y no_types))) d b u us n = go (same_typ (Con c (ty_cons x (ty_cons y no_types))) (fun d y)) refl
  where
    go : (v : Bool) → same_typ (Con c (ty_cons x (ty_cons y no_types))) (fun d y) ≡ v → happ (Con c (ty_cons x (ty_cons y no_types))) (lam d b) (tm_cons u us) ≡ lam d b
    go false e = stuck _ _ _ e
    go true e = absurd (n (same_typ-true _ _ e))
happ-stuck (Con c no_types) d b u us n = refl
happ-stuck (Con c (ty_cons x no_types)) d b u us n = refl
happ-stuck (Con c (ty_cons x (ty_cons y (ty_cons z rest)))) d b u us n = refl
happ-stuck (Fixed c) d b u us n = refl
happ-stuck (Variable c) d b u us n = refl

-- the index, as it is put
pub put-low : (f : Term → Terms → Term) (v : Term) (k n : ℕ) (ts : Terms) → n < k → put_head f v k (Bound n) ts ≡ Spine (Bound n) ts
put-low f v k n ts h = rw (lt_true n k h) refl

pub put-here : (f : Term → Terms → Term) (v : Term) (k : ℕ) (ts : Terms) → put_head f v k (Bound k) ts ≡ f (raise k 0 v) ts
put-here f v k ts = rw (lt_false k k (omega arith), eq_true k k refl) refl

pub put-high : (f : Term → Terms → Term) (v : Term) (k n : ℕ) (ts : Terms) → k < n → put_head f v k (Bound n) ts ≡ Spine (Bound (pred n)) ts
put-high f v k n ts h = rw (lt_false n k (omega (arith, h)), eq_false n k (λ e. omega (arith, h, e))) refl

pub index_cases : (n k : ℕ) → (n < k) ⊎ ((n ≡ k) ⊎ (k < n))
index_cases n k = grind arith

-- the number of arguments stays, so what they lead to does
pub result-put : (f : Term → Terms → Term) (v : Term) (k : ℕ) (a : Typ) (ts : Terms) → result_type a (put_all f v k ts) ≡ result_type a ts
unfolding put_all result_type
result-put f v k a Nil = refl
result-put f v k a (tm_cons t ts) = result-put f v k (cod a) ts

-- a function that says what values of type a are at arguments keeps types
unfoldable pub Good : Typ → (Term → Terms → Term) → Type 0
Good a f = (bs : Types) (v : Term) (us : Terms) → IsTerm bs v → type_of bs v ≡ a → AreArgs bs a us
    → IsTerm bs (f v us) × (type_of bs (f v us) ≡ result_type a us)

-- a term of some type
unfoldable pub Has : Types → Typ → Term → Type 0
Has bs a t = IsTerm bs t × (type_of bs t ≡ a)

module _ (a : Typ) (f : Term → Terms → Term) (good : Good a f) (bs : Types) (v : Term) (v_term : IsTerm bs v) (v_type : type_of bs v ≡ a) where
  spine_term : (h : Head) (es : Types) (us : Terms) → IsHead (join es bs) h → AreArgs (join es bs) (head_type (join es bs) h) us
      → Has (join es bs) (result_type (head_type (join es bs) h) us) (Spine h us)
  unfolding Has type_of
  spine_term h es us p q = ((p, q), refl)

  -- a head with arguments that are put already
  put-head : (es : Types) (h : Head) (us : Terms) → IsHead (join es (ty_cons a bs)) h → AreArgs (join es bs) (head_type (join es (ty_cons a bs)) h) us
      → Has (join es bs) (result_type (head_type (join es (ty_cons a bs)) h) us) (put_head f v (types_len es) h us)
  unfolding Good Has type_of join types_len
  put-head es (Const x c) us p q = ((tt, q), refl)
  put-head es (Free x c) us p q = ((tt, q), refl)
  put-head es (Schematic x c) us p q = ((tt, q), refl)
  put-head es (Bound n) us p q = go (index_cases n (types_len es))
    where
      go : (n < types_len es) ⊎ ((n ≡ types_len es) ⊎ (types_len es < n))
          → Has (join es bs) (result_type (type_at (join es (ty_cons a bs)) n) us) (put_head f v (types_len es) (Bound n) us)
      go (inl h) =
          let e = type_at-low es (ty_cons a no_types) bs n h in
          subst (Has (join es bs) (result_type (type_at (join es (ty_cons a bs)) n) us)) (sym (put-low f v (types_len es) n us h))
          ((omega (arith, h, types_len-join es bs), subst (λ c. AreArgs (join es bs) c us) e q), ap (λ c. result_type c us) (sym e))
      go (inr (inl h)) =
          let e : type_at (join es (ty_cons a bs)) n ≡ a = ap (type_at (join es (ty_cons a bs))) h ∙ type_at-here es bs a in
          let r : put_head f v (types_len es) (Bound n) us ≡ f (raise (types_len es) 0 v) us = ap (λ m. put_head f v (types_len es) (Bound m) us) h ∙ put-here f v (types_len es) us in
          let w = IsTerm-raise no_types es bs v v_term in
          let z = type_of-raise no_types es bs v ∙ v_type in
          let g = good (join es bs) (raise (types_len es) 0 v) us w z (subst (λ c. AreArgs (join es bs) c us) e q) in
          subst (Has (join es bs) (result_type (type_at (join es (ty_cons a bs)) n) us)) (sym r) (g.0, g.1 ∙ ap (λ c. result_type c us) (sym e))
      go (inr (inr h)) =
          let up : pred n + 1 ≡ n = omega (arith, h) in
          let e : type_at (join es (ty_cons a bs)) n ≡ type_at (join es bs) (pred n) = ap (type_at (join es (ty_cons a bs))) (sym up) ∙ type_at-high es (ty_cons a no_types) bs (pred n) (omega (arith, h)) in
          subst (Has (join es bs) (result_type (type_at (join es (ty_cons a bs)) n) us)) (sym (put-high f v (types_len es) n us h))
          ((omega (arith, h, p, types_len-join es bs, types_len-join es (ty_cons a bs)), subst (λ c. AreArgs (join es bs) c us) e q), ap (λ c. result_type c us) (sym e))

  mutual
    unfolding put Has type_of join types_len

    pub put-term : (es : Types) (t : Term) → IsTerm (join es (ty_cons a bs)) t
        → Has (join es bs) (type_of (join es (ty_cons a bs)) t) (put f v (types_len es) t)
    put-term es (lam c b) p =
        let r = put-term (ty_cons c es) b p.0 in
        let s = IsTerm-eta (join es bs) c (put f v (suc (types_len es)) b) r.0 in
        (s.0, s.1 ∙ ap (fun c) r.1)
    put-term es (Spine h ts) p =
        let c = head_type (join es (ty_cons a bs)) h in
        let q = put-args es c ts p.1 in
        let r = put-head es h (put_all f v (types_len es) ts) p.0 q in
        (r.0, r.1 ∙ result-put f v (types_len es) c ts)

    pub put-args : (es : Types) (c : Typ) (ts : Terms) → AreArgs (join es (ty_cons a bs)) c ts → AreArgs (join es bs) c (put_all f v (types_len es) ts)
    put-args es c Nil p = tt
    put-args es c (tm_cons t ts) p =
        let r = put-term es t p.1.0 in
        (p.0 ∙ ap (λ z. fun z (cod c)) (sym r.1), (r.0, put-args es (cod c) ts p.1.1))

-- a type of functions at its first argument
pub lam-type : (bs : Types) (a d : Typ) (b u : Term) → type_of bs (lam d b) ≡ a → a ≡ fun (type_of bs u) (cod a)
    → (a ≡ fun d (cod a)) × ((type_of bs u ≡ d) × (type_of (ty_cons d bs) b ≡ cod a))
unfolding type_of
lam-type bs a d b u e f =
    let p = fun-parts d (type_of (ty_cons d bs) b) (type_of bs u) (cod a) (e ∙ f) in
    (f ∙ ap (λ z. fun z (cod a)) (sym p.0), (sym p.0, p.1))

happ-step : (a : Typ) → ((x y : Typ) → a ≡ fun x y → Good x (happ x) × Good y (happ y)) → Good a (happ a)
unfolding Good Has result_type type_of join types_len
happ-step a parts bs v Nil p e q = (subst (IsTerm bs) (sym (happ-nil a v)) p, ap (type_of bs) (happ-nil a v) ∙ e)
happ-step a parts bs (Spine h ts) (tm_cons u us) p e q =
    let c = head_type bs h in
    let s = happ-spine a h ts (tm_cons u us) in
    let r : result_type c ts ≡ a = e in
    let g = AreArgs-append bs c ts (tm_cons u us) p.1 (subst (λ z. AreArgs bs z (tm_cons u us)) (sym r) q) in
    let z : type_of bs (Spine h (append ts (tm_cons u us))) ≡ result_type a (tm_cons u us) =
    result-append c ts (tm_cons u us) ∙ ap (λ y. result_type y (tm_cons u us)) r in
    (subst (IsTerm bs) (sym s) (p.0, g), ap (type_of bs) s ∙ z)
happ-step a parts bs (lam d b) (tm_cons u us) p e q =
    let k = lam-type bs a d b u e q.0 in
    let g = parts d (cod a) k.0 in
    let m = put-term d (happ d) g.0 bs u q.1.0 k.1.0 no_types b p.0 in
    let w : Has bs (type_of (ty_cons d bs) b) (put (happ d) u 0 b) = m in
    let r = g.1 bs (put (happ d) u 0 b) us w.0 (w.1 ∙ k.1.1) q.1.1 in
    let s = happ-lam a d b u us k.0 in
    (subst (IsTerm bs) (sym s) r.0, ap (type_of bs) s ∙ r.1)

pub happ-good : (a : Typ) → Good a (happ a)
happ-good a = fun_induction (λ c. Good c (happ c)) happ-step a

-- what is put in leaves a term a term, of its type
pub hsub-term : (bs : Types) (a : Typ) (v b : Term) → IsTerm (ty_cons a bs) b → IsTerm bs v → type_of bs v ≡ a
    → IsTerm bs (hsub a v b) × (type_of bs (hsub a v b) ≡ type_of (ty_cons a bs) b)
unfolding hsub Has join types_len
hsub-term bs a v b p q e = put-term a (happ a) (happ-good a) bs v q e no_types b p
