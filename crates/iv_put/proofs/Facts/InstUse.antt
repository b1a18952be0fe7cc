-- Values put for variables go past hereditary substitution, so two of them in a row are one.
use Rattle.std.proofs.Common.{◌≡◌, suc, pred, ◌<◌, ◌⊎◌, inl, inr, Option, Some, None, refl, sym, ◌∙◌, ap, subst}
use Rattle.iv_term.specs.declared.typ.Typ.{Typ}
use Rattle.iv_term.specs.declared.typ.Types.{Types}
use Rattle.iv_term.specs.declared.typ.Typ.TheBlock.{Nil as no_types}
use Rattle.iv_term.specs.declared.term.Head.{Head}
use Rattle.iv_term.specs.declared.term.Head.TheVariants.{Const, Free, Schematic, Bound}
use Rattle.iv_term.specs.declared.term.Term.{Term}
use Rattle.iv_term.specs.declared.term.Terms.{Terms}
use Rattle.iv_term.specs.declared.term.Term.TheBlock.{Spine, Nil}
use Rattle.iv_term.specs.Typ.{fun, ty_cons}
use Rattle.iv_term.specs.Term.{lam, tm_cons}
use Rattle.iv_hsub.specs.Typing.{cod, types_len, type_at, join, head_type, result_type, type_of, IsTerm, AreArgs, HasType}
use Rattle.iv_hsub.specs.Index.{raise, eta}
use Rattle.iv_hsub.specs.Hsub.{append, put_head, put, put_all, happ}
use Rattle.iv_hsub.proofs.Theory.{type_at-here, fun_induction}
use Rattle.iv_hsub.proofs.Theory.{happ-nil, happ-spine, happ-lam, put-low, put-here, put-high, index_cases, put-term, put-args, happ-good, Has, lam-type}
use Rattle.iv_hsub.proofs.Theory.{raised-type, put-eta, both, Uses, happ-append, happ-eta}
use Rattle.iv_hsub.specs.Inst.{use_value, inst_head, inst, inst_all, Fits}
use Rattle.iv_put.specs.Putting.{then_value}
use Rattle.iv_hsub.proofs.Theory.{closed-has, put-none, result-inst, inst_all-append, Typed, typed-term, typed-args, inst-raise, inst-eta}

-- a variable that a value may be put for, under substitution for an index
pub use_value-put : (a : Typ) (bs : Types) (v : Term) → HasType bs a v → (es : Types) (o : Option Term) (h : Head) (c : Typ) (us : Terms) → Fits o c
    → ((ts : Terms) → put_head (happ a) v (types_len es) h ts ≡ Spine h ts) → AreArgs (join es (ty_cons a bs)) c us
    → put (happ a) v (types_len es) (use_value o h c us) ≡ use_value o h c (put_all (happ a) v (types_len es) us)
unfolding put Uses
use_value-put a bs v pv es None h c us f e q = e (put_all (happ a) v (types_len es) us)
use_value-put a bs v pv es (Some w) h c us f e q =
    (both c a).0 es bs v w us pv (closed-has (join es (ty_cons a bs)) c w f) q
    ∙ ap (λ z. happ c z (put_all (happ a) v (types_len es) us)) (put-none (happ a) v (types_len es) w f.0)

-- it at arguments, and at more of them
pub use_value-append : (a : Typ) (bs : Types) (o : Option Term) (h : Head) (c : Typ) (xs ys : Terms) → Fits o c → AreArgs bs c xs → result_type c xs ≡ a
    → use_value o h c (append xs ys) ≡ happ a (use_value o h c xs) ys
use_value-append a bs None h c xs ys f q e = sym (happ-spine a h xs ys)
use_value-append a bs (Some w) h c xs ys f q e = happ-append c w xs ys bs (closed-has bs c w f) q ∙ ap (λ z. happ z (happ c w xs) ys) e

spine-type : (bs : Types) (a : Typ) (h : Head) (ts : Terms) → type_of bs (Spine h ts) ≡ a → result_type (head_type bs h) ts ≡ a
unfolding type_of
spine-type bs a h ts e = e

module _ (F : Head → Option Term) (typed : Typed F) where
  -- they go past values of type a at arguments
  unfoldable pub Passes : Typ → Type 0
  Passes a = (bs : Types) (v : Term) (us : Terms) → HasType bs a v → AreArgs bs a us → inst F (happ a v us) ≡ happ a (inst F v) (inst_all F us)

  module _ (a : Typ) (passes : Passes a) (bs : Types) (v : Term) (pv : HasType bs a v) where
    inst-put_head : (es : Types) (h : Head) (us ws : Terms) → AreArgs (join es bs) (head_type (join es (ty_cons a bs)) h) us
        → AreArgs (join es (ty_cons a bs)) (head_type (join es (ty_cons a bs)) h) ws
        → inst_all F us ≡ put_all (happ a) (inst F v) (types_len es) ws
        → inst F (put_head (happ a) v (types_len es) h us) ≡ put (happ a) (inst F v) (types_len es) (inst_head F h ws)
    unfolding Typed Passes inst put
    inst-put_head es (Const x c) us ws q r e = ap (Spine (Const x c)) e
    inst-put_head es (Free x c) us ws q r e =
        ap (use_value (F (Free x c)) (Free x c) c) e
        ∙ sym (use_value-put a bs (inst F v) (typed-term F typed bs a v pv) es (F (Free x c)) (Free x c) c ws (typed (Free x c)) (λ ts. refl) r)
    inst-put_head es (Schematic x c) us ws q r e =
        ap (use_value (F (Schematic x c)) (Schematic x c) c) e
        ∙ sym (use_value-put a bs (inst F v) (typed-term F typed bs a v pv) es (F (Schematic x c)) (Schematic x c) c ws (typed (Schematic x c)) (λ ts. refl) r)
    inst-put_head es (Bound n) us ws q r e = go (index_cases n (types_len es))
      where
        go : (n < types_len es) ⊎ ((n ≡ types_len es) ⊎ (types_len es < n))
            → inst F (put_head (happ a) v (types_len es) (Bound n) us) ≡ put_head (happ a) (inst F v) (types_len es) (Bound n) (put_all (happ a) (inst F v) (types_len es) ws)
        go (inl h) = ap (inst F) (put-low (happ a) v (types_len es) n us h) ∙ ap (Spine (Bound n)) e
            ∙ sym (put-low (happ a) (inst F v) (types_len es) n (put_all (happ a) (inst F v) (types_len es) ws) h)
        go (inr (inl h)) =
            let t : type_at (join es (ty_cons a bs)) n ≡ a = ap (type_at (join es (ty_cons a bs))) h ∙ type_at-here es bs a in
            let s = subst (λ c. AreArgs (join es bs) c us) t q in
            let k = inst-raise F typed (types_len es) 0 v in
            ap (λ m. inst F (put_head (happ a) v (types_len es) (Bound m) us)) h
            ∙ ap (inst F) (put-here (happ a) v (types_len es) us)
            ∙ passes (join es bs) (raise (types_len es) 0 v) us (raised-type es bs a v pv) s
            ∙ (λ i. happ a (k i) (e i))
            ∙ sym (ap (λ m. put_head (happ a) (inst F v) (types_len es) (Bound m) (put_all (happ a) (inst F v) (types_len es) ws)) h
            ∙ put-here (happ a) (inst F v) (types_len es) (put_all (happ a) (inst F v) (types_len es) ws))
        go (inr (inr h)) = ap (inst F) (put-high (happ a) v (types_len es) n us h) ∙ ap (Spine (Bound (pred n))) e
            ∙ sym (put-high (happ a) (inst F v) (types_len es) n (put_all (happ a) (inst F v) (types_len es) ws) h)

    mutual
      unfolding inst put types_len join Has

      pub inst-put : (es : Types) (t : Term) → IsTerm (join es (ty_cons a bs)) t
          → inst F (put (happ a) v (types_len es) t) ≡ put (happ a) (inst F v) (types_len es) (inst F t)
      inst-put es (lam c b) p =
          inst-eta F typed (join es bs) c (put (happ a) v (suc (types_len es)) b) (put-term a (happ a) (happ-good a) bs v pv.0 pv.1 (ty_cons c es) b p.0).0
          ∙ ap (eta c) (inst-put (ty_cons c es) b p.0)
          ∙ sym (put-eta a bs (inst F v) (typed-term F typed bs a v pv) es c (inst F b)
          (typed-term F typed (ty_cons c (join es (ty_cons a bs))) (type_of (ty_cons c (join es (ty_cons a bs))) b) b (p.0, refl)).0)
      inst-put es (Spine h ts) p =
          let c = head_type (join es (ty_cons a bs)) h in
          inst-put_head es h (put_all (happ a) v (types_len es) ts) (inst_all F ts)
          (put-args a (happ a) (happ-good a) bs v pv.0 pv.1 es c ts p.1) (typed-args F typed (join es (ty_cons a bs)) c ts p.1) (inst-puts es c ts p.1)

      pub inst-puts : (es : Types) (c : Typ) (ts : Terms) → AreArgs (join es (ty_cons a bs)) c ts
          → inst_all F (put_all (happ a) v (types_len es) ts) ≡ put_all (happ a) (inst F v) (types_len es) (inst_all F ts)
      inst-puts es c Nil p = refl
      inst-puts es c (tm_cons t ts) p = let x = inst-put es t p.1.0 in let y = inst-puts es (cod c) ts p.1.1 in λ i. tm_cons (x i) (y i)

  inst_head-append : (a : Typ) (bs : Types) (h : Head) (xs ys : Terms) → AreArgs bs (head_type bs h) xs → result_type (head_type bs h) xs ≡ a
      → inst_head F h (append xs ys) ≡ happ a (inst_head F h xs) ys
  unfolding Typed
  inst_head-append a bs (Const x c) xs ys q e = sym (happ-spine a (Const x c) xs ys)
  inst_head-append a bs (Free x c) xs ys q e = use_value-append a bs (F (Free x c)) (Free x c) c xs ys (typed (Free x c)) q e
  inst_head-append a bs (Schematic x c) xs ys q e = use_value-append a bs (F (Schematic x c)) (Schematic x c) c xs ys (typed (Schematic x c)) q e
  inst_head-append a bs (Bound n) xs ys q e = sym (happ-spine a (Bound n) xs ys)

  passes-step : (a : Typ) → ((x y : Typ) → a ≡ fun x y → Passes x × Passes y) → Passes a
  unfolding Passes inst types_len join Has
  passes-step a parts bs v Nil pv pu = ap (inst F) (happ-nil a v) ∙ sym (happ-nil a (inst F v))
  passes-step a parts bs (Spine h ts) (tm_cons u us) pv pu =
      ap (inst F) (happ-spine a h ts (tm_cons u us)) ∙ ap (inst_head F h) (inst_all-append F ts (tm_cons u us))
      ∙ inst_head-append a bs h (inst_all F ts) (inst_all F (tm_cons u us)) (typed-args F typed bs (head_type bs h) ts pv.0.1)
      (result-inst F (head_type bs h) ts ∙ spine-type bs a h ts pv.1)
  passes-step a parts bs (lam d t) (tm_cons u us) pv pu =
      let k = lam-type bs a d t u pv.1 pu.0 in
      let s = parts d (cod a) k.0 in
      let m = put-term d (happ d) (happ-good d) bs u pu.1.0 k.1.0 no_types t pv.0.0 in
      ap (inst F) (happ-lam a d t u us k.0)
      ∙ s.1 bs (put (happ d) u 0 t) us (m.0, m.1 ∙ k.1.1) pu.1.1
      ∙ ap (λ z. happ (cod a) z (inst_all F us)) (inst-put d s.0 bs u (pu.1.0, k.1.0) no_types t pv.0.0)
      ∙ sym (happ-eta a d bs (inst F t) (inst F u) (inst_all F us) k.0 (typed-term F typed (ty_cons d bs) (type_of (ty_cons d bs) t) t (pv.0.0, refl)).0)

  pub inst-passes : (a : Typ) → Passes a
  inst-passes a = fun_induction Passes passes-step a

  pub inst-happ : (a : Typ) (bs : Types) (v : Term) (us : Terms) → HasType bs a v → AreArgs bs a us → inst F (happ a v us) ≡ happ a (inst F v) (inst_all F us)
  unfolding Passes
  inst-happ a = inst-passes a

-- one function of values and then another
abbrev pub then_inst : (Head → Option Term) → (Head → Option Term) → Head → Option Term
then_inst F G h = then_value G (F h) h

module _ (F G : Head → Option Term) (typed_F : Typed F) (typed_G : Typed G) where
  use_value-inst : (bs : Types) (o : Option Term) (h : Head) (a : Typ) (xs : Terms) → Fits o a → AreArgs bs a xs
      → inst G (Spine h xs) ≡ use_value (G h) h a (inst_all G xs)
      → inst G (use_value o h a xs) ≡ use_value (then_value G o h) h a (inst_all G xs)
  unfolding then_value
  use_value-inst bs None h a xs f q e = e
  use_value-inst bs (Some v) h a xs f q e = inst-happ G typed_G a bs v xs (closed-has bs a v f) q

  inst_head-inst : (bs : Types) (h : Head) (xs : Terms) → AreArgs bs (head_type bs h) xs
      → inst G (inst_head F h xs) ≡ inst_head (then_inst F G) h (inst_all G xs)
  unfolding Typed inst
  inst_head-inst bs (Const x a) xs q = refl
  inst_head-inst bs (Free x a) xs q = use_value-inst bs (F (Free x a)) (Free x a) a xs (typed_F (Free x a)) q refl
  inst_head-inst bs (Schematic x a) xs q = use_value-inst bs (F (Schematic x a)) (Schematic x a) a xs (typed_F (Schematic x a)) q refl
  inst_head-inst bs (Bound n) xs q = refl

  mutual
    unfolding inst

    -- the law
    pub inst-inst : (bs : Types) (t : Term) → IsTerm bs t → inst G (inst F t) ≡ inst (then_inst F G) t
    inst-inst bs (lam a b) p =
        inst-eta G typed_G bs a (inst F b) (typed-term F typed_F (ty_cons a bs) (type_of (ty_cons a bs) b) b (p.0, refl)).0
        ∙ ap (eta a) (inst-inst (ty_cons a bs) b p.0)
    inst-inst bs (Spine h ts) p =
        inst_head-inst bs h (inst_all F ts) (typed-args F typed_F bs (head_type bs h) ts p.1)
        ∙ ap (inst_head (then_inst F G) h) (inst_all-inst bs (head_type bs h) ts p.1)

    pub inst_all-inst : (bs : Types) (c : Typ) (ts : Terms) → AreArgs bs c ts → inst_all G (inst_all F ts) ≡ inst_all (then_inst F G) ts
    inst_all-inst bs c Nil p = refl
    inst_all-inst bs c (tm_cons t ts) p = let x = inst-inst bs t p.1.0 in let y = inst_all-inst bs (cod c) ts p.1.1 in λ i. tm_cons (x i) (y i)
