-- Two substitutions commute.
use Rattle.std.proofs.Common.{◌≡◌, ℕ, suc, pred, ◌+◌, ◌<◌, false, ◌⊎◌, inl, inr, refl, sym, ◌∙◌, ap, subst, arith}
use Rattle.iv_term.specs.declared.typ.Typ.{Typ}
use Rattle.iv_term.specs.declared.typ.Types.{Types}
use Rattle.iv_term.specs.declared.typ.Typ.TheBlock.{Nil as no_types}
use Rattle.iv_term.specs.declared.term.Head.{Head}
use Rattle.iv_term.specs.declared.term.Head.TheVariants.{Const, Free, Schematic, Bound}
use Rattle.iv_term.specs.declared.term.Term.{Term}
use Rattle.iv_term.specs.declared.term.Terms.{Terms}
use Rattle.iv_term.specs.declared.term.Term.TheBlock.{Spine, Nil}
use Rattle.iv_term.specs.Typ.{fun, ty_cons}
use Rattle.iv_term.specs.Term.{lam, tm_cons}
use Rattle.iv_hsub.specs.Typing.{cod, types_len, type_at, head_type, result_type, type_of, IsHead, IsTerm, AreArgs, HasType, join}
use Rattle.iv_hsub.specs.Index.{index, raise_head, raise, raise_all, contracts, eta}
use Rattle.iv_hsub.specs.Hsub.{append, put_head, put, put_all, happ}
use Rattle.iv_hsub.specs.Hhf.{expand}
use Rattle.iv_hsub.proofs.Terms.Base.{types_len-join, type_at-here, fun_induction, fun-parts, cod-fun}
use Rattle.iv_hsub.proofs.Terms.Raise.{raise-low, raise-high, IsTerm-raise, AreArgs-raise, type_of-raise, result-raise}
use Rattle.iv_hsub.proofs.Terms.Eta.{last, append-append, eta_cases, EtaCase, eta-short, eta-expand, expand-term, IsTerm-eta}
use Rattle.iv_hsub.proofs.Terms.Put.{happ-nil, happ-spine, happ-lam, put-low, put-here, put-high, index_cases, result-put, put-term, put-args, happ-good, Good, Has, lam-type}
use Rattle.iv_hsub.proofs.Terms.Cancel.{put_all-append, put-cancel, put-expand}
use Rattle.iv_hsub.proofs.Terms.Algebra.{raise-join, Raises, raise-above, raise_all-above, happ-raises}

pub join-join : (es ms bs : Types) → join (join es ms) bs ≡ join es (join ms bs)
unfolding join
join-join no_types ms bs = refl
join-join (ty_cons a es) ms bs = ap (ty_cons a) (join-join es ms bs)

-- a value at arguments in two steps
append-step : (b : Typ) → ((x y : Typ) → b ≡ fun x y → (v : Term) (ts us : Terms) (bs : Types) → HasType bs y v → AreArgs bs y ts → happ y v (append ts us) ≡ happ (result_type y ts) (happ y v ts) us)
    → (v : Term) (ts us : Terms) (bs : Types) → HasType bs b v → AreArgs bs b ts → happ b v (append ts us) ≡ happ (result_type b ts) (happ b v ts) us
unfolding append result_type Good Has join types_len
append-step b parts v Nil us bs p q = ap (λ w. happ b w us) (sym (happ-nil b v))
append-step b parts (Spine h xs) (tm_cons t ts) us bs p q =
    happ-spine b h xs (append (tm_cons t ts) us) ∙ ap (Spine h) (sym (append-append xs (tm_cons t ts) us))
    ∙ sym (ap (λ w. happ (result_type (cod b) ts) w us) (happ-spine b h xs (tm_cons t ts)) ∙ happ-spine (result_type (cod b) ts) h (append xs (tm_cons t ts)) us)
append-step b parts (lam d x) (tm_cons t ts) us bs p q =
    let k = lam-type bs b d x t p.1 q.0 in
    let m = put-term d (happ d) (happ-good d) bs t q.1.0 k.1.0 no_types x p.0.0 in
    happ-lam b d x t (append ts us) k.0 ∙ parts d (cod b) k.0 (put (happ d) t 0 x) ts us bs (m.0, m.1 ∙ k.1.1) q.1.1
    ∙ ap (λ w. happ (result_type (cod b) ts) w us) (sym (happ-lam b d x t ts k.0))

AppendsAt : Typ → Type 0
AppendsAt b = (v : Term) (ts us : Terms) (bs : Types) → HasType bs b v → AreArgs bs b ts → happ b v (append ts us) ≡ happ (result_type b ts) (happ b v ts) us

pub happ-append : (b : Typ) → (v : Term) (ts us : Terms) (bs : Types) → HasType bs b v → AreArgs bs b ts → happ b v (append ts us) ≡ happ (result_type b ts) (happ b v ts) us
unfolding AppendsAt
happ-append b = fun_induction AppendsAt (λ c parts. append-step c (λ x y e. (parts x y e).1)) b

pub at_index : (c : Typ) (k : ℕ) (us : Terms) → happ c (raise k 0 (index 0)) us ≡ Spine (Bound k) us
unfolding raise append
at_index c k us =
    let e : 0 + k ≡ k = omega arith in
    ap (λ h. happ c (Spine h Nil) us) (raise-high k 0 0 (omega arith) ∙ ap Bound e) ∙ happ-spine c (Bound k) Nil us

pub at_expand : (c : Typ) (h : Head) (ts : Terms) → eta c (Spine (raise_head 1 0 h) (append (raise_all 1 0 ts) (tm_cons (index 0) Nil))) ≡ Spine h ts
unfolding expand
at_expand c h ts = eta-expand c h ts

-- a variable renamed to itself
rename_head : (c : Typ) (k : ℕ) (h : Head) (us : Terms) → put_head (happ c) (index 0) k (raise_head 1 (suc k) h) us ≡ Spine h us
rename_head c k (Const x a) us = refl
rename_head c k (Free x a) us = refl
rename_head c k (Schematic x a) us = refl
rename_head c k (Bound n) us = go (index_cases n k)
  where
    go : (n < k) ⊎ ((n ≡ k) ⊎ (k < n)) → put_head (happ c) (index 0) k (raise_head 1 (suc k) (Bound n)) us ≡ Spine (Bound n) us
    go (inl h) = ap (λ z. put_head (happ c) (index 0) k z us) (raise-low 1 (suc k) n (omega (arith, h))) ∙ put-low (happ c) (index 0) k n us h
    go (inr (inl h)) =
        ap (λ z. put_head (happ c) (index 0) k z us) (raise-low 1 (suc k) n (omega (arith, h))) ∙ ap (λ m. put_head (happ c) (index 0) k (Bound m) us) h
        ∙ put-here (happ c) (index 0) k us ∙ at_index c k us ∙ ap (λ m. Spine (Bound m) us) (sym h)
    go (inr (inr h)) =
        let e : pred (n + 1) ≡ n = omega arith in
        ap (λ z. put_head (happ c) (index 0) k z us) (raise-high 1 (suc k) n (omega (arith, h))) ∙ put-high (happ c) (index 0) k (n + 1) us (omega (arith, h)) ∙ ap (λ m. Spine (Bound m) us) e

mutual
  unfolding raise put

  put-rename : (c : Typ) (bs : Types) (k : ℕ) (t : Term) → IsTerm bs t → put (happ c) (index 0) k (raise 1 (suc k) t) ≡ t
  put-rename c bs k (lam a b) p = ap (eta a) (put-rename c (ty_cons a bs) (suc k) b p.0) ∙ eta-short a b p.1
  put-rename c bs k (Spine h ts) p = ap (put_head (happ c) (index 0) k (raise_head 1 (suc k) h)) (put_all-rename c bs (head_type bs h) k ts p.1) ∙ rename_head c k h ts

  put_all-rename : (c : Typ) (bs : Types) (a : Typ) (k : ℕ) (ts : Terms) → AreArgs bs a ts → put_all (happ c) (index 0) k (raise_all 1 (suc k) ts) ≡ ts
  put_all-rename c bs a k Nil p = refl
  put_all-rename c bs a k (tm_cons t ts) p =
      let e = put-rename c bs k t p.1.0 in let g = put_all-rename c bs (cod a) k ts p.1.1 in λ i. tm_cons (e i) (g i)

-- a function is the abstraction over itself at the new variable
pub eta-at_index : (bs : Types) (c d : Typ) (x : Term) → HasType bs (fun c d) x → eta c (happ (fun c d) (raise 1 0 x) (tm_cons (index 0) Nil)) ≡ x
unfolding raise type_of
eta-at_index bs c d (lam e b) p =
    let q = fun-parts e (type_of (ty_cons e bs) b) c d p.1 in
    ap (eta c) (happ-lam (fun c d) e (raise 1 1 b) (index 0) Nil (ap (λ z. fun z d) (sym q.0) ∙ ap (fun e) (sym (cod-fun c d))) ∙ happ-nil _ _ ∙ put-rename e (ty_cons e bs) 0 b p.0.0)
    ∙ eta-short c b p.0.1 ∙ ap (λ z. lam z b) (sym q.0)
eta-at_index bs c d (Spine h ts) p = ap (eta c) (happ-spine (fun c d) (raise_head 1 0 h) (raise_all 1 0 ts) (tm_cons (index 0) Nil)) ∙ at_expand c h ts

raising : (b : Typ) (d c : ℕ) (v : Term) (us : Terms) → happ b (raise d c v) (raise_all d c us) ≡ raise d c (happ b v us)
unfolding Raises
raising b d c v us = happ-raises b d c v us

pub raised-type : (es bs : Types) (b : Typ) (w : Term) → HasType bs b w → HasType (join es bs) b (raise (types_len es) 0 w)
unfolding join types_len
raised-type es bs b w p = (IsTerm-raise no_types es bs w p.0, type_of-raise no_types es bs w ∙ p.1)

-- substitution goes past contraction
module _ (b : Typ) (bs : Types) (w : Term) (pw : HasType bs b w) where
  put-here_type : (es : Types) (c d : Typ) (us : Terms) → AreArgs (join es bs) b us → result_type b us ≡ fun c d
      → eta c (happ b (raise (suc (types_len es)) 0 w) (last (raise_all 1 0 us) (index 0))) ≡ happ b (raise (types_len es) 0 w) us
  unfolding Good join types_len
  put-here_type es c d us q r =
      let k = types_len es in
      let wk = raise k 0 w in
      let pk = raised-type es bs b w pw in
      let up : raise (suc k) 0 w ≡ raise 1 0 wk = sym (raise-join 1 k (suc k) 0 0 w (omega arith) (omega arith) (omega arith)) in
      let pu = raised-type (ty_cons c no_types) (join es bs) b wk pk in
      let qu : AreArgs (ty_cons c (join es bs)) b (raise_all 1 0 us) = AreArgs-raise no_types (ty_cons c no_types) (join es bs) b us q in
      let g = happ-good b (join es bs) wk us pk.0 pk.1 q in
      ap (λ z. eta c (happ b z (last (raise_all 1 0 us) (index 0)))) up
      ∙ ap (eta c) (happ-append b (raise 1 0 wk) (raise_all 1 0 us) (tm_cons (index 0) Nil) (ty_cons c (join es bs)) pu qu)
      ∙ (λ i. eta c (happ ((result-raise 1 0 b us ∙ r) i) (raising b 1 0 wk us i) (tm_cons (index 0) Nil)))
      ∙ eta-at_index (join es bs) c d (happ b wk us) (g.0, g.1 ∙ r)

  head-eta : (es : Types) (c d : Typ) (h : Head) (us : Terms) → IsHead (join es (ty_cons b bs)) h → AreArgs (join es bs) (head_type (join es (ty_cons b bs)) h) us
      → result_type (head_type (join es (ty_cons b bs)) h) us ≡ fun c d
      → eta c (put_head (happ b) w (suc (types_len es)) (raise_head 1 0 h) (last (raise_all 1 0 us) (index 0))) ≡ put_head (happ b) w (types_len es) h us
  head-eta es c d (Const x a) us p q r = at_expand c (Const x a) us
  head-eta es c d (Free x a) us p q r = at_expand c (Free x a) us
  head-eta es c d (Schematic x a) us p q r = at_expand c (Schematic x a) us
  head-eta es c d (Bound n) us p q r = go (index_cases n (types_len es))
    where
      go : (n < types_len es) ⊎ ((n ≡ types_len es) ⊎ (types_len es < n))
          → eta c (put_head (happ b) w (suc (types_len es)) (raise_head 1 0 (Bound n)) (last (raise_all 1 0 us) (index 0))) ≡ put_head (happ b) w (types_len es) (Bound n) us
      go (inl h) =
          let e = raise-high 1 0 n (omega arith) in
          ap (λ z. eta c (put_head (happ b) w (suc (types_len es)) z (last (raise_all 1 0 us) (index 0)))) e
          ∙ ap (eta c) (put-low (happ b) w (suc (types_len es)) (n + 1) (last (raise_all 1 0 us) (index 0)) (omega (arith, h)))
          ∙ ap (λ z. eta c (Spine z (last (raise_all 1 0 us) (index 0)))) (sym e) ∙ at_expand c (Bound n) us
          ∙ sym (put-low (happ b) w (types_len es) n us h)
      go (inr (inl h)) =
          let e = raise-high 1 0 n (omega arith) in
          let f : n + 1 ≡ suc (types_len es) = omega (arith, h) in
          let t : type_at (join es (ty_cons b bs)) n ≡ b = ap (type_at (join es (ty_cons b bs))) h ∙ type_at-here es bs b in
          ap (λ z. eta c (put_head (happ b) w (suc (types_len es)) z (last (raise_all 1 0 us) (index 0)))) e
          ∙ ap (λ m. eta c (put_head (happ b) w (suc (types_len es)) (Bound m) (last (raise_all 1 0 us) (index 0)))) f
          ∙ ap (eta c) (put-here (happ b) w (suc (types_len es)) (last (raise_all 1 0 us) (index 0)))
          ∙ put-here_type es c d us (subst (λ z. AreArgs (join es bs) z us) t q) (ap (λ z. result_type z us) (sym t) ∙ r)
          ∙ sym (ap (λ m. put_head (happ b) w (types_len es) (Bound m) us) h ∙ put-here (happ b) w (types_len es) us)
      go (inr (inr h)) =
          let e = raise-high 1 0 n (omega arith) in
          let f : pred (n + 1) ≡ pred n + 1 = omega (arith, h) in
          ap (λ z. eta c (put_head (happ b) w (suc (types_len es)) z (last (raise_all 1 0 us) (index 0)))) e
          ∙ ap (eta c) (put-high (happ b) w (suc (types_len es)) (n + 1) (last (raise_all 1 0 us) (index 0)) (omega (arith, h)))
          ∙ ap (λ m. eta c (Spine (Bound m) (last (raise_all 1 0 us) (index 0)))) f
          ∙ ap (λ z. eta c (Spine z (last (raise_all 1 0 us) (index 0)))) (sym (raise-high 1 0 (pred n) (omega arith))) ∙ at_expand c (Bound (pred n)) us
          ∙ sym (put-high (happ b) w (types_len es) n us h)

  put-of_expand : (k : ℕ) (h : Head) (ts : Terms)
      → put (happ b) w (suc k) (expand h ts) ≡ put_head (happ b) w (suc k) (raise_head 1 0 h) (last (raise_all 1 0 (put_all (happ b) w k ts)) (index 0))
  unfolding expand put
  put-of_expand k h ts =
      let e = raise_all-above (happ b) (happ-raises b) 1 0 k (suc k) w ts (omega arith) (omega arith) in
      let f : put (happ b) w (suc k) (index 0) ≡ index 0 = put-low (happ b) w (suc k) 0 Nil (omega arith) in
      ap (put_head (happ b) w (suc k) (raise_head 1 0 h)) (put_all-append (happ b) w (suc k) (raise_all 1 0 ts) (tm_cons (index 0) Nil) ∙ (λ i. append (e i) (tm_cons (f i) Nil)))

  pub put-eta : (es : Types) (c : Typ) (t : Term) → IsTerm (ty_cons c (join es (ty_cons b bs))) t
      → put (happ b) w (types_len es) (eta c t) ≡ eta c (put (happ b) w (suc (types_len es)) t)
  unfolding put type_of
  put-eta es c t p = go (eta_cases c t)
    where
      go : ((contracts t ≡ false) × (eta c t ≡ lam c t)) ⊎ EtaCase c t → put (happ b) w (types_len es) (eta c t) ≡ eta c (put (happ b) w (suc (types_len es)) t)
      go (inl q) = ap (put (happ b) w (types_len es)) q.1
      go (inr x) =
          let B = join es (ty_cons b bs) in
          let q = expand-term B c x.head x.args (subst (IsTerm (ty_cons c B)) x.body_is p) in
          let us = put_all (happ b) w (types_len es) x.args in
          let r = put-args b (happ b) (happ-good b) bs w pw.0 pw.1 es (head_type B x.head) x.args q.0.1 in
          ap (put (happ b) w (types_len es)) x.eta_is
          ∙ sym (ap (λ z. eta c (put (happ b) w (suc (types_len es)) z)) x.body_is ∙ ap (eta c) (put-of_expand (types_len es) x.head x.args)
          ∙ head-eta es c (type_of (ty_cons c B) (expand x.head x.args)) x.head us q.0.0 r (result-put (happ b) w (types_len es) (head_type B x.head) x.args ∙ q.1))

-- substitution of a value of type b passes values of type a at arguments
unfoldable pub Uses : Typ → Typ → Type 0
Uses a b = (es bs : Types) (w v : Term) (us : Terms) → HasType bs b w → HasType (join es (ty_cons b bs)) a v → AreArgs (join es (ty_cons b bs)) a us
    → put (happ b) w (types_len es) (happ a v us) ≡ happ a (put (happ b) w (types_len es) v) (put_all (happ b) w (types_len es) us)

-- and it passes substitution of a value of type a
unfoldable pub Commutes : Typ → Typ → Type 0
Commutes a b = (es ms bs : Types) (w v t : Term) → HasType bs b w → HasType (join ms (ty_cons b bs)) a v → IsTerm (join es (ty_cons a (join ms (ty_cons b bs)))) t
    → put (happ b) w (types_len (join es ms)) (put (happ a) v (types_len es) t)
    ≡ put (happ a) (put (happ b) w (types_len ms) v) (types_len es) (put (happ b) w (suc (types_len (join es ms))) t)

len-under : (es ms : Types) (a : Typ) → types_len (join es (ty_cons a ms)) ≡ suc (types_len (join es ms))
unfolding join types_len
len-under no_types ms a = refl
len-under (ty_cons c es) ms a = ap suc (len-under es ms a)

module _ (a b : Typ) (ms bs : Types) (w v : Term) (pw : HasType bs b w) (pv : HasType (join ms (ty_cons b bs)) a v) where
  -- the outer variable's value put first, or the inner one's
  inner-args : (es : Types) (c : Typ) (ts : Terms) → AreArgs (join es (ty_cons a (join ms (ty_cons b bs)))) c ts
      → AreArgs (join es (ty_cons a (join ms bs))) c (put_all (happ b) w (suc (types_len (join es ms))) ts)
  unfolding join
  inner-args es c ts p =
      let q = subst (λ B. AreArgs B c ts) (sym (join-join es (ty_cons a ms) (ty_cons b bs))) p in
      let r = put-args b (happ b) (happ-good b) bs w pw.0 pw.1 (join es (ty_cons a ms)) c ts q in
      subst (λ k. AreArgs (join es (ty_cons a (join ms bs))) c (put_all (happ b) w k ts)) (len-under es ms a)
      (subst (λ B. AreArgs B c (put_all (happ b) w (types_len (join es (ty_cons a ms))) ts)) (join-join es (ty_cons a ms) bs) r)

  inner-term : (es : Types) (t : Term) → IsTerm (join es (ty_cons a (join ms (ty_cons b bs)))) t
      → IsTerm (join es (ty_cons a (join ms bs))) (put (happ b) w (suc (types_len (join es ms))) t)
  unfolding join Has
  inner-term es t p =
      let q = subst (λ B. IsTerm B t) (sym (join-join es (ty_cons a ms) (ty_cons b bs))) p in
      let r = put-term b (happ b) (happ-good b) bs w pw.0 pw.1 (join es (ty_cons a ms)) t q in
      subst (λ k. IsTerm (join es (ty_cons a (join ms bs))) (put (happ b) w k t)) (len-under es ms a)
      (subst (λ B. IsTerm B (put (happ b) w (types_len (join es (ty_cons a ms))) t)) (join-join es (ty_cons a ms) bs) r.0)

  outer-args : (es : Types) (c : Typ) (ts : Terms) → AreArgs (join es (ty_cons a (join ms (ty_cons b bs)))) c ts
      → AreArgs (join (join es ms) (ty_cons b bs)) c (put_all (happ a) v (types_len es) ts)
  outer-args es c ts p =
      subst (λ B. AreArgs B c (put_all (happ a) v (types_len es) ts)) (sym (join-join es ms (ty_cons b bs)))
      (put-args a (happ a) (happ-good a) (join ms (ty_cons b bs)) v pv.0 pv.1 es c ts p)

  outer-term : (es : Types) (t : Term) → IsTerm (join es (ty_cons a (join ms (ty_cons b bs)))) t
      → IsTerm (join (join es ms) (ty_cons b bs)) (put (happ a) v (types_len es) t)
  unfolding Has
  outer-term es t p =
      subst (λ B. IsTerm B (put (happ a) v (types_len es) t)) (sym (join-join es ms (ty_cons b bs)))
      (put-term a (happ a) (happ-good a) (join ms (ty_cons b bs)) v pv.0 pv.1 es t p).0

  value-type : HasType (join ms bs) a (put (happ b) w (types_len ms) v)
  unfolding Has
  value-type = let r = put-term b (happ b) (happ-good b) bs w pw.0 pw.1 ms v pv.0 in (r.0, r.1 ∙ pv.1)

  type_at-outer : (es : Types) → type_at (join es (ty_cons a (join ms (ty_cons b bs)))) (suc (types_len (join es ms))) ≡ b
  unfolding join
  type_at-outer es =
      (λ i. type_at (sym (join-join es (ty_cons a ms) (ty_cons b bs)) i) (sym (len-under es ms a) i)) ∙ type_at-here (join es (ty_cons a ms)) bs b

  outer-value : (es : Types) → HasType (join es (ty_cons a (join ms bs))) b (raise (suc (types_len (join es ms))) 0 w)
  unfolding join
  outer-value es =
      subst (λ k. HasType (join es (ty_cons a (join ms bs))) b (raise k 0 w)) (len-under es ms a)
      (subst (λ B. HasType B b (raise (types_len (join es (ty_cons a ms))) 0 w)) (join-join es (ty_cons a ms) bs) (raised-type (join es (ty_cons a ms)) bs b w pw))

  both_head : Uses a b → Uses b a → (es : Types) (h : Head) (xs ys : Terms)
      → AreArgs (join (join es ms) (ty_cons b bs)) (head_type (join es (ty_cons a (join ms (ty_cons b bs)))) h) xs
      → AreArgs (join es (ty_cons a (join ms bs))) (head_type (join es (ty_cons a (join ms (ty_cons b bs)))) h) ys
      → put_all (happ b) w (types_len (join es ms)) xs ≡ put_all (happ a) (put (happ b) w (types_len ms) v) (types_len es) ys
      → put (happ b) w (types_len (join es ms)) (put_head (happ a) v (types_len es) h xs)
      ≡ put (happ a) (put (happ b) w (types_len ms) v) (types_len es) (put_head (happ b) w (suc (types_len (join es ms))) h ys)
  unfolding put Uses
  both_head uab uba es (Const x c) xs ys p q e = ap (Spine (Const x c)) e
  both_head uab uba es (Free x c) xs ys p q e = ap (Spine (Free x c)) e
  both_head uab uba es (Schematic x c) xs ys p q e = ap (Spine (Schematic x c)) e
  both_head uab uba es (Bound n) xs ys p q e = go (index_cases n (types_len es)) (index_cases n (suc (types_len (join es ms))))
    where
      go : (n < types_len es) ⊎ ((n ≡ types_len es) ⊎ (types_len es < n)) → (n < suc (types_len (join es ms))) ⊎ ((n ≡ suc (types_len (join es ms))) ⊎ (suc (types_len (join es ms)) < n))
          → put (happ b) w (types_len (join es ms)) (put_head (happ a) v (types_len es) (Bound n) xs)
          ≡ put (happ a) (put (happ b) w (types_len ms) v) (types_len es) (put_head (happ b) w (suc (types_len (join es ms))) (Bound n) ys)
      go (inl h) (inl g) =
          ap (put (happ b) w (types_len (join es ms))) (put-low (happ a) v (types_len es) n xs h)
          ∙ put-low (happ b) w (types_len (join es ms)) n (put_all (happ b) w (types_len (join es ms)) xs) (omega (arith, h, types_len-join es ms))
          ∙ ap (Spine (Bound n)) e
          ∙ sym (ap (put (happ a) (put (happ b) w (types_len ms) v) (types_len es)) (put-low (happ b) w (suc (types_len (join es ms))) n ys g)
          ∙ put-low (happ a) (put (happ b) w (types_len ms) v) (types_len es) n (put_all (happ a) (put (happ b) w (types_len ms) v) (types_len es) ys) h)
      go (inl h) (inr (inl g)) = absurd (omega (arith, h, g, types_len-join es ms))
      go (inl h) (inr (inr g)) = absurd (omega (arith, h, g, types_len-join es ms))
      go (inr (inl h)) (inr (inl g)) = absurd (omega (arith, h, g, types_len-join es ms))
      go (inr (inl h)) (inr (inr g)) = absurd (omega (arith, h, g, types_len-join es ms))
      go (inr (inl h)) (inl g) =
          let t : type_at (join es (ty_cons a (join ms (ty_cons b bs)))) n ≡ a = ap (type_at (join es (ty_cons a (join ms (ty_cons b bs))))) h ∙ type_at-here es (join ms (ty_cons b bs)) a in
          let pk = subst (λ B. HasType B a (raise (types_len es) 0 v)) (sym (join-join es ms (ty_cons b bs))) (raised-type es (join ms (ty_cons b bs)) a v pv) in
          let pa = subst (λ z. AreArgs (join (join es ms) (ty_cons b bs)) z xs) t p in
          let up = raise-above (happ b) (happ-raises b) (types_len es) 0 (types_len ms) (types_len (join es ms)) w v (omega arith) (omega (arith, types_len-join es ms)) in
          ap (λ m. put (happ b) w (types_len (join es ms)) (put_head (happ a) v (types_len es) (Bound m) xs)) h
          ∙ ap (put (happ b) w (types_len (join es ms))) (put-here (happ a) v (types_len es) xs)
          ∙ uab (join es ms) bs w (raise (types_len es) 0 v) xs pw pk pa
          ∙ (λ i. happ a (up i) (e i))
          ∙ sym (ap (put (happ a) (put (happ b) w (types_len ms) v) (types_len es)) (put-low (happ b) w (suc (types_len (join es ms))) n ys g)
          ∙ ap (λ m. put_head (happ a) (put (happ b) w (types_len ms) v) (types_len es) (Bound m) (put_all (happ a) (put (happ b) w (types_len ms) v) (types_len es) ys)) h
          ∙ put-here (happ a) (put (happ b) w (types_len ms) v) (types_len es) (put_all (happ a) (put (happ b) w (types_len ms) v) (types_len es) ys))
      go (inr (inr h)) (inl g) =
          ap (put (happ b) w (types_len (join es ms))) (put-high (happ a) v (types_len es) n xs h)
          ∙ put-low (happ b) w (types_len (join es ms)) (pred n) (put_all (happ b) w (types_len (join es ms)) xs) (omega (arith, h, g))
          ∙ ap (Spine (Bound (pred n))) e
          ∙ sym (ap (put (happ a) (put (happ b) w (types_len ms) v) (types_len es)) (put-low (happ b) w (suc (types_len (join es ms))) n ys g)
          ∙ put-high (happ a) (put (happ b) w (types_len ms) v) (types_len es) n (put_all (happ a) (put (happ b) w (types_len ms) v) (types_len es) ys) h)
      go (inr (inr h)) (inr (inl g)) =
          let f : pred n ≡ types_len (join es ms) = omega (arith, g) in
          let t : type_at (join es (ty_cons a (join ms (ty_cons b bs)))) n ≡ b = ap (type_at (join es (ty_cons a (join ms (ty_cons b bs))))) g ∙ type_at-outer es in
          let pa = subst (λ z. AreArgs (join es (ty_cons a (join ms bs))) z ys) t q in
          let wj = raised-type (join es ms) bs b w pw in
          let up : raise (suc (types_len (join es ms))) 0 w ≡ raise 1 (types_len es) (raise (types_len (join es ms)) 0 w)
          = sym (raise-join 1 (types_len (join es ms)) (suc (types_len (join es ms))) 0 (types_len es) w (omega arith) (omega (arith, types_len-join es ms)) (omega arith)) in
          let back = ap (put (happ a) (put (happ b) w (types_len ms) v) (types_len es)) up ∙ put-cancel (happ a) (put (happ b) w (types_len ms) v) (join (join es ms) bs) (types_len es) (raise (types_len (join es ms)) 0 w) wj.0 in
          ap (put (happ b) w (types_len (join es ms))) (put-high (happ a) v (types_len es) n xs h)
          ∙ ap (λ m. put_head (happ b) w (types_len (join es ms)) (Bound m) (put_all (happ b) w (types_len (join es ms)) xs)) f
          ∙ put-here (happ b) w (types_len (join es ms)) (put_all (happ b) w (types_len (join es ms)) xs)
          ∙ (λ i. happ b (sym back i) (e i))
          ∙ sym (ap (λ m. put (happ a) (put (happ b) w (types_len ms) v) (types_len es) (put_head (happ b) w (suc (types_len (join es ms))) (Bound m) ys)) g
          ∙ ap (put (happ a) (put (happ b) w (types_len ms) v) (types_len es)) (put-here (happ b) w (suc (types_len (join es ms))) ys)
          ∙ uba es (join ms bs) (put (happ b) w (types_len ms) v) (raise (suc (types_len (join es ms))) 0 w) ys value-type (outer-value es) pa)
      go (inr (inr h)) (inr (inr g)) =
          ap (put (happ b) w (types_len (join es ms))) (put-high (happ a) v (types_len es) n xs h)
          ∙ put-high (happ b) w (types_len (join es ms)) (pred n) (put_all (happ b) w (types_len (join es ms)) xs) (omega (arith, g))
          ∙ ap (Spine (Bound (pred (pred n)))) e
          ∙ sym (ap (put (happ a) (put (happ b) w (types_len ms) v) (types_len es)) (put-high (happ b) w (suc (types_len (join es ms))) n ys g)
          ∙ put-high (happ a) (put (happ b) w (types_len ms) v) (types_len es) (pred n) (put_all (happ a) (put (happ b) w (types_len ms) v) (types_len es) ys) (omega (arith, g, types_len-join es ms)))

  mutual
    unfolding put join types_len

    both-put : Uses a b → Uses b a → (es : Types) (t : Term) → IsTerm (join es (ty_cons a (join ms (ty_cons b bs)))) t
        → put (happ b) w (types_len (join es ms)) (put (happ a) v (types_len es) t)
        ≡ put (happ a) (put (happ b) w (types_len ms) v) (types_len es) (put (happ b) w (suc (types_len (join es ms))) t)
    both-put uab uba es (lam c t) p =
        put-eta b bs w pw (join es ms) c (put (happ a) v (suc (types_len es)) t) (outer-term (ty_cons c es) t p.0)
        ∙ ap (eta c) (both-put uab uba (ty_cons c es) t p.0)
        ∙ sym (put-eta a (join ms bs) (put (happ b) w (types_len ms) v) value-type es c (put (happ b) w (suc (suc (types_len (join es ms)))) t) (inner-term (ty_cons c es) t p.0))
    both-put uab uba es (Spine h ts) p =
        let c = head_type (join es (ty_cons a (join ms (ty_cons b bs)))) h in
        both_head uab uba es h (put_all (happ a) v (types_len es) ts) (put_all (happ b) w (suc (types_len (join es ms))) ts)
        (outer-args es c ts p.1) (inner-args es c ts p.1) (both-all uab uba es c ts p.1)

    both-all : Uses a b → Uses b a → (es : Types) (c : Typ) (ts : Terms) → AreArgs (join es (ty_cons a (join ms (ty_cons b bs)))) c ts
        → put_all (happ b) w (types_len (join es ms)) (put_all (happ a) v (types_len es) ts)
        ≡ put_all (happ a) (put (happ b) w (types_len ms) v) (types_len es) (put_all (happ b) w (suc (types_len (join es ms))) ts)
    both-all uab uba es c Nil p = refl
    both-all uab uba es c (tm_cons t ts) p =
        let x = both-put uab uba es t p.1.0 in let y = both-all uab uba es (cod c) ts p.1.1 in λ i. tm_cons (x i) (y i)

pub commutes-from : (a b : Typ) → Uses a b → Uses b a → Commutes a b
unfolding Commutes
commutes-from a b uab uba es ms bs w v t pw pv p = both-put a b ms bs w v pw pv uab uba es t p

spine-type : (bs : Types) (a : Typ) (h : Head) (ts : Terms) → type_of bs (Spine h ts) ≡ a → result_type (head_type bs h) ts ≡ a
unfolding type_of
spine-type bs a h ts e = e

more-last : (ts : Terms) (u : Term) (us : Terms) → append ts (tm_cons u us) ≡ append (last ts u) us
unfolding append
more-last Nil u us = refl
more-last (tm_cons t ts) u us = ap (λ z. tm_cons t z) (more-last ts u us)

-- an abstraction that may be contracted, at arguments
pub happ-eta : (a d : Typ) (bs : Types) (t u : Term) (us : Terms) → a ≡ fun d (cod a) → IsTerm (ty_cons d bs) t
    → happ a (eta d t) (tm_cons u us) ≡ happ (cod a) (put (happ d) u 0 t) us
happ-eta a d bs t u us e p = go (eta_cases d t)
  where
    go : ((contracts t ≡ false) × (eta d t ≡ lam d t)) ⊎ EtaCase d t → happ a (eta d t) (tm_cons u us) ≡ happ (cod a) (put (happ d) u 0 t) us
    go (inl q) = ap (λ z. happ a z (tm_cons u us)) q.1 ∙ happ-lam a d t u us e
    go (inr x) =
        let q = subst (IsTerm bs) x.eta_is (IsTerm-eta bs d t p).0 in
        ap (λ z. happ a z (tm_cons u us)) x.eta_is ∙ happ-spine a x.head x.args (tm_cons u us)
        ∙ ap (Spine x.head) (more-last x.args u us)
        ∙ sym (ap (λ z. happ (cod a) (put (happ d) u 0 z) us) x.body_is ∙ ap (λ z. happ (cod a) z us) (put-expand d bs u x.head x.args q)
        ∙ happ-spine (cod a) x.head (last x.args u) us)

-- a head with arguments, at more of them
uses-spine : (a b : Typ) (es bs : Types) (w : Term) (h : Head) (xs ys : Terms) → HasType bs b w → IsHead (join es (ty_cons b bs)) h
    → AreArgs (join es bs) (head_type (join es (ty_cons b bs)) h) xs → result_type (head_type (join es (ty_cons b bs)) h) xs ≡ a
    → put_head (happ b) w (types_len es) h (append xs ys) ≡ happ a (put_head (happ b) w (types_len es) h xs) ys
uses-spine a b es bs w (Const x c) xs ys pw p q e = sym (happ-spine a (Const x c) xs ys)
uses-spine a b es bs w (Free x c) xs ys pw p q e = sym (happ-spine a (Free x c) xs ys)
uses-spine a b es bs w (Schematic x c) xs ys pw p q e = sym (happ-spine a (Schematic x c) xs ys)
uses-spine a b es bs w (Bound n) xs ys pw p q e = go (index_cases n (types_len es))
  where
    go : (n < types_len es) ⊎ ((n ≡ types_len es) ⊎ (types_len es < n))
        → put_head (happ b) w (types_len es) (Bound n) (append xs ys) ≡ happ a (put_head (happ b) w (types_len es) (Bound n) xs) ys
    go (inl h) = put-low (happ b) w (types_len es) n (append xs ys) h ∙ sym (ap (λ z. happ a z ys) (put-low (happ b) w (types_len es) n xs h) ∙ happ-spine a (Bound n) xs ys)
    go (inr (inl h)) =
        let t : type_at (join es (ty_cons b bs)) n ≡ b = ap (type_at (join es (ty_cons b bs))) h ∙ type_at-here es bs b in
        let r = subst (λ z. AreArgs (join es bs) z xs) t q in
        let c : result_type b xs ≡ a = ap (λ z. result_type z xs) (sym t) ∙ e in
        ap (λ m. put_head (happ b) w (types_len es) (Bound m) (append xs ys)) h ∙ put-here (happ b) w (types_len es) (append xs ys)
        ∙ happ-append b (raise (types_len es) 0 w) xs ys (join es bs) (raised-type es bs b w pw) r
        ∙ ap (λ z. happ z (happ b (raise (types_len es) 0 w) xs) ys) c
        ∙ sym (ap (λ m. happ a (put_head (happ b) w (types_len es) (Bound m) xs) ys) h ∙ ap (λ z. happ a z ys) (put-here (happ b) w (types_len es) xs))
    go (inr (inr h)) = put-high (happ b) w (types_len es) n (append xs ys) h ∙ sym (ap (λ z. happ a z ys) (put-high (happ b) w (types_len es) n xs h) ∙ happ-spine a (Bound (pred n)) xs ys)

-- a value at arguments, where substitution passes the arguments' type and the result's
pub uses-step : (a b : Typ) → ((x y : Typ) → a ≡ fun x y → Commutes x b × Uses y b) → Uses a b
unfolding Uses Commutes put join types_len Has
uses-step a b parts es bs w v Nil pw pv pu = ap (put (happ b) w (types_len es)) (happ-nil a v) ∙ sym (happ-nil a (put (happ b) w (types_len es) v))
uses-step a b parts es bs w (lam d t) (tm_cons u us) pw pv pu =
    let B = join es (ty_cons b bs) in
    let k = lam-type B a d t u pv.1 pu.0 in
    let s = parts d (cod a) k.0 in
    let m = put-term d (happ d) (happ-good d) B u pu.1.0 k.1.0 no_types t pv.0.0 in
    ap (put (happ b) w (types_len es)) (happ-lam a d t u us k.0)
    ∙ s.1 es bs w (put (happ d) u 0 t) us pw (m.0, m.1 ∙ k.1.1) pu.1.1
    ∙ ap (λ z. happ (cod a) z (put_all (happ b) w (types_len es) us)) (s.0 no_types es bs w u t pw (pu.1.0, k.1.0) pv.0.0)
    ∙ sym (happ-eta a d (join es bs) (put (happ b) w (suc (types_len es)) t) (put (happ b) w (types_len es) u) (put_all (happ b) w (types_len es) us) k.0
    (put-term b (happ b) (happ-good b) bs w pw.0 pw.1 (ty_cons d es) t pv.0.0).0)
uses-step a b parts es bs w (Spine h ts) (tm_cons u us) pw pv pu =
    ap (put (happ b) w (types_len es)) (happ-spine a h ts (tm_cons u us))
    ∙ ap (put_head (happ b) w (types_len es) h) (put_all-append (happ b) w (types_len es) ts (tm_cons u us))
    ∙ uses-spine a b es bs w h (put_all (happ b) w (types_len es) ts) (put_all (happ b) w (types_len es) (tm_cons u us)) pw pv.0.0
    (put-args b (happ b) (happ-good b) bs w pw.0 pw.1 es (head_type (join es (ty_cons b bs)) h) ts pv.0.1)
    (result-put (happ b) w (types_len es) (head_type (join es (ty_cons b bs)) h) ts ∙ spine-type (join es (ty_cons b bs)) a h ts pv.1)

pub both : (a b : Typ) → Uses a b × Uses b a
both a = fun_induction (λ c. (b : Typ) → Uses c b × Uses b c)
    (λ c parts b. fun_induction (λ d. Uses c d × Uses d c)
    (λ d inner. (
      uses-step c d (λ x y e. let r = parts x y e in (commutes-from x d (r.0 d).0 (r.0 d).1, (r.1 d).0)),
      uses-step d c (λ x y e. let r = inner x y e in (commutes-from x c r.0.1 r.0.0, r.1.1)),
    )) b) a

-- the law
pub put-put : (a b : Typ) → Commutes a b
put-put a b = let r = both a b in commutes-from a b r.0 r.1
