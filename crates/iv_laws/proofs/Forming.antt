-- Steps lead to hereditary Harrop form, and raising passes it.
use Rattle.std.proofs.Common.{◌≡◌, ℕ, suc, Bool, true, false, ◌&&◌, if◌then◌else◌, refl, sym, ◌∙◌, ap, subst, arith}
use Rattle.std.proofs.lemmas.Bool.{and_parts}
use Rattle.iv_term.specs.declared.typ.Typ.{Typ}
use Rattle.iv_term.specs.declared.typ.Types.{Types}
use Rattle.iv_term.specs.declared.term.Head.{Head}
use Rattle.iv_term.specs.declared.term.Head.TheVariants.{Const, Free, Schematic, Bound}
use Rattle.iv_term.specs.declared.term.Term.{Term}
use Rattle.iv_term.specs.declared.term.Terms.{Terms}
use Rattle.iv_term.specs.declared.term.Term.TheBlock.{Spine, Nil}
use Rattle.iv_term.specs.Typ.{ty_cons}
use Rattle.iv_term.specs.Term.{lam, tm_cons, imp, imp_head, is_nil, are_two, antecedent, consequent}
use Rattle.iv_hsub.specs.Typing.{cod, head_type, IsTerm, AreArgs}
use Rattle.iv_hsub.specs.Index.{index, raise_head, raise, raise_all, eta}
use Rattle.iv_hsub.specs.Hsub.{append}
use Rattle.iv_hsub.specs.Hhf.{all_head, is_imp, is_all, bound_type, one, expand, all_of, push_expanded, push, push_args, push_under, hhf_spine, hhf, hhf_all}
use Rattle.iv_hsub.proofs.Theory.{raise-low, raise-swap, last, append-append, eta-short, raise-eta, raise_all-append, all-true, imp-true, imp-test, nil-true, is_imp-raise, is_all-raise, hhf-twice}
use Rattle.iv_laws.specs.Forms.{body, outwards, under, argument, Leads, stays, moves, HhfIsReached, HhfOfParts, RaisePassesHhf}

-- steps go on, and happen anywhere
pub then_leads : {t u v : Term} → Leads t u → Leads u v → Leads t v
then_leads (stays t) q = q
then_leads (moves t w u m p) q = moves t w _ m (then_leads p q)

pub under-leads : (c : Typ) → {t u : Term} → Leads t u → Leads (eta c t) (eta c u)
under-leads c (stays t) = stays (eta c t)
under-leads c (moves t w u m p) = moves (eta c t) (eta c w) (eta c u) (under c t w m) (under-leads c p)

pub argument-leads : (h : Head) (ts us : Terms) → {t u : Term} → Leads t u → Leads (Spine h (append ts (tm_cons t us))) (Spine h (append ts (tm_cons u us)))
argument-leads h ts us (stays t) = stays (Spine h (append ts (tm_cons t us)))
argument-leads h ts us (moves t w u m p) =
    moves (Spine h (append ts (tm_cons t us))) (Spine h (append ts (tm_cons w us))) (Spine h (append ts (tm_cons u us)))
    (argument h ts us t w m) (argument-leads h ts us p)

one-leads : (h : Head) (t u : Term) → Leads t u → Leads (Spine h (one t)) (Spine h (one u))
unfolding append
one-leads h t u p = argument-leads h Nil Nil p

-- one !! moved out, where its predicate's body leads on
out-leads : (a : Term) (h : Head) (p b : Term) → is_all h ≡ true → Leads (imp (raise 1 0 a) (body p)) b → Leads (imp a (Spine h (one p))) (all_of h b)
out-leads a h p b e q =
    let k = all-true h e in
    let c = bound_type h in
    let m : Leads (imp a (Spine (all_head c) (one p))) (Spine (all_head c) (one (eta c b))) =
    moves _ _ _ (outwards c a p) (one-leads (all_head c) (eta c (imp (raise 1 0 a) (body p))) (eta c b) (under-leads c q)) in
    subst (λ z. Leads (imp a (Spine z (one p))) (Spine z (one (eta c b)))) (sym k) m

-- either way
pub either : (P : Term → Type 0) (v : Bool) (t u : Term) → (v ≡ true → P t) → (v ≡ false → P u) → P (if v then t else u)
either P true t u p q = p refl
either P false t u p q = q refl

expanded-leads : (a : Term) (h : Head) (ts : Terms) → Leads (imp a (expand h ts)) (push_expanded a h ts)
unfolding expand raise append
expanded-leads a h ts =
    either (λ z. Leads (imp a (expand h ts)) z) (is_all h && is_nil ts) _ _
    (λ e. let p = and_parts (is_all h) (is_nil ts) e in
    let n = nil-true ts p.1 in
    subst (λ z. Leads (imp a (Spine (raise_head 1 0 h) (append (raise_all 1 0 z) (one (index 0))))) (all_of h (imp (raise 1 0 a) (Spine (Bound 1) (one (index 0)))))) (sym n)
    (subst (λ z. Leads (imp a (Spine z (one (index 0)))) (all_of h (imp (raise 1 0 a) (Spine (Bound 1) (one (index 0)))))) (sym (all-raised h p.0))
    (out-leads a h (index 0) (imp (raise 1 0 a) (Spine (Bound 1) (one (index 0)))) p.0 (stays _))))
    (λ e. stays (imp a (expand h ts)))
  where
    all-raised : (k : Head) → is_all k ≡ true → raise_head 1 0 k ≡ k
    all-raised k e = let q = all-true k e in ap (raise_head 1 0) q ∙ sym q

mutual
  unfolding push

  pub push-leads : (a b : Term) → Leads (imp a b) (push a b)
  push-leads a (lam c t) = stays (imp a (lam c t))
  push-leads a (Spine h ts) = push_args-leads a h ts

  push_args-leads : (a : Term) (h : Head) (ts : Terms) → Leads (imp a (Spine h ts)) (push_args a h ts)
  push_args-leads a h Nil = stays (imp a (Spine h Nil))
  push_args-leads a h (tm_cons t ts) =
      either (λ z. Leads (imp a (Spine h (tm_cons t ts))) z) (is_all h && is_nil ts) _ _
      (λ e. let p = and_parts (is_all h) (is_nil ts) e in
      subst (λ z. Leads (imp a (Spine h (tm_cons t z))) (all_of h (push_under (raise 1 0 a) t))) (sym (nil-true ts p.1))
      (out-leads a h t (push_under (raise 1 0 a) t) p.0 (push_under-leads (raise 1 0 a) t)))
      (λ e. stays (imp a (Spine h (tm_cons t ts))))

  push_under-leads : (a t : Term) → Leads (imp a (body t)) (push_under a t)
  push_under-leads a (lam c t) = push-leads a t
  push_under-leads a (Spine h ts) = expanded-leads a h ts

pub two-parts : (h : Head) (ts : Terms) → is_imp h ≡ true → are_two ts ≡ true → Spine h ts ≡ imp (antecedent (Spine h ts)) (consequent (Spine h ts))
two-parts h Nil e f = absurd (let bad : false ≡ true = f in cc)
two-parts h (tm_cons t Nil) e f = absurd (let bad : false ≡ true = f in cc)
two-parts h (tm_cons t (tm_cons u Nil)) e f = ap (λ z. Spine z (tm_cons t (tm_cons u Nil))) (imp-true h e)
two-parts h (tm_cons t (tm_cons u (tm_cons w ws))) e f = absurd (let bad : false ≡ true = f in cc)

spine-leads : (h : Head) (ts : Terms) → Leads (Spine h ts) (hhf_spine h ts)
spine-leads h ts =
    either (λ z. Leads (Spine h ts) z) (is_imp h && are_two ts) _ _
    (λ e. let p = and_parts (is_imp h) (are_two ts) e in
    let k = two-parts h ts p.0 p.1 in
    subst (λ z. Leads z (push (antecedent (Spine h ts)) (consequent (Spine h ts)))) (sym k) (push-leads (antecedent (Spine h ts)) (consequent (Spine h ts))))
    (λ e. stays (Spine h ts))

mutual
  unfolding hhf append

  pub hhf-leads : (bs : Types) (t : Term) → IsTerm bs t → Leads t (hhf t)
  hhf-leads bs (lam c t) p = subst (λ z. Leads z (eta c (hhf t))) (eta-short c t p.1) (under-leads c (hhf-leads (ty_cons c bs) t p.0))
  hhf-leads bs (Spine h ts) p =
      then_leads (hhf_all-leads bs (head_type bs h) h Nil ts p.1) (spine-leads h (hhf_all ts))

  hhf_all-leads : (bs : Types) (a : Typ) (h : Head) (done ts : Terms) → AreArgs bs a ts → Leads (Spine h (append done ts)) (Spine h (append done (hhf_all ts)))
  hhf_all-leads bs a h done Nil p = stays (Spine h (append done Nil))
  hhf_all-leads bs a h done (tm_cons t ts) p =
      let q = argument-leads h done ts (hhf-leads bs t p.1.0) in
      let r = hhf_all-leads bs (cod a) h (last done (hhf t)) ts p.1.1 in
      let e = append-append done (one (hhf t)) ts in
      let f = append-append done (one (hhf t)) (hhf_all ts) in
      then_leads q
      (subst (λ z. Leads (Spine h z) (Spine h (append done (tm_cons (hhf t) (hhf_all ts))))) e
      (subst (λ z. Leads (Spine h (append (last done (hhf t)) ts)) (Spine h z)) f r))

pub hhf_reached : HhfIsReached
hhf_reached = hhf-leads

-- an implication
pub hhf-imp : (a b : Term) → hhf (imp a b) ≡ push (hhf a) (hhf b)
unfolding hhf
hhf-imp a b = ap (λ z. if z then push (hhf a) (hhf b) else imp (hhf a) (hhf b)) imp-two
  where
    imp-two : (is_imp imp_head && true) ≡ true
    imp-two = ap (λ z. z && true) imp-test

pub hhf_parts : HhfOfParts
hhf_parts bs a b p q =
    hhf-imp a b ∙ (let x = sym (hhf-twice bs a p) in let y = sym (hhf-twice bs b q) in λ i. push (x i) (y i)) ∙ sym (hhf-imp (hhf a) (hhf b))

-- raising
unfoldable args_of : Term → Terms
args_of (lam c b) = Nil
args_of (Spine h ts) = ts

unfoldable head_of : Term → Head
head_of (lam c b) = Bound 0
head_of (Spine h ts) = h

raise-expanded : (d c : ℕ) (h : Head) (ts : Terms) → expand (raise_head d c h) (raise_all d c ts) ≡ raise d (suc c) (expand h ts)
unfolding expand raise append args_of head_of
raise-expanded d c h ts =
    let e = raise-swap d 1 0 c (suc c) (Spine h ts) (omega arith) (omega arith) in
    let u = sym (ap head_of e) in
    let a : raise_all 1 0 (raise_all d c ts) ≡ raise_all d (suc c) (raise_all 1 0 ts) = sym (ap args_of e) in
    let n : one (index 0) ≡ raise_all d (suc c) (one (index 0)) = ap (λ z. one (Spine z Nil)) (sym (raise-low d (suc c) 0 (omega arith))) in
    let w = (λ i. append (a i) (n i)) ∙ sym (raise_all-append d (suc c) (raise_all 1 0 ts) (one (index 0))) in
    λ i. Spine (u i) (w i)

pub is_nil-raised : (d c : ℕ) (ts : Terms) → is_nil (raise_all d c ts) ≡ is_nil ts
unfolding raise
is_nil-raised d c Nil = refl
is_nil-raised d c (tm_cons t ts) = refl

bound-raised : (d c : ℕ) (h : Head) → bound_type (raise_head d c h) ≡ bound_type h
bound-raised d c (Const x a) = refl
bound-raised d c (Free x a) = refl
bound-raised d c (Schematic x a) = refl
bound-raised d c (Bound n) = refl

all_of-raise : (d c : ℕ) (h : Head) (b b' : Term) → b' ≡ raise d (suc c) b → all_of (raise_head d c h) b' ≡ raise d c (all_of h b)
unfolding raise
all_of-raise d c h b b' e = let w = (λ i. eta (bound-raised d c h i) (e i)) ∙ sym (raise-eta d c (bound_type h) b) in ap (λ z. Spine (raise_head d c h) (one z)) w

-- a choice passes raising
pub choice : (f : Term → Term) (v w : Bool) (t u t' u' : Term) → v ≡ w → (w ≡ true → t' ≡ f t) → u' ≡ f u → (if v then t' else u') ≡ f (if w then t else u)
choice f v true t u t' u' e p q = ap (λ z. if z then t' else u') e ∙ p refl
choice f v false t u t' u' e p q = ap (λ z. if z then t' else u') e ∙ q

raised-twice : (d c : ℕ) (a : Term) → raise 1 0 (raise d c a) ≡ raise d (suc c) (raise 1 0 a)
raised-twice d c a = sym (raise-swap d 1 0 c (suc c) a (omega arith) (omega arith))

push_expanded-raise : (d c : ℕ) (a : Term) (h : Head) (ts : Terms)
    → push_expanded (raise d (suc c) a) (raise_head d c h) (raise_all d c ts) ≡ raise d (suc c) (push_expanded a h ts)
unfolding raise
push_expanded-raise d c a h ts =
    choice (raise d (suc c)) (is_all (raise_head d c h) && is_nil (raise_all d c ts)) (is_all h && is_nil ts) _ _ _ _
    (λ i. is_all-raise d c h i && is_nil-raised d c ts i)
    (λ e. all-case h (and_parts (is_all h) (is_nil ts) e).0) (ap (imp (raise d (suc c) a)) (raise-expanded d c h ts))
  where
    all-case : (k : Head) → is_all k ≡ true → all_of (raise_head d c k) (imp (raise 1 0 (raise d (suc c) a)) (Spine (Bound 1) (one (index 0))))
        ≡ raise d (suc c) (all_of k (imp (raise 1 0 a) (Spine (Bound 1) (one (index 0)))))
    all-case k g =
        ap (λ z. all_of z (imp (raise 1 0 (raise d (suc c) a)) (Spine (Bound 1) (one (index 0))))) (let q = all-true k g in ap (raise_head d c) q ∙ sym (ap (raise_head d (suc c)) q))
        ∙ all_of-raise d (suc c) k (imp (raise 1 0 a) (Spine (Bound 1) (one (index 0)))) (imp (raise 1 0 (raise d (suc c) a)) (Spine (Bound 1) (one (index 0))))
        (let e = sym (raise-low d (suc (suc c)) 1 (omega arith)) in let f = sym (raise-low d (suc (suc c)) 0 (omega arith)) in
        λ i. imp (raised-twice d (suc c) a i) (Spine (e i) (one (Spine (f i) Nil))))

mutual
  unfolding push raise

  pub push-raise : (d c : ℕ) (a b : Term) → push (raise d c a) (raise d c b) ≡ raise d c (push a b)
  push-raise d c a (lam e t) = refl
  push-raise d c a (Spine h ts) = push_args-raise d c a h ts

  push_args-raise : (d c : ℕ) (a : Term) (h : Head) (ts : Terms) → push_args (raise d c a) (raise_head d c h) (raise_all d c ts) ≡ raise d c (push_args a h ts)
  push_args-raise d c a h Nil = refl
  push_args-raise d c a h (tm_cons t ts) =
      choice (raise d c) (is_all (raise_head d c h) && is_nil (raise_all d c ts)) (is_all h && is_nil ts) _ _ _ _
      (λ i. is_all-raise d c h i && is_nil-raised d c ts i)
      (λ e. all_of-raise d c h (push_under (raise 1 0 a) t) (push_under (raise 1 0 (raise d c a)) (raise d c t))
      (ap (λ z. push_under z (raise d c t)) (raised-twice d c a) ∙ push_under-raise d c (raise 1 0 a) t)) refl

  push_under-raise : (d c : ℕ) (a t : Term) → push_under (raise d (suc c) a) (raise d c t) ≡ raise d (suc c) (push_under a t)
  push_under-raise d c a (lam e t) = push-raise d (suc c) a t
  push_under-raise d c a (Spine h ts) = push_expanded-raise d c a h ts

are_two-raised : (d c : ℕ) (ts : Terms) → are_two (raise_all d c ts) ≡ are_two ts
unfolding raise
are_two-raised d c Nil = refl
are_two-raised d c (tm_cons t Nil) = refl
are_two-raised d c (tm_cons t (tm_cons u Nil)) = refl
are_two-raised d c (tm_cons t (tm_cons u (tm_cons w ws))) = refl

two-raised : (d c : ℕ) (h : Head) (ts : Terms) → push (antecedent (Spine (raise_head d c h) (raise_all d c ts))) (consequent (Spine (raise_head d c h) (raise_all d c ts)))
    ≡ raise d c (push (antecedent (Spine h ts)) (consequent (Spine h ts)))
unfolding raise
two-raised d c h Nil = push-raise d c (Spine h Nil) (Spine h Nil)
two-raised d c h (tm_cons t Nil) = push-raise d c t (Spine h (tm_cons t Nil))
two-raised d c h (tm_cons t (tm_cons u us)) = push-raise d c t u

hhf_spine-raise : (d c : ℕ) (h : Head) (ts : Terms) → hhf_spine (raise_head d c h) (raise_all d c ts) ≡ raise d c (hhf_spine h ts)
unfolding raise
hhf_spine-raise d c h ts =
    choice (raise d c) (is_imp (raise_head d c h) && are_two (raise_all d c ts)) (is_imp h && are_two ts) _ _ _ _
    (λ i. is_imp-raise d c h i && are_two-raised d c ts i) (λ e. two-raised d c h ts) refl

mutual
  unfolding hhf raise

  pub hhf-raise : (d c : ℕ) (t : Term) → hhf (raise d c t) ≡ raise d c (hhf t)
  hhf-raise d c (lam a b) = ap (eta a) (hhf-raise d (suc c) b) ∙ sym (raise-eta d c a (hhf b))
  hhf-raise d c (Spine h ts) = ap (hhf_spine (raise_head d c h)) (hhf_all-raise d c ts) ∙ hhf_spine-raise d c h (hhf_all ts)

  pub hhf_all-raise : (d c : ℕ) (ts : Terms) → hhf_all (raise_all d c ts) ≡ raise_all d c (hhf_all ts)
  hhf_all-raise d c Nil = refl
  hhf_all-raise d c (tm_cons t ts) = let x = hhf-raise d c t in let y = hhf_all-raise d c ts in λ i. tm_cons (x i) (y i)

pub hhf_raise : RaisePassesHhf
hhf_raise = hhf-raise
