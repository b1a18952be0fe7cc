-- hhf of a term is a term of the same type that has the form, and hhf changes no term that has it.
use Rattle.std.proofs.Common.{◌≡◌, ℕ, suc, Bool, true, false, ◌&&◌, ◌⊎◌, inl, inr, codes, if◌then◌else◌, refl, sym, ◌∙◌, ap, subst, arith}
use Rattle.std.proofs.lemmas.Bool.{and_parts}
use Rattle.std.specs.Str.{bytes_eq}
use Rattle.iv_term.specs.declared.typ.Typ.{Typ}
use Rattle.iv_term.specs.declared.typ.Types.{Types}
use Rattle.iv_term.specs.declared.typ.Typ.TheBlock.{Con, Nil as no_types}
use Rattle.iv_term.specs.declared.term.Head.{Head}
use Rattle.iv_term.specs.declared.term.Head.TheVariants.{Const, Free, Schematic, Bound}
use Rattle.iv_term.specs.declared.term.Term.{Term}
use Rattle.iv_term.specs.declared.term.Terms.{Terms}
use Rattle.iv_term.specs.declared.term.Term.TheBlock.{Spine, Nil}
use Rattle.iv_term.specs.Typ.{prop, fun, ty_cons, same_typ}
use Rattle.iv_term.specs.Term.{lam, tm_cons, implies, imp_head, imp, is_nil, is_one, are_two}
use Rattle.iv_term.proofs.Laws.Same.{same_typ-true}
use Rattle.iv_text.proofs.Same.{same_text-true}
use Rattle.iv_hsub.specs.Typing.{dom, cod, types_len, type_at, head_type, result_type, type_of, IsTerm, AreArgs, join}
use Rattle.iv_hsub.specs.Index.{index, raise_head, raise, raise_all, contracts, eta}
use Rattle.iv_hsub.specs.Hsub.{append}
use Rattle.iv_hsub.specs.Hhf.{all_typ, all_head, is_imp, is_all, bound_type, one, expand, all_of, push_expanded, push, push_args, push_under, hhf_spine, hhf, hhf_all, is_quantified, IsSecondPlain, IsHhf, AreHhf}
use Rattle.iv_hsub.proofs.Terms.Base.{fun-parts}
use Rattle.iv_hsub.proofs.Terms.Raise.{is_nil-raise, IsTerm-raise, AreArgs-raise, type_of-raise, head_type-raise, IsHead-raise, result-raise}
use Rattle.iv_hsub.proofs.Terms.Eta.{last, eta_cases, EtaCase, eta-short, IsTerm-eta, result-append, AreArgs-append}
use Rattle.iv_hsub.proofs.Terms.Put.{Has}

-- what the tests of heads say
pub imp-true : (h : Head) → is_imp h ≡ true → h ≡ imp_head
imp-true (Const c a) q =
    let p = and_parts (bytes_eq c (codes "==>")) (same_typ a implies) q in
    let e = same_text-true c (codes "==>") p.0 in
    let f = same_typ-true a implies p.1 in
    λ i. Const (e i) (f i)
imp-true (Free x a) q = absurd (let bad : false ≡ true = q in cc)
imp-true (Schematic x a) q = absurd (let bad : false ≡ true = q in cc)
imp-true (Bound n) q = absurd (let bad : false ≡ true = q in cc)

pub all-true : (h : Head) → is_all h ≡ true → h ≡ all_head (bound_type h)
all-true (Const c a) q =
    let p = and_parts (bytes_eq c (codes "!!")) (same_typ a (all_typ (dom (dom a)))) q in
    let e = same_text-true c (codes "!!") p.0 in
    let f = same_typ-true a (all_typ (dom (dom a))) p.1 in
    λ i. Const (e i) (f i)
all-true (Free x a) q = absurd (let bad : false ≡ true = q in cc)
all-true (Schematic x a) q = absurd (let bad : false ≡ true = q in cc)
all-true (Bound n) q = absurd (let bad : false ≡ true = q in cc)

-- raising changes no test
pub head-raise : (P : Head → Bool) → ((n m : ℕ) → P (Bound n) ≡ P (Bound m)) → (d c : ℕ) (h : Head) → P (raise_head d c h) ≡ P h
head-raise P f d c (Bound n) = f _ n
head-raise P f d c (Const x a) = refl
head-raise P f d c (Free x a) = refl
head-raise P f d c (Schematic x a) = refl

pub is_imp-raise : (d c : ℕ) (h : Head) → is_imp (raise_head d c h) ≡ is_imp h
is_imp-raise d c h = head-raise is_imp (λ n m. refl) d c h

pub is_all-raise : (d c : ℕ) (h : Head) → is_all (raise_head d c h) ≡ is_all h
is_all-raise d c h = head-raise is_all (λ n m. refl) d c h

is_one-raise : (d c : ℕ) (ts : Terms) → is_one (raise_all d c ts) ≡ is_one ts
unfolding raise_all
is_one-raise d c Nil = refl
is_one-raise d c (tm_cons t ts) = is_nil-raise d c ts

quantified-raise : (d c : ℕ) (t : Term) → is_quantified (raise d c t) ≡ is_quantified t
unfolding raise
quantified-raise d c (lam a b) = refl
quantified-raise d c (Spine h ts) = λ i. is_all-raise d c h i && is_one-raise d c ts i

second-raise : (d c : ℕ) (ts : Terms) → IsSecondPlain ts → IsSecondPlain (raise_all d c ts)
unfolding raise_all
second-raise d c Nil p = tt
second-raise d c (tm_cons t Nil) p = tt
second-raise d c (tm_cons t (tm_cons u us)) p = quantified-raise d c u ∙ p

second-raised : (d c : ℕ) (ts : Terms) → IsSecondPlain (raise_all d c ts) → IsSecondPlain ts
unfolding raise_all
second-raised d c Nil p = tt
second-raised d c (tm_cons t Nil) p = tt
second-raised d c (tm_cons t (tm_cons u us)) p = sym (quantified-raise d c u) ∙ p

mutual
  unfolding raise

  pub IsHhf-raise : (d c : ℕ) (t : Term) → IsHhf t → IsHhf (raise d c t)
  IsHhf-raise d c (lam a b) p = IsHhf-raise d (suc c) b p
  IsHhf-raise d c (Spine h ts) p = (AreHhf-raise d c ts p.0, λ q. second-raise d c ts (p.1 (sym (is_imp-raise d c h) ∙ q)))

  pub AreHhf-raise : (d c : ℕ) (ts : Terms) → AreHhf ts → AreHhf (raise_all d c ts)
  AreHhf-raise d c Nil p = tt
  AreHhf-raise d c (tm_cons t ts) p = (IsHhf-raise d c t p.0, AreHhf-raise d c ts p.1)

mutual
  unfolding raise

  IsHhf-raised : (d c : ℕ) (t : Term) → IsHhf (raise d c t) → IsHhf t
  IsHhf-raised d c (lam a b) p = IsHhf-raised d (suc c) b p
  IsHhf-raised d c (Spine h ts) p = (AreHhf-raised d c ts p.0, λ q. second-raised d c ts (p.1 (is_imp-raise d c h ∙ q)))

  AreHhf-raised : (d c : ℕ) (ts : Terms) → AreHhf (raise_all d c ts) → AreHhf ts
  AreHhf-raised d c Nil p = tt
  AreHhf-raised d c (tm_cons t ts) p = (IsHhf-raised d c t p.0, AreHhf-raised d c ts p.1)

-- an index behind the arguments
AreHhf-last : (ts : Terms) → AreHhf ts → AreHhf (last ts (index 0))
unfolding append
AreHhf-last Nil p = ((tt, λ q. absurd (let bad : false ≡ true = q in cc)), tt)
AreHhf-last (tm_cons t ts) p = (p.0, AreHhf-last ts p.1)

AreHhf-before : (ts : Terms) → AreHhf (last ts (index 0)) → AreHhf ts
unfolding append
AreHhf-before Nil p = tt
AreHhf-before (tm_cons t ts) p = (p.0, AreHhf-before ts p.1)

second-last : (ts : Terms) → IsSecondPlain ts → IsSecondPlain (last ts (index 0))
unfolding append
second-last Nil p = tt
second-last (tm_cons t Nil) p = refl
second-last (tm_cons t (tm_cons u us)) p = p

second-before : (ts : Terms) → IsSecondPlain (last ts (index 0)) → IsSecondPlain ts
unfolding append
second-before Nil p = tt
second-before (tm_cons t Nil) p = tt
second-before (tm_cons t (tm_cons u us)) p = p

IsHhf-expand : (h : Head) (ts : Terms) → IsHhf (Spine h ts) → IsHhf (expand h ts)
unfolding expand
IsHhf-expand h ts p = (AreHhf-last _ (AreHhf-raise 1 0 ts p.0), λ q. second-last _ (second-raise 1 0 ts (p.1 (sym (is_imp-raise 1 0 h) ∙ q))))

IsHhf-expanded : (h : Head) (ts : Terms) → IsHhf (expand h ts) → IsHhf (Spine h ts)
unfolding expand
IsHhf-expanded h ts p = (AreHhf-raised 1 0 ts (AreHhf-before _ p.0), λ q. second-raised 1 0 ts (second-before _ (p.1 (is_imp-raise 1 0 h ∙ q))))

IsHhf-eta : (c : Typ) (b : Term) → IsHhf b → IsHhf (eta c b)
IsHhf-eta c b p = go (eta_cases c b)
  where
    go : ((contracts b ≡ false) × (eta c b ≡ lam c b)) ⊎ EtaCase c b → IsHhf (eta c b)
    go (inl q) = subst IsHhf (sym q.1) p
    go (inr x) = subst IsHhf (sym x.eta_is) (IsHhf-expanded x.head x.args (subst IsHhf x.body_is p))

-- a choice by a test
chosen : (P : Term → Type 0) (v : Bool) (t u : Term) → (v ≡ true → P t) → (v ≡ false → P u) → P (if v then t else u)
chosen P true t u f g = f refl
chosen P false t u f g = g refl

pub IsHhf-imp : (a b : Term) → IsHhf a → IsHhf b → is_quantified b ≡ false → IsHhf (imp a b)
IsHhf-imp a b p q e = ((p, (q, tt)), λ r. e)

pub IsHhf-all : (h : Head) (b : Term) → IsHhf b → IsHhf (all_of h b)
IsHhf-all h b p = ((IsHhf-eta (bound_type h) b p, tt), λ q. tt)

is_one-last : (ts : Terms) (t : Term) → is_one (last ts t) ≡ is_nil ts
unfolding append
is_one-last Nil t = refl
is_one-last (tm_cons u Nil) t = refl
is_one-last (tm_cons u (tm_cons w ws)) t = refl

quantified-expand : (h : Head) (ts : Terms) → is_quantified (expand h ts) ≡ (is_all h && is_nil ts)
unfolding expand
quantified-expand h ts =
    let e = is_one-last (raise_all 1 0 ts) (index 0) ∙ is_nil-raise 1 0 ts in
    λ i. is_all-raise 1 0 h i && e i

IsHhf-push_expanded : (a : Term) (h : Head) (ts : Terms) → IsHhf a → IsHhf (Spine h ts) → IsHhf (push_expanded a h ts)
IsHhf-push_expanded a h ts p q =
    chosen IsHhf (is_all h && is_nil ts) _ _
    (λ e. IsHhf-all h _ (IsHhf-imp (raise 1 0 a) (Spine (Bound 1) (one (index 0))) (IsHhf-raise 1 0 a p) (((tt, λ r. absurd (let bad : false ≡ true = r in cc)), tt), λ r. absurd (let bad : false ≡ true = r in cc)) refl))
    (λ e. IsHhf-imp a (expand h ts) p (IsHhf-expand h ts q) (quantified-expand h ts ∙ e))

pub nil-true : (ts : Terms) → is_nil ts ≡ true → ts ≡ Nil
nil-true Nil e = refl
nil-true (tm_cons t ts) e = absurd (let bad : false ≡ true = e in cc)

arity : Typ → ℕ
unfolding types_len
arity (Con c args) = types_len args
arity a = 0

-- the type of propositions is no type of functions
no-fun : (a b : Typ) → prop ≡ fun a b → ⊥
unfolding arity types_len
no-fun a b e = let bad : ◌≡◌ {A = ℕ} 0 2 = ap arity e in cc

and-false : (a : Bool) → (a && false) ≡ false
and-false true = refl
and-false false = refl

mutual
  unfolding push

  pub IsHhf-push : (a b : Term) → IsHhf a → IsHhf b → IsHhf (push a b)
  IsHhf-push a (lam c t) p q = IsHhf-imp a (lam c t) p q refl
  IsHhf-push a (Spine h ts) p q = IsHhf-push_args a h ts p q

  IsHhf-push_args : (a : Term) (h : Head) (ts : Terms) → IsHhf a → IsHhf (Spine h ts) → IsHhf (push_args a h ts)
  IsHhf-push_args a h Nil p q = IsHhf-imp a (Spine h Nil) p q (and-false (is_all h))
  IsHhf-push_args a h (tm_cons t ts) p q =
      chosen IsHhf (is_all h && is_nil ts) _ _
      (λ e. IsHhf-all h _ (IsHhf-push_under (raise 1 0 a) t (IsHhf-raise 1 0 a p) q.0.0))
      (λ e. IsHhf-imp a (Spine h (tm_cons t ts)) p q e)

  IsHhf-push_under : (a t : Term) → IsHhf a → IsHhf t → IsHhf (push_under a t)
  IsHhf-push_under a (lam c t) p q = IsHhf-push a t p q
  IsHhf-push_under a (Spine h ts) p q = IsHhf-push_expanded a h ts p q

-- ==> at two arguments
hhf_spine-hhf : (h : Head) (ts : Terms) → AreHhf ts → (is_imp h ≡ true → are_two ts ≡ false → IsSecondPlain ts) → IsHhf (hhf_spine h ts)
hhf_spine-hhf h Nil p q = chosen IsHhf (is_imp h && false) _ _ (λ e. absurd (let bad : false ≡ true = sym (and-false (is_imp h)) ∙ e in cc)) (λ e. (p, λ r. tt))
hhf_spine-hhf h (tm_cons t Nil) p q = chosen IsHhf (is_imp h && false) _ _ (λ e. absurd (let bad : false ≡ true = sym (and-false (is_imp h)) ∙ e in cc)) (λ e. (p, λ r. tt))
hhf_spine-hhf h (tm_cons t (tm_cons u Nil)) p q =
    chosen IsHhf (is_imp h && true) _ _ (λ e. IsHhf-push t u p.0 p.1.0) (λ e. (p, λ r. absurd (let bad : true ≡ false = sym (ap (λ v. v && true) r) ∙ e in cc)))
hhf_spine-hhf h (tm_cons t (tm_cons u (tm_cons w ws))) p q =
    chosen IsHhf (is_imp h && false) _ _ (λ e. absurd (let bad : false ≡ true = sym (and-false (is_imp h)) ∙ e in cc)) (λ e. (p, λ r. q r refl))

-- ==> and !! make propositions
pub imp-term : (bs : Types) (a b : Term) → Has bs prop a → Has bs prop b → Has bs prop (imp a b)
unfolding Has type_of result_type cod
imp-term bs a b p q = ((tt, (ap (λ z. fun z (fun prop prop)) (sym p.1), (p.0, (ap (λ z. fun z prop) (sym q.1), (q.0, tt))))), refl)

pub all_head-term : (bs : Types) (c : Typ) (t : Term) → Has bs (fun c prop) t → Has bs prop (Spine (all_head c) (one t))
unfolding Has type_of result_type cod
all_head-term bs c t p = ((tt, (ap (λ z. fun z prop) (sym p.1), (p.0, tt))), refl)

pub all_of-term : (bs : Types) (h : Head) (b : Term) → is_all h ≡ true → Has (ty_cons (bound_type h) bs) prop b → Has bs prop (all_of h b)
unfolding Has
all_of-term bs h b q p =
    let e = IsTerm-eta bs (bound_type h) b p.0 in
    let r = all_head-term bs (bound_type h) (eta (bound_type h) b) (e.0, e.1 ∙ ap (fun (bound_type h)) p.1) in
    subst (λ z. Has bs prop (Spine z (one (eta (bound_type h) b)))) (sym (all-true h q)) r

-- a function at the new variable
pub expand-has : (bs : Types) (c d : Typ) (h : Head) (ts : Terms) → Has bs (fun c d) (Spine h ts) → Has (ty_cons c bs) d (expand h ts)
unfolding Has expand type_of result_type join types_len type_at cod
expand-has bs c d h ts p =
    let k = raise_head 1 0 h in
    let us = raise_all 1 0 ts in
    let bs' = ty_cons c bs in
    let e : head_type bs' k ≡ head_type bs h = head_type-raise no_types (ty_cons c no_types) bs h in
    let r : result_type (head_type bs' k) us ≡ fun c d = result-raise 1 0 (head_type bs' k) ts ∙ ap (λ z. result_type z ts) e ∙ p.1 in
    let w : AreArgs bs' (head_type bs' k) us = subst (λ z. AreArgs bs' z us) (sym e) (AreArgs-raise no_types (ty_cons c no_types) bs (head_type bs h) ts p.0.1) in
    let v : AreArgs bs' (result_type (head_type bs' k) us) (one (index 0)) = subst (λ z. AreArgs bs' z (one (index 0))) (sym r) (refl, ((omega arith, tt), tt)) in (
      (IsHead-raise no_types (ty_cons c no_types) bs h p.0.0, AreArgs-append bs' (head_type bs' k) us (one (index 0)) w v),
      result-append (head_type bs' k) us (one (index 0)) ∙ ap cod r,
    )

pub raise-has : (bs : Types) (c : Typ) (a : Term) → Has bs prop a → Has (ty_cons c bs) prop (raise 1 0 a)
unfolding Has join types_len
raise-has bs c a p = (IsTerm-raise no_types (ty_cons c no_types) bs a p.0, type_of-raise no_types (ty_cons c no_types) bs a ∙ p.1)

pub all-type : (bs : Types) (h : Head) → is_all h ≡ true → head_type bs h ≡ all_typ (bound_type h)
all-type bs h q = ap (head_type bs) (all-true h q)

-- x y, under y and x
pub variable-has : (bs : Types) (c d : Typ) → c ≡ fun d prop → Has (ty_cons d (ty_cons c bs)) prop (Spine (Bound 1) (one (index 0)))
unfolding Has type_of result_type types_len type_at cod
variable-has bs c d e = ((omega arith, (e ∙ ap (fun d) (sym (ap cod e)), ((omega arith, tt), tt))), ap cod e)

push_expanded-nil : (bs : Types) (c : Typ) (a : Term) (h : Head) (v : Bool) → is_all h ≡ v → Has (ty_cons c bs) prop a → Has bs (fun c prop) (Spine h Nil)
    → Has (ty_cons c bs) prop (if v && true then all_of h (imp (raise 1 0 a) (Spine (Bound 1) (one (index 0)))) else imp a (expand h Nil))
unfolding Has type_of result_type
push_expanded-nil bs c a h false q p r = imp-term (ty_cons c bs) a (expand h Nil) p (expand-has bs c prop h Nil r)
push_expanded-nil bs c a h true q p r =
    let e : c ≡ fun (bound_type h) prop = (fun-parts c prop (fun (bound_type h) prop) prop (sym r.1 ∙ all-type bs h q)).0 in
    let k = bound_type h in
    all_of-term (ty_cons c bs) h _ q
    (imp-term (ty_cons k (ty_cons c bs)) (raise 1 0 a) (Spine (Bound 1) (one (index 0))) (raise-has (ty_cons c bs) k a p) (variable-has bs c k e))

push_expanded-term : (bs : Types) (c : Typ) (a : Term) (h : Head) (ts : Terms) → Has (ty_cons c bs) prop a → Has bs (fun c prop) (Spine h ts)
    → Has (ty_cons c bs) prop (push_expanded a h ts)
push_expanded-term bs c a h Nil p q = push_expanded-nil bs c a h (is_all h) refl p q
push_expanded-term bs c a h (tm_cons t ts) p q =
    chosen (Has (ty_cons c bs) prop) (is_all h && false) _ _ (λ e. absurd (let bad : false ≡ true = sym (and-false (is_all h)) ∙ e in cc))
    (λ e. imp-term (ty_cons c bs) a (expand h (tm_cons t ts)) p (expand-has bs c prop h (tm_cons t ts) q))

-- the argument of !! is a function to propositions
pub all-argument : (bs : Types) (h : Head) (t : Term) → is_all h ≡ true → IsTerm bs (Spine h (one t)) → Has bs (fun (bound_type h) prop) t
unfolding Has cod
all-argument bs h t q p =
    let e : head_type bs h ≡ all_typ (bound_type h) = all-type bs h q in
    let f = sym e ∙ p.1.0 in
    (p.1.1.0, sym (fun-parts (fun (bound_type h) prop) prop (type_of bs t) (cod (head_type bs h)) f).0)

mutual
  unfolding push Has type_of

  pub push-term : (bs : Types) (a b : Term) → Has bs prop a → Has bs prop b → Has bs prop (push a b)
  push-term bs a (lam c t) p q = imp-term bs a (lam c t) p q
  push-term bs a (Spine h ts) p q = push_args-term bs a h ts p q

  push_args-term : (bs : Types) (a : Term) (h : Head) (ts : Terms) → Has bs prop a → Has bs prop (Spine h ts) → Has bs prop (push_args a h ts)
  push_args-term bs a h Nil p q = imp-term bs a (Spine h Nil) p q
  push_args-term bs a h (tm_cons t ts) p q =
      chosen (Has bs prop) (is_all h && is_nil ts) _ _
      (λ e. let b = and_parts (is_all h) (is_nil ts) e in
      let r = subst (λ us. IsTerm bs (Spine h (tm_cons t us))) (nil-true ts b.1) q.0 in
      let s = all-argument bs h t b.0 r in
      all_of-term bs h _ b.0 (push_under-term bs (bound_type h) (raise 1 0 a) t (raise-has bs (bound_type h) a p) s))
      (λ e. imp-term bs a (Spine h (tm_cons t ts)) p q)

  pub push_under-term : (bs : Types) (c : Typ) (a t : Term) → Has (ty_cons c bs) prop a → Has bs (fun c prop) t → Has (ty_cons c bs) prop (push_under a t)
  push_under-term bs c a (lam d t) p q =
      let e = fun-parts d (type_of (ty_cons d bs) t) c prop q.1 in
      push-term (ty_cons c bs) a t p (subst (λ z. Has (ty_cons z bs) prop t) e.0 (q.0.0, e.1))
  push_under-term bs c a (Spine h ts) p q = push_expanded-term bs c a h ts p q

-- the arguments of ==> are propositions, at most two
pub imp-arguments : (bs : Types) (t u : Term) → AreArgs bs implies (tm_cons t (tm_cons u Nil)) → Has bs prop t × Has bs prop u
unfolding Has cod
imp-arguments bs t u p =
    let e = fun-parts prop (fun prop prop) (type_of bs t) (fun prop prop) p.0 in
    let f = fun-parts prop prop (type_of bs u) prop p.1.1.0 in
    ((p.1.0, sym e.0), (p.1.1.1.0, sym f.0))

imp-two : (bs : Types) (ts : Terms) → AreArgs bs implies ts → are_two ts ≡ false → IsSecondPlain ts
unfolding cod
imp-two bs Nil p e = tt
imp-two bs (tm_cons t Nil) p e = tt
imp-two bs (tm_cons t (tm_cons u Nil)) p e = absurd (let bad : true ≡ false = e in cc)
imp-two bs (tm_cons t (tm_cons u (tm_cons w ws))) p e = absurd (no-fun (type_of bs w) prop p.1.1.1.1.0)

hhf_spine-other : (bs : Types) (h : Head) (ts : Terms) → are_two ts ≡ false → IsTerm bs (Spine h ts) → Has bs (type_of bs (Spine h ts)) (hhf_spine h ts)
unfolding Has
hhf_spine-other bs h ts e p =
    chosen (Has bs (type_of bs (Spine h ts))) (is_imp h && are_two ts) _ _
    (λ f. absurd (let bad : false ≡ true = sym e ∙ (and_parts (is_imp h) (are_two ts) f).1 in cc)) (λ f. (p, refl))

hhf_spine-term : (bs : Types) (h : Head) (ts : Terms) → IsTerm bs (Spine h ts) → Has bs (type_of bs (Spine h ts)) (hhf_spine h ts)
unfolding Has type_of result_type cod
hhf_spine-term bs h Nil p = hhf_spine-other bs h Nil refl p
hhf_spine-term bs h (tm_cons t Nil) p = hhf_spine-other bs h (tm_cons t Nil) refl p
hhf_spine-term bs h (tm_cons t (tm_cons u Nil)) p =
    chosen (Has bs (type_of bs (Spine h (tm_cons t (tm_cons u Nil))))) (is_imp h && true) _ _
    (λ e. let f : head_type bs h ≡ implies = ap (head_type bs) (imp-true h (and_parts (is_imp h) true e).0) in
    let g = imp-arguments bs t u (subst (λ z. AreArgs bs z (tm_cons t (tm_cons u Nil))) f p.1) in
    let r = push-term bs t u g.0 g.1 in
    (r.0, r.1 ∙ sym (ap (λ z. cod (cod z)) f)))
    (λ e. (p, refl))
hhf_spine-term bs h (tm_cons t (tm_cons u (tm_cons w ws))) p = hhf_spine-other bs h (tm_cons t (tm_cons u (tm_cons w ws))) refl p

result-hhf : (a : Typ) (ts : Terms) → result_type a (hhf_all ts) ≡ result_type a ts
unfolding hhf_all result_type
result-hhf a Nil = refl
result-hhf a (tm_cons t ts) = result-hhf (cod a) ts

mutual
  unfolding hhf Has type_of

  -- hhf of a term is a term of its type
  pub hhf-term : (bs : Types) (t : Term) → IsTerm bs t → Has bs (type_of bs t) (hhf t)
  hhf-term bs (lam c b) p =
      let r = hhf-term (ty_cons c bs) b p.0 in
      let s = IsTerm-eta bs c (hhf b) r.0 in
      (s.0, s.1 ∙ ap (fun c) r.1)
  hhf-term bs (Spine h ts) p =
      let c = head_type bs h in
      let r = hhf_spine-term bs h (hhf_all ts) (p.0, hhf-args bs c ts p.1) in
      (r.0, r.1 ∙ result-hhf c ts)

  pub hhf-args : (bs : Types) (a : Typ) (ts : Terms) → AreArgs bs a ts → AreArgs bs a (hhf_all ts)
  hhf-args bs a Nil p = tt
  hhf-args bs a (tm_cons t ts) p =
      let r = hhf-term bs t p.1.0 in
      (p.0 ∙ ap (λ z. fun z (cod a)) (sym r.1), (r.0, hhf-args bs (cod a) ts p.1.1))

mutual
  unfolding hhf

  -- it has the form
  pub IsHhf-hhf : (bs : Types) (t : Term) → IsTerm bs t → IsHhf (hhf t)
  IsHhf-hhf bs (lam c b) p = IsHhf-eta c (hhf b) (IsHhf-hhf (ty_cons c bs) b p.0)
  IsHhf-hhf bs (Spine h ts) p =
      hhf_spine-hhf h (hhf_all ts) (AreHhf-hhf bs (head_type bs h) ts p.1)
      (λ e f. imp-two bs (hhf_all ts) (subst (λ z. AreArgs bs z (hhf_all ts)) (ap (head_type bs) (imp-true h e)) (hhf-args bs (head_type bs h) ts p.1)) f)

  pub AreHhf-hhf : (bs : Types) (a : Typ) (ts : Terms) → AreArgs bs a ts → AreHhf (hhf_all ts)
  AreHhf-hhf bs a Nil p = tt
  AreHhf-hhf bs a (tm_cons t ts) p = (IsHhf-hhf bs t p.1.0, AreHhf-hhf bs (cod a) ts p.1.1)

-- what has the form stays
pub push-plain : (a b : Term) → is_quantified b ≡ false → push a b ≡ imp a b
unfolding push
push-plain a (lam c t) e = refl
push-plain a (Spine h Nil) e = refl
push-plain a (Spine h (tm_cons t ts)) e = chosen (λ z. z ≡ imp a (Spine h (tm_cons t ts))) (is_all h && is_nil ts) _ _ (λ f. absurd (let bad : false ≡ true = sym e ∙ f in cc)) (λ f. refl)

pub hhf_spine-other_head : (h : Head) (ts : Terms) → are_two ts ≡ false → hhf_spine h ts ≡ Spine h ts
hhf_spine-other_head h ts e =
    chosen (λ z. z ≡ Spine h ts) (is_imp h && are_two ts) _ _ (λ f. absurd (let bad : false ≡ true = sym e ∙ (and_parts (is_imp h) (are_two ts) f).1 in cc)) (λ f. refl)

pub hhf_spine-same : (h : Head) (ts : Terms) → (is_imp h ≡ true → IsSecondPlain ts) → hhf_spine h ts ≡ Spine h ts
hhf_spine-same h Nil q = chosen (λ z. z ≡ Spine h Nil) (is_imp h && false) _ _ (λ e. absurd (let bad : false ≡ true = sym (and-false (is_imp h)) ∙ e in cc)) (λ e. refl)
hhf_spine-same h (tm_cons t Nil) q = chosen (λ z. z ≡ Spine h (tm_cons t Nil)) (is_imp h && false) _ _ (λ e. absurd (let bad : false ≡ true = sym (and-false (is_imp h)) ∙ e in cc)) (λ e. refl)
hhf_spine-same h (tm_cons t (tm_cons u Nil)) q =
    chosen (λ z. z ≡ Spine h (tm_cons t (tm_cons u Nil))) (is_imp h && true) _ _
    (λ e. let f = (and_parts (is_imp h) true e).0 in push-plain t u (q f) ∙ ap (λ z. Spine z (tm_cons t (tm_cons u Nil))) (sym (imp-true h f))) (λ e. refl)
hhf_spine-same h (tm_cons t (tm_cons u (tm_cons w ws))) q =
    chosen (λ z. z ≡ Spine h (tm_cons t (tm_cons u (tm_cons w ws)))) (is_imp h && false) _ _ (λ e. absurd (let bad : false ≡ true = sym (and-false (is_imp h)) ∙ e in cc)) (λ e. refl)

mutual
  unfolding hhf

  pub hhf-same : (bs : Types) (t : Term) → IsTerm bs t → IsHhf t → hhf t ≡ t
  hhf-same bs (lam c b) p q = ap (eta c) (hhf-same (ty_cons c bs) b p.0 q) ∙ eta-short c b p.1
  hhf-same bs (Spine h ts) p q = ap (hhf_spine h) (hhf_all-same bs (head_type bs h) ts p.1 q.0) ∙ hhf_spine-same h ts q.1

  pub hhf_all-same : (bs : Types) (a : Typ) (ts : Terms) → AreArgs bs a ts → AreHhf ts → hhf_all ts ≡ ts
  hhf_all-same bs a Nil p q = refl
  hhf_all-same bs a (tm_cons t ts) p q =
      let e = hhf-same bs t p.1.0 q.0 in let f = hhf_all-same bs (cod a) ts p.1.1 q.1 in λ i. tm_cons (e i) (f i)

-- hhf of hhf is hhf
pub hhf-twice : (bs : Types) (t : Term) → IsTerm bs t → hhf (hhf t) ≡ hhf t
unfolding Has
hhf-twice bs t p = hhf-same bs (hhf t) (hhf-term bs t p).0 (IsHhf-hhf bs t p)
