-- An abstraction that can be contracted is %x. f x with x not in f, and what it is contracted to is f.
use Rattle.std.proofs.Common.{◌≡◌, ℕ, suc, pred, ◌+◌, ◌<◌, ◌≤◌, Bool, true, false, not, ◌&&◌, ◌||◌, ◌⊎◌, inl, inr, nat_lt, nat_eq, refl, sym, ◌∙◌, ap, subst, arith}
use Rattle.std.proofs.lemmas.Bool.{and_parts, or_parts, eqb-true, eqb-false, not-true}
use Rattle.iv_term.specs.declared.typ.Typ.{Typ}
use Rattle.iv_term.specs.declared.typ.Types.{Types}
use Rattle.iv_term.specs.declared.typ.Typ.TheBlock.{Nil as no_types}
use Rattle.iv_term.specs.declared.term.Head.{Head}
use Rattle.iv_term.specs.declared.term.Head.TheVariants.{Const, Free, Schematic, Bound}
use Rattle.iv_term.specs.declared.term.Term.{Term}
use Rattle.iv_term.specs.declared.term.Terms.{Terms}
use Rattle.iv_term.specs.declared.term.Term.TheBlock.{Spine, Nil}
use Rattle.iv_term.specs.Typ.{fun, ty_cons}
use Rattle.iv_term.specs.Term.{lam, tm_cons, is_nil}
use Rattle.iv_hsub.specs.Typing.{cod, types_len, type_at, head_type, result_type, type_of, IsTerm, AreArgs, join}
use Rattle.iv_hsub.specs.Index.{index, raise_head, raise, raise_all, is_bound, occurs, occurs_in, lower_head, lower, lower_all, is_index_0, ends_in_0, front, contracts, contracted, eta}
use Rattle.iv_hsub.specs.Hsub.{append}
use Rattle.iv_hsub.specs.Hhf.{expand}
use Rattle.iv_hsub.proofs.Terms.Base.{lt_cases, lt_true, lt_false, eq_false}
use Rattle.iv_hsub.proofs.Terms.Raise.{raise-low, raise-high, IsTerm-raised, head_type-raise, result-raise}

pub lower-low : (c n : ℕ) → n < c → lower_head c (Bound n) ≡ Bound n
lower-low c n h = rw (lt_true n c h)

pub lower-high : (c n : ℕ) → c ≤ n → lower_head c (Bound n) ≡ Bound (pred n)
lower-high c n h = rw (lt_false n c h)

-- lists with one term at the end
abbrev pub last : Terms → Term → Terms
last ts t = append ts (tm_cons t Nil)

pub append-nil : (ts : Terms) → append ts Nil ≡ ts
unfolding append
append-nil Nil = refl
append-nil (tm_cons t ts) = ap (λ w. tm_cons t w) (append-nil ts)

pub append-append : (ts us vs : Terms) → append (append ts us) vs ≡ append ts (append us vs)
unfolding append
append-append Nil us vs = refl
append-append (tm_cons t ts) us vs = ap (λ w. tm_cons t w) (append-append ts us vs)

is_nil-last : (ts : Terms) (t : Term) → is_nil (last ts t) ≡ false
unfolding append
is_nil-last Nil t = refl
is_nil-last (tm_cons u us) t = refl

pub front-last : (ts : Terms) (t : Term) → front (last ts t) ≡ ts
unfolding append front
front-last Nil t = refl
front-last (tm_cons u Nil) t = refl
front-last (tm_cons u (tm_cons w ws)) t = ap (λ z. tm_cons u z) (front-last (tm_cons w ws) t)

pub ends-last : (ts : Terms) (t : Term) → ends_in_0 (last ts t) ≡ is_index_0 t
unfolding append ends_in_0
ends-last Nil t = refl
ends-last (tm_cons u Nil) t = refl
ends-last (tm_cons u (tm_cons w ws)) t = ends-last (tm_cons w ws) t

is_nil-true : (ts : Terms) → is_nil ts ≡ true → ts ≡ Nil
is_nil-true Nil h = refl
is_nil-true (tm_cons t ts) h = absurd (let bad : false ≡ true = h in cc)

pub index_0-true : (t : Term) → is_index_0 t ≡ true → t ≡ index 0
index_0-true (lam a b) h = absurd (let bad : false ≡ true = h in cc)
index_0-true (Spine (Bound n) ts) h =
    let p = and_parts (nat_eq n 0) (is_nil ts) h in
    let e = eqb-true n 0 p.0 in
    let f = is_nil-true ts p.1 in
    λ i. Spine (Bound (e i)) (f i)
index_0-true (Spine (Const x a) ts) h = absurd (let bad : false ≡ true = h in cc)
index_0-true (Spine (Free x a) ts) h = absurd (let bad : false ≡ true = h in cc)
index_0-true (Spine (Schematic x a) ts) h = absurd (let bad : false ≡ true = h in cc)

pub ends-true : (ts : Terms) → ends_in_0 ts ≡ true → ts ≡ last (front ts) (index 0)
unfolding append front ends_in_0
ends-true Nil h = absurd (let bad : false ≡ true = h in cc)
ends-true (tm_cons t Nil) h = ap (λ w. tm_cons w Nil) (index_0-true t h)
ends-true (tm_cons t (tm_cons u us)) h = ap (λ w. tm_cons t w) (ends-true (tm_cons u us) h)

-- raising undoes lowering where the index isn't there, and lowering undoes raising
raise_head-lower : (c : ℕ) (h : Head) → is_bound c h ≡ false → raise_head 1 c (lower_head c h) ≡ h
raise_head-lower c (Bound n) q = go (lt_cases n c)
  where
    go : ((n < c) × (nat_lt n c ≡ true)) ⊎ ((c ≤ n) × (nat_lt n c ≡ false)) → raise_head 1 c (lower_head c (Bound n)) ≡ Bound n
    go (inl p) = ap (raise_head 1 c) (lower-low c n p.0) ∙ raise-low 1 c n p.0
    go (inr p) =
        let ne = eqb-false n c q in
        let ne' : n ≡ c → ⊥ = ne in
        let up : c < n = grind (arith, p.0, ne') in
        ap (raise_head 1 c) (lower-high c n p.0) ∙ raise-high 1 c (pred n) (omega (arith, up)) ∙ ap Bound (omega (arith, up))
raise_head-lower c (Const x a) q = refl
raise_head-lower c (Free x a) q = refl
raise_head-lower c (Schematic x a) q = refl

mutual
  unfolding raise lower occurs

  pub raise-lower : (c : ℕ) (t : Term) → occurs c t ≡ false → raise 1 c (lower c t) ≡ t
  raise-lower c (lam a b) q = ap (λ w. lam a w) (raise-lower (suc c) b q)
  raise-lower c (Spine h ts) q =
      let p = or_parts (is_bound c h) (occurs_in c ts) q in
      let e = raise_head-lower c h p.0 in
      let f = raise_all-lower c ts p.1 in
      λ i. Spine (e i) (f i)

  pub raise_all-lower : (c : ℕ) (ts : Terms) → occurs_in c ts ≡ false → raise_all 1 c (lower_all c ts) ≡ ts
  raise_all-lower c Nil q = refl
  raise_all-lower c (tm_cons t ts) q =
      let p = or_parts (occurs c t) (occurs_in c ts) q in
      let e = raise-lower c t p.0 in
      let f = raise_all-lower c ts p.1 in
      λ i. tm_cons (e i) (f i)

pub lower_head-raise : (c : ℕ) (h : Head) → lower_head c (raise_head 1 c h) ≡ h
lower_head-raise c (Bound n) = go (lt_cases n c)
  where
    go : ((n < c) × (nat_lt n c ≡ true)) ⊎ ((c ≤ n) × (nat_lt n c ≡ false)) → lower_head c (raise_head 1 c (Bound n)) ≡ Bound n
    go (inl p) = ap (lower_head c) (raise-low 1 c n p.0) ∙ lower-low c n p.0
    go (inr p) = ap (lower_head c) (raise-high 1 c n p.0) ∙ lower-high c (n + 1) (omega (arith, p.0)) ∙ ap Bound (omega arith)
lower_head-raise c (Const x a) = refl
lower_head-raise c (Free x a) = refl
lower_head-raise c (Schematic x a) = refl

mutual
  unfolding raise lower

  pub lower-raise : (c : ℕ) (t : Term) → lower c (raise 1 c t) ≡ t
  lower-raise c (lam a b) = ap (λ w. lam a w) (lower-raise (suc c) b)
  lower-raise c (Spine h ts) =
      let e = lower_head-raise c h in let f = lower_all-raise c ts in λ i. Spine (e i) (f i)

  pub lower_all-raise : (c : ℕ) (ts : Terms) → lower_all c (raise_all 1 c ts) ≡ ts
  lower_all-raise c Nil = refl
  lower_all-raise c (tm_cons t ts) =
      let e = lower-raise c t in let f = lower_all-raise c ts in λ i. tm_cons (e i) (f i)

-- a raised term doesn't have the index
is_bound-fresh : (c : ℕ) (h : Head) → is_bound c (raise_head 1 c h) ≡ false
is_bound-fresh c (Bound n) = go (lt_cases n c)
  where
    go : ((n < c) × (nat_lt n c ≡ true)) ⊎ ((c ≤ n) × (nat_lt n c ≡ false)) → is_bound c (raise_head 1 c (Bound n)) ≡ false
    go (inl p) = ap (is_bound c) (raise-low 1 c n p.0) ∙ eq_false n c (λ e. omega (arith, p.0))
    go (inr p) = ap (is_bound c) (raise-high 1 c n p.0) ∙ eq_false (n + 1) c (λ e. omega (arith, p.0))
is_bound-fresh c (Const x a) = refl
is_bound-fresh c (Free x a) = refl
is_bound-fresh c (Schematic x a) = refl

or-none : (a b : Bool) → a ≡ false → b ≡ false → (a || b) ≡ false
or-none a b p q = rw (p, q)

mutual
  unfolding raise occurs

  pub occurs-fresh : (c : ℕ) (t : Term) → occurs c (raise 1 c t) ≡ false
  occurs-fresh c (lam a b) = occurs-fresh (suc c) b
  occurs-fresh c (Spine h ts) = or-none _ _ (is_bound-fresh c h) (occurs_in-fresh c ts)

  pub occurs_in-fresh : (c : ℕ) (ts : Terms) → occurs_in c (raise_all 1 c ts) ≡ false
  occurs_in-fresh c Nil = refl
  occurs_in-fresh c (tm_cons t ts) = or-none _ _ (occurs-fresh c t) (occurs_in-fresh c ts)

-- a body that can be contracted
pub record Expands (b : Term) : Type 0 where
  pub head : Head
  pub args : Terms
  pub body_is : b ≡ expand head args

pub contracts-expands : (b : Term) → contracts b ≡ true → Expands b
unfolding contracts expand
contracts-expands (lam a b) q = absurd (let bad : false ≡ true = q in cc)
contracts-expands (Spine h ts) q =
    let p = and_parts (ends_in_0 ts) (not (is_bound 0 h || occurs_in 0 (front ts))) q in
    let n = or_parts (is_bound 0 h) (occurs_in 0 (front ts)) (not-true _ p.1) in
    let e = raise_head-lower 0 h n.0 in
    let f = raise_all-lower 0 (front ts) n.1 in
    let g = ends-true ts p.0 in
    record { head = lower_head 0 h; args = lower_all 0 (front ts); body_is = ap (Spine h) g ∙ (λ i. Spine (sym e i) (last (sym f i) (index 0))) }

pub expand-contracts : (h : Head) (ts : Terms) → contracts (expand h ts) ≡ true
unfolding contracts expand
expand-contracts h ts =
    let e = ends-last (raise_all 1 0 ts) (index 0) in
    let f = ap (occurs_in 0) (front-last (raise_all 1 0 ts) (index 0)) ∙ occurs_in-fresh 0 ts in
    let g = is_bound-fresh 0 h in
    λ i. e i && not (g i || f i)

expand-contracted : (h : Head) (ts : Terms) → contracted (expand h ts) ≡ Spine h ts
unfolding expand
expand-contracted h ts =
    let e = lower_head-raise 0 h in
    let f = ap (lower_all 0) (front-last (raise_all 1 0 ts) (index 0)) ∙ lower_all-raise 0 ts in
    λ i. Spine (e i) (f i)

pub eta-expand : (a : Typ) (h : Head) (ts : Terms) → eta a (expand h ts) ≡ Spine h ts
unfolding eta
eta-expand a h ts = rw (expand-contracts h ts) (expand-contracted h ts)

pub eta-short : (a : Typ) (b : Term) → contracts b ≡ false → eta a b ≡ lam a b
unfolding eta
eta-short a b q = rw q

-- what an abstraction is
pub record EtaCase (a : Typ) (b : Term) : Type 0 where
  pub head : Head
  pub args : Terms
  pub body_is : b ≡ expand head args
  pub eta_is : eta a b ≡ Spine head args

pub eta_cases : (a : Typ) (b : Term) → ((contracts b ≡ false) × (eta a b ≡ lam a b)) ⊎ EtaCase a b
eta_cases a b = go (contracts b) refl
  where
    go : (v : Bool) → contracts b ≡ v → ((contracts b ≡ false) × (eta a b ≡ lam a b)) ⊎ EtaCase a b
    go false q = inl (q, eta-short a b q)
    go true q =
        let x = contracts-expands b q in
        inr (record { head = x.head; args = x.args; body_is = x.body_is; eta_is = ap (eta a) x.body_is ∙ eta-expand a x.head x.args })

-- appended arguments
pub result-append : (a : Typ) (ts us : Terms) → result_type a (append ts us) ≡ result_type (result_type a ts) us
unfolding append result_type
result-append a Nil us = refl
result-append a (tm_cons t ts) us = result-append (cod a) ts us

pub AreArgs-append : (bs : Types) (a : Typ) (ts us : Terms) → AreArgs bs a ts → AreArgs bs (result_type a ts) us → AreArgs bs a (append ts us)
unfolding append result_type
AreArgs-append bs a Nil us p q = q
AreArgs-append bs a (tm_cons t ts) us p q = (p.0, (p.1.0, AreArgs-append bs (cod a) ts us p.1.1 q))

pub AreArgs-appended : (bs : Types) (a : Typ) (ts us : Terms) → AreArgs bs a (append ts us) → AreArgs bs a ts × AreArgs bs (result_type a ts) us
unfolding append result_type
AreArgs-appended bs a Nil us p = (tt, p)
AreArgs-appended bs a (tm_cons t ts) us p =
    let r = AreArgs-appended bs (cod a) ts us p.1.1 in ((p.0, (p.1.0, r.0)), r.1)

-- contraction keeps types
pub expand-term : (bs : Types) (a : Typ) (h : Head) (ts : Terms) → IsTerm (ty_cons a bs) (expand h ts)
    → IsTerm bs (Spine h ts) × (type_of bs (Spine h ts) ≡ fun a (type_of (ty_cons a bs) (expand h ts)))
unfolding expand type_of join types_len result_type type_at raise_all
expand-term bs a h ts p =
    let k = raise_head 1 0 h in
    let us = raise_all 1 0 ts in
    let c = head_type (ty_cons a bs) k in
    let e : c ≡ head_type bs h = head_type-raise no_types (ty_cons a no_types) bs h in
    let s = AreArgs-appended (ty_cons a bs) c us (tm_cons (index 0) Nil) p.1 in
    let r : result_type c us ≡ result_type (head_type bs h) ts = result-raise 1 0 c ts ∙ ap (λ z. result_type z ts) e in
    let whole : IsTerm (ty_cons a bs) (Spine k us) = (p.0, s.0) in
    let below : IsTerm bs (Spine h ts) = IsTerm-raised no_types (ty_cons a no_types) bs (Spine h ts) whole in
    let g : type_of (ty_cons a bs) (expand h ts) ≡ cod (result_type c us) = result-append c us (tm_cons (index 0) Nil) in
    (below, sym r ∙ s.1.0 ∙ ap (fun a) (sym g))

pub IsTerm-eta : (bs : Types) (a : Typ) (b : Term) → IsTerm (ty_cons a bs) b
    → IsTerm bs (eta a b) × (type_of bs (eta a b) ≡ fun a (type_of (ty_cons a bs) b))
IsTerm-eta bs a b p = go (eta_cases a b)
  where
    go : ((contracts b ≡ false) × (eta a b ≡ lam a b)) ⊎ EtaCase a b → IsTerm bs (eta a b) × (type_of bs (eta a b) ≡ fun a (type_of (ty_cons a bs) b))
    go (inl q) =
        let e : type_of bs (lam a b) ≡ fun a (type_of (ty_cons a bs) b) = unfold type_of in refl in
        subst (λ t. IsTerm bs t × (type_of bs t ≡ fun a (type_of (ty_cons a bs) b))) (sym q.1) ((p, q.0), e)
    go (inr x) =
        let r = expand-term bs a x.head x.args (subst (IsTerm (ty_cons a bs)) x.body_is p) in
        subst (λ t. IsTerm bs t × (type_of bs t ≡ fun a (type_of (ty_cons a bs) b))) (sym x.eta_is)
        (r.0, r.1 ∙ ap (λ z. fun a (type_of (ty_cons a bs) z)) (sym x.body_is))
