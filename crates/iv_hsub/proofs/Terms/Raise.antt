-- Raising keeps types and terms, both ways.
use Rattle.std.proofs.Common.{◌≡◌, ℕ, suc, ◌+◌, ◌<◌, ◌≤◌, true, false, not, ◌&&◌, ◌||◌, ◌⊎◌, inl, inr, nat_lt, refl, sym, ◌∙◌, ap, subst, arith}
use Rattle.iv_term.specs.declared.typ.Typ.{Typ}
use Rattle.iv_term.specs.declared.typ.Types.{Types}
use Rattle.iv_term.specs.declared.term.Head.{Head}
use Rattle.iv_term.specs.declared.term.Head.TheVariants.{Const, Free, Schematic, Bound}
use Rattle.iv_term.specs.declared.term.Term.{Term}
use Rattle.iv_term.specs.declared.term.Terms.{Terms}
use Rattle.iv_term.specs.declared.term.Term.TheBlock.{Spine, Nil}
use Rattle.iv_term.specs.Typ.{fun, ty_cons}
use Rattle.iv_term.specs.Term.{lam, tm_cons, is_nil}
use Rattle.iv_hsub.specs.Typing.{cod, types_len, type_at, head_type, result_type, type_of, IsHead, IsTerm, AreArgs, join}
use Rattle.iv_hsub.specs.Index.{raise_head, raise, raise_all, is_bound, occurs, occurs_in, is_index_0, ends_in_0, front, contracts}
use Rattle.iv_hsub.proofs.Terms.Base.{lt_cases, lt_true, lt_false, eq_false, types_len-join, type_at-low, type_at-high}

pub raise-low : (d c n : ℕ) → n < c → raise_head d c (Bound n) ≡ Bound n
raise-low d c n h = rw (lt_true n c h)

pub raise-high : (d c n : ℕ) → c ≤ n → raise_head d c (Bound n) ≡ Bound (n + d)
raise-high d c n h = rw (lt_false n c h)

-- what is seen of a list
pub is_nil-raise : (d c : ℕ) (ts : Terms) → is_nil (raise_all d c ts) ≡ is_nil ts
unfolding raise_all
is_nil-raise d c Nil = refl
is_nil-raise d c (tm_cons t ts) = refl

pub result-raise : (d c : ℕ) (a : Typ) (ts : Terms) → result_type a (raise_all d c ts) ≡ result_type a ts
unfolding raise_all result_type
result-raise d c a Nil = refl
result-raise d c a (tm_cons t ts) = result-raise d c (cod a) ts

pub front-raise : (d c : ℕ) (ts : Terms) → front (raise_all d c ts) ≡ raise_all d c (front ts)
unfolding raise_all front
front-raise d c Nil = refl
front-raise d c (tm_cons t Nil) = refl
front-raise d c (tm_cons t (tm_cons u us)) = ap (λ w. tm_cons (raise d c t) w) (front-raise d c (tm_cons u us))

-- an index inside is where it was
pub is_bound-raise : (d c k : ℕ) (h : Head) → k < c → is_bound k (raise_head d c h) ≡ is_bound k h
is_bound-raise d c k (Bound n) q = go (lt_cases n c)
  where
    go : ((n < c) × (nat_lt n c ≡ true)) ⊎ ((c ≤ n) × (nat_lt n c ≡ false)) → is_bound k (raise_head d c (Bound n)) ≡ is_bound k (Bound n)
    go (inl p) = ap (is_bound k) (raise-low d c n p.0)
    go (inr p) = ap (is_bound k) (raise-high d c n p.0) ∙ eq_false (n + d) k (λ e. omega (arith, p.0)) ∙ sym (eq_false n k (λ e. omega (arith, p.0)))
is_bound-raise d c k (Const x a) q = refl
is_bound-raise d c k (Free x a) q = refl
is_bound-raise d c k (Schematic x a) q = refl

mutual
  unfolding occurs raise

  pub occurs-raise : (d c k : ℕ) (t : Term) → k < c → occurs k (raise d c t) ≡ occurs k t
  occurs-raise d c k (lam a b) q = occurs-raise d (suc c) (suc k) b (omega arith)
  occurs-raise d c k (Spine h ts) q = λ i. is_bound-raise d c k h q i || occurs_in-raise d c k ts q i

  pub occurs_in-raise : (d c k : ℕ) (ts : Terms) → k < c → occurs_in k (raise_all d c ts) ≡ occurs_in k ts
  occurs_in-raise d c k Nil q = refl
  occurs_in-raise d c k (tm_cons t ts) q = λ i. occurs-raise d c k t q i || occurs_in-raise d c k ts q i

index_0-raise : (d c : ℕ) (t : Term) → is_index_0 (raise d (suc c) t) ≡ is_index_0 t
unfolding raise
index_0-raise d c (lam a b) = refl
index_0-raise d c (Spine h ts) = λ i. is_bound-raise d (suc c) 0 h (omega arith) i && is_nil-raise d (suc c) ts i

ends-raise : (d c : ℕ) (ts : Terms) → ends_in_0 (raise_all d (suc c) ts) ≡ ends_in_0 ts
unfolding raise_all ends_in_0
ends-raise d c Nil = refl
ends-raise d c (tm_cons t Nil) = index_0-raise d c t
ends-raise d c (tm_cons t (tm_cons u us)) = ends-raise d c (tm_cons u us)

pub contracts-raise : (d c : ℕ) (b : Term) → contracts (raise d (suc c) b) ≡ contracts b
unfolding raise contracts
contracts-raise d c (lam a b) = refl
contracts-raise d c (Spine h ts) =
    let e = ap (occurs_in 0) (front-raise d (suc c) ts) ∙ occurs_in-raise d (suc c) 0 (front ts) (omega arith) in
    λ i. ends-raise d c ts i && not (is_bound-raise d (suc c) 0 h (omega arith) i || e i)

-- the type of a head, and of a term
pub head_type-raise : (es ms bs : Types) (h : Head) → head_type (join es (join ms bs)) (raise_head (types_len ms) (types_len es) h) ≡ head_type (join es bs) h
head_type-raise es ms bs (Bound n) = go (lt_cases n (types_len es))
  where
    go : ((n < types_len es) × (nat_lt n (types_len es) ≡ true)) ⊎ ((types_len es ≤ n) × (nat_lt n (types_len es) ≡ false))
        → head_type (join es (join ms bs)) (raise_head (types_len ms) (types_len es) (Bound n)) ≡ type_at (join es bs) n
    go (inl p) = ap (head_type (join es (join ms bs))) (raise-low (types_len ms) (types_len es) n p.0) ∙ type_at-low es ms bs n p.0
    go (inr p) = ap (head_type (join es (join ms bs))) (raise-high (types_len ms) (types_len es) n p.0) ∙ type_at-high es ms bs n p.0
head_type-raise es ms bs (Const x a) = refl
head_type-raise es ms bs (Free x a) = refl
head_type-raise es ms bs (Schematic x a) = refl

pub type_of-raise : (es ms bs : Types) (t : Term) → type_of (join es (join ms bs)) (raise (types_len ms) (types_len es) t) ≡ type_of (join es bs) t
unfolding raise type_of join types_len
type_of-raise es ms bs (lam a b) = ap (fun a) (type_of-raise (ty_cons a es) ms bs b)
type_of-raise es ms bs (Spine h ts) = result-raise (types_len ms) (types_len es) _ ts ∙ ap (λ c. result_type c ts) (head_type-raise es ms bs h)

pub IsHead-raise : (es ms bs : Types) (h : Head) → IsHead (join es bs) h → IsHead (join es (join ms bs)) (raise_head (types_len ms) (types_len es) h)
IsHead-raise es ms bs (Bound n) q = go (lt_cases n (types_len es))
  where
    go : ((n < types_len es) × (nat_lt n (types_len es) ≡ true)) ⊎ ((types_len es ≤ n) × (nat_lt n (types_len es) ≡ false))
        → IsHead (join es (join ms bs)) (raise_head (types_len ms) (types_len es) (Bound n))
    go (inl p) = subst (IsHead (join es (join ms bs))) (sym (raise-low (types_len ms) (types_len es) n p.0)) (omega (arith, p.0, types_len-join es (join ms bs)))
    go (inr p) = subst (IsHead (join es (join ms bs))) (sym (raise-high (types_len ms) (types_len es) n p.0)) (omega (arith, q, types_len-join es (join ms bs), types_len-join ms bs, types_len-join es bs))
IsHead-raise es ms bs (Const x a) q = tt
IsHead-raise es ms bs (Free x a) q = tt
IsHead-raise es ms bs (Schematic x a) q = tt

IsHead-raised : (es ms bs : Types) (h : Head) → IsHead (join es (join ms bs)) (raise_head (types_len ms) (types_len es) h) → IsHead (join es bs) h
IsHead-raised es ms bs (Bound n) q = go (lt_cases n (types_len es))
  where
    go : ((n < types_len es) × (nat_lt n (types_len es) ≡ true)) ⊎ ((types_len es ≤ n) × (nat_lt n (types_len es) ≡ false)) → IsHead (join es bs) (Bound n)
    go (inl p) = omega (arith, p.0, types_len-join es bs)
    go (inr p) =
        let r = subst (IsHead (join es (join ms bs))) (raise-high (types_len ms) (types_len es) n p.0) q in
        omega (arith, r, types_len-join es (join ms bs), types_len-join ms bs, types_len-join es bs)
IsHead-raised es ms bs (Const x a) q = tt
IsHead-raised es ms bs (Free x a) q = tt
IsHead-raised es ms bs (Schematic x a) q = tt

mutual
  unfolding raise type_of join types_len

  pub IsTerm-raise : (es ms bs : Types) (t : Term) → IsTerm (join es bs) t → IsTerm (join es (join ms bs)) (raise (types_len ms) (types_len es) t)
  IsTerm-raise es ms bs (lam a b) p = (IsTerm-raise (ty_cons a es) ms bs b p.0, contracts-raise (types_len ms) (types_len es) b ∙ p.1)
  IsTerm-raise es ms bs (Spine h ts) p =
      (IsHead-raise es ms bs h p.0, subst (λ c. AreArgs (join es (join ms bs)) c (raise_all (types_len ms) (types_len es) ts)) (sym (head_type-raise es ms bs h)) (AreArgs-raise es ms bs (head_type (join es bs) h) ts p.1))

  pub AreArgs-raise : (es ms bs : Types) (a : Typ) (ts : Terms) → AreArgs (join es bs) a ts → AreArgs (join es (join ms bs)) a (raise_all (types_len ms) (types_len es) ts)
  AreArgs-raise es ms bs a Nil p = tt
  AreArgs-raise es ms bs a (tm_cons t ts) p =
      (p.0 ∙ ap (λ c. fun c (cod a)) (sym (type_of-raise es ms bs t)), (IsTerm-raise es ms bs t p.1.0, AreArgs-raise es ms bs (cod a) ts p.1.1))

mutual
  unfolding raise type_of join types_len

  pub IsTerm-raised : (es ms bs : Types) (t : Term) → IsTerm (join es (join ms bs)) (raise (types_len ms) (types_len es) t) → IsTerm (join es bs) t
  IsTerm-raised es ms bs (lam a b) p = (IsTerm-raised (ty_cons a es) ms bs b p.0, sym (contracts-raise (types_len ms) (types_len es) b) ∙ p.1)
  IsTerm-raised es ms bs (Spine h ts) p =
      (IsHead-raised es ms bs h p.0, AreArgs-raised es ms bs (head_type (join es bs) h) ts (subst (λ c. AreArgs (join es (join ms bs)) c (raise_all (types_len ms) (types_len es) ts)) (head_type-raise es ms bs h) p.1))

  pub AreArgs-raised : (es ms bs : Types) (a : Typ) (ts : Terms) → AreArgs (join es (join ms bs)) a (raise_all (types_len ms) (types_len es) ts) → AreArgs (join es bs) a ts
  AreArgs-raised es ms bs a Nil p = tt
  AreArgs-raised es ms bs a (tm_cons t ts) p =
      (p.0 ∙ ap (λ c. fun c (cod a)) (type_of-raise es ms bs t), (IsTerm-raised es ms bs t p.1.0, AreArgs-raised es ms bs (cod a) ts p.1.1))
