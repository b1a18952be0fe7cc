-- Indices of bound variables (de Bruijn 1972): loose ones, raising and lowering, and eta-contraction.
use Rattle.std.specs.Prelude.{ℕ, suc, pred, ◌+◌, max, Bool, false, not, ◌&&◌, ◌||◌, nat_eq, nat_lt, if◌then◌else◌}
use Rattle.iv_term.specs.declared.typ.Typ.{Typ}
use Rattle.iv_term.specs.declared.term.Head.{Head}
use Rattle.iv_term.specs.declared.term.Head.TheVariants.{Bound}
use Rattle.iv_term.specs.declared.term.Term.{Term}
use Rattle.iv_term.specs.declared.term.Terms.{Terms}
use Rattle.iv_term.specs.declared.term.Term.TheBlock.{Spine, Nil}
use Rattle.iv_term.specs.Term.{lam, tm_cons, is_nil}

-- a bound variable as a term
abbrev pub index : ℕ → Term
index n = Spine (Bound n) Nil

-- one more than the index of a head, 0 where it has none
abbrev pub loose_head : Head → ℕ
loose_head (Bound n) = suc n
loose_head h = 0

unfoldable mutual
  -- one more than the greatest index that is bound outside of the term, or 0
  pub loose : Term → ℕ
  loose (lam a b) = pred (loose b)
  loose (Spine h ts) = max (loose_head h) (loose_all ts)

  pub loose_all : Terms → ℕ
  loose_all Nil = 0
  loose_all (tm_cons t ts) = max (loose t) (loose_all ts)

-- a head under c binders, d more of which are put around it
abbrev pub raise_head : ℕ → ℕ → Head → Head
raise_head d c (Bound n) = Bound (if nat_lt n c then n else n + d)
raise_head d c h = h

unfoldable mutual
  -- a term with d more binders put around it, where the inner c binders are its own
  pub raise : ℕ → ℕ → Term → Term
  raise d c (lam a b) = lam a (raise d (suc c) b)
  raise d c (Spine h ts) = Spine (raise_head d c h) (raise_all d c ts)

  pub raise_all : ℕ → ℕ → Terms → Terms
  raise_all d c Nil = Nil
  raise_all d c (tm_cons t ts) = tm_cons (raise d c t) (raise_all d c ts)

-- whether a head is the index k
abbrev pub is_bound : ℕ → Head → Bool
is_bound k (Bound n) = nat_eq n k
is_bound k h = false

unfoldable mutual
  -- whether the index k stands in a term
  pub occurs : ℕ → Term → Bool
  occurs k (lam a b) = occurs (suc k) b
  occurs k (Spine h ts) = is_bound k h || occurs_in k ts

  pub occurs_in : ℕ → Terms → Bool
  occurs_in k Nil = false
  occurs_in k (tm_cons t ts) = occurs k t || occurs_in k ts

-- a head with the binder of index c taken away
abbrev pub lower_head : ℕ → Head → Head
lower_head c (Bound n) = Bound (if nat_lt n c then n else pred n)
lower_head c h = h

unfoldable mutual
  -- a term with the binder of index c taken away
  pub lower : ℕ → Term → Term
  lower c (lam a b) = lam a (lower (suc c) b)
  lower c (Spine h ts) = Spine (lower_head c h) (lower_all c ts)

  pub lower_all : ℕ → Terms → Terms
  lower_all c Nil = Nil
  lower_all c (tm_cons t ts) = tm_cons (lower c t) (lower_all c ts)

-- whether a term is the index 0, and whether it is the last of some terms
abbrev pub is_index_0 : Term → Bool
is_index_0 (lam a b) = false
is_index_0 (Spine h ts) = is_bound 0 h && is_nil ts

unfoldable pub ends_in_0 : Terms → Bool
ends_in_0 Nil = false
ends_in_0 (tm_cons t ts) = if is_nil ts then is_index_0 t else ends_in_0 ts

-- some terms without the last
unfoldable pub front : Terms → Terms
front Nil = Nil
front (tm_cons t ts) = if is_nil ts then Nil else tm_cons t (front ts)

-- whether the abstraction over a body can be contracted: %x. f x, where x is not in f
unfoldable pub contracts : Term → Bool
contracts (lam a b) = false
contracts (Spine h ts) = ends_in_0 ts && not (is_bound 0 h || occurs_in 0 (front ts))

-- what such an abstraction is contracted to
abbrev pub contracted : Term → Term
contracted (lam a b) = lam a b
contracted (Spine h ts) = Spine (lower_head 0 h) (lower_all 0 (front ts))

-- an abstraction, contracted where it can be
unfoldable pub eta : Typ → Term → Term
eta a b = if contracts b then contracted b else lam a b
