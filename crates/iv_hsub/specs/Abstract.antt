-- Abstraction over a free variable (Reference Manual, Pure): variables are told apart by name and type.
use Rattle.std.specs.Prelude.{ℕ, suc, if◌then◌else◌}
use Rattle.iv_text.specs.declared.name.Name.{Name}
use Rattle.iv_term.specs.declared.typ.Typ.{Typ}
use Rattle.iv_term.specs.declared.term.Head.{Head}
use Rattle.iv_term.specs.declared.term.Head.TheVariants.{Free, Bound}
use Rattle.iv_term.specs.declared.term.Term.{Term}
use Rattle.iv_term.specs.declared.term.Terms.{Terms}
use Rattle.iv_term.specs.declared.term.Term.TheBlock.{Spine, Nil}
use Rattle.iv_term.specs.Term.{lam, tm_cons, is_free}
use Rattle.iv_hsub.specs.Index.{raise_head, eta}

-- a free variable as a term
abbrev pub free : Name → Typ → Term
free x a = Spine (Free x a) Nil

-- a head with the index k in the place of the free variable x of type a, where k is a new binder
abbrev pub bind_head : Name → Typ → ℕ → Head → Head
bind_head x a k (Free y b) = if is_free x a (Free y b) then Bound k else Free y b
bind_head x a k h = raise_head 1 k h

unfoldable mutual
  -- a term with the index k in the place of the free variable x of type a, where k is a new binder
  pub bind : Name → Typ → ℕ → Term → Term
  bind x a k (lam b t) = lam b (bind x a (suc k) t)
  bind x a k (Spine h ts) = Spine (bind_head x a k h) (bind_all x a k ts)

  pub bind_all : Name → Typ → ℕ → Terms → Terms
  bind_all x a k Nil = Nil
  bind_all x a k (tm_cons t ts) = tm_cons (bind x a k t) (bind_all x a k ts)

-- %x. t, contracted where it can be
unfoldable pub abstract_over : Name → Typ → Term → Term
abstract_over x a t = eta a (bind x a 0 t)
