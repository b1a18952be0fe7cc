-- Hereditary substitution (of this project, after Watkins, Cervesato, Pfenning and Walker 2002): by recursion on the type
-- of what is put, then on the term.
use Rattle.std.specs.Prelude.{ℕ, suc, pred, nat_eq, nat_lt, if◌then◌else◌}
use Rattle.iv_term.specs.declared.typ.Typ.{Typ}
use Rattle.iv_term.specs.declared.typ.Typ.TheBlock.{Con, Nil as no_types}
use Rattle.iv_term.specs.declared.term.Head.{Head}
use Rattle.iv_term.specs.declared.term.Head.TheVariants.{Bound}
use Rattle.iv_term.specs.declared.term.Term.{Term}
use Rattle.iv_term.specs.declared.term.Terms.{Terms}
use Rattle.iv_term.specs.declared.term.Term.TheBlock.{Spine, Nil}
use Rattle.iv_term.specs.Typ.{fun, ty_cons, same_typ}
use Rattle.iv_term.specs.Term.{lam, tm_cons}
use Rattle.iv_hsub.specs.Index.{raise, eta}

-- some terms, and others behind them
unfoldable pub append : Terms → Terms → Terms
append Nil us = us
append (tm_cons t ts) us = tm_cons t (append ts us)

-- a head with arguments under k binders, where v is put for the index k; `ap` says what v is at arguments
abbrev pub put_head : (Term → Terms → Term) → Term → ℕ → Head → Terms → Term
put_head ap v k (Bound n) ts = if nat_lt n k then Spine (Bound n) ts else if nat_eq n k then ap (raise k 0 v) ts else Spine (Bound (pred n)) ts
put_head ap v k h ts = Spine h ts

unfoldable mutual
  -- a term with v put for the index k
  pub put : (Term → Terms → Term) → Term → ℕ → Term → Term
  put ap v k (lam a b) = eta a (put ap v (suc k) b)
  put ap v k (Spine h ts) = put_head ap v k h (put_all ap v k ts)

  pub put_all : (Term → Terms → Term) → Term → ℕ → Terms → Terms
  put_all ap v k Nil = Nil
  put_all ap v k (tm_cons t ts) = tm_cons (put ap v k t) (put_all ap v k ts)

-- a value at arguments that none of them is put into
abbrev pub happ_other : Term → Terms → Term
happ_other v Nil = v
happ_other (lam d b) (tm_cons u us) = lam d b
happ_other (Spine h ts) (tm_cons u us) = Spine h (append ts (tm_cons u us))

-- a value of type c at arguments, where c is to be the functions from a to b: an abstraction over a takes the first
abbrev pub happ_fun : Typ → Typ → Typ → (Term → Terms → Term) → (Term → Terms → Term) → Term → Terms → Term
happ_fun c a b at_a at_b v Nil = v
happ_fun c a b at_a at_b (lam d t) (tm_cons u us) = if same_typ c (fun d b) then at_b (put at_a u 0 t) us else lam d t
happ_fun c a b at_a at_b (Spine h ts) (tm_cons u us) = Spine h (append ts (tm_cons u us))

-- what a value of a type is at some arguments
unfoldable pub happ : Typ → Term → Terms → Term
happ (Con c (ty_cons a (ty_cons b no_types))) v ts = happ_fun (Con c (ty_cons a (ty_cons b no_types))) a b (λ w us. happ a w us) (λ w us. happ b w us) v ts
happ a v ts = happ_other v ts

-- a body with a value of type a put for its outermost bound variable
unfoldable pub hsub : Typ → Term → Term → Term
hsub a v b = put (happ a) v 0 b
