-- The laws on abstraction.
use Rattle.std.proofs.Common.{◌≡◌, ℕ, suc, Bool, true, false, ◌||◌, ◌⊎◌, inl, inr, if◌then◌else◌, refl, sym, ◌∙◌, ap, arith}
use Rattle.iv_text.specs.declared.name.Name.{Name}
use Rattle.iv_term.specs.declared.typ.Typ.{Typ}
use Rattle.iv_term.specs.declared.term.Head.{Head}
use Rattle.iv_term.specs.declared.term.Head.TheVariants.{Const, Free, Schematic, Bound}
use Rattle.iv_term.specs.declared.term.Term.{Term}
use Rattle.iv_term.specs.declared.term.Terms.{Terms}
use Rattle.iv_term.specs.declared.term.Term.TheBlock.{Spine, Nil}
use Rattle.iv_term.specs.Term.{lam, tm_cons, is_free, has_free, any_has_free}
use Rattle.iv_hsub.specs.Index.{index, raise_head, raise, raise_all, contracts, eta}
use Rattle.iv_hsub.specs.Hsub.{append}
use Rattle.iv_hsub.specs.Hhf.{expand, one}
use Rattle.iv_hsub.specs.Retype.{map_typ, retype_head, retype, retype_all}
use Rattle.iv_hsub.specs.Inst.{HeadVars, Vars, AllVars}
use Rattle.iv_hsub.specs.Abstract.{bind_head, bind, bind_all, abstract_over}
use Rattle.iv_hsub.proofs.Theory.{EtaCase, eta_cases}
use Rattle.iv_hsub.proofs.Theory.{raise-eta}
use Rattle.iv_hsub.proofs.Theory.{is_free-true}
use Rattle.iv_hsub.proofs.Theory.{retype-eta}
use Rattle.iv_laws.specs.Abstracting.{AbstractAt, AbstractIsWithout, AbstractIsConstant, RaisePassesAbstract, RetypePassesAbstract}
use Rattle.iv_laws.proofs.Binding.{bind-absent, bind-below, abstract-at, is_free-same}

pub abstract_at : AbstractAt
abstract_at bs x a c f p e = abstract-at x a bs c f p e

or-none : (a b : Bool) → a ≡ false → b ≡ false → (a || b) ≡ false
or-none a b e f = rw (e, f) refl

module _ (x : Name) (a : Typ) where
  free-raise : (d c : ℕ) (h : Head) → is_free x a (raise_head d c h) ≡ is_free x a h
  free-raise d c (Const y b) = refl
  free-raise d c (Free y b) = refl
  free-raise d c (Schematic y b) = refl
  free-raise d c (Bound n) = refl

  mutual
    unfolding has_free raise

    pub has_free-raise : (d c : ℕ) (t : Term) → has_free x a (raise d c t) ≡ has_free x a t
    has_free-raise d c (lam b t) = has_free-raise d (suc c) t
    has_free-raise d c (Spine h ts) = λ i. free-raise d c h i || any_has_free-raise d c ts i

    any_has_free-raise : (d c : ℕ) (ts : Terms) → any_has_free x a (raise_all d c ts) ≡ any_has_free x a ts
    any_has_free-raise d c Nil = refl
    any_has_free-raise d c (tm_cons t ts) = λ i. has_free-raise d c t i || any_has_free-raise d c ts i

  any-last : (k : ℕ) (ts : Terms) → any_has_free x a (append ts (one (index k))) ≡ any_has_free x a ts
  unfolding has_free append
  any-last k Nil = refl
  any-last k (tm_cons t ts) = ap (λ b. has_free x a t || b) (any-last k ts)

  has_free-expand : (h : Head) (ts : Terms) → has_free x a (expand h ts) ≡ has_free x a (Spine h ts)
  unfolding has_free expand
  has_free-expand h ts = let w = any-last 0 (raise_all 1 0 ts) ∙ any_has_free-raise 1 0 ts in λ i. free-raise 1 0 h i || w i

  pub has_free-eta : (c : Typ) (b : Term) → has_free x a (eta c b) ≡ has_free x a b
  unfolding has_free
  has_free-eta c b = go (eta_cases c b)
    where
      go : ((contracts b ≡ false) × (eta c b ≡ lam c b)) ⊎ EtaCase c b → has_free x a (eta c b) ≡ has_free x a b
      go (inl q) = ap (has_free x a) q.1
      go (inr q) = ap (has_free x a) q.eta_is ∙ sym (ap (has_free x a) q.body_is ∙ has_free-expand q.head q.args)

  bound-free : (k : ℕ) (y : Name) (b : Typ) (v : Bool) → is_free x a (Free y b) ≡ v → is_free x a (if v then Bound k else Free y b) ≡ false
  bound-free k y b true e = refl
  bound-free k y b false e = e

  head-gone : (k : ℕ) (h : Head) → is_free x a (bind_head x a k h) ≡ false
  head-gone k (Const y b) = refl
  head-gone k (Free y b) = bound-free k y b (is_free x a (Free y b)) refl
  head-gone k (Schematic y b) = refl
  head-gone k (Bound n) = refl

  mutual
    unfolding has_free bind

    pub bind-gone : (k : ℕ) (t : Term) → has_free x a (bind x a k t) ≡ false
    bind-gone k (lam b t) = bind-gone (suc k) t
    bind-gone k (Spine h ts) = or-none (is_free x a (bind_head x a k h)) (any_has_free x a (bind_all x a k ts)) (head-gone k h) (bind_all-gone k ts)

    bind_all-gone : (k : ℕ) (ts : Terms) → any_has_free x a (bind_all x a k ts) ≡ false
    bind_all-gone k Nil = refl
    bind_all-gone k (tm_cons t ts) = or-none (has_free x a (bind x a k t)) (any_has_free x a (bind_all x a k ts)) (bind-gone k t) (bind_all-gone k ts)

pub abstract_without : AbstractIsWithout
unfolding abstract_over
abstract_without x a t = has_free-eta x a a (bind x a 0 t) ∙ bind-gone x a 0 t

pub abstract_constant : AbstractIsConstant
unfolding abstract_over
abstract_constant x a t e = ap (eta a) (bind-absent x a 0 t e)

-- raising
pub raise_passes : RaisePassesAbstract
unfolding abstract_over
raise_passes x a d c t = ap (eta a) (bind-below x a d c 0 t (omega arith)) ∙ sym (raise-eta d c a (bind x a 0 t))

-- types put in
module _ (f : Typ → Typ) (x : Name) (a : Typ) where
  free-retyped : (y : Name) (b : Typ) → Free y b ≡ Free x a → is_free x (map_typ f a) (Free y (map_typ f b)) ≡ true
  free-retyped y b e = ap (λ h. is_free x (map_typ f a) (retype_head f h)) e ∙ is_free-same x (map_typ f a)

  other-retyped : (y : Name) (b : Typ) (v : Bool) → is_free x (map_typ f a) (Free y (map_typ f b)) ≡ v → is_free x a (Free y b) ≡ false
      → (Free y b ≡ Free x b → map_typ f b ≡ map_typ f a → b ≡ a) → v ≡ false
  other-retyped y b false e g only = refl
  other-retyped y b true e g only =
      let p = is_free-true x y (map_typ f a) (map_typ f b) e in
      let n : y ≡ x = sym (free-name x y (map_typ f a) (map_typ f b) p) in
      let t : map_typ f b ≡ map_typ f a = sym (free-type x y (map_typ f a) (map_typ f b) p) in
      let s : b ≡ a = only (ap (λ z. Free z b) n) t in
      let k : is_free x a (Free y b) ≡ true = (λ i. is_free x a (Free (n i) (s i))) ∙ is_free-same x a in
      let bad : true ≡ false = sym k ∙ g in cc
    where
      free-name : (y z : Name) (c d : Typ) → Free y c ≡ Free z d → y ≡ z
      free-name y z c d q = cc

      free-type : (y z : Name) (c d : Typ) → Free y c ≡ Free z d → c ≡ d
      free-type y z c d q = cc

  bind-retype_free : (k : ℕ) (y : Name) (b : Typ) (v : Bool) → is_free x a (Free y b) ≡ v → (Free y b ≡ Free x b → map_typ f b ≡ map_typ f a → b ≡ a)
      → retype_head f (if v then Bound k else Free y b) ≡ bind_head x (map_typ f a) k (Free y (map_typ f b))
  bind-retype_free k y b true e only = sym (ap (λ w. if w then Bound k else Free y (map_typ f b)) (free-retyped y b (sym (is_free-true x y a b e))))
  bind-retype_free k y b false e only =
      sym (ap (λ w. if w then Bound k else Free y (map_typ f b)) (other-retyped y b (is_free x (map_typ f a) (Free y (map_typ f b))) refl e only))

  bind-retype_head : (k : ℕ) (h : Head) → HeadVars (λ j b. j ≡ Free x b → map_typ f b ≡ map_typ f a → b ≡ a) h
      → retype_head f (bind_head x a k h) ≡ bind_head x (map_typ f a) k (retype_head f h)
  bind-retype_head k (Const y b) only = refl
  bind-retype_head k (Free y b) only = bind-retype_free k y b (is_free x a (Free y b)) refl only
  bind-retype_head k (Schematic y b) only = refl
  bind-retype_head k (Bound n) only = refl

  mutual
    unfolding bind retype

    pub bind-retype : (k : ℕ) (t : Term) → Vars (λ h b. h ≡ Free x b → map_typ f b ≡ map_typ f a → b ≡ a) t → retype f (bind x a k t) ≡ bind x (map_typ f a) k (retype f t)
    bind-retype k (lam b t) p = ap (lam (map_typ f b)) (bind-retype (suc k) t p)
    bind-retype k (Spine h ts) p = let u = bind-retype_head k h p.0 in let w = bind_all-retype k ts p.1 in λ i. Spine (u i) (w i)

    bind_all-retype : (k : ℕ) (ts : Terms) → AllVars (λ h b. h ≡ Free x b → map_typ f b ≡ map_typ f a → b ≡ a) ts
        → retype_all f (bind_all x a k ts) ≡ bind_all x (map_typ f a) k (retype_all f ts)
    bind_all-retype k Nil p = refl
    bind_all-retype k (tm_cons t ts) p = let u = bind-retype k t p.0 in let w = bind_all-retype k ts p.1 in λ i. tm_cons (u i) (w i)

pub retype_passes : RetypePassesAbstract
unfolding abstract_over
retype_passes f x a t p = retype-eta f a (bind x a 0 t) ∙ ap (eta (map_typ f a)) (bind-retype f x a 0 t p)
