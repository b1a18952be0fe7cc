-- What the tests of terms say, for the code's answers.
use Rattle.std.proofs.Common.{◌≡◌, Bool, true, false, IsTrue, ◌↔◌, refl, sym, ◌∙◌, ap, subst}
use Rattle.iv_term.specs.declared.typ.Typ.{Typ}
use Rattle.iv_term.specs.declared.typ.Types.{Types}
use Rattle.iv_term.specs.declared.term.Head.{Head}
use Rattle.iv_term.specs.declared.term.Term.{Term}
use Rattle.iv_term.specs.declared.term.Terms.{Terms}
use Rattle.iv_term.specs.declared.term.Term.TheBlock.{Spine}
use Rattle.iv_term.specs.Typ.{prop, fun, ty_cons}
use Rattle.iv_term.specs.Term.{lam, tm_cons}
use Rattle.iv_hsub.specs.Typing.{dom, cod, head_type, result_type, type_of, IsHead, IsTerm, AreArgs}
use Rattle.iv_hsub.specs.Index.{contracts}

pub never : (P : Type 0) → (P → ⊥) → (IsTrue false ↔ P)
never P n = (λ h. absurd (let bad : false ≡ true = h in cc), λ p. absurd (n p))

pub is_not : (P : Type 0) (b : Bool) → (IsTrue b ↔ P) → b ≡ false → P → ⊥
is_not P b d e p = let bad : false ≡ true = sym e ∙ d.1 p in cc

lam-fun : (bs : Types) (a c : Typ) (b : Term) → type_of bs (lam c b) ≡ a → (a ≡ fun (dom a) (cod a)) × ((dom a ≡ c) × (type_of (ty_cons c bs) b ≡ cod a))
unfolding type_of dom cod
lam-fun bs a c b e = (subst (λ z. z ≡ fun (dom z) (cod z)) e refl, (sym (ap dom e), ap cod e))

arg-fun : (c x : Typ) → c ≡ fun x (cod c) → (c ≡ fun (dom c) (cod c)) × (x ≡ dom c)
unfolding dom cod
arg-fun c x e = let f : dom c ≡ x = ap dom e in (e ∙ ap (λ z. fun z (cod c)) (sym f), sym f)

-- an abstraction is a term of a type
module _ (bs : Types) (a c : Typ) (b : Term) where
  pub lam-not_fun : (r : Bool) → (IsTrue r ↔ (a ≡ fun (dom a) (cod a))) → r ≡ false → (IsTrue false ↔ (IsTerm bs (lam c b) × (type_of bs (lam c b) ≡ a)))
  lam-not_fun r d e = never _ (λ p. is_not _ r d e (lam-fun bs a c b p.1).0)

  pub lam-other : (r : Bool) → (IsTrue r ↔ (dom a ≡ c)) → r ≡ false → (IsTrue false ↔ (IsTerm bs (lam c b) × (type_of bs (lam c b) ≡ a)))
  lam-other r d e = never _ (λ p. is_not _ r d e (lam-fun bs a c b p.1).1.0)

  pub lam-contracts : contracts b ≡ true → (IsTrue false ↔ (IsTerm bs (lam c b) × (type_of bs (lam c b) ≡ a)))
  lam-contracts e = never _ (λ p. let bad : false ≡ true = sym p.0.1 ∙ e in cc)

  pub lam-fits : (r : Bool) → a ≡ fun (dom a) (cod a) → dom a ≡ c → contracts b ≡ false
      → (IsTrue r ↔ (IsTerm (ty_cons c bs) b × (type_of (ty_cons c bs) b ≡ cod a))) → (IsTrue r ↔ (IsTerm bs (lam c b) × (type_of bs (lam c b) ≡ a)))
  unfolding type_of
  lam-fits r e f g d = (
    λ h. let p = d.0 h in ((p.0, g), (λ i. fun (sym f i) (p.1 i)) ∙ sym e),
    λ p. d.1 (p.0.0, (lam-fun bs a c b p.1).1.1),
  )

-- and no proposition
pub lam-no_prop : (bs : Types) (a : Typ) (b : Term) → (IsTrue false ↔ (IsTerm bs (lam a b) × (type_of bs (lam a b) ≡ prop)))
unfolding type_of
lam-no_prop bs a b = never _ (λ p. let bad : fun a (type_of (ty_cons a bs) b) ≡ prop = p.1 in cc)

-- so is a head with arguments
pub spine-fits : (bs : Types) (a c : Typ) (h : Head) (ts : Terms) (r : Bool) → IsHead bs h × (c ≡ head_type bs h)
    → (IsTrue r ↔ (AreArgs bs c ts × (result_type c ts ≡ a))) → (IsTrue r ↔ (IsTerm bs (Spine h ts) × (type_of bs (Spine h ts) ≡ a)))
unfolding type_of
spine-fits bs a c h ts r q d =
    let e = subst (λ z. IsTrue r ↔ (AreArgs bs z ts × (result_type z ts ≡ a))) q.1 d in
    (λ k. let p = e.0 k in ((q.0, p.0), p.1), λ p. e.1 (p.0.1, p.1))

-- arguments for what has type c
module _ (bs : Types) (c : Typ) (t : Term) (ts : Terms) where
  pub arg-not_fun : (Q : Type 0) (r : Bool) → (IsTrue r ↔ (c ≡ fun (dom c) (cod c))) → r ≡ false → (IsTrue false ↔ (AreArgs bs c (tm_cons t ts) × Q))
  arg-not_fun Q r d e = never _ (λ p. is_not _ r d e (arg-fun c (type_of bs t) p.0.0).0)

  pub arg-other : (Q : Type 0) (r : Bool) → (IsTrue r ↔ (IsTerm bs t × (type_of bs t ≡ dom c))) → r ≡ false → (IsTrue false ↔ (AreArgs bs c (tm_cons t ts) × Q))
  arg-other Q r d e = never _ (λ p. is_not _ r d e (p.0.1.0, (arg-fun c (type_of bs t) p.0.0).1))

  pub arg-fits : (Q : Type 0) (r : Bool) → c ≡ fun (dom c) (cod c) → IsTerm bs t × (type_of bs t ≡ dom c)
      → (IsTrue r ↔ (AreArgs bs (cod c) ts × Q)) → (IsTrue r ↔ (AreArgs bs c (tm_cons t ts) × Q))
  arg-fits Q r e f d = (
    λ h. let p = d.0 h in ((e ∙ ap (λ z. fun z (cod c)) (sym f.1), (f.0, p.0)), p.1),
    λ p. d.1 (p.0.1.1, p.1),
  )

-- the same without a type
pub drop_unit : (P : Type 0) (r : Bool) → (IsTrue r ↔ (P × Unit {0})) → (IsTrue r ↔ P)
drop_unit P r d = (λ h. (d.0 h).0, λ p. d.1 (p, tt))

pub add_unit : (P : Type 0) (r : Bool) → (IsTrue r ↔ P) → (IsTrue r ↔ (P × Unit {0}))
add_unit P r d = (λ h. (d.0 h, tt), λ p. d.1 p.0)

pub lam-term : (bs : Types) (c : Typ) (b : Term) (r : Bool) → contracts b ≡ false → (IsTrue r ↔ IsTerm (ty_cons c bs) b) → (IsTrue r ↔ IsTerm bs (lam c b))
lam-term bs c b r e d = (λ h. (d.0 h, e), λ p. d.1 p.0)

pub lam-no_term : (bs : Types) (c : Typ) (b : Term) → contracts b ≡ true → (IsTrue false ↔ IsTerm bs (lam c b))
lam-no_term bs c b e = never _ (λ p. let bad : false ≡ true = sym p.1 ∙ e in cc)

pub spine-term : (bs : Types) (c : Typ) (h : Head) (ts : Terms) (r : Bool) → IsHead bs h × (c ≡ head_type bs h)
    → (IsTrue r ↔ AreArgs bs c ts) → (IsTrue r ↔ IsTerm bs (Spine h ts))
spine-term bs c h ts r q d = let e = subst (λ z. IsTrue r ↔ AreArgs bs z ts) q.1 d in (λ k. (q.0, e.0 k), λ p. e.1 p.1)
