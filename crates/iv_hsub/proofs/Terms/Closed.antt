-- A term without an index that is great enough is raised to itself, and needs no bounds beyond.
use Rattle.std.proofs.Common.{◌≡◌, ℕ, zero, suc, pred, ◌<◌, ◌≤◌, max, refl, sym, ◌∙◌, ap, subst, arith}
use Rattle.iv_term.specs.declared.typ.Typ.{Typ}
use Rattle.iv_term.specs.declared.term.Head.{Head}
use Rattle.iv_term.specs.declared.term.Head.TheVariants.{Const, Free, Schematic, Bound}
use Rattle.iv_term.specs.declared.term.Term.{Term}
use Rattle.iv_term.specs.declared.term.Terms.{Terms}
use Rattle.iv_term.specs.declared.term.Term.TheBlock.{Spine, Nil}
use Rattle.iv_term.specs.Term.{lam, tm_cons}
use Rattle.iv_term.specs.declared.typ.Types.{Types}
use Rattle.iv_term.specs.declared.typ.Typ.TheBlock.{Nil as no_types}
use Rattle.iv_term.specs.Typ.{fun, ty_cons}
use Rattle.iv_hsub.specs.Typing.{cod, types_len, type_at, join, head_type, result_type, type_of, IsHead, IsTerm, AreArgs}
use Rattle.iv_hsub.proofs.Terms.Base.{types_len-join}
use Rattle.iv_hsub.specs.Index.{loose_head, loose, loose_all, raise_head, raise, raise_all}
use Rattle.iv_hsub.proofs.Terms.Raise.{raise-low}

raise_head-closed : (d c : ℕ) (h : Head) → loose_head h ≤ c → raise_head d c h ≡ h
raise_head-closed d c (Bound n) q = raise-low d c n q
raise_head-closed d c (Const x a) q = refl
raise_head-closed d c (Free x a) q = refl
raise_head-closed d c (Schematic x a) q = refl

pred-le : (n c : ℕ) → pred n ≤ c → n ≤ suc c
pred-le n c q = omega (arith, q)

max-left : (a b c : ℕ) → max a b ≤ c → a ≤ c
max-left a b c q = omega (arith, q)

max-right : (a b c : ℕ) → max a b ≤ c → b ≤ c
max-right a b c q = omega (arith, q)

mutual
  unfolding raise loose

  pub raise-closed : (d c : ℕ) (t : Term) → loose t ≤ c → raise d c t ≡ t
  raise-closed d c (lam a b) q = ap (λ w. lam a w) (raise-closed d (suc c) b (pred-le (loose b) c q))
  raise-closed d c (Spine h ts) q =
      let e = raise_head-closed d c h (max-left (loose_head h) (loose_all ts) c q) in
      let f = raise_all-closed d c ts (max-right (loose_head h) (loose_all ts) c q) in
      λ i. Spine (e i) (f i)

  pub raise_all-closed : (d c : ℕ) (ts : Terms) → loose_all ts ≤ c → raise_all d c ts ≡ ts
  raise_all-closed d c Nil q = refl
  raise_all-closed d c (tm_cons t ts) q =
      let e = raise-closed d c t (max-left (loose t) (loose_all ts) c q) in
      let f = raise_all-closed d c ts (max-right (loose t) (loose_all ts) c q) in
      λ i. tm_cons (e i) (f i)

-- a term has no loose index beyond its bounds
loose-head_term : (bs : Types) (h : Head) → IsHead bs h → loose_head h ≤ types_len bs
loose-head_term bs (Bound n) p = p
loose-head_term bs (Const x a) p = omega arith
loose-head_term bs (Free x a) p = omega arith
loose-head_term bs (Schematic x a) p = omega arith

le-pred : (n c : ℕ) → n ≤ suc c → pred n ≤ c
le-pred n c q = omega (arith, q)

le-max : (a b c : ℕ) → a ≤ c → b ≤ c → max a b ≤ c
le-max a b c p q = omega (arith, p, q)

mutual
  unfolding loose types_len

  pub loose-term : (bs : Types) (t : Term) → IsTerm bs t → loose t ≤ types_len bs
  loose-term bs (lam a b) p = le-pred (loose b) (types_len bs) (loose-term (ty_cons a bs) b p.0)
  loose-term bs (Spine h ts) p = le-max (loose_head h) (loose_all ts) (types_len bs) (loose-head_term bs h p.0) (loose-args bs (head_type bs h) ts p.1)

  loose-args : (bs : Types) (a : Typ) (ts : Terms) → AreArgs bs a ts → loose_all ts ≤ types_len bs
  loose-args bs a Nil p = omega arith
  loose-args bs a (tm_cons t ts) p = le-max (loose t) (loose_all ts) (types_len bs) (loose-term bs t p.1.0) (loose-args bs (cod a) ts p.1.1)

-- bounds that no index reaches count for nothing
type_at-front : (es bs : Types) (n : ℕ) → n < types_len es → type_at (join es bs) n ≡ type_at es n
unfolding join types_len type_at
type_at-front no_types bs n h = absurd (omega (arith, h))
type_at-front (ty_cons a es) bs zero h = refl
type_at-front (ty_cons a es) bs (suc n) h = type_at-front es bs n (omega (arith, h))

head_type-front : (es bs : Types) (h : Head) → loose_head h ≤ types_len es → head_type (join es bs) h ≡ head_type es h
head_type-front es bs (Bound n) q = type_at-front es bs n q
head_type-front es bs (Const x a) q = refl
head_type-front es bs (Free x a) q = refl
head_type-front es bs (Schematic x a) q = refl

IsHead-front : (es : Types) (h : Head) → loose_head h ≤ types_len es → IsHead es h
IsHead-front es (Bound n) q = q
IsHead-front es (Const x a) q = tt
IsHead-front es (Free x a) q = tt
IsHead-front es (Schematic x a) q = tt

IsHead-wider : (es bs : Types) (h : Head) → IsHead es h → IsHead (join es bs) h
IsHead-wider es bs (Bound n) q = let e = types_len-join es bs in omega (arith, q, e)
IsHead-wider es bs (Const x a) q = tt
IsHead-wider es bs (Free x a) q = tt
IsHead-wider es bs (Schematic x a) q = tt

pub type_of-front : (es bs : Types) (t : Term) → loose t ≤ types_len es → type_of (join es bs) t ≡ type_of es t
unfolding loose type_of join types_len
type_of-front es bs (lam a b) q = ap (fun a) (type_of-front (ty_cons a es) bs b (pred-le (loose b) (types_len es) q))
type_of-front es bs (Spine h ts) q = ap (λ c. result_type c ts) (head_type-front es bs h (max-left (loose_head h) (loose_all ts) (types_len es) q))

mutual
  unfolding loose join types_len

  pub IsTerm-front : (es bs : Types) (t : Term) → loose t ≤ types_len es → IsTerm (join es bs) t → IsTerm es t
  IsTerm-front es bs (lam a b) q p = (IsTerm-front (ty_cons a es) bs b (pred-le (loose b) (types_len es) q) p.0, p.1)
  IsTerm-front es bs (Spine h ts) q p =
      let k = max-left (loose_head h) (loose_all ts) (types_len es) q in (
        IsHead-front es h k,
        subst (λ c. AreArgs es c ts) (head_type-front es bs h k)
            (AreArgs-front es bs (head_type (join es bs) h) ts (max-right (loose_head h) (loose_all ts) (types_len es) q) p.1),
      )

  AreArgs-front : (es bs : Types) (a : Typ) (ts : Terms) → loose_all ts ≤ types_len es → AreArgs (join es bs) a ts → AreArgs es a ts
  AreArgs-front es bs a Nil q p = tt
  AreArgs-front es bs a (tm_cons t ts) q p =
      let k = max-left (loose t) (loose_all ts) (types_len es) q in (
        p.0 ∙ ap (λ z. fun z (cod a)) (type_of-front es bs t k),
        (IsTerm-front es bs t k p.1.0, AreArgs-front es bs (cod a) ts (max-right (loose t) (loose_all ts) (types_len es) q) p.1.1),
      )

mutual
  unfolding join

  pub IsTerm-wider : (es bs : Types) (t : Term) → IsTerm es t → IsTerm (join es bs) t
  IsTerm-wider es bs (lam a b) p = (IsTerm-wider (ty_cons a es) bs b p.0, p.1)
  IsTerm-wider es bs (Spine h ts) p =
      let k = loose-head_term es h p.0 in
      (IsHead-wider es bs h p.0, subst (λ c. AreArgs (join es bs) c ts) (sym (head_type-front es bs h k)) (AreArgs-wider es bs (head_type es h) ts p.1))

  AreArgs-wider : (es bs : Types) (a : Typ) (ts : Terms) → AreArgs es a ts → AreArgs (join es bs) a ts
  AreArgs-wider es bs a Nil p = tt
  AreArgs-wider es bs a (tm_cons t ts) p =
      (p.0 ∙ ap (λ z. fun z (cod a)) (sym (type_of-front es bs t (loose-term es t p.1.0))), (IsTerm-wider es bs t p.1.0, AreArgs-wider es bs (cod a) ts p.1.1))
