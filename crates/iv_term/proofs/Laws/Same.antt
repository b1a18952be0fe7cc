-- The tests of sameness of types and terms decide equality.
use Rattle.std.proofs.Common.{◌≡◌, true, refl, sym, ◌∙◌, ap}
use Rattle.std.specs.Bool.{Decides}
use Rattle.std.proofs.lemmas.Bool.{and_parts, and_from}
use Rattle.std.proofs.lemmas.Bool.Decides.{Decides-eqb}
use Rattle.std.specs.Str.{bytes_eq}
use Rattle.iv_text.proofs.Same.{same_text-true, same_text-same, same_name-true, same_name-same}
use Rattle.iv_text.specs.Name.{same_name}
use Rattle.iv_term.specs.declared.typ.Typ.{Typ}
use Rattle.iv_term.specs.declared.typ.Types.{Types}
use Rattle.iv_term.specs.declared.typ.Typ.TheBlock.{Con, Fixed, Schematic, Nil}
use Rattle.iv_term.specs.declared.term.Head.{Head}
use Rattle.iv_term.specs.declared.term.Head.TheVariants.{Const, Free, Schematic as Schem, Bound}
use Rattle.iv_term.specs.declared.term.Term.{Term}
use Rattle.iv_term.specs.declared.term.Terms.{Terms}
use Rattle.iv_term.specs.declared.term.Term.TheBlock.{Spine, Nil as none}
use Rattle.iv_term.specs.Typ.{ty_cons, same_typ, same_typs}
use Rattle.iv_term.specs.Term.{lam, tm_cons, same_head, same_term, same_terms}

mutual
  unfolding same_typ same_typs

  pub same_typ-true : (a b : Typ) → same_typ a b ≡ true → a ≡ b
  same_typ-true (Con c ts) (Con d us) h =
      let p = and_parts (bytes_eq c d) (same_typs ts us) h in
      let e = same_text-true c d p.0 in
      let f = same_typs-true ts us p.1 in
      λ i. Con (e i) (f i)
  same_typ-true (Fixed a) (Fixed b) h = ap Fixed (same_text-true a b h)
  same_typ-true (Schematic x) (Schematic y) h = ap Schematic (same_name-true x y h)
  same_typ-true (Con c ts) (Fixed b) h = cc
  same_typ-true (Con c ts) (Schematic y) h = cc
  same_typ-true (Fixed a) (Con d us) h = cc
  same_typ-true (Fixed a) (Schematic y) h = cc
  same_typ-true (Schematic x) (Con d us) h = cc
  same_typ-true (Schematic x) (Fixed b) h = cc

  pub same_typs-true : (ts us : Types) → same_typs ts us ≡ true → ts ≡ us
  same_typs-true Nil Nil h = refl
  same_typs-true Nil (ty_cons u us) h = cc
  same_typs-true (ty_cons t ts) Nil h = cc
  same_typs-true (ty_cons t ts) (ty_cons u us) h =
      let p = and_parts (same_typ t u) (same_typs ts us) h in
      let e = same_typ-true t u p.0 in
      let f = same_typs-true ts us p.1 in
      λ i. ty_cons (e i) (f i)

mutual
  unfolding same_typ same_typs

  pub same_typ-same : (a : Typ) → same_typ a a ≡ true
  same_typ-same (Con c ts) = and_from _ _ (same_text-same c) (same_typs-same ts)
  same_typ-same (Fixed a) = same_text-same a
  same_typ-same (Schematic x) = same_name-same x

  pub same_typs-same : (ts : Types) → same_typs ts ts ≡ true
  same_typs-same Nil = refl
  same_typs-same (ty_cons t ts) = and_from _ _ (same_typ-same t) (same_typs-same ts)

-- what decides equality of types is the test
pub same_typ-Decides : (a b : Typ) → Decides (same_typ a b) (a ≡ b)
same_typ-Decides a b = (same_typ-true a b, λ e. ap (same_typ a) (sym e) ∙ same_typ-same a)

same_head-true : (h k : Head) → same_head h k ≡ true → h ≡ k
same_head-true (Const c a) (Const d b) h =
    let p = and_parts (bytes_eq c d) (same_typ a b) h in
    let e = same_text-true c d p.0 in let f = same_typ-true a b p.1 in λ i. Const (e i) (f i)
same_head-true (Free x a) (Free y b) h =
    let p = and_parts (same_name x y) (same_typ a b) h in
    let e = same_name-true x y p.0 in let f = same_typ-true a b p.1 in λ i. Free (e i) (f i)
same_head-true (Schem x a) (Schem y b) h =
    let p = and_parts (same_name x y) (same_typ a b) h in
    let e = same_name-true x y p.0 in let f = same_typ-true a b p.1 in λ i. Schem (e i) (f i)
same_head-true (Bound i) (Bound j) h = ap Bound ((Decides-eqb i j).0 h)
same_head-true (Const c a) (Free y b) h = cc
same_head-true (Const c a) (Schem y b) h = cc
same_head-true (Const c a) (Bound j) h = cc
same_head-true (Free x a) (Const d b) h = cc
same_head-true (Free x a) (Schem y b) h = cc
same_head-true (Free x a) (Bound j) h = cc
same_head-true (Schem x a) (Const d b) h = cc
same_head-true (Schem x a) (Free y b) h = cc
same_head-true (Schem x a) (Bound j) h = cc
same_head-true (Bound i) (Const d b) h = cc
same_head-true (Bound i) (Free y b) h = cc
same_head-true (Bound i) (Schem y b) h = cc

same_head-same : (h : Head) → same_head h h ≡ true
same_head-same (Const c a) = and_from _ _ (same_text-same c) (same_typ-same a)
same_head-same (Free x a) = and_from _ _ (same_name-same x) (same_typ-same a)
same_head-same (Schem x a) = and_from _ _ (same_name-same x) (same_typ-same a)
same_head-same (Bound i) = (Decides-eqb i i).1 refl

mutual
  unfolding same_term same_terms

  pub same_term-true : (t u : Term) → same_term t u ≡ true → t ≡ u
  same_term-true (lam a b) (lam c d) h =
      let p = and_parts (same_typ a c) (same_term b d) h in
      let e = same_typ-true a c p.0 in
      let f = same_term-true b d p.1 in
      λ i. lam (e i) (f i)
  same_term-true (Spine h ts) (Spine k us) q =
      let p = and_parts (same_head h k) (same_terms ts us) q in
      let e = same_head-true h k p.0 in
      let f = same_terms-true ts us p.1 in
      λ i. Spine (e i) (f i)
  same_term-true (lam a b) (Spine k us) h = cc
  same_term-true (Spine h ts) (lam c d) q = cc

  pub same_terms-true : (ts us : Terms) → same_terms ts us ≡ true → ts ≡ us
  same_terms-true none none h = refl
  same_terms-true none (tm_cons u us) h = cc
  same_terms-true (tm_cons t ts) none h = cc
  same_terms-true (tm_cons t ts) (tm_cons u us) h =
      let p = and_parts (same_term t u) (same_terms ts us) h in
      let e = same_term-true t u p.0 in
      let f = same_terms-true ts us p.1 in
      λ i. tm_cons (e i) (f i)

mutual
  unfolding same_term same_terms

  pub same_term-same : (t : Term) → same_term t t ≡ true
  same_term-same (lam a b) = and_from _ _ (same_typ-same a) (same_term-same b)
  same_term-same (Spine h ts) = and_from _ _ (same_head-same h) (same_terms-same ts)

  pub same_terms-same : (ts : Terms) → same_terms ts ts ≡ true
  same_terms-same none = refl
  same_terms-same (tm_cons t ts) = and_from _ _ (same_term-same t) (same_terms-same ts)

-- what decides equality of terms is the test
pub same_term-Decides : (t u : Term) → Decides (same_term t u) (t ≡ u)
same_term-Decides t u = (same_term-true t u, λ e. ap (same_term t) (sym e) ∙ same_term-same t)
