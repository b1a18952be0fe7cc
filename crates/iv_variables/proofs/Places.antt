-- Raising, and the variables of what is raised.
use Rattle.std.proofs.Common.{◌≡◌, ℕ, suc, ◌<◌, ◌≤◌, ◌+◌, max, Bool, true, false, ◌&&◌, not, cond, List, [], ◌∷◌, ◌++◌, map, filter, eqb, refl, sym, ◌∙◌, ap, inl, inr, arith}
use Rattle.std.specs.List.{list_any}
use Rattle.std.specs.Str.{bytes_eq}
use Rattle.std.proofs.lemmas.List.{map-append}
use Rattle.std.proofs.Math.Nat.{le-max_left, le-max_right}
use Rattle.iv_text.specs.declared.name.Name.{Name}
use Rattle.iv_text.specs.Name.{same_name}
use Rattle.iv_term.specs.declared.typ.Typ.{Typ}
use Rattle.iv_term.specs.declared.typ.Types.{Types}
use Rattle.iv_term.specs.declared.typ.Typ.TheBlock.{Con, Fixed, Schematic as TypeVariable, Nil as no_types}
use Rattle.iv_term.specs.declared.term.Head.{Head}
use Rattle.iv_term.specs.declared.term.Head.TheVariants.{Const, Free as FreeHead, Schematic as SchematicHead, Bound}
use Rattle.iv_term.specs.declared.term.Term.{Term}
use Rattle.iv_term.specs.declared.term.Terms.{Terms}
use Rattle.iv_term.specs.declared.term.Term.TheBlock.{Spine, Nil}
use Rattle.iv_term.specs.Typ.{ty_cons, same_typ, same_typs}
use Rattle.iv_term.specs.Term.{lam, tm_cons}
use Rattle.iv_variables.specs.declared.variable.Variable.{Variable}
use Rattle.iv_variables.specs.declared.variable.Variable.TheVariants.{FixedType, SchematicType, Free, Schematic}
use Rattle.iv_variables.specs.Variables.{same_variable, typ_variables, types_variables, head_variables, variables, terms_variables}
use Rattle.iv_variables.specs.Firsts.{next_of, next_number}
use Rattle.iv_variables.specs.Raised.{raised_name, raised_typ, raised_typs, raised_head, raised, raised_all, raised_variable}
use Rattle.iv_variables.proofs.Most.{next-append}

mutual
  unfolding raised_typ raised_typs typ_variables types_variables

  pub typ-places : (r : ℕ) (a : Typ) → typ_variables (raised_typ r a) ≡ map (raised_variable r) (typ_variables a)
  typ-places r (Con c ts) = types-places r ts
  typ-places r (Fixed a) = refl
  typ-places r (TypeVariable x) = refl

  types-places : (r : ℕ) (ts : Types) → types_variables (raised_typs r ts) ≡ map (raised_variable r) (types_variables ts)
  types-places r no_types = refl
  types-places r (ty_cons t ts) =
      let e = typ-places r t in let f = types-places r ts in
      (λ i. e i ++ f i) ∙ sym (map-append (raised_variable r) (typ_variables t) (types_variables ts))

head-places : (r : ℕ) (h : Head) → head_variables (raised_head r h) ≡ map (raised_variable r) (head_variables h)
head-places r (Const c a) = typ-places r a
head-places r (FreeHead x a) = ap (λ z. Free x (raised_typ r a) ∷ z) (typ-places r a)
head-places r (SchematicHead x a) = ap (λ z. Schematic (raised_name r x) (raised_typ r a) ∷ z) (typ-places r a)
head-places r (Bound n) = refl

mutual
  unfolding raised raised_all variables terms_variables

  pub term-places : (r : ℕ) (t : Term) → variables (raised r t) ≡ map (raised_variable r) (variables t)
  term-places r (lam a b) =
      let e = typ-places r a in let f = term-places r b in
      (λ i. e i ++ f i) ∙ sym (map-append (raised_variable r) (typ_variables a) (variables b))
  term-places r (Spine h ts) =
      let e = head-places r h in let f = terms-places r ts in
      (λ i. e i ++ f i) ∙ sym (map-append (raised_variable r) (head_variables h) (terms_variables ts))

  pub terms-places : (r : ℕ) (ts : Terms) → terms_variables (raised_all r ts) ≡ map (raised_variable r) (terms_variables ts)
  terms-places r Nil = refl
  terms-places r (tm_cons t ts) =
      let e = term-places r t in let f = terms-places r ts in
      (λ i. e i ++ f i) ∙ sym (map-append (raised_variable r) (variables t) (terms_variables ts))

-- by nothing
name-zero : (x : Name) → raised_name 0 x ≡ x
name-zero x = let e : x.number + 0 ≡ x.number = omega arith in λ i. record { text = x.text; number = e i }

mutual
  unfolding raised_typ raised_typs

  typ-zero : (a : Typ) → raised_typ 0 a ≡ a
  typ-zero (Con c ts) = ap (Con c) (types-zero ts)
  typ-zero (Fixed a) = refl
  typ-zero (TypeVariable x) = ap TypeVariable (name-zero x)

  types-zero : (ts : Types) → raised_typs 0 ts ≡ ts
  types-zero no_types = refl
  types-zero (ty_cons t ts) = let e = typ-zero t in let f = types-zero ts in λ i. ty_cons (e i) (f i)

head-zero : (h : Head) → raised_head 0 h ≡ h
head-zero (Const c a) = ap (Const c) (typ-zero a)
head-zero (FreeHead x a) = ap (FreeHead x) (typ-zero a)
head-zero (SchematicHead x a) = let e = name-zero x in let f = typ-zero a in λ i. SchematicHead (e i) (f i)
head-zero (Bound n) = refl

mutual
  unfolding raised raised_all

  pub term-zero : (t : Term) → raised 0 t ≡ t
  term-zero (lam a b) = let e = typ-zero a in let f = term-zero b in λ i. lam (e i) (f i)
  term-zero (Spine h ts) = let e = head-zero h in let f = terms-zero ts in λ i. Spine (e i) (f i)

  terms-zero : (ts : Terms) → raised_all 0 ts ≡ ts
  terms-zero Nil = refl
  terms-zero (tm_cons t ts) = let e = term-zero t in let f = terms-zero ts in λ i. tm_cons (e i) (f i)

-- twice
name-twice : (q r : ℕ) (x : Name) → raised_name r (raised_name q x) ≡ raised_name (q + r) x
name-twice q r x = let e : x.number + q + r ≡ x.number + (q + r) = omega arith in λ i. record { text = x.text; number = e i }

mutual
  unfolding raised_typ raised_typs

  typ-twice : (q r : ℕ) (a : Typ) → raised_typ r (raised_typ q a) ≡ raised_typ (q + r) a
  typ-twice q r (Con c ts) = ap (Con c) (types-twice q r ts)
  typ-twice q r (Fixed a) = refl
  typ-twice q r (TypeVariable x) = ap TypeVariable (name-twice q r x)

  types-twice : (q r : ℕ) (ts : Types) → raised_typs r (raised_typs q ts) ≡ raised_typs (q + r) ts
  types-twice q r no_types = refl
  types-twice q r (ty_cons t ts) = let e = typ-twice q r t in let f = types-twice q r ts in λ i. ty_cons (e i) (f i)

head-twice : (q r : ℕ) (h : Head) → raised_head r (raised_head q h) ≡ raised_head (q + r) h
head-twice q r (Const c a) = ap (Const c) (typ-twice q r a)
head-twice q r (FreeHead x a) = ap (FreeHead x) (typ-twice q r a)
head-twice q r (SchematicHead x a) = let e = name-twice q r x in let f = typ-twice q r a in λ i. SchematicHead (e i) (f i)
head-twice q r (Bound n) = refl

mutual
  unfolding raised raised_all

  pub term-twice : (q r : ℕ) (t : Term) → raised r (raised q t) ≡ raised (q + r) t
  term-twice q r (lam a b) = let e = typ-twice q r a in let f = term-twice q r b in λ i. lam (e i) (f i)
  term-twice q r (Spine h ts) = let e = head-twice q r h in let f = terms-twice q r ts in λ i. Spine (e i) (f i)

  terms-twice : (q r : ℕ) (ts : Terms) → raised_all r (raised_all q ts) ≡ raised_all (q + r) ts
  terms-twice q r Nil = refl
  terms-twice q r (tm_cons t ts) = let e = term-twice q r t in let f = terms-twice q r ts in λ i. tm_cons (e i) (f i)

-- nothing that is numbered
max-parts : (a b : ℕ) → max a b ≡ 0 → (a ≡ 0) × (b ≡ 0)
max-parts a b h = ((let q = le-max_left a b in omega (arith, h, q)), (let q = le-max_right a b in omega (arith, h, q)))

none-parts : (xs ys : List Variable) → next_number (xs ++ ys) ≡ 0 → (next_number xs ≡ 0) × (next_number ys ≡ 0)
none-parts xs ys h = max-parts _ _ (sym (next-append xs ys) ∙ h)

not-zero : (n m : ℕ) {A : Type 0} → max (suc n) m ≡ 0 → A
not-zero n m h = absurd (let bad : suc n ≡ 0 = (max-parts (suc n) m h).0 in cc)

mutual
  unfolding raised_typ raised_typs typ_variables types_variables next_number

  pub typ-none : (r : ℕ) (a : Typ) → next_number (typ_variables a) ≡ 0 → raised_typ r a ≡ a
  typ-none r (Con c ts) h = ap (Con c) (types-none r ts h)
  typ-none r (Fixed a) h = refl
  typ-none r (TypeVariable x) h = not-zero x.number 0 h

  types-none : (r : ℕ) (ts : Types) → next_number (types_variables ts) ≡ 0 → raised_typs r ts ≡ ts
  types-none r no_types h = refl
  types-none r (ty_cons t ts) h =
      let p = none-parts (typ_variables t) (types_variables ts) h in
      let e = typ-none r t p.0 in let f = types-none r ts p.1 in λ i. ty_cons (e i) (f i)

head-none : (r : ℕ) (h : Head) → next_number (head_variables h) ≡ 0 → raised_head r h ≡ h
unfolding next_number
head-none r (Const c a) q = ap (Const c) (typ-none r a q)
head-none r (FreeHead x a) q = ap (FreeHead x) (typ-none r a (max-parts 0 (next_number (typ_variables a)) q).1)
head-none r (SchematicHead x a) q = not-zero x.number (next_number (typ_variables a)) q
head-none r (Bound n) q = refl

mutual
  unfolding raised raised_all variables terms_variables

  pub term-none : (r : ℕ) (t : Term) → next_number (variables t) ≡ 0 → raised r t ≡ t
  term-none r (lam a b) h =
      let p = none-parts (typ_variables a) (variables b) h in
      let e = typ-none r a p.0 in let f = term-none r b p.1 in λ i. lam (e i) (f i)
  term-none r (Spine h ts) q =
      let p = none-parts (head_variables h) (terms_variables ts) q in
      let e = head-none r h p.0 in let f = terms-none r ts p.1 in λ i. Spine (e i) (f i)

  terms-none : (r : ℕ) (ts : Terms) → next_number (terms_variables ts) ≡ 0 → raised_all r ts ≡ ts
  terms-none r Nil h = refl
  terms-none r (tm_cons t ts) h =
      let p = none-parts (variables t) (terms_variables ts) h in
      let e = term-none r t p.0 in let f = terms-none r ts p.1 in λ i. tm_cons (e i) (f i)
