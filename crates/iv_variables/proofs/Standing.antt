-- Which variables stand, their numbers, and their order, before and after raising.
use Rattle.std.proofs.Common.{◌≡◌, ℕ, zero, suc, ◌<◌, ◌≤◌, ◌+◌, max, Bool, true, false, ◌&&◌, ◌||◌, not, cond, List, [], ◌∷◌, ◌++◌, map, filter, eqb, refl, sym, ◌∙◌, ap, inl, inr, arith}
use Rattle.std.specs.List.{list_any, fold}
use Rattle.std.specs.Str.{bytes_eq}
use Rattle.std.proofs.lemmas.Bool.Decides.{Decides-eqb, same_from_decides}
use Rattle.std.proofs.lemmas.List.Sums.{fold-append}
use Rattle.std.proofs.Math.Nat.{le-max_left, le-max_right}
use Rattle.indexmap.specs.IndexSet.{insert_key}
use Rattle.iv_text.specs.declared.name.Name.{Name}
use Rattle.iv_text.specs.Name.{same_name}
use Rattle.iv_term.specs.declared.typ.Typ.{Typ}
use Rattle.iv_term.specs.declared.typ.Types.{Types}
use Rattle.iv_term.specs.declared.typ.Typ.TheBlock.{Con, Fixed, Schematic as TypeVariable, Nil as no_types}
use Rattle.iv_term.specs.Typ.{ty_cons, same_typ, same_typs}
use Rattle.iv_variables.specs.declared.kind.Kind.{Kind}
use Rattle.iv_variables.specs.declared.kind.Kind.TheVariants.{FixedTypes, SchematicTypes, Frees, Schematics, Numbered}
use Rattle.iv_variables.specs.declared.variable.Variable.{Variable}
use Rattle.iv_variables.specs.declared.variable.Variable.TheVariants.{FixedType, SchematicType, Free, Schematic}
use Rattle.iv_variables.specs.Variables.{same_variable}
use Rattle.iv_variables.specs.Same.{variable-true, variable-same}
use Rattle.iv_variables.specs.Firsts.{of_kind, stands, without, firsts, extended, next_of, next_number}
use Rattle.iv_variables.specs.Raised.{raised_name, raised_typ, raised_typs, raised_variable}
use Rattle.iv_variables.proofs.Once.{put-all, put-first}

number-raised : (a b r : ℕ) → eqb (a + r) (b + r) ≡ eqb a b
number-raised a b r =
    same_from_decides _ _
    ((λ h. let e : a + r ≡ b + r = (Decides-eqb (a + r) (b + r)).0 h in omega (arith, e)), λ e. (Decides-eqb (a + r) (b + r)).1 (ap (λ z. z + r) e))
    (Decides-eqb a b)

name-raised : (r : ℕ) (x y : Name) → same_name (raised_name r x) (raised_name r y) ≡ same_name x y
name-raised r x y = ap (λ z. bytes_eq x.text y.text && z) (number-raised x.number y.number r)

mutual
  unfolding same_typ same_typs raised_typ raised_typs

  typ-raised : (r : ℕ) (a b : Typ) → same_typ (raised_typ r a) (raised_typ r b) ≡ same_typ a b
  typ-raised r (Con c ts) (Con d us) = ap (λ z. bytes_eq c d && z) (types-raised r ts us)
  typ-raised r (Con c ts) (Fixed b) = refl
  typ-raised r (Con c ts) (TypeVariable y) = refl
  typ-raised r (Fixed a) (Con d us) = refl
  typ-raised r (Fixed a) (Fixed b) = refl
  typ-raised r (Fixed a) (TypeVariable y) = refl
  typ-raised r (TypeVariable x) (Con d us) = refl
  typ-raised r (TypeVariable x) (Fixed b) = refl
  typ-raised r (TypeVariable x) (TypeVariable y) = name-raised r x y

  types-raised : (r : ℕ) (ts us : Types) → same_typs (raised_typs r ts) (raised_typs r us) ≡ same_typs ts us
  types-raised r no_types no_types = refl
  types-raised r no_types (ty_cons u us) = refl
  types-raised r (ty_cons t ts) no_types = refl
  types-raised r (ty_cons t ts) (ty_cons u us) = let e = typ-raised r t u in let f = types-raised r ts us in λ i. e i && f i

same-raised : (r : ℕ) (v w : Variable) → same_variable (raised_variable r v) (raised_variable r w) ≡ same_variable v w
same-raised r (FixedType a) (FixedType b) = refl
same-raised r (FixedType a) (SchematicType y) = refl
same-raised r (FixedType a) (Free y b) = refl
same-raised r (FixedType a) (Schematic y b) = refl
same-raised r (SchematicType x) (FixedType b) = refl
same-raised r (SchematicType x) (SchematicType y) = name-raised r x y
same-raised r (SchematicType x) (Free y b) = refl
same-raised r (SchematicType x) (Schematic y b) = refl
same-raised r (Free x a) (FixedType b) = refl
same-raised r (Free x a) (SchematicType y) = refl
same-raised r (Free x a) (Free y b) = ap (λ z. same_name x y && z) (typ-raised r a b)
same-raised r (Free x a) (Schematic y b) = refl
same-raised r (Schematic x a) (FixedType b) = refl
same-raised r (Schematic x a) (SchematicType y) = refl
same-raised r (Schematic x a) (Free y b) = refl
same-raised r (Schematic x a) (Schematic y b) = let e = name-raised r x y in let f = typ-raised r a b in λ i. e i && f i

pub stands-raised : (r : ℕ) (v : Variable) (vs : List Variable) → stands (raised_variable r v) (map (raised_variable r) vs) ≡ stands v vs
stands-raised r v [] = refl
stands-raised r v (w ∷ ws) = let e = same-raised r v w in let f = stands-raised r v ws in λ i. e i || f i

filter-map_by : (p q : Variable → Bool) (f : Variable → Variable) (w : Variable) (ws : List Variable) (b : Bool) → p (f w) ≡ b
    → filter p (map f ws) ≡ map f (filter q ws) → filter p (map f (w ∷ ws)) ≡ map f (cond b (w ∷ filter q ws) (filter q ws))
filter-map_by p q f w ws true e h = ap (λ z. cond z (f w ∷ filter p (map f ws)) (filter p (map f ws))) e ∙ ap (λ z. f w ∷ z) h
filter-map_by p q f w ws false e h = ap (λ z. cond z (f w ∷ filter p (map f ws)) (filter p (map f ws))) e ∙ h

filter-map : (p q : Variable → Bool) (f : Variable → Variable) → ((w : Variable) → p (f w) ≡ q w) → (ws : List Variable) → filter p (map f ws) ≡ map f (filter q ws)
filter-map p q f e [] = refl
filter-map p q f e (w ∷ ws) = filter-map_by p q f w ws (q w) (e w) (filter-map p q f e ws)

firsts-raised : (r : ℕ) (vs : List Variable) → firsts (map (raised_variable r) vs) ≡ map (raised_variable r) (firsts vs)
unfolding firsts
firsts-raised r [] = refl
firsts-raised r (v ∷ vs) =
    ap (λ z. raised_variable r v ∷ z)
    (ap (without (raised_variable r v)) (firsts-raised r vs)
    ∙ filter-map (λ w. not (same_variable (raised_variable r v) w)) (λ w. not (same_variable v w)) (raised_variable r) (λ w. ap not (same-raised r v w)) (firsts vs))

kind-raised : (r : ℕ) (k : Kind) (v : Variable) → of_kind k (raised_variable r v) ≡ of_kind k v
kind-raised r FixedTypes (FixedType a) = refl
kind-raised r FixedTypes (SchematicType x) = refl
kind-raised r FixedTypes (Free x a) = refl
kind-raised r FixedTypes (Schematic x a) = refl
kind-raised r SchematicTypes (FixedType a) = refl
kind-raised r SchematicTypes (SchematicType x) = refl
kind-raised r SchematicTypes (Free x a) = refl
kind-raised r SchematicTypes (Schematic x a) = refl
kind-raised r Frees (FixedType a) = refl
kind-raised r Frees (SchematicType x) = refl
kind-raised r Frees (Free x a) = refl
kind-raised r Frees (Schematic x a) = refl
kind-raised r Schematics (FixedType a) = refl
kind-raised r Schematics (SchematicType x) = refl
kind-raised r Schematics (Free x a) = refl
kind-raised r Schematics (Schematic x a) = refl
kind-raised r Numbered (FixedType a) = refl
kind-raised r Numbered (SchematicType x) = refl
kind-raised r Numbered (Free x a) = refl
kind-raised r Numbered (Schematic x a) = refl

pub kinds-raised : (r : ℕ) (k : Kind) (vs : List Variable) → firsts (filter (of_kind k) (map (raised_variable r) vs)) ≡ map (raised_variable r) (firsts (filter (of_kind k) vs))
kinds-raised r k vs = ap firsts (filter-map (of_kind k) (of_kind k) (raised_variable r) (kind-raised r k) vs) ∙ firsts-raised r (filter (of_kind k) vs)

-- numbers
bounds_by : (v w : Variable) (ws : List Variable) (b : Bool) → same_variable v w ≡ b → (stands v ws ≡ true → next_of v ≤ next_number ws) → (b || stands v ws) ≡ true
    → next_of v ≤ max (next_of w) (next_number ws)
bounds_by v w ws true e next h = let p = ap next_of (variable-true v w e) in let q = le-max_left (next_of w) (next_number ws) in omega (arith, p, q)
bounds_by v w ws false e next h = let p = next h in let q = le-max_right (next_of w) (next_number ws) in omega (arith, p, q)

pub bounds : (v : Variable) (vs : List Variable) → stands v vs ≡ true → next_of v ≤ next_number vs
unfolding next_number
bounds v [] h = absurd (let bad : false ≡ true = h in cc)
bounds v (w ∷ ws) h = bounds_by v w ws (same_variable v w) refl (bounds v ws) h

shift : ℕ → ℕ → ℕ
shift r zero = 0
shift r (suc n) = suc n + r

shift-of : (r : ℕ) (v : Variable) → next_of (raised_variable r v) ≡ shift r (next_of v)
unfolding shift
shift-of r (FixedType a) = refl
shift-of r (SchematicType x) = omega arith
shift-of r (Free x a) = refl
shift-of r (Schematic x a) = omega arith

shift-max : (r a b : ℕ) → shift r (max a b) ≡ max (shift r a) (shift r b)
unfolding shift
shift-max r zero b = (let e : max 0 b ≡ b = grind arith in ap (shift r) e) ∙ (let f : shift r b ≡ max 0 (shift r b) = grind arith in f)
shift-max r (suc a) zero = (let e : max (suc a) 0 ≡ suc a = grind arith in ap (shift r) e) ∙ (let f : suc a + r ≡ max (suc a + r) 0 = grind arith in f)
shift-max r (suc a) (suc b) =
    (let e : max (suc a) (suc b) ≡ suc (max a b) = grind arith in ap (shift r) e) ∙ (let f : suc (max a b) + r ≡ max (suc a + r) (suc b + r) = grind arith in f)

shifted : (r : ℕ) (vs : List Variable) → next_number (map (raised_variable r) vs) ≡ shift r (next_number vs)
unfolding next_number shift
shifted r [] = refl
shifted r (v ∷ vs) = (let e = shift-of r v in let f = shifted r vs in λ i. max (e i) (f i)) ∙ sym (shift-max r (next_of v) (next_number vs))

pub some-raised : (r n : ℕ) (vs : List Variable) → next_number vs ≡ suc n → next_number (map (raised_variable r) vs) ≡ suc n + r
unfolding shift
some-raised r n vs h = shifted r vs ∙ ap (shift r) h

pub none-raised : (r : ℕ) (vs : List Variable) → next_number vs ≡ 0 → next_number (map (raised_variable r) vs) ≡ 0
unfolding shift
none-raised r vs h = shifted r vs ∙ ap (shift r) h

-- apart
unlike : (r m n : ℕ) {A : Type 0} → 0 < n → n ≤ r → n ≡ shift r m → A
unfolding shift
unlike r zero n p q e = absurd (let bad : 0 < 0 = (let k : n ≡ 0 = e in omega (arith, p, k)) in omega (arith, bad))
unlike r (suc m) n p q e = absurd (let k : n ≡ suc m + r = e in omega (arith, q, k))

apart_by : (r : ℕ) (v w : Variable) (b : Bool) → 0 < next_of v → next_of v ≤ r → same_variable v (raised_variable r w) ≡ b → b ≡ false
apart_by r v w true p q e = unlike r (next_of w) (next_of v) p q (ap next_of (variable-true v (raised_variable r w) e) ∙ shift-of r w)
apart_by r v w false p q e = refl

pub apart : (r : ℕ) (v : Variable) (vs : List Variable) → 0 < next_of v → next_of v ≤ r → stands v (map (raised_variable r) vs) ≡ false
apart r v [] p q = refl
apart r v (w ∷ ws) p q = let e = apart_by r v w _ p q refl in let f = apart r v ws p q in λ i. e i || f i

-- once each
stays_by : (v w x : Variable) (xs : List Variable) (b : Bool) → same_variable v w ≡ false → same_variable w x ≡ b → stands v (without w xs) ≡ stands v xs
    → stands v (cond (not b) (x ∷ without w xs) (without w xs)) ≡ (same_variable v x || stands v xs)
stays_by v w x xs true h e next = next ∙ sym (ap (λ z. z || stands v xs) (sym (ap (same_variable v) (variable-true w x e)) ∙ h))
stays_by v w x xs false h e next = ap (λ z. same_variable v x || z) next

stays : (v w : Variable) (xs : List Variable) → same_variable v w ≡ false → stands v (without w xs) ≡ stands v xs
stays v w [] h = refl
stays v w (x ∷ xs) h = stays_by v w x xs (same_variable w x) h refl (stays v w xs h)

first_by : (v w : Variable) (xs : List Variable) (b : Bool) → same_variable v w ≡ b → (b || stands v (without w xs)) ≡ (b || stands v xs)
first_by v w xs true h = refl
first_by v w xs false h = stays v w xs h

pub firsts-stand : (v : Variable) (vs : List Variable) → stands v (firsts vs) ≡ stands v vs
unfolding firsts
firsts-stand v [] = refl
firsts-stand v (w ∷ ws) = first_by v w (firsts ws) _ refl ∙ ap (λ z. same_variable v w || z) (firsts-stand v ws)

pub firsts-two : (vs ws : List Variable) → firsts (vs ++ ws) ≡ extended (firsts vs) ws
firsts-two vs ws =
    sym (put-first (vs ++ ws)) ∙ fold-append (insert_key same_variable) [] vs ws ∙ ap (λ z. fold (insert_key same_variable) z ws) (put-first vs)
    ∙ put-all ws (firsts vs)
