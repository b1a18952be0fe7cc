-- What stands as the definitions of the crates below say it, and which number is reached.
use Rattle.std.proofs.Common.{◌≡◌, ℕ, suc, ◌≤◌, max, Bool, true, false, ◌&&◌, ◌||◌, cond, List, [], ◌∷◌, ◌++◌, filter, eqb, nat_eq, refl, sym, ◌∙◌, ap, arith}
use Rattle.std.specs.List.{list_any}
use Rattle.std.proofs.lemmas.List.Folds.{list_any-append}
use Rattle.std.proofs.lemmas.Bool.Decides.{Decides-eqb, nat_tests}
use Rattle.std.proofs.Math.Nat.{le-max_left, le-max_right, max-le}
use Rattle.iv_text.specs.declared.name.Name.{Name}
use Rattle.iv_text.specs.Name.{same_name}
use Rattle.iv_term.specs.declared.typ.Typ.{Typ}
use Rattle.iv_term.specs.declared.typ.Types.{Types}
use Rattle.iv_term.specs.declared.typ.Typ.TheBlock.{Con, Fixed, Schematic as TypeVariable, Nil as no_types}
use Rattle.iv_term.specs.declared.term.Head.{Head}
use Rattle.iv_term.specs.declared.term.Head.TheVariants.{Const, Free as FreeHead, Schematic as SchematicHead, Bound}
use Rattle.iv_term.specs.declared.term.Term.{Term}
use Rattle.iv_term.specs.declared.term.Terms.{Terms}
use Rattle.iv_term.specs.declared.term.Term.TheBlock.{Spine, Nil}
use Rattle.iv_term.specs.Typ.{ty_cons, same_typ}
use Rattle.iv_term.specs.Term.{lam, tm_cons, is_free, has_free, any_has_free}
use Rattle.iv_variables.specs.declared.kind.Kind.{Kind}
use Rattle.iv_variables.specs.declared.variable.Variable.{Variable}
use Rattle.iv_variables.specs.declared.variable.Variable.TheVariants.{FixedType, SchematicType, Free, Schematic}
use Rattle.iv_variables.specs.Variables.{same_variable, typ_variables, types_variables, head_variables, variables, terms_variables}
use Rattle.iv_variables.specs.Same.{variable-true}
use Rattle.iv_variables.specs.Firsts.{of_kind, stands, next_of, next_number}

mutual
  unfolding typ_variables types_variables

  -- no free variable stands in a type
  typ-free : (x : Name) (a b : Typ) → stands (Free x a) (typ_variables b) ≡ false
  typ-free x a (Con c ts) = types-free x a ts
  typ-free x a (Fixed b) = refl
  typ-free x a (TypeVariable y) = refl

  types-free : (x : Name) (a : Typ) (ts : Types) → stands (Free x a) (types_variables ts) ≡ false
  types-free x a no_types = refl
  types-free x a (ty_cons t ts) =
      list_any-append (same_variable (Free x a)) (typ_variables t) (types_variables ts) ∙ (let e = typ-free x a t in let f = types-free x a ts in λ i. e i || f i)

or-none : (b : Bool) → (b || false) ≡ b
or-none true = refl
or-none false = refl

head-free : (x : Name) (a : Typ) (h : Head) → stands (Free x a) (head_variables h) ≡ is_free x a h
head-free x a (Const c b) = typ-free x a b
head-free x a (FreeHead y b) = ap (λ z. (same_name x y && same_typ a b) || z) (typ-free x a b) ∙ or-none (same_name x y && same_typ a b)
head-free x a (SchematicHead y b) = typ-free x a b
head-free x a (Bound n) = refl

mutual
  unfolding variables terms_variables has_free any_has_free

  pub term-free : (x : Name) (a : Typ) (t : Term) → stands (Free x a) (variables t) ≡ has_free x a t
  term-free x a (lam b t) =
      list_any-append (same_variable (Free x a)) (typ_variables b) (variables t) ∙ (let e = typ-free x a b in let f = term-free x a t in λ i. e i || f i)
  term-free x a (Spine h ts) =
      list_any-append (same_variable (Free x a)) (head_variables h) (terms_variables ts) ∙ (let e = head-free x a h in let f = terms-free x a ts in λ i. e i || f i)

  pub terms-free : (x : Name) (a : Typ) (ts : Terms) → stands (Free x a) (terms_variables ts) ≡ any_has_free x a ts
  terms-free x a Nil = refl
  terms-free x a (tm_cons t ts) =
      list_any-append (same_variable (Free x a)) (variables t) (terms_variables ts) ∙ (let e = term-free x a t in let f = terms-free x a ts in λ i. e i || f i)

-- of a kind
kind_by : (k : Kind) (v w : Variable) (ws : List Variable) (b c : Bool) → of_kind k w ≡ b → same_variable v w ≡ c → stands v (filter (of_kind k) ws) ≡ (of_kind k v && stands v ws)
    → stands v (cond b (w ∷ filter (of_kind k) ws) (filter (of_kind k) ws)) ≡ (of_kind k v && (c || stands v ws))
kind_by k v w ws true true h e next =
    ap (λ z. z || stands v (filter (of_kind k) ws)) e ∙ sym (ap (λ z. z && true) (ap (of_kind k) (variable-true v w e) ∙ h))
kind_by k v w ws true false h e next = ap (λ z. z || stands v (filter (of_kind k) ws)) e ∙ next
kind_by k v w ws false true h e next =
    let no : of_kind k v ≡ false = ap (of_kind k) (variable-true v w e) ∙ h in
    next ∙ ap (λ z. z && stands v ws) no ∙ sym (ap (λ z. z && true) no)
kind_by k v w ws false false h e next = next

none-of : (b : Bool) → (b && false) ≡ false
none-of true = refl
none-of false = refl

pub kind-stands : (k : Kind) (v : Variable) (vs : List Variable) → stands v (filter (of_kind k) vs) ≡ (of_kind k v && stands v vs)
kind-stands k v [] = sym (none-of (of_kind k v))
kind-stands k v (w ∷ ws) = kind_by k v w ws (of_kind k w) (same_variable v w) refl refl (kind-stands k v ws)

-- what is reached
other_by : (a b n : ℕ) (p q : Bool) → max a b ≡ suc n → eqb a (suc n) ≡ p → eqb b (suc n) ≡ q → (p || q) ≡ true
other_by a b n true q h e f = refl
other_by a b n false true h e f = refl
other_by a b n false false h e f =
    let x : a ≤ n = (let k = le-max_left a b in grind (arith, nat_tests, k, h, e)) in
    let y : b ≤ n = (let k = le-max_right a b in grind (arith, nat_tests, k, h, f)) in
    let z : max a b ≤ n = max-le x y in absurd (omega (arith, z, h))

reached_by : (p q r : Bool) → (p || q) ≡ true → (q ≡ true → r ≡ true) → (p || r) ≡ true
reached_by true q r h f = refl
reached_by false q r h f = f h

pub reached : (vs : List Variable) (n : ℕ) → next_number vs ≡ suc n → list_any (λ v. nat_eq (next_of v) (suc n)) vs ≡ true
unfolding next_number
reached [] n h = absurd (let bad : 0 ≡ suc n = h in cc)
reached (v ∷ vs) n h =
    reached_by (eqb (next_of v) (suc n)) (eqb (next_number vs) (suc n)) _ (other_by (next_of v) (next_number vs) n _ _ h refl refl)
    (λ q. reached vs n ((Decides-eqb (next_number vs) (suc n)).0 q))
