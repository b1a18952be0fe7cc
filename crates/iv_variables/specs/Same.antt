-- The test of sameness of variables decides equality.
use Rattle.std.proofs.Common.{◌≡◌, ℕ, List, eqb, true, refl, sym, ◌∙◌, ap}
use Rattle.std.specs.Bool.{Decides}
use Rattle.std.proofs.lemmas.Bool.{and_parts, and_from}
use Rattle.std.proofs.lemmas.Bool.Decides.{Decides-eqb}
use Rattle.std.specs.Str.{bytes_eq}
use Rattle.std.proofs.lemmas.Slice.Eq.{bytes_eq-Decides}
use Rattle.iv_text.specs.declared.name.Name.{Name}
use Rattle.iv_text.specs.Name.{same_name}
use Rattle.iv_term.specs.declared.typ.Typ.{Typ}
use Rattle.iv_term.specs.declared.typ.Types.{Types}
use Rattle.iv_term.specs.declared.typ.Typ.TheBlock.{Con, Fixed, Schematic as TypeVariable, Nil as no_types}
use Rattle.iv_term.specs.Typ.{ty_cons, same_typ, same_typs}
use Rattle.iv_variables.specs.declared.variable.Variable.{Variable}
use Rattle.iv_variables.specs.declared.variable.Variable.TheVariants.{FixedType, SchematicType, Free, Schematic}
use Rattle.iv_variables.specs.Variables.{same_variable}

text-true : (a b : List ℕ) → bytes_eq a b ≡ true → a ≡ b
text-true a b h = (bytes_eq-Decides a b).0 h

text-same : (a : List ℕ) → bytes_eq a a ≡ true
text-same a = (bytes_eq-Decides a a).1 refl

name-true : (x y : Name) → same_name x y ≡ true → x ≡ y
name-true x y h =
    let p : (bytes_eq x.text y.text ≡ true) × (eqb x.number y.number ≡ true) = and_parts _ _ h in
    let e : x.text ≡ y.text = text-true _ _ p.0 in
    let f : x.number ≡ y.number = (Decides-eqb _ _).0 p.1 in
    λ i. record { text = e i; number = f i }

name-same : (x : Name) → same_name x x ≡ true
name-same x = and_from _ _ (text-same x.text) ((Decides-eqb x.number x.number).1 refl)

mutual
  unfolding same_typ same_typs

  typ-true : (a b : Typ) → same_typ a b ≡ true → a ≡ b
  typ-true (Con c ts) (Con d us) h =
      let p = and_parts (bytes_eq c d) (same_typs ts us) h in
      let e = text-true c d p.0 in
      let f = typs-true ts us p.1 in
      λ i. Con (e i) (f i)
  typ-true (Fixed a) (Fixed b) h = ap Fixed (text-true a b h)
  typ-true (TypeVariable x) (TypeVariable y) h = ap TypeVariable (name-true x y h)
  typ-true (Con c ts) (Fixed b) h = cc
  typ-true (Con c ts) (TypeVariable y) h = cc
  typ-true (Fixed a) (Con d us) h = cc
  typ-true (Fixed a) (TypeVariable y) h = cc
  typ-true (TypeVariable x) (Con d us) h = cc
  typ-true (TypeVariable x) (Fixed b) h = cc

  typs-true : (ts us : Types) → same_typs ts us ≡ true → ts ≡ us
  typs-true no_types no_types h = refl
  typs-true no_types (ty_cons u us) h = cc
  typs-true (ty_cons t ts) no_types h = cc
  typs-true (ty_cons t ts) (ty_cons u us) h =
      let p = and_parts (same_typ t u) (same_typs ts us) h in
      let e = typ-true t u p.0 in
      let f = typs-true ts us p.1 in
      λ i. ty_cons (e i) (f i)

mutual
  unfolding same_typ same_typs

  typ-same : (a : Typ) → same_typ a a ≡ true
  typ-same (Con c ts) = and_from _ _ (text-same c) (typs-same ts)
  typ-same (Fixed a) = text-same a
  typ-same (TypeVariable x) = name-same x

  typs-same : (ts : Types) → same_typs ts ts ≡ true
  typs-same no_types = refl
  typs-same (ty_cons t ts) = and_from _ _ (typ-same t) (typs-same ts)

pub variable-true : (v w : Variable) → same_variable v w ≡ true → v ≡ w
variable-true (FixedType a) (FixedType b) h = ap FixedType (text-true a b h)
variable-true (SchematicType x) (SchematicType y) h = ap SchematicType (name-true x y h)
variable-true (Free x a) (Free y b) h =
    let p = and_parts (same_name x y) (same_typ a b) h in
    let e = name-true x y p.0 in let f = typ-true a b p.1 in λ i. Free (e i) (f i)
variable-true (Schematic x a) (Schematic y b) h =
    let p = and_parts (same_name x y) (same_typ a b) h in
    let e = name-true x y p.0 in let f = typ-true a b p.1 in λ i. Schematic (e i) (f i)
variable-true (FixedType a) (SchematicType y) h = cc
variable-true (FixedType a) (Free y b) h = cc
variable-true (FixedType a) (Schematic y b) h = cc
variable-true (SchematicType x) (FixedType b) h = cc
variable-true (SchematicType x) (Free y b) h = cc
variable-true (SchematicType x) (Schematic y b) h = cc
variable-true (Free x a) (FixedType b) h = cc
variable-true (Free x a) (SchematicType y) h = cc
variable-true (Free x a) (Schematic y b) h = cc
variable-true (Schematic x a) (FixedType b) h = cc
variable-true (Schematic x a) (SchematicType y) h = cc
variable-true (Schematic x a) (Free y b) h = cc

pub variable-same : (v : Variable) → same_variable v v ≡ true
variable-same (FixedType a) = text-same a
variable-same (SchematicType x) = name-same x
variable-same (Free x a) = and_from _ _ (name-same x) (typ-same a)
variable-same (Schematic x a) = and_from _ _ (name-same x) (typ-same a)

-- what decides equality of variables is the test
pub variable-Decides : (v w : Variable) → Decides (same_variable v w) (v ≡ w)
variable-Decides v w = (variable-true v w, λ e. ap (same_variable v) (sym e) ∙ variable-same v)
