-- What the code's tests say, one lemma for each way out.
use Rattle.std.proofs.Common.{◌≡◌, Bool, true, false, IsTrue, ◌↔◌, List, ℕ, sym, ◌∙◌, ap}
use Rattle.iv_term.specs.declared.typ.Typ.{Typ}
use Rattle.iv_term.specs.declared.typ.Types.{Types}
use Rattle.iv_term.specs.declared.typ.Typ.TheBlock.{Con, Fixed, Schematic as Variable, Nil as no_types}
use Rattle.iv_term.specs.Typ.{prop, ty_cons}
use Rattle.iv_hsub.specs.Typing.{first_typ}

pub never : (P : Type 0) → (P → ⊥) → (IsTrue false ↔ P)
never P k = (λ h. absurd (let bad : false ≡ true = h in cc), λ p. absurd (k p))

pub is_not : (P : Type 0) (r : Bool) → (IsTrue r ↔ P) → r ≡ false → P → ⊥
is_not P r d e p = let bad : false ≡ true = sym e ∙ d.1 p in cc

-- two tests one after the other
pub pair-no : (P Q : Type 0) (r : Bool) → (IsTrue r ↔ P) → r ≡ false → (IsTrue false ↔ (P × Q))
pair-no P Q r d e = never (P × Q) (λ p. is_not P r d e p.0)

pub pair-yes : (P Q : Type 0) (r q : Bool) → (IsTrue r ↔ P) → r ≡ true → (IsTrue q ↔ Q) → (IsTrue q ↔ (P × Q))
pair-yes P Q r q d e f = (λ h. (d.0 e, f.0 h), λ p. f.1 p.1)

pub via : (P Q : Type 0) (r : Bool) → (P → Q) → (Q → P) → (IsTrue r ↔ P) → (IsTrue r ↔ Q)
via P Q r there back d = (λ h. there (d.0 h), λ q. d.1 (back q))

-- equations of types by their parts
rest_typs : Types → Types
rest_typs no_types = no_types
rest_typs (ty_cons a rest) = rest

name_in : Typ → List ℕ → List ℕ
name_in (Con c ts) d = c
name_in (Fixed c) d = d
name_in (Variable c) d = d

args_in : Typ → Types
args_in (Con c ts) = ts
args_in (Fixed c) = no_types
args_in (Variable c) = no_types

pub cons-parts : (t u : Typ) (ts us : Types) → ty_cons t ts ≡ ty_cons u us → (t ≡ u) × (ts ≡ us)
unfolding rest_typs
cons-parts t u ts us e = (ap (first_typ prop) e, ap rest_typs e)

pub con-parts : (c d : List ℕ) (ts us : Types) → Con c ts ≡ Con d us → (c ≡ d) × (ts ≡ us)
unfolding name_in args_in
con-parts c d ts us e = (ap (λ a. name_in a c) e, ap args_in e)

pub cons-no : (t u : Typ) (ts us : Types) (r : Bool) → (IsTrue r ↔ (t ≡ u)) → r ≡ false → (IsTrue false ↔ (ty_cons t ts ≡ ty_cons u us))
cons-no t u ts us r d e = never _ (λ p. is_not _ r d e (cons-parts t u ts us p).0)

pub cons-yes : (t u : Typ) (ts us : Types) (r q : Bool) → (IsTrue r ↔ (t ≡ u)) → r ≡ true → (IsTrue q ↔ (ts ≡ us)) → (IsTrue q ↔ (ty_cons t ts ≡ ty_cons u us))
cons-yes t u ts us r q d e f = via _ _ q (λ p. (λ i. ty_cons (p.0 i) (p.1 i))) (cons-parts t u ts us) (pair-yes _ _ r q d e f)

pub con-no : (c d : List ℕ) (ts us : Types) (r : Bool) → (IsTrue r ↔ (c ≡ d)) → r ≡ false → (IsTrue false ↔ (Con c ts ≡ Con d us))
con-no c d ts us r k e = never _ (λ p. is_not _ r k e (con-parts c d ts us p).0)

pub con-yes : (c d : List ℕ) (ts us : Types) (r q : Bool) → (IsTrue r ↔ (c ≡ d)) → r ≡ true → (IsTrue q ↔ (ts ≡ us)) → (IsTrue q ↔ (Con c ts ≡ Con d us))
con-yes c d ts us r q k e f = via _ _ q (λ p. (λ i. Con (p.0 i) (p.1 i))) (con-parts c d ts us) (pair-yes _ _ r q k e f)

pub turned : {A : Type 0} (x y : A) (r : Bool) → (IsTrue r ↔ (x ≡ y)) → (IsTrue r ↔ (y ≡ x))
turned x y r d = via _ _ r (λ e. sym e) (λ e. sym e) d
