-- What the tests of terms decide, part by part.
use Rattle.std.proofs.Common.{◌≡◌, ℕ, List, [], Bool, true, false, refl, sym, ◌∙◌, ap}
use Rattle.std.specs.Bool.{Decides}
use Rattle.iv_text.specs.declared.name.Name.{Name}
use Rattle.iv_term.specs.declared.typ.Typ.{Typ}
use Rattle.iv_term.specs.declared.term.Head.{Head}
use Rattle.iv_term.specs.declared.term.Head.TheVariants.{Const, Free, Schematic, Bound}
use Rattle.iv_term.specs.declared.term.Term.{Term}
use Rattle.iv_term.specs.declared.term.Terms.{Terms}
use Rattle.iv_term.specs.declared.term.Term.TheBlock.{Spine, Nil}
use Rattle.iv_term.specs.Typ.{prop, fun}
use Rattle.iv_term.specs.Term.{lam, tm_cons, first_or, rest_of, are_two}
use Rattle.iv_term.specs.declared.typ.Typ.TheBlock.{Nil as no_types}
use Rattle.iv_hsub.specs.Typing.{dom, cod, type_of, HasType}
use Rattle.iv_rules.specs.Equality.{eq_head, head_dom, eq, lhs, rhs, side_type, IsEquation, all, predicate}
use Rattle.iv_rules.specs.Conditions.{CanAllElim}
use Rattle.iv_conclusions.specs.Quantified.{predicate_type, domain, IsQuantified}

-- a test of two parts, where the first holds, and where it doesn't
both_yes : (A B R : Type 0) (b : Bool) → (R → B) → (A → B → R) → A → Decides b B → Decides b R
both_yes A B R b out into a d = (λ h. into a (d.0 h), λ r. d.1 (out r))

first_no : (A R : Type 0) (b : Bool) → (R → A) → Decides b A → b ≡ false → Decides b R
first_no A R b out d e = (λ h. absurd (let bad : false ≡ true = sym e ∙ h in cc), λ r. d.1 (out r))

pub told : (b r : Bool) → b ≡ r → Decides b (r ≡ true)
told b r e = (λ h. sym e ∙ h, λ h. e ∙ h)

-- types
takes-first : (a d : Typ) → a ≡ fun d (cod a) → a ≡ fun (dom a) (cod a)
unfolding dom
takes-first a d r = r ∙ ap (λ z. fun z (cod a)) (sym (ap dom r))

pub takes_yes : (a d : Typ) (b : Bool) → a ≡ fun (dom a) (cod a) → Decides b (dom a ≡ d) → Decides b (a ≡ fun d (cod a))
unfolding dom
takes_yes a d b = both_yes (a ≡ fun (dom a) (cod a)) (dom a ≡ d) (a ≡ fun d (cod a)) b (λ r. ap dom r) (λ e f. e ∙ ap (λ z. fun z (cod a)) f)

pub takes_no : (a d : Typ) (b : Bool) → Decides b (a ≡ fun (dom a) (cod a)) → b ≡ false → Decides b (a ≡ fun d (cod a))
takes_no a d b = first_no (a ≡ fun (dom a) (cod a)) (a ≡ fun d (cod a)) b (takes-first a d)

pub predicate_yes : (a d : Typ) (b : Bool) → a ≡ fun d (cod a) → Decides b (cod a ≡ prop) → Decides b (a ≡ fun d prop)
unfolding cod
predicate_yes a d b = both_yes (a ≡ fun d (cod a)) (cod a ≡ prop) (a ≡ fun d prop) b (λ r. ap cod r) (λ e f. e ∙ ap (fun d) f)

pub predicate_no : (a d : Typ) (b : Bool) → Decides b (a ≡ fun d (cod a)) → b ≡ false → Decides b (a ≡ fun d prop)
unfolding cod
predicate_no a d b = first_no (a ≡ fun d (cod a)) (a ≡ fun d prop) b (λ r. r ∙ ap (fun d) (sym (ap cod r)))

abbrev eq_typ : Typ → Typ
eq_typ a = fun (dom a) (fun (dom a) prop)

pub eq_typ_yes : (a : Typ) (b : Bool) → a ≡ fun (dom a) (cod a) → Decides b (cod a ≡ fun (dom a) prop) → Decides b (a ≡ fun (dom a) (fun (dom a) prop))
unfolding cod
eq_typ_yes a b = both_yes (a ≡ fun (dom a) (cod a)) (cod a ≡ fun (dom a) prop) (a ≡ eq_typ a) b (λ r. ap cod r) (λ e f. e ∙ ap (fun (dom a)) f)

pub eq_typ_no : (a : Typ) (b : Bool) → Decides b (a ≡ fun (dom a) (cod a)) → b ≡ false → Decides b (a ≡ fun (dom a) (fun (dom a) prop))
unfolding cod
eq_typ_no a b = first_no (a ≡ fun (dom a) (cod a)) (a ≡ eq_typ a) b (λ r. r ∙ ap (fun (dom a)) (sym (ap cod r)))

-- heads
const_name : Head → List ℕ
const_name (Const c a) = c
const_name h = []

const_typ : Head → Typ
const_typ (Const c a) = a
const_typ h = prop

pub const_yes : (c d : List ℕ) (a e : Typ) (b : Bool) → c ≡ d → Decides b (a ≡ e) → Decides b (Const c a ≡ Const d e)
unfolding const_typ
const_yes c d a e b = both_yes (c ≡ d) (a ≡ e) (Const c a ≡ Const d e) b (λ r. ap const_typ r) (λ p q i. Const (p i) (q i))

pub const_no : (c d : List ℕ) (a e : Typ) (b : Bool) → Decides b (c ≡ d) → b ≡ false → Decides b (Const c a ≡ Const d e)
unfolding const_name
const_no c d a e b = first_no (c ≡ d) (Const c a ≡ Const d e) b (λ r. ap const_name r)

-- a head with one argument, and with two
head_of : Head → Term → Head
head_of d (lam a b) = d
head_of d (Spine h ts) = h

args_of : Term → Terms
args_of (lam a b) = Nil
args_of (Spine h ts) = ts

are-two : (d : Term) (ts : Terms) → are_two ts ≡ true → ts ≡ tm_cons (first_or d ts) (tm_cons (first_or d (rest_of ts)) Nil)
are-two d Nil h = absurd (let bad : false ≡ true = h in cc)
are-two d (tm_cons t Nil) h = absurd (let bad : false ≡ true = h in cc)
are-two d (tm_cons t (tm_cons u Nil)) h = refl
are-two d (tm_cons t (tm_cons u (tm_cons v vs))) h = absurd (let bad : false ≡ true = h in cc)

pub equation_yes : (h : Head) (ts : Terms) (b : Bool) → h ≡ eq_head (head_dom h) → b ≡ are_two ts → Decides b (IsEquation (Spine h ts))
unfolding args_of
equation_yes h ts b e d =
    both_yes (h ≡ eq_head (head_dom h)) (are_two ts ≡ true) (IsEquation (Spine h ts)) b
    (λ r. ap (λ t. are_two (args_of t)) r) (λ p q i. Spine (p i) (are-two (Spine h ts) ts q i)) e (told b (are_two ts) d)

pub equation-head : (h : Head) (ts : Terms) → IsEquation (Spine h ts) → h ≡ eq_head (head_dom h)
unfolding head_of
equation-head h ts r = ap (head_of h) r

pub equation_no : (h : Head) (ts : Terms) (b : Bool) → Decides b (h ≡ eq_head (head_dom h)) → b ≡ false → Decides b (IsEquation (Spine h ts))
equation_no h ts b = first_no (h ≡ eq_head (head_dom h)) (IsEquation (Spine h ts)) b (equation-head h ts)

-- a head that is a constant
abbrev IsConst : Head → Type 0
IsConst h = (c : List ℕ) × ((a : Typ) × (h ≡ Const c a))

pub no-free : (x : Name) (a : Typ) → IsConst (Free x a) → ⊥
no-free x a p = let bad : Free x a ≡ Const p.0 p.1.0 = p.1.1 in cc

pub no-schematic : (x : Name) (a : Typ) → IsConst (Schematic x a) → ⊥
no-schematic x a p = let bad : Schematic x a ≡ Const p.0 p.1.0 = p.1.1 in cc

pub no-bound : (n : ℕ) → IsConst (Bound n) → ⊥
no-bound n p = let bad : Bound n ≡ Const p.0 p.1.0 = p.1.1 in cc

pub equation-const : (h : Head) (ts : Terms) → IsEquation (Spine h ts) → IsConst h
equation-const h ts r = (_, (_, equation-head h ts r))

pub quantified-const : (h : Head) (ts : Terms) → IsQuantified (Spine h ts) → IsConst h
unfolding head_of
quantified-const h ts r = (_, (_, ap (head_of h) r))

-- a predicate at a known type
pub quantified-is : (a : Typ) (p : Term) → p ≡ all a (predicate p) → IsQuantified p
unfolding dom
quantified-is a p e = e ∙ ap (λ z. all z (predicate p)) (sym (ap domain e))

pub quantified : (p : Term) (b : Bool) → Decides b ((a : Typ) × ((f : Term) × (p ≡ all a f))) → Decides b (IsQuantified p)
quantified p b d = (
  λ h. let s = d.0 h in quantified-is s.0 p (s.1.1 ∙ ap (λ f. all s.0 f) (sym (ap predicate s.1.1))),
  λ r. d.1 (domain p, (predicate p, r)),
)

pub predicate_type-is : (a : Typ) (p : Term) → p ≡ all a (predicate p) → predicate_type p ≡ fun a prop
unfolding dom
predicate_type-is a p e = ap predicate_type e

-- an equation with a known type and left side
pub begins-is : (q : Term) (a : Typ) (s : Term) → q ≡ eq a s (rhs q) → IsEquation q
unfolding dom
begins-is q a s r = r ∙ (λ i. eq (sym (ap side_type r) i) (sym (ap lhs r) i) (rhs q))

pub begins_yes : (q : Term) (a : Typ) (s : Term) (b : Bool) → IsEquation q → side_type q ≡ a → Decides b (lhs q ≡ s) → Decides b (q ≡ eq a s (rhs q))
begins_yes q a s b e f d = (λ h. e ∙ (λ i. eq (f i) (d.0 h i) (rhs q)), λ r. d.1 (ap lhs r))

pub begins_no : (q : Term) (a : Typ) (s : Term) (b : Bool) → Decides b (side_type q ≡ a) → b ≡ false → Decides b (q ≡ eq a s (rhs q))
unfolding dom
begins_no q a s b = first_no (side_type q ≡ a) (q ≡ eq a s (rhs q)) b (λ r. ap side_type r)

-- a quantified proposition and a value of the type that it binds over
pub for_all_yes : (v p : Term) (b : Bool) → IsQuantified p → Decides b (HasType no_types (domain p) v) → Decides b (CanAllElim v p)
unfolding dom
for_all_yes v p b e d =
    (λ h. let t = d.0 h in (t.0, e ∙ ap (λ z. all z (predicate p)) (sym t.1)), λ h. d.1 (h.0, sym (ap domain h.1)))

pub for_all_no : (v p : Term) (b : Bool) → Decides b (IsQuantified p) → b ≡ false → Decides b (CanAllElim v p)
for_all_no v p b = first_no (IsQuantified p) (CanAllElim v p) b (λ h. quantified-is (type_of no_types v) p h.1)

-- what isn't so isn't so for more reasons
pub not_first : (A R : Type 0) (b : Bool) → (R → A) → Decides b A → b ≡ false → Decides false R
not_first A R b out d e = (λ h. absurd (let bad : false ≡ true = h in cc), λ r. sym e ∙ d.1 (out r))

pub begins_not : (q : Term) (a : Typ) (s : Term) (b : Bool) → Decides b (IsEquation q) → b ≡ false → Decides false (q ≡ eq a s (rhs q))
begins_not q a s b = not_first (IsEquation q) (q ≡ eq a s (rhs q)) b (begins-is q a s)
