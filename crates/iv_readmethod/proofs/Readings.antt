-- Parts of methods as they are read, with their levels and the places of facts that are too deep.
use Rattle.std.proofs.Common.{◌≡◌, ℕ, zero, suc, ◌+◌, ◌<◌, ◌≤◌, max, Bool, true, false, List, [], ◌∷◌, ◌++◌, refl, ◌∙◌, ap, ap₂, arith, add-one}
use Rattle.std.specs.Prelude.{Option, Some, None, nat_lt}
use Rattle.std.proofs.Math.Nat.{le-max_right}
use Rattle.std.proofs.lemmas.Bool.Decides.{nat_tests}
use Rattle.iv_text.specs.declared.Pos.{Pos}
use Rattle.iv_recogniser.specs.declared.class.Sort.TheVariants as sort
use Rattle.iv_forms.specs.declared.method.MethodText.{MethodText}
use Rattle.iv_forms.specs.declared.lexeme.Lexeme.{Lexeme}
use Rattle.iv_readmethod.specs.declared.levelled.Levelled.{Levelled}
use Rattle.iv_readmethod.specs.declared.levelled.Join.{Join}
use Rattle.iv_facts.specs.Found.{Found, got, deep, then_, place_of, begins, behind}
use Rattle.iv_facts.specs.FactLevels.{first_of}
use Rattle.iv_readmethod.specs.Methods.{flat, mapped, both, more, raised, joins, between, joined, alt, inside}

-- y is the part x with so many levels; where no fact in it is too deep, it is x itself
pub record Holds {A : Type 0} (n : ℕ) (o : Option Pos) (x : A) (y : Levelled A) : Type 0 where
  pub levels : y.levels ≡ n
  pub deep : y.deep ≡ o
  pub value : o ≡ None → y.value ≡ x

first_none : (o p : Option Pos) → first_of o p ≡ None → (o ≡ None) × (p ≡ None)
first_none None p e = (refl, e)
first_none (Some q) p e = cc

pub first_with : (o : Option Pos) → first_of o None ≡ o
first_with None = refl
first_with (Some p) = refl

pub first_assoc : (o p q : Option Pos) → first_of (first_of o p) q ≡ first_of o (first_of p q)
first_assoc None p q = refl
first_assoc (Some r) p q = refl

pub holds_flat : {A : Type 0} (x : A) → Holds 0 None x (flat x)
holds_flat x = record { levels = refl; deep = refl; value = λ e. refl }

pub holds_mapped : {A B : Type 0} (f : A → B) {n : ℕ} {o : Option Pos} {x : A} {y : Levelled A} → Holds n o x y → Holds n o (f x) (mapped f y)
holds_mapped f h = record { levels = h.levels; deep = h.deep; value = λ e. ap f (h.value e) }

pub holds_both : {A B C : Type 0} (f : A → B → C) {n m : ℕ} {o p : Option Pos} {x : A} {y : Levelled A} {z : B} {w : Levelled B}
    → Holds n o x y → Holds m p z w → Holds (max n m) (first_of o p) (f x z) (both f y w)
holds_both f {o = o} {p = p} h k = record {
  levels = ap₂ max h.levels k.levels;
  deep = ap₂ first_of h.deep k.deep;
  value = λ e. ap₂ f (h.value (first_none o p e).0) (k.value (first_none o p e).1);
}

-- so many levels are left: a part that needs no more is read, else it is too deep
pub data Reads {A : Type 0} (left need n : ℕ) (o : Option Pos) (x : A) (us : List Lexeme) (f : Found (Levelled A)) : Type 0 where
  fits : (y : Levelled A) → need ≤ left → Holds n o x y → f ≡ got y us → Reads left need n o x us f
  exceeds : left < need → (p : Pos) → f ≡ deep p → Reads left need n o x us f

-- what is read next
pub next_reads : {A B : Type 0} {left need n more m : ℕ} {o q : Option Pos} {x : A} {z : B} {us vs : List Lexeme} {f : Found (Levelled A)} (next : Levelled A → List Lexeme → Found (Levelled B))
    → Reads left need n o x us f → need ≤ more → ((y : Levelled A) → need ≤ left → Holds n o x y → Reads left more m q z vs (next y us)) → Reads left more m q z vs (then_ f next)
unfolding then_
next_reads next (fits y b h e) l k = rw e (k y b h)
next_reads next (exceeds b p e) l k = exceeds (omega (arith, b, l)) p (rw e refl)

raised_by : {A : Type 0} {left n : ℕ} {o : Option Pos} {x : A} {y : Levelled A} (us : List Lexeme) → Holds n o x y → (t : Bool) → nat_lt y.levels left ≡ t → Reads left (suc n) (suc n) o x us (raised left y us)
unfolding raised
raised_by {left = left} {y = y} us h true e =
    let below : y.levels < left = grind (arith, nat_tests) in
    fits (record { value = y.value; levels = y.levels + 1; deep = y.deep }) (omega (arith, h.levels)) (record { levels = add-one y.levels ∙ ap suc h.levels; deep = h.deep; value = h.value }) (rw e refl)
raised_by {left = left} {y = y} us h false e =
    let above : left ≤ y.levels = grind (arith, nat_tests) in
    exceeds (omega (arith, h.levels)) (place_of us) (rw e refl)

-- one level more
pub raised_reads : {A : Type 0} {left n : ℕ} {o : Option Pos} {x : A} {y : Levelled A} (us : List Lexeme) → Holds n o x y → Reads left (suc n) (suc n) o x us (raised left y us)
raised_reads us h = raised_by us h _ refl

-- what stands inside has one level less
pub inside_reads : {n : ℕ} {o : Option Pos} {x : MethodText} {us : List Lexeme} (ts : List Lexeme) → ((left : ℕ) → Reads left n n o x us (alt (inside left) left ts)) → (left : ℕ) → Reads left (suc n) n o x us (inside left ts)
unfolding inside
inside_reads ts d zero = exceeds (omega arith) (place_of ts) refl
inside_reads {n = n} {o = o} {x = x} {us = us} ts d (suc left) =
    elim (d left) as (λ f. Reads (suc left) (suc n) n o x us (alt (inside left) left ts)) [ fits y b h e ↦ fits y (omega (arith, b)) h e | exceeds b p e ↦ exceeds (omega (arith, b)) p e ]

-- one more method of a chain
pub link : {left n k all : ℕ} {o p q : Option Pos} {x z v : MethodText} {y : Levelled MethodText} {us vs : List Lexeme} (join : Join) (part : List Lexeme → Found (Levelled MethodText)) (ts : List Lexeme) (s : Lexeme) (steps : List Lexeme)
    → begins (sort.Only (between join)) ts ≡ true → Holds n o x y → Reads left k k p z us (part (behind ts)) → suc (max n k) ≤ all
    → ((w : Levelled MethodText) → suc (max n k) ≤ left → Holds (suc (max n k)) (first_of o p) (joined join x z) w
    → Reads left all all q v vs (joins (begins (sort.Only (between join))) (λ us. part (behind us)) (λ m n us. raised left (both (joined join) m n) us) w steps us))
    → Reads left all all q v vs (joins (begins (sort.Only (between join))) (λ us. part (behind us)) (λ m n us. raised left (both (joined join) m n) us) y (s ∷ steps) ts)
unfolding joins
link {n = n} {k = k} {us = us} join part ts s steps g h r l next =
    rw g (next_reads _ r (omega (arith, le-max_right n k)) (λ w b i. next_reads _ (raised_reads us (holds_both (joined join) h i)) l next))

-- one more part of a list
pub listed : {A : Type 0} {left n k all : ℕ} {o p q : Option Pos} {xs zs : List A} {x : A} {y : Levelled (List A)} {us vs : List Lexeme} (goes : List Lexeme → Bool) (item : List Lexeme → Found (Levelled A)) (ts : List Lexeme) (s : Lexeme) (steps : List Lexeme)
    → goes ts ≡ true → Holds n o xs y → Reads left k k p x us (item ts) → k ≤ all
    → ((w : Levelled (List A)) → k ≤ left → Holds (max n k) (first_of o p) (xs ++ x ∷ []) w → Reads left all all q zs vs (joins goes item (λ xs x us. got (more xs x) us) w steps us))
    → Reads left all all q zs vs (joins goes item (λ xs x us. got (more xs x) us) y (s ∷ steps) ts)
unfolding joins then_
listed {us = us} goes item ts s steps g h r l next = rw g (next_reads _ r l (λ w b i. next _ b (holds_both (λ xs x. xs ++ x ∷ []) h i)))
