-- Parts that are read where their levels fit, and are too deep elsewhere.
use Rattle.std.proofs.Common.{◌≡◌, ℕ, zero, suc, max, ◌<◌, ◌≤◌, Bool, true, false, ◌&&◌, ◌||◌, List, refl, arith}
use Rattle.std.proofs.Math.Nat.{max-le, le-max_left, le-max_right}
use Rattle.std.proofs.lemmas.Bool.Decides.{nat_tests}
use Rattle.std.specs.Prelude.{Option, Some, None, nat_lt}
use Rattle.iv_text.specs.declared.Pos.{Pos}
use Rattle.iv_forms.specs.declared.lexeme.Lexeme.{Lexeme}
use Rattle.iv_facts.specs.Found.{Found, got, deep, then_, part_at, place_of, unless_deep}
use Rattle.iv_facts.specs.FactLevels.{limit, deep_at, first_of}

-- what is found of a value with so many levels, where so many are left
pub data Held {A : Type 0} (left levels : ℕ) (x : A) (us : List Lexeme) (f : Found A) : Type 0 where
  fits : levels ≤ left → f ≡ got x us → Held left levels x us f
  over : (p : Pos) → left < levels → f ≡ deep p → Held left levels x us f

-- a value with no levels
pub plain : {A : Type 0} {left : ℕ} {x : A} {us : List Lexeme} {f : Found A} → f ≡ got x us → Held left 0 x us f
plain e = fits (omega arith) e

-- two parts one behind the other
pub both : {A B : Type 0} {left a b : ℕ} {x : A} {y : B} {us vs : List Lexeme} {f : Found A} (next : A → List Lexeme → Found B) → Held left a x us f → Held left b y vs (next x us)
    → Held left (max a b) y vs (then_ f next)
unfolding then_
both next (fits h e) (fits k g) = fits (max-le h k) (rw e g)
both {a = a} {b = b} next (fits h e) (over p k g) = over p (omega (arith, k, le-max_right a b)) (rw e g)
both {a = a} {b = b} next (over p h e) k = over p (omega (arith, h, le-max_left a b)) (rw e refl)

-- behind a part comes what has no levels
pub after : {A B : Type 0} {left a : ℕ} {x : A} {y : B} {us vs : List Lexeme} {f : Found A} (next : A → List Lexeme → Found B) → Held left a x us f → next x us ≡ got y vs → Held left a y vs (then_ f next)
unfolding then_
after next (fits h e) g = fits h (rw e g)
after next (over p h e) g = over p h (rw e refl)

-- the same value, written in another way
pub same_value : {A : Type 0} {left a : ℕ} {x y : A} {us : List Lexeme} {f : Found A} → x ≡ y → Held left a x us f → Held left a y us f
same_value e h = rw (← e) h

-- one level more, where one more is left
pub one_up : {A : Type 0} {left a : ℕ} {x : A} {us : List Lexeme} {f : Found A} → Held left a x us f → Held (suc left) (suc a) x us f
one_up (fits h e) = fits (omega (arith, h)) e
one_up (over p h e) = over p (omega (arith, h)) e

-- no level is left
pub none_left : {A : Type 0} {a : ℕ} {x : A} {us : List Lexeme} (ts : List Lexeme) → Held zero (suc a) x us (deep (place_of ts))
none_left ts = over (place_of ts) (omega arith) refl

-- a part with a limit of its own
pub limited : {A : Type 0} {levels : ℕ} {x : A} {us : List Lexeme} {f : Found A} (ts : List Lexeme) → Held limit levels x us f → part_at ts f ≡ unless_deep (deep_at ts levels) x us
unfolding part_at
limited {levels = n} ts (fits h e) =
    let t : nat_lt limit n ≡ false = grind (arith, nat_tests) in
    rw (e, t) refl
limited {levels = n} ts (over p h e) =
    let t : nat_lt limit n ≡ true = grind (arith, nat_tests) in
    rw (e, t) refl

-- what comes behind a part that may be too deep
pub then_unless : {A B : Type 0} (p q : Option Pos) (x : A) (y : B) (us vs : List Lexeme) {f : Found A} (next : A → List Lexeme → Found B) → f ≡ unless_deep p x us → next x us ≡ unless_deep q y vs
    → then_ f next ≡ unless_deep (first_of p q) y vs
unfolding then_
then_unless None q x y us vs next e g = rw e g
then_unless (Some p) q x y us vs next e g = rw e refl

-- and nothing in it is
pub then_got : {A B : Type 0} (p : Option Pos) (x : A) (y : B) (us vs : List Lexeme) {f : Found A} (next : A → List Lexeme → Found B) → f ≡ unless_deep p x us → next x us ≡ got y vs
    → then_ f next ≡ unless_deep p y vs
unfolding then_
then_got None x y us vs next e g = rw e g
then_got (Some p) x y us vs next e g = rw e refl

pub no_and : (b : Bool) {c : Bool} → c ≡ false → (b && c) ≡ false
no_and true e = e
no_and false e = refl

pub or_so : (b : Bool) {c : Bool} → c ≡ true → (b || c) ≡ true
or_so true e = refl
or_so false e = e
