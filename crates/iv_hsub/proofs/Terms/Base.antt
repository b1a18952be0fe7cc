-- Cases on tests, types joined to bounds, induction on types of functions.
use Rattle.std.proofs.Common.{◌≡◌, ℕ, zero, suc, ◌+◌, ◌<◌, ◌≤◌, Bool, true, false, ◌⊎◌, inl, inr, nat_lt, nat_eq, refl, ap, subst, arith, add-suc, suc-add}
use Rattle.std.proofs.lemmas.Bool.{lt-ltb, le-ltb, ltb-true, ltb-false, eq-eqb, ne_eqb}
use Rattle.iv_term.specs.declared.typ.Typ.{Typ}
use Rattle.iv_term.specs.declared.typ.Types.{Types}
use Rattle.iv_term.specs.declared.typ.Typ.TheBlock.{Con, Fixed, Schematic, Nil}
use Rattle.iv_term.specs.Typ.{fun, ty_cons}
use Rattle.iv_hsub.specs.Typing.{dom, cod, types_len, type_at, join}

-- two numbers in their order, with what the tests say
pub lt_cases : (n c : ℕ) → ((n < c) × (nat_lt n c ≡ true)) ⊎ ((c ≤ n) × (nat_lt n c ≡ false))
lt_cases n c = go (nat_lt n c) refl
  where
    go : (b : Bool) → nat_lt n c ≡ b → ((n < c) × (nat_lt n c ≡ true)) ⊎ ((c ≤ n) × (nat_lt n c ≡ false))
    go true e = inl (ltb-true n c e, e)
    go false e = inr (ltb-false n c e, e)

pub lt_true : (n c : ℕ) → n < c → nat_lt n c ≡ true
lt_true n c h = lt-ltb n c h

pub lt_false : (n c : ℕ) → c ≤ n → nat_lt n c ≡ false
lt_false n c h = le-ltb n c h

pub eq_true : (n k : ℕ) → n ≡ k → nat_eq n k ≡ true
eq_true n k h = eq-eqb n k h

pub eq_false : (n k : ℕ) → (n ≡ k → ⊥) → nat_eq n k ≡ false
eq_false n k h = ne_eqb n k h

pub types_len-join : (es bs : Types) → types_len (join es bs) ≡ types_len es + types_len bs
unfolding join types_len
types_len-join Nil bs = omega arith
types_len-join (ty_cons a es) bs = let e = types_len-join es bs in omega (arith, e)

pub type_at-low : (es ms bs : Types) (n : ℕ) → n < types_len es → type_at (join es (join ms bs)) n ≡ type_at (join es bs) n
unfolding join types_len type_at
type_at-low Nil ms bs n h = absurd (omega (arith, h))
type_at-low (ty_cons a es) ms bs zero h = refl
type_at-low (ty_cons a es) ms bs (suc n) h = type_at-low es ms bs n (omega (arith, h))

type_at-behind : (ms bs : Types) (n : ℕ) → type_at (join ms bs) (n + types_len ms) ≡ type_at bs n
unfolding join types_len type_at
type_at-behind Nil bs n = let e : n + 0 ≡ n = omega arith in rw e refl
type_at-behind (ty_cons a ms) bs n = rw add-suc (type_at-behind ms bs n)

pub type_at-high : (es ms bs : Types) (n : ℕ) → types_len es ≤ n → type_at (join es (join ms bs)) (n + types_len ms) ≡ type_at (join es bs) n
unfolding join types_len type_at
type_at-high Nil ms bs n h = type_at-behind ms bs n
type_at-high (ty_cons a es) ms bs zero h = absurd (omega (arith, h))
type_at-high (ty_cons a es) ms bs (suc n) h = rw suc-add (type_at-high es ms bs n (omega (arith, h)))

pub type_at-here : (es bs : Types) (a : Typ) → type_at (join es (ty_cons a bs)) (types_len es) ≡ a
unfolding join types_len type_at
type_at-here Nil bs a = refl
type_at-here (ty_cons b es) bs a = type_at-here es bs a

-- the parts of a type of functions
pub fun-parts : (a b c d : Typ) → fun a b ≡ fun c d → (a ≡ c) × (b ≡ d)
unfolding dom cod
fun-parts a b c d e = (ap dom e, ap cod e)

args_len : Typ → ℕ
unfolding types_len
args_len (Con c rest) = types_len rest
args_len a = 5

pub cod-fun : (a b : Typ) → cod (fun a b) ≡ b
unfolding cod
cod-fun a b = refl

-- what holds of a type where it holds of the parts that it has as a type of functions holds of every type
pub fun_induction : (P : Typ → Type 0) → ((a : Typ) → ((x y : Typ) → a ≡ fun x y → P x × P y) → P a) → (a : Typ) → P a
unfolding args_len dom cod types_len
fun_induction P step (Con c (ty_cons a (ty_cons b Nil))) =
    step (Con c (ty_cons a (ty_cons b Nil))) (λ x y e. (subst P (ap dom e) (fun_induction P step a), subst P (ap cod e) (fun_induction P step b)))
fun_induction P step (Con c Nil) = step (Con c Nil) (λ x y e. absurd (let bad : 0 ≡ 2 = ap args_len e in cc))
fun_induction P step (Con c (ty_cons a Nil)) = step (Con c (ty_cons a Nil)) (λ x y e. absurd (let bad : 1 ≡ 2 = ap args_len e in cc))
fun_induction P step (Con c (ty_cons a (ty_cons b (ty_cons d rest)))) =
    step (Con c (ty_cons a (ty_cons b (ty_cons d rest)))) (λ x y e. absurd (let bad : suc (suc (suc (types_len rest))) ≡ 2 = ap args_len e in omega (arith, bad)))
fun_induction P step (Fixed c) = step (Fixed c) (λ x y e. absurd (let bad : 5 ≡ 2 = ap args_len e in cc))
fun_induction P step (Schematic c) = step (Schematic c) (λ x y e. absurd (let bad : 5 ≡ 2 = ap args_len e in cc))
