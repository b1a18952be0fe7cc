-- What the tests of types say, for the code's answers.
use Rattle.std.proofs.Common.{◌≡◌, ℕ, zero, suc, ◌-◌, ◌<◌, ◌≤◌, Bool, IsTrue, ◌↔◌, List, Option, None, Some, MatchOption, Bor, codes, refl, ◌∙◌, ap, arith}
use Rattle.iv_term.specs.declared.typ.Typ.{Typ}
use Rattle.iv_term.specs.declared.typ.Types.{Types}
use Rattle.iv_term.specs.declared.typ.Typ.TheBlock.{Con, Nil}
use Rattle.iv_term.specs.declared.term.Head.{Head}
use Rattle.iv_term.specs.declared.term.Head.TheVariants.{Const, Free, Schematic, Bound}
use Rattle.iv_term.specs.Typ.{prop, fun, ty_cons}
use Rattle.iv_hsub.specs.Typing.{dom, cod, types_len, type_at, head_type, IsHead}

pub one_when : (r : Types) (b : Bool) → (IsTrue b ↔ (r ≡ Nil)) → (IsTrue b ↔ (suc (types_len r) ≡ 1))
unfolding types_len
one_when Nil b d = (λ h. refl, λ e. d.1 refl)
one_when (ty_cons a r) b d = (λ h. absurd (let bad : ty_cons a r ≡ Nil = d.0 h in cc), λ e. absurd (omega (arith, e)))

pub two_when : (r : Types) (b : Bool) → (IsTrue b ↔ (types_len r ≡ 1)) → (IsTrue b ↔ (suc (types_len r) ≡ 2))
two_when r b d = (λ h. ap suc (d.0 h), λ e. d.1 (omega (arith, e)))

args_of : Typ → Types
args_of (Con c r) = r
args_of a = Nil

pub fun_when : (c : List ℕ) (r : Types) (b : Bool) → c ≡ codes "fun" → (IsTrue b ↔ (types_len r ≡ 2)) → (IsTrue b ↔ (Con c r ≡ fun (dom (Con c r)) (cod (Con c r))))
unfolding types_len dom cod args_of
fun_when c Nil b e d = (λ h. absurd (let bad : 0 ≡ 2 = d.0 h in cc), λ f. d.1 (ap (λ a. types_len (args_of a)) f))
fun_when c (ty_cons x Nil) b e d = (λ h. absurd (let bad : 1 ≡ 2 = d.0 h in cc), λ f. d.1 (ap (λ a. types_len (args_of a)) f))
fun_when c (ty_cons x (ty_cons y Nil)) b e d = (λ h. ap (λ k. Con k (ty_cons x (ty_cons y Nil))) e, λ f. d.1 refl)
fun_when c (ty_cons x (ty_cons y (ty_cons z r))) b e d = (λ h. absurd (let bad : suc (suc (suc (types_len r))) ≡ 2 = d.0 h in omega (arith, bad)), λ f. d.1 (ap (λ a. types_len (args_of a)) f))

pub at_first : (a : Typ) (rest : Types) (n : ℕ) → n ≡ 0 → (n < types_len (ty_cons a rest)) × (a ≡ type_at (ty_cons a rest) n)
unfolding types_len type_at
at_first a rest n e = rw e (omega arith, refl)

at_later : (a : Typ) (rest : Types) (n : ℕ) → (n ≡ 0 → ⊥) → type_at rest (n - 1) ≡ type_at (ty_cons a rest) n
unfolding type_at
at_later a rest zero e = absurd (e refl)
at_later a rest (suc n) e = let f : suc n - 1 ≡ n = omega arith in ap (type_at rest) f

pub at_next : (r : Option (Bor Typ)) (a : Typ) (rest : Types) (n : ℕ) → (n ≡ 0 → ⊥)
    → MatchOption r (types_len rest ≤ n - 1) (λ b. (n - 1 < types_len rest) × (b.now ≡ type_at rest (n - 1)))
    → MatchOption r (types_len (ty_cons a rest) ≤ n) (λ b. (n < types_len (ty_cons a rest)) × (b.now ≡ type_at (ty_cons a rest) n))
unfolding types_len
at_next None a rest n e h = grind (arith, h, e)
at_next (Some b) a rest n e h = (grind (arith, h, e), h.1 ∙ at_later a rest n e)

-- a head without a type is an index beyond the bounds, which has type prop
type_at-none : (bs : Types) (n : ℕ) → (n < types_len bs → ⊥) → type_at bs n ≡ prop
unfolding types_len type_at
type_at-none Nil n h = refl
type_at-none (ty_cons a bs) zero h = absurd (h (omega arith))
type_at-none (ty_cons a bs) (suc n) h = type_at-none bs n (λ q. h (omega (arith, q)))

pub head_type-none : (bs : Types) (h : Head) → (IsHead bs h → ⊥) → head_type bs h ≡ prop
head_type-none bs (Const c a) q = absurd (q tt)
head_type-none bs (Free x a) q = absurd (q tt)
head_type-none bs (Schematic x a) q = absurd (q tt)
head_type-none bs (Bound n) q = type_at-none bs n q
