-- What a call that raises answers, by what the calls that it makes answer.
use Rattle.std.proofs.Common.{◌≡◌, ℕ, suc, ◌<◌, ◌≤◌, ◌+◌, max, List, [], ◌∷◌, ◌++◌, Option, Result, Ok, Err, IsErrAnd, IfOk, IfErr, refl, sym, ◌∙◌, ap, subst, arith}
use Rattle.std.specs.Option.{unwrap_or}
use Rattle.std.proofs.Math.Nat.{le-max_left, le-max_right}
use Rattle.std.proofs.lemmas.Result.{IfOk-weaker}
use Rattle.iv_text.specs.declared.want.Want.{Want}
use Rattle.iv_text.specs.declared.want.Want.TheVariants.{Memory, Number}
use Rattle.iv_text.specs.declared.name.Name.{Name}
use Rattle.iv_term.specs.declared.typ.Typ.{Typ}
use Rattle.iv_term.specs.declared.typ.Types.{Types}
use Rattle.iv_term.specs.declared.typ.Typ.TheBlock.{Con}
use Rattle.iv_term.specs.declared.term.Head.{Head}
use Rattle.iv_term.specs.declared.term.Head.TheVariants.{Const, Free}
use Rattle.iv_term.specs.declared.term.Term.{Term}
use Rattle.iv_term.specs.declared.term.Terms.{Terms}
use Rattle.iv_term.specs.declared.term.Term.TheBlock.{Spine}
use Rattle.iv_term.specs.Typ.{ty_cons}
use Rattle.iv_term.specs.Term.{lam, tm_cons}
use Rattle.iv_variables.specs.declared.variable.Variable.{Variable}
use Rattle.iv_variables.specs.Firsts.{next_of, next_number}
use Rattle.iv_variables.proofs.Most.{next-append}

-- what a `?` hands on
pub exit : {T : Type 0} (r : Result T Want) (w : Want) (P : Type 0) → IsErrAnd r (λ y. y ≡ w) → (w ≡ Number → P) → IfErr r (λ z. z ≡ Number → P)
exit (Ok x) w P h f = tt
exit (Err e) w P h f = λ q. f (sym h ∙ q)

-- a call that lacks memory alone
pub lacks : {T : Type 0} (r : Result T Want) (P : Type 0) → IfErr r (λ w. w ≡ Memory) → IfErr r (λ w. w ≡ Number → P)
lacks (Ok x) P h = tt
lacks (Err e) P h = λ q. absurd (let bad : Memory ≡ Number = sym h ∙ q in cc)

module _ (n : ℕ) where
  pub of_first : (xs ys : List Variable) → n < next_number xs → n < next_number (xs ++ ys)
  of_first xs ys h = let e = next-append xs ys in let q = le-max_left (next_number xs) (next_number ys) in omega (arith, h, e, q)

  pub of_second : (xs ys : List Variable) → n < next_number ys → n < next_number (xs ++ ys)
  of_second xs ys h = let e = next-append xs ys in let q = le-max_right (next_number xs) (next_number ys) in omega (arith, h, e, q)

  pub at_first : (v : Variable) (vs : List Variable) → n < next_of v → n < next_number (v ∷ vs)
  unfolding next_number
  at_first v vs h = let q = le-max_left (next_of v) (next_number vs) in omega (arith, h, q)

  pub at_rest : (v : Variable) (vs : List Variable) → n < next_number vs → n < next_number (v ∷ vs)
  unfolding next_number
  at_rest v vs h = let q = le-max_right (next_of v) (next_number vs) in omega (arith, h, q)

pub con-changed : (r : Result (Option Typ) Want) (c : List ℕ) (o : Option Types) (ts us : Types)
    → IfOk r (λ n. (xs : Types) → unwrap_or n (Con c xs) ≡ Con c (unwrap_or o xs)) → unwrap_or o ts ≡ us → IfOk r (λ n. unwrap_or n (Con c ts) ≡ Con c us)
con-changed r c o ts us h e =
    IfOk-weaker r (λ n. (xs : Types) → unwrap_or n (Con c xs) ≡ Con c (unwrap_or o xs)) (λ n. unwrap_or n (Con c ts) ≡ Con c us) (λ n p. p ts ∙ ap (Con c) e) h

pub types-changed : (r : Result (Option Types) Want) (o : Option Typ) (q : Option Types) (t u : Typ) (ts us : Types)
    → IfOk r (λ n. unwrap_or n (ty_cons t ts) ≡ ty_cons (unwrap_or o t) (unwrap_or q ts)) → unwrap_or o t ≡ u → unwrap_or q ts ≡ us
    → IfOk r (λ n. unwrap_or n (ty_cons t ts) ≡ ty_cons u us)
types-changed r o q t u ts us h e f =
    IfOk-weaker r (λ n. unwrap_or n (ty_cons t ts) ≡ ty_cons (unwrap_or o t) (unwrap_or q ts)) (λ n. unwrap_or n (ty_cons t ts) ≡ ty_cons u us)
    (λ n p. p ∙ (λ i. ty_cons (e i) (f i))) h

pub const-changed : (r : Result (Option Head) Want) (c : List ℕ) (o : Option Typ) (a b : Typ)
    → IfOk r (λ n. (d : Typ) → unwrap_or n (Const c d) ≡ Const c (unwrap_or o d)) → unwrap_or o a ≡ b → IfOk r (λ n. unwrap_or n (Const c a) ≡ Const c b)
const-changed r c o a b h e =
    IfOk-weaker r (λ n. (d : Typ) → unwrap_or n (Const c d) ≡ Const c (unwrap_or o d)) (λ n. unwrap_or n (Const c a) ≡ Const c b) (λ n p. p a ∙ ap (Const c) e) h

pub free-changed : (r : Result (Option Head) Want) (x : Name) (o : Option Typ) (a b : Typ)
    → IfOk r (λ n. (d : Typ) → unwrap_or n (Free x d) ≡ Free x (unwrap_or o d)) → unwrap_or o a ≡ b → IfOk r (λ n. unwrap_or n (Free x a) ≡ Free x b)
free-changed r x o a b h e =
    IfOk-weaker r (λ n. (d : Typ) → unwrap_or n (Free x d) ≡ Free x (unwrap_or o d)) (λ n. unwrap_or n (Free x a) ≡ Free x b) (λ n p. p a ∙ ap (Free x) e) h

pub abs-changed : (r : Result (Option Term) Want) (o : Option Typ) (q : Option Term) (a c : Typ) (b u : Term)
    → IfOk r (λ n. unwrap_or n (lam a b) ≡ lam (unwrap_or o a) (unwrap_or q b)) → unwrap_or o a ≡ c → unwrap_or q b ≡ u
    → IfOk r (λ n. unwrap_or n (lam a b) ≡ lam c u)
abs-changed r o q a c b u h e f =
    IfOk-weaker r (λ n. unwrap_or n (lam a b) ≡ lam (unwrap_or o a) (unwrap_or q b)) (λ n. unwrap_or n (lam a b) ≡ lam c u) (λ n p. p ∙ (λ i. lam (e i) (f i))) h

pub spine-changed : (r : Result (Option Term) Want) (o : Option Head) (q : Option Terms) (h k : Head) (ts us : Terms)
    → IfOk r (λ n. unwrap_or n (Spine h ts) ≡ Spine (unwrap_or o h) (unwrap_or q ts)) → unwrap_or o h ≡ k → unwrap_or q ts ≡ us
    → IfOk r (λ n. unwrap_or n (Spine h ts) ≡ Spine k us)
spine-changed r o q h k ts us w e f =
    IfOk-weaker r (λ n. unwrap_or n (Spine h ts) ≡ Spine (unwrap_or o h) (unwrap_or q ts)) (λ n. unwrap_or n (Spine h ts) ≡ Spine k us)
    (λ n p. p ∙ (λ i. Spine (e i) (f i))) w

pub cons-changed : (r : Result (Option Terms) Want) (o : Option Term) (q : Option Terms) (t u : Term) (ts us : Terms)
    → IfOk r (λ n. unwrap_or n (tm_cons t ts) ≡ tm_cons (unwrap_or o t) (unwrap_or q ts)) → unwrap_or o t ≡ u → unwrap_or q ts ≡ us
    → IfOk r (λ n. unwrap_or n (tm_cons t ts) ≡ tm_cons u us)
cons-changed r o q t u ts us h e f =
    IfOk-weaker r (λ n. unwrap_or n (tm_cons t ts) ≡ tm_cons (unwrap_or o t) (unwrap_or q ts)) (λ n. unwrap_or n (tm_cons t ts) ≡ tm_cons u us)
    (λ n p. p ∙ (λ i. tm_cons (e i) (f i))) h

-- a raised number that is too large
pub at_only : (n m : ℕ) → n ≤ m → n < max (suc m) 0
at_only n m h = grind (arith, h)
