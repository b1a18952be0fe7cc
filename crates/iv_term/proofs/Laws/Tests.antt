-- What a test of a list or of a term says of its parts, for the code's answers.
use Rattle.std.proofs.Common.{◌≡◌, Bool, true, false, refl, sym, ◌∙◌, ap, subst}
use Rattle.std.specs.Bool.{Decides}
use Rattle.iv_term.specs.declared.typ.Typ.{Typ}
use Rattle.iv_term.specs.declared.typ.Types.{Types}
use Rattle.iv_term.specs.declared.typ.Types.TheVariants.{Cons as TyCons}
use Rattle.iv_term.specs.declared.typ.Typ.TheBlock.{Nil as no_types}
use Rattle.iv_term.specs.declared.term.Term.{Term}
use Rattle.iv_term.specs.declared.term.Terms.{Terms}
use Rattle.iv_term.specs.declared.term.Term.TheBlock.{Spine, Nil}
use Rattle.iv_term.specs.Typ.{ty_cons, cons_is as ty_cons_is}
use Rattle.iv_term.specs.declared.term.Head.{Head}
use Rattle.iv_term.specs.Term.{lam, tm_cons, imp, imp_head, first_or, rest_of, are_two, antecedent, consequent, IsImplication}

ty_first : Types → Typ → Typ
ty_first no_types d = d
ty_first (ty_cons t ts) d = t

ty_rest : Types → Types
ty_rest no_types = no_types
ty_rest (ty_cons t ts) = ts

ty_cons-parts : (t u : Typ) (ts us : Types) → ty_cons t ts ≡ ty_cons u us → (t ≡ u) × (ts ≡ us)
unfolding ty_first ty_rest
ty_cons-parts t u ts us e = (ap (λ xs. ty_first xs t) e, ap ty_rest e)

-- a list of types is x before y exactly where its parts are
pub types_yes : {s : Types} {f g x : Typ} {r q y : Types} {a b : Bool} → s ≡ TyCons f r → g ≡ f → q ≡ r
    → Decides a (g ≡ x) → a ≡ true → Decides b (q ≡ y) → Decides b (s ≡ ty_cons x y)
types_yes {s} {f} {g} {x} {r} {q} {y} {a} {b} is first rest da told db =
    let e : s ≡ ty_cons g q = is ∙ ty_cons_is f r ∙ (λ i. ty_cons (sym first i) (sym rest i)) in
    (λ h. e ∙ (λ i. ty_cons (da.0 told i) (db.0 h i)), λ h. db.1 (ty_cons-parts g x q y (sym e ∙ h)).1)

pub types_no : {s : Types} {f g x : Typ} (r y : Types) {a : Bool} → s ≡ TyCons f r → g ≡ f
    → Decides a (g ≡ x) → a ≡ false → Decides a (s ≡ ty_cons x y)
types_no {s} {f} {g} {x} r y {a} is first da untold =
    let e : s ≡ ty_cons g r = is ∙ ty_cons_is f r ∙ (λ i. ty_cons (sym first i) r) in
    (λ h. absurd (let bad : false ≡ true = sym untold ∙ h in cc), λ h. da.1 (ty_cons-parts g x r y (sym e ∙ h)).0)

-- two terms are the first and the second
pub are_two-parts : (d e : Term) (ts : Terms) → are_two ts ≡ true → ts ≡ tm_cons (first_or d ts) (tm_cons (first_or e (rest_of ts)) Nil)
are_two-parts d e Nil h = absurd (let bad : false ≡ true = h in cc)
are_two-parts d e (tm_cons t Nil) h = absurd (let bad : false ≡ true = h in cc)
are_two-parts d e (tm_cons t (tm_cons u Nil)) h = refl
are_two-parts d e (tm_cons t (tm_cons u (tm_cons v vs))) h = absurd (let bad : false ≡ true = h in cc)

head_of : Term → Head → Head
head_of (lam a b) d = d
head_of (Spine h ts) d = h

args_of : Term → Terms
args_of (lam a b) = Nil
args_of (Spine h ts) = ts

pub spine-parts : (h k : Head) (ts us : Terms) → Spine h ts ≡ Spine k us → (h ≡ k) × (ts ≡ us)
unfolding head_of args_of
spine-parts h k ts us e = (ap (λ t. head_of t h) e, ap args_of e)

-- a head with two arguments is an implication exactly where the head is
pub implication_yes : {s : Term} {h : Head} {ts : Terms} {a b : Bool} → s ≡ Spine h ts → Decides a (h ≡ imp_head) → a ≡ true
    → b ≡ are_two ts → Decides b (IsImplication s)
implication_yes {s} {h} {ts} {a} {b} is da told two = (
  λ t. let e = are_two-parts (Spine h ts) (Spine h ts) ts (sym two ∙ t) in
      let k : Spine h ts ≡ imp (antecedent (Spine h ts)) (consequent (Spine h ts)) = λ i. Spine (da.0 told i) (e i) in
      subst IsImplication (sym is) k,
  λ q. let k : IsImplication (Spine h ts) = subst IsImplication is q in
      let e = (spine-parts _ _ _ _ k).1 in two ∙ ap are_two e,
)

pub implication_no : {s : Term} {h : Head} {ts : Terms} {a : Bool} → s ≡ Spine h ts → Decides a (h ≡ imp_head) → a ≡ false
    → Decides a (IsImplication s)
implication_no {s} {h} {ts} {a} is da untold = (
  λ t. absurd (let bad : false ≡ true = sym untold ∙ t in cc),
  λ q. let k : IsImplication (Spine h ts) = subst IsImplication is q in da.1 (spine-parts _ _ _ _ k).0,
)

pub implication_abs : {s : Term} (a : Typ) (b : Term) → s ≡ lam a b → Decides false (IsImplication s)
implication_abs {s} a b is = (
  λ t. absurd (let bad : false ≡ true = t in cc),
  λ q. let k : IsImplication (lam a b) = subst IsImplication is q in absurd (let bad : lam a b ≡ imp (lam a b) (lam a b) = k in cc),
)
