-- Instances whose values have their keys' types leave terms.
use Rattle.std.proofs.Common.{◌≡◌, Bool, true, false, ◌&&◌, [], ◌∷◌, Option, Some, if◌then◌else◌, refl, subst}
use Rattle.iv_text.specs.declared.name.Name.{Name}
use Rattle.iv_term.specs.declared.typ.Typ.{Typ}
use Rattle.iv_term.specs.declared.typ.Typ.TheBlock.{Nil as no_types}
use Rattle.iv_term.specs.declared.term.Head.{Head}
use Rattle.iv_term.specs.declared.term.Head.TheVariants.{Const, Free, Schematic, Bound}
use Rattle.iv_term.specs.declared.term.Term.{Term}
use Rattle.iv_term.specs.declared.term.Terms.{Terms}
use Rattle.iv_term.specs.declared.term.Term.TheBlock.{Spine, Nil}
use Rattle.iv_term.specs.Typ.{same_typ}
use Rattle.iv_text.specs.Name.{same_name}
use Rattle.iv_term.specs.Term.{lam, tm_cons}
use Rattle.iv_term.proofs.Laws.Same.{same_typ-Decides}
use Rattle.iv_hsub.specs.Typing.{HasType}
use Rattle.iv_hsub.specs.Retype.{map_typ, map_typs, retype}
use Rattle.iv_hsub.specs.Inst.{HeadVars, Vars, AllVars, Fits}
use Rattle.iv_hsub.specs.Laws.{RetypeKeepsTypes, InstKeepsTypes}
use Rattle.iv_rules.specs.declared.instance.Instance.{Instance}
use Rattle.iv_rules.specs.Entries.{VarMap, same_var, term_at}
use Rattle.iv_rules.specs.Instance.{types_of, values_of, AreTyped, AreValuesTyped}
use Rattle.iv_conclusions.specs.Laws.{InstancesKeepTypes}

second-true : (b c : Bool) → (b && c) ≡ true → c ≡ true
second-true true c e = e
second-true false c e = absurd (let bad : false ≡ true = e in cc)

-- the value of a variable has its type
fits-by : (e : (Name × Typ) × Term) (o : Option Term) (x : Name) (a : Typ) (v : Bool) → same_var e.0 (x, a) ≡ v → HasType no_types e.0.1 e.1 → Fits o a
    → Fits (if v then Some e.1 else o) a
fits-by e o x a true q p k = subst (λ b. HasType no_types b e.1) ((same_typ-Decides e.0.1 a).0 (second-true (same_name e.0.0 x) (same_typ e.0.1 a) q)) p
fits-by e o x a false q p k = k

fits-at : (m : VarMap) (x : Name) (a : Typ) → AreTyped m → Fits (term_at m x a) a
unfolding AreTyped
fits-at [] x a p = tt
fits-at (e ∷ m) x a p = fits-by e (term_at m x a) x a (same_var e.0 (x, a)) refl p.0 (fits-at m x a p.1)

module _ (s : Instance) (typed : AreValuesTyped s) where
  head-fits : (h : Head) → HeadVars (λ k a. Fits (values_of s k) a) h
  head-fits (Const c a) = tt
  head-fits (Free x a) = fits-at s.frees x a typed.0
  head-fits (Schematic x a) = fits-at s.schematics x a typed.1
  head-fits (Bound n) = tt

  mutual
    all-fit : (t : Term) → Vars (λ k a. Fits (values_of s k) a) t
    all-fit (lam a b) = all-fit b
    all-fit (Spine h ts) = (head-fits h, terms-fit ts)

    terms-fit : (ts : Terms) → AllVars (λ k a. Fits (values_of s k) a) ts
    terms-fit Nil = tt
    terms-fit (tm_cons t ts) = (all-fit t, terms-fit ts)

pub keep : RetypeKeepsTypes → InstKeepsTypes → InstancesKeepTypes
keep types values s bounds c t typed p =
    values (values_of s) (map_typs (types_of s) bounds) (map_typ (types_of s) c) (retype (types_of s) t) (all-fit s typed (retype (types_of s) t))
    (types (types_of s) bounds c t p)
