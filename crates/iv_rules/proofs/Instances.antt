-- Propositions under an instance.
use Rattle.std.proofs.Common.{◌≡◌, Bool, true, false, ◌&&◌, Option, Some, [], ◌∷◌, refl, subst}
use Rattle.std.specs.Prelude.{if◌then◌else◌}
use Rattle.std.proofs.lemmas.Bool.{and_parts}
use Rattle.iv_text.specs.declared.name.Name.{Name}
use Rattle.iv_term.specs.declared.typ.Typ.{Typ}
use Rattle.iv_term.specs.declared.typ.Typ.TheBlock.{Nil as no_types}
use Rattle.iv_term.specs.declared.term.Head.{Head}
use Rattle.iv_term.specs.declared.term.Head.TheVariants.{Const, Free, Schematic, Bound}
use Rattle.iv_term.specs.declared.term.Term.{Term}
use Rattle.iv_term.specs.declared.term.Terms.{Terms}
use Rattle.iv_term.specs.declared.term.Term.TheBlock.{Spine, Nil}
use Rattle.iv_term.specs.Typ.{prop, same_typ}
use Rattle.iv_text.specs.Name.{same_name}
use Rattle.iv_term.specs.Term.{lam, tm_cons}
use Rattle.iv_term.proofs.Laws.Same.{same_typ-true}
use Rattle.iv_hsub.specs.Typing.{HasType}
use Rattle.iv_hsub.specs.Retype.{map_typ, map_typs, retype, retype_all}
use Rattle.iv_hsub.specs.Inst.{inst_all, HeadVars, Vars, AllVars, Fits}
use Rattle.iv_hsub.specs.Laws.{RetypeKeepsTypes, InstKeepsTypes}
use Rattle.iv_rules.specs.declared.instance.Instance.{Instance}
use Rattle.iv_rules.specs.Entries.{VarMap, same_var, term_at}
use Rattle.iv_rules.specs.Instance.{types_of, values_of, instanced_all, AreTyped, AreValuesTyped}
use Rattle.iv_rules.specs.Sequent.{AreProps}
use Rattle.iv_rules.specs.Steps.{InstancedIsProp, InstancedAreProps}
use Rattle.iv_rules.proofs.Hyps.{union-props}

-- what is put for a variable has its type
entry-fits : (y x : Name) (b a : Typ) (v : Term) (o : Option Term) (c : Bool) → (same_name y x && same_typ b a) ≡ c → HasType no_types b v → Fits o a
    → Fits (if c then Some v else o) a
entry-fits y x b a v o false e h f = f
entry-fits y x b a v o true e h f =
    let p = and_parts (same_name y x) (same_typ b a) e in subst (λ z. HasType no_types z v) (same_typ-true b a p.1) h

at-fits : (es : VarMap) (x : Name) (a : Typ) → AreTyped es → Fits (term_at es x a) a
unfolding AreTyped
at-fits [] x a h = tt
at-fits (e ∷ es) x a h = entry-fits e.0.0 x e.0.1 a e.1 (term_at es x a) (same_var e.0 (x, a)) refl h.0 (at-fits es x a h.1)

value-fits : (s : Instance) → AreValuesTyped s → (h : Head) → HeadVars (λ k a. Fits (values_of s k) a) h
value-fits s w (Const c a) = tt
value-fits s w (Free x a) = at-fits s.frees x a w.0
value-fits s w (Schematic x a) = at-fits s.schematics x a w.1
value-fits s w (Bound n) = tt

mutual
  values-fit : (s : Instance) → AreValuesTyped s → (t : Term) → Vars (λ k a. Fits (values_of s k) a) t
  values-fit s w (lam a b) = values-fit s w b
  values-fit s w (Spine h ts) = (value-fits s w h, all-fit s w ts)

  all-fit : (s : Instance) → AreValuesTyped s → (ts : Terms) → AllVars (λ k a. Fits (values_of s k) a) ts
  all-fit s w Nil = tt
  all-fit s w (tm_cons t ts) = (values-fit s w t, all-fit s w ts)

module _ (types : RetypeKeepsTypes) (values : InstKeepsTypes) where
  pub instanced-prop : InstancedIsProp
  unfolding map_typ map_typs
  instanced-prop s t w h =
      values (values_of s) no_types prop (retype (types_of s) t) (values-fit s w (retype (types_of s) t)) (types (types_of s) no_types prop t h)

  all-props : (s : Instance) (hs : Terms) → AreValuesTyped s → AreProps hs → AreProps (instanced_all s hs)
  unfolding AreProps inst_all retype_all
  all-props s Nil w h = tt
  all-props s (tm_cons t ts) w h = (instanced-prop s t w h.0, all-props s ts w h.1)

  pub instanced-props : InstancedAreProps
  unfolding AreProps
  instanced-props s hs w h = union-props (instanced_all s hs) Nil tt (all-props s hs w h)
