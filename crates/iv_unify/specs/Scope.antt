-- Scopes of schematic variables: each name with a number below some number has one type (of this project). A substitution leads from the scope
-- of the terms that it is applied to to that of its results.
use Rattle.std.specs.Prelude.{◌≡◌, ℕ, ◌<◌, ◌≤◌, [], Some, None}
use Rattle.iv_text.specs.declared.name.Name.{Name}
use Rattle.iv_term.specs.declared.typ.Typ.{Typ}
use Rattle.iv_term.specs.declared.typ.Types.{Types}
use Rattle.iv_term.specs.declared.typ.Typ.TheBlock.{Nil as no_types}
use Rattle.iv_term.specs.declared.term.Head.{Head}
use Rattle.iv_term.specs.declared.term.Head.TheVariants.{Schematic}
use Rattle.iv_term.specs.declared.term.Term.{Term}
use Rattle.iv_hsub.specs.Typing.{type_of, IsTerm, HasType}
use Rattle.iv_hsub.specs.Inst.{Vars}
use Rattle.iv_subst.specs.TySubst.{put_typ, put_typs, at}
use Rattle.iv_put.specs.Subst.{Substitution, value_of, Values, applied, CanApply, AreClosed, composed}

-- the types of the schematic variables with a number below
pub record Scope : Type 0 where
  pub typ : Name → Typ
  pub below : ℕ

abbrev pub InScope : Scope → Head → Typ → Type 0
InScope G (Schematic x a) b = (x.number < G.below) × (a ≡ G.typ x)
InScope G h b = Unit {0}

-- each schematic variable of a term is in the scope
abbrev pub Over : Scope → Term → Type 0
Over G t = Vars (InScope G) t

-- a substitution leads from one scope to another: its values are terms over the second, of the types that the first has for their variables, and
-- the variables that it leaves have these types in the second
pub record Leads (e : Substitution) (G D : Scope) : Type 0 where
  pub closed : AreClosed e.1
  pub over : Values (Over D) e.1
  pub typed : (x : Name) (v : Term) → x.number < G.below → value_of e.1 x ≡ Some v → type_of no_types v ≡ put_typ (at e.0) (G.typ x)
  pub stays : (x : Name) → x.number < G.below → value_of e.1 x ≡ None → D.typ x ≡ put_typ (at e.0) (G.typ x)
  pub grows : G.below ≤ D.below

-- over its scope a substitution can be applied, and gives terms over the other scope
abbrev pub LeadingApplies : Type 0
LeadingApplies = (e : Substitution) (G D : Scope) (t : Term) → Leads e G D → Over G t → CanApply e t

abbrev pub LeadingIsOver : Type 0
LeadingIsOver = (e : Substitution) (G D : Scope) (t : Term) → Leads e G D → Over G t → Over D (applied e t)

abbrev pub LeadingKeepsTypes : Type 0
LeadingKeepsTypes = (e : Substitution) (G D : Scope) (bs : Types) (c : Typ) (t : Term) → Leads e G D → HasType bs c t → Over G t
    → HasType (put_typs (at e.0) bs) (put_typ (at e.0) c) (applied e t)

-- one after the other is one substitution from the first scope to the last, with no other condition
abbrev pub LeadingComposes : Type 0
LeadingComposes = (e g : Substitution) (G D E : Scope) → Leads e G D → Leads g D E → Leads (composed e g) G E

abbrev pub LeadingIsBoth : Type 0
LeadingIsBoth = (e g : Substitution) (G D E : Scope) (bs : Types) (t : Term) → Leads e G D → Leads g D E → IsTerm bs t → Over G t
    → applied (composed e g) t ≡ applied g (applied e t)

-- the empty substitution leads from a scope to itself
abbrev pub NothingLeads : Type 0
NothingLeads = (G : Scope) → Leads ([], []) G G
