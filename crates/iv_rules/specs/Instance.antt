-- Instantiation (Reference Manual, primitive inferences): types are put first, and then terms, all at once.
use Rattle.std.specs.Prelude.{◌≡◌, Bool, false, ◌||◌, is_some, [], ◌∷◌, Option, None}
use Rattle.std.specs.List.{IsDistinct}
use Rattle.std.specs.Map.{keys_of}
use Rattle.std.specs.Option.{unwrap_or}
use Rattle.std.specs.Str.{bytes_eq}
use Rattle.iv_term.specs.declared.typ.Typ.{Typ}
use Rattle.iv_term.specs.declared.typ.Types.{Types}
use Rattle.iv_term.specs.declared.typ.Typ.TheBlock.{Con, Fixed, Schematic as Variable, Nil as no_types}
use Rattle.iv_term.specs.declared.term.Head.{Head}
use Rattle.iv_term.specs.declared.term.Head.TheVariants.{Const, Free, Schematic, Bound}
use Rattle.iv_term.specs.declared.term.Term.{Term}
use Rattle.iv_term.specs.declared.term.Terms.{Terms}
use Rattle.iv_term.specs.declared.term.Term.TheBlock.{Spine, Nil}
use Rattle.iv_term.specs.Typ.{ty_cons}
use Rattle.iv_text.specs.Name.{same_name}
use Rattle.iv_term.specs.Term.{lam, tm_cons}
use Rattle.iv_term.specs.Hyps.{union}
use Rattle.iv_hsub.specs.Typing.{HasType}
use Rattle.iv_hsub.specs.Retype.{retype, retype_all}
use Rattle.iv_hsub.specs.Inst.{inst, inst_all}
use Rattle.iv_rules.specs.declared.instance.Instance.{Instance}
use Rattle.iv_rules.specs.Entries.{VarMap, same_var, fixed_at, schematic_at, term_at}

-- the type that is put for a type variable, where there is one
abbrev pub type_for : Instance → Typ → Option Typ
type_for s (Fixed a) = fixed_at s.fixed a
type_for s (Variable x) = schematic_at s.types x
type_for s a = None

-- the types of an instance as a function of type variables
abbrev pub types_of : Instance → Typ → Typ
types_of s a = unwrap_or (type_for s a) a

-- its terms as a function of heads
abbrev pub values_of : Instance → Head → Option Term
values_of s (Free x a) = term_at s.frees x a
values_of s (Schematic x a) = term_at s.schematics x a
values_of s h = None

-- a term under an instance, and some terms
abbrev pub instanced : Instance → Term → Term
instanced s t = inst (values_of s) (retype (types_of s) t)

abbrev pub instanced_all : Instance → Terms → Terms
instanced_all s ts = inst_all (values_of s) (retype_all (types_of s) ts)

-- hypotheses under an instance: those that become equal are kept once, at the first place
abbrev pub instanced_hyps : Instance → Terms → Terms
instanced_hyps s hs = union Nil (instanced_all s hs)

-- keys of one list differ
abbrev pub AreKeysApart : Instance → Type 0
AreKeysApart s = IsDistinct bytes_eq (keys_of s.fixed) × IsDistinct same_name (keys_of s.types)
    × IsDistinct same_var (keys_of s.frees) × IsDistinct same_var (keys_of s.schematics)

-- each value is a term without loose indices, of its key's type
unfoldable pub AreTyped : VarMap → Type 0
AreTyped [] = Unit {0}
AreTyped (e ∷ es) = HasType no_types e.0.1 e.1 × AreTyped es

abbrev pub AreValuesTyped : Instance → Type 0
AreValuesTyped s = AreTyped s.frees × AreTyped s.schematics

unfoldable mutual
  -- whether a type variable that an instance replaces stands in a type
  pub changes_typ : Instance → Typ → Bool
  changes_typ s (Con c ts) = changes_typs s ts
  changes_typ s (Fixed a) = is_some (type_for s (Fixed a))
  changes_typ s (Variable x) = is_some (type_for s (Variable x))

  pub changes_typs : Instance → Types → Bool
  changes_typs s no_types = false
  changes_typs s (ty_cons t ts) = changes_typ s t || changes_typs s ts

-- whether a head is a free variable that an instance replaces, or such a type variable stands in its type
abbrev pub is_changed : Instance → Head → Bool
is_changed s (Const c a) = changes_typ s a
is_changed s (Free x a) = changes_typ s a || is_some (term_at s.frees x a)
is_changed s (Schematic x a) = changes_typ s a
is_changed s (Bound n) = false

unfoldable mutual
  -- whether a type variable or a free variable that an instance replaces stands in a term
  pub changes : Instance → Term → Bool
  changes s (lam a b) = changes_typ s a || changes s b
  changes s (Spine h ts) = is_changed s h || changes_any s ts

  pub changes_any : Instance → Terms → Bool
  changes_any s Nil = false
  changes_any s (tm_cons t ts) = changes s t || changes_any s ts

-- the types and free variables that an instance replaces are in no hypothesis
abbrev pub IsFreshFor : Instance → Terms → Type 0
IsFreshFor s hs = changes_any s hs ≡ false
