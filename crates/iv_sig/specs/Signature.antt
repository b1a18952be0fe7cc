-- What a theory declares (Reference Manual, Pure: types, constants, notations, the judgment, axioms).
use Rattle.std.specs.Prelude.{ℕ, Bool, not, ◌&&◌, ◌||◌, List, [], ◌∷◌, ◌++◌, Option, None, Some, is_some, codes, map}
use Rattle.iv_term.specs.declared.typ.Typ.{Typ}
use Rattle.iv_term.specs.declared.typ.Typ.TheBlock.{Schematic}
use Rattle.iv_term.specs.declared.term.Term.{Term}
use Rattle.iv_term.specs.Typ.{prop, fun}
use Rattle.iv_term.specs.Term.{implies}
use Rattle.iv_hsub.specs.Hhf.{all_typ}
use Rattle.iv_sig.specs.declared.fixity.Fixity.{Fixity}
use Rattle.iv_sig.specs.Fixity.{symbol_of, is_symbol, are_priorities, is_delimiter}
use Rattle.iv_sig.specs.Table.{look}

-- the declarations, each list in order
pub record Signature : Type 0 where
  -- types, each with the number of its arguments
  pub types : List (List ℕ × ℕ)
  pub consts : List (List ℕ × Typ)
  -- constants, each with how it is written
  pub notations : List (List ℕ × Fixity)
  -- the constant that is the judgment
  pub judgment : Option (List ℕ)
  pub axioms : List (List ℕ × Term)

-- the type variable of the Pure constants
abbrev pub open_a : Typ
open_a = Schematic (record { text = codes "'a"; number = 0 })

-- what there is at first: functions and propositions, and the constants ==>, !! and ==
abbrev pub pure_types : List (List ℕ × ℕ)
pure_types = (codes "fun", 2) ∷ (codes "prop", 0) ∷ []

abbrev pub pure_consts : List (List ℕ × Typ)
pure_consts = (codes "==>", implies) ∷ (codes "!!", all_typ open_a) ∷ (codes "==", fun open_a (fun open_a prop)) ∷ []

abbrev pub pure : Signature
pure = record { types = pure_types; consts = pure_consts; notations = []; judgment = None; axioms = [] }

-- the notations by their symbols
abbrev pub by_symbol : List (List ℕ × Fixity) → List (List ℕ × (List ℕ × Fixity))
by_symbol ns = map (λ e. (symbol_of e.1, e)) ns

-- a name is there: a type or a constant has it
abbrev pub is_there : Signature → List ℕ → Bool
is_there s n = is_some (look s.types n) || is_some (look s.consts n)

-- whether a name is that of a Pure constant
abbrev pub is_pure : List ℕ → Bool
is_pure n = is_some (look pure_consts n)

-- whether a constant may get a notation: it is there, is no Pure constant and has none, and symbol and priorities are in range
abbrev pub can_add_notation : Signature → List ℕ → Fixity → Bool
can_add_notation s n f = is_some (look s.consts n) && not (is_pure n) && not (is_some (look s.notations n)) && is_symbol (symbol_of f) && are_priorities f

-- whether a symbol is a delimiter, or another constant's
abbrev pub is_taken : Signature → List ℕ → Bool
is_taken s symbol = is_delimiter symbol || is_some (look (by_symbol s.notations) symbol)

-- a signature with one entry more
abbrev pub with_type : Signature → List ℕ → ℕ → Signature
with_type s n k = record { types = s.types ++ (n, k) ∷ []; consts = s.consts; notations = s.notations; judgment = s.judgment; axioms = s.axioms }

abbrev pub with_const : Signature → List ℕ → Typ → Signature
with_const s n a = record { types = s.types; consts = s.consts ++ (n, a) ∷ []; notations = s.notations; judgment = s.judgment; axioms = s.axioms }

abbrev pub with_notation : Signature → List ℕ → Fixity → Signature
with_notation s n f = record { types = s.types; consts = s.consts; notations = s.notations ++ (n, f) ∷ []; judgment = s.judgment; axioms = s.axioms }

abbrev pub with_judgment : Signature → List ℕ → Typ → Signature
with_judgment s n a = record { types = s.types; consts = s.consts ++ (n, a) ∷ []; notations = s.notations; judgment = Some n; axioms = s.axioms }

abbrev pub with_axiom : Signature → List ℕ → Term → Signature
with_axiom s n t = record { types = s.types; consts = s.consts; notations = s.notations; judgment = s.judgment; axioms = s.axioms ++ (n, t) ∷ [] }
