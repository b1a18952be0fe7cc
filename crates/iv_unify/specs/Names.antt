-- What holds of the names of schematic variables in terms, pairs and substitutions (of this project).
use Rattle.std.specs.Prelude.{◌≡◌, ℕ, ◌≤◌, Bool, true, List, [], ◌∷◌}
use Rattle.iv_text.specs.declared.name.Name.{Name}
use Rattle.iv_term.specs.declared.typ.Typ.{Typ}
use Rattle.iv_term.specs.declared.term.Head.{Head}
use Rattle.iv_term.specs.declared.term.Head.TheVariants.{Schematic}
use Rattle.iv_hsub.specs.Inst.{Vars}
use Rattle.iv_put.specs.Subst.{TermMap}
use Rattle.iv_unify.specs.declared.pair.Pair.{Pair}
use Rattle.iv_unify.specs.Laws.{EachLeaf}
use Rattle.iv_unify.specs.Unifiers.{unifiers_of}

abbrev pub Named : (Name → Type 0) → Head → Typ → Type 0
Named P (Schematic x a) b = P x
Named P h b = Unit {0}

-- it holds of the schematic variables of both sides of each pair
unfoldable pub AreNamed : (Name → Type 0) → List Pair → Type 0
AreNamed P [] = Unit {0}
AreNamed P (p ∷ ps) = (Vars (Named P) p.left × Vars (Named P) p.right) × AreNamed P ps

-- it holds of what has a value, and of the variables of each value
unfoldable pub HasNames : (Name → Type 0) → TermMap → Type 0
HasNames P [] = Unit {0}
HasNames P (e ∷ es) = (P e.0 × Vars (Named P) e.1) × HasNames P es

-- a test that each name with the first new number or a greater one passes, and each variable of the pairs, is passed by the variables of each
-- leaf; so these stand in the pairs, or have such numbers
abbrev pub LeavesKeepNames : Type 0
LeavesKeepNames = (test : Name → Bool) (depth m : ℕ) (ps : List Pair) → ((x : Name) → m ≤ x.number → test x ≡ true) → AreNamed (λ x. test x ≡ true) ps
    → EachLeaf (λ s. HasNames (λ x. test x ≡ true) s.1) (unifiers_of depth m ps)
