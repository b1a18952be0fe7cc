-- What a table of rows spells. After context-free grammars (Chomsky 1956).
use Rattle.std.specs.Prelude.{suc, ◌<◌, ◌≡◌, ◌⊎◌, List, [], ◌∷◌, ◌++◌, length, take, true}
use Rattle.iv_recogniser.specs.declared.class.Class.{Class}
use Rattle.iv_recogniser.specs.declared.class.Sort.{Sort}
use Rattle.iv_recogniser.specs.declared.part.Part.{Part}
use Rattle.iv_recogniser.specs.declared.part.Symbol.{Symbol}
use Rattle.iv_recogniser.specs.declared.part.Symbol.TheVariants.{Word, Goes}
use Rattle.iv_recogniser.specs.declared.reading.Verdict.{Verdict}
use Rattle.iv_recogniser.specs.declared.reading.Verdict.TheVariants.{Whole, Cut, Refused}
use Rattle.iv_recogniser.specs.Class.{has}

-- a table: the rows of each part
abbrev pub Grammar : Type 0
Grammar = Part → List (List Symbol)

-- x is one of the items of a list
abbrev pub IsIn : {A : Type 0} → A → List A → Type 0
IsIn x [] = ⊥
IsIn x (y ∷ ys) = (x ≡ y) ⊎ IsIn x ys

-- these symbols spell these classes: a token one of its set, a part what one of its rows spells
pub data Spells (g : Grammar) : List Symbol → List Class → Type 0 where
  none : Spells g [] []
  word : {k : Sort} {c : Class} {s : List Symbol} {cs : List Class} → has k c ≡ true → Spells g s cs → Spells g (Word k ∷ s) (c ∷ cs)
  part : {p : Part} {s : List Symbol} {cs : List Class} (r : List Symbol) → IsIn r (g p) → Spells g (r ++ s) cs → Spells g (Goes p ∷ s) cs

-- these classes begin something that the symbols spell
abbrev pub IsViable : Grammar → List Symbol → List Class → Type 0
IsViable g s cs = (more : List Class) × Spells g s (cs ++ more)

-- what a verdict says of some classes
abbrev pub Judged : Grammar → List Symbol → List Class → Verdict → Type 0
Judged g s cs Whole = Spells g s cs
Judged g s cs Cut = (Spells g s cs → ⊥) × IsViable g s cs
Judged g s cs (Refused k) = (k < length cs) × IsViable g s (take k cs) × (IsViable g s (take (suc k) cs) → ⊥)
