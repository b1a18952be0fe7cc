-- Where letters and tokens stand in a document. Of this project.
use Rattle.std.specs.Prelude.{◌≡◌, ◌≤◌, ◌<◌, ℕ, List, [], ◌∷◌}
use Rattle.iv_lex.specs.declared.letters.Letter.{Letter}
use Rattle.iv_lex.specs.declared.cutting.Token.{Token}

-- letters stand one directly after another, from one place up to another
abbrev pub AreJoined : ℕ → ℕ → List Letter → Type 0
AreJoined from to [] = from ≡ to
AreJoined from to (l ∷ ls) = (l.at.0 ≡ from) × (from < l.end.0) × AreJoined l.end.0 to ls

-- tokens stand one after another, from one place up to another; none is empty, and none overlap
abbrev pub AreInOrder : ℕ → ℕ → List Token → Type 0
AreInOrder from to [] = from ≤ to
AreInOrder from to (t ∷ ts) = (from ≤ t.at.0) × (t.at.0 < t.end.0) × AreInOrder t.end.0 to ts
