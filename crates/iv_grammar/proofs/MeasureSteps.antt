-- Steps of the measuring of words.
use Rattle.std.proofs.Common.{◌≡◌, ℕ, ◌+◌, ◌<◌, suc, List, [], ◌∷◌, length, drop, refl, ap, arith, length-drop}
use Rattle.std.specs.Prelude.{true}
use Rattle.std.proofs.lemmas.List.{drop-drop}
use Rattle.iv_grammar.specs.Measure.{goes_on, name_more}

name_step : (cs : List ℕ) → 0 < length cs → goes_on cs ≡ true → name_more cs ≡ suc (name_more (drop 1 cs))
name_step [] some e = absurd (omega arith)
name_step (c ∷ cs) some e = rw e refl

-- a name that goes on at an index
pub name_at : (cs : List ℕ) (n : ℕ) → n < length cs → goes_on (drop n cs) ≡ true → n + 1 + name_more (drop (n + 1) cs) ≡ n + name_more (drop n cs)
name_at cs n h e =
    let len : 0 < length (drop n cs) = omega (arith, length-drop n cs) in
    let step : name_more (drop n cs) ≡ suc (name_more (drop 1 (drop n cs))) = name_step (drop n cs) len e in
    let same : name_more (drop 1 (drop n cs)) ≡ name_more (drop (n + 1) cs) = ap name_more (drop-drop 1 n cs) in
    omega (arith, step, same)
