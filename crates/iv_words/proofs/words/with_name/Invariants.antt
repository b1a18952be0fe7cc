use Rattle.std.proofs.Common.{◌≡◌, ◌∷◌, map, take, codes}
use Rattle.std.specs.Prelude.{string_bytes}
use Rattle.iv_words.proofs.words.with_name.Given as goal

abbrev pub invariant-loop-word : goal.invariant-loop-word
invariant-loop-word l = map (λ s. s.now) l.line.items ≡ codes "isarvm" ∷ map string_bytes (take l.word-index l.words)
