-- Where no form can go on with a piece. Of this project.
use Rattle.std.specs.Prelude.{◌≡◌, ◌⊎◌, ℕ, zero, suc, List, [], ◌∷◌}
use Rattle.iv_text.specs.declared.Pos.{Pos}
use Rattle.iv_forms.specs.declared.lexeme.Lexeme.{Lexeme}
use Rattle.iv_forms.specs.Readable.{IsReadable, IsOpen, IsRefusedAt}

-- where the token at an index begins
abbrev pub place_at : ℕ → List Lexeme → Pos
place_at k [] = record { 0 = 0 }
place_at zero (t ∷ ts) = t.token.at
place_at (suc k) (t ∷ ts) = place_at k ts

-- where the last token ends
abbrev pub end_of : List Lexeme → Pos
end_of [] = record { 0 = 0 }
end_of (t ∷ []) = t.token.end
end_of (t ∷ u ∷ ts) = end_of (u ∷ ts)

-- no form reads the tokens: at this place is the first token that no form can go on with, or they end there and are the beginning of some that a form reads
abbrev pub IsUnreadableAt : Pos → List Lexeme → Type 0
IsUnreadableAt p ts = ((k : ℕ) × IsRefusedAt k ts × (p ≡ place_at k ts)) ⊎ ((IsReadable ts → ⊥) × IsOpen ts × (p ≡ end_of ts))
