-- What is known of some tokens, in words of the forms.
use Rattle.std.specs.Prelude.{ℕ, suc, ◌<◌, List, [], ◌++◌, length, take}
use Rattle.iv_recogniser.specs.declared.reading.Verdict.{Verdict}
use Rattle.iv_recogniser.specs.declared.reading.Verdict.TheVariants.{Whole, Cut, Refused}
use Rattle.iv_forms.specs.declared.lexeme.Lexeme.{Lexeme}
use Rattle.iv_forms.specs.declared.command.Body.{Body}
use Rattle.iv_forms.specs.CommandForm.{IsForm}

-- a form reads all of the tokens
abbrev pub IsReadable : List Lexeme → Type 0
IsReadable ts = (f : Body) × IsForm f ts []

-- the tokens begin some that a form reads
abbrev pub IsOpen : List Lexeme → Type 0
IsOpen ts = (more : List Lexeme) × IsReadable (ts ++ more)

-- no form goes on with the token at index k, and the tokens before it begin some that a form reads
abbrev pub IsRefusedAt : ℕ → List Lexeme → Type 0
IsRefusedAt k ts = (k < length ts) × IsOpen (take k ts) × (IsOpen (take (suc k) ts) → ⊥)

-- what a verdict says of some tokens
abbrev pub IsVerdict : List Lexeme → Verdict → Type 0
IsVerdict ts Whole = IsReadable ts
IsVerdict ts Cut = (IsReadable ts → ⊥) × IsOpen ts
IsVerdict ts (Refused k) = IsRefusedAt k ts
