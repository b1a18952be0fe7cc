-- Sources and sinks in memory, of this project.
use Rattle.std.specs.Prelude.{ℕ, ◌-◌, ◌+◌, ◌<◌, ◌≤◌, ◌⊎◌, min, List, length, Contains}

-- a source in memory: the bytes still to be read, the most that a call gives, the numbers of the calls
-- that fail (from 1, each at most last_count), and how many calls, bytes and faults were counted
pub record Feed : Type 0 where
  pub left : List ℕ
  pub piece : ℕ
  pub fails : List ℕ
  pub calls : ℕ
  pub taken : ℕ
  pub faults : ℕ

-- the next call fails, since its number is listed; past last_count, where `calls` stays, none is
abbrev pub FailsNext : List ℕ → ℕ → Type 0
FailsNext fails calls = Contains fails (calls + 1)

-- how many bytes a call gives that has room for n
abbrev pub gives : Feed → ℕ → ℕ
gives s n = min (min s.piece n) (length s.left)

-- a sink in memory: the bytes written, the most that it holds and that a call takes, the numbers of the
-- calls that fail, and how many calls and faults there were
pub record Tray : Type 0 where
  pub written : List ℕ
  pub capacity : ℕ
  pub piece : ℕ
  pub fails : List ℕ
  pub calls : ℕ
  pub faults : ℕ

-- how many bytes a call takes that is offered n
abbrev pub takes : Tray → ℕ → ℕ
takes s n = min (min s.piece n) (s.capacity - length s.written)

-- the next call, which is offered n bytes, fails: its number is listed, or nothing fits
abbrev pub RefusesNext : Tray → ℕ → Type 0
RefusesNext s n = FailsNext s.fails s.calls ⊎ ((0 < n) × (s.capacity ≤ length s.written))
