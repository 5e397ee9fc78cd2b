-- Sources and sinks over memory, as contracts see them. The calls of each are numbered from 1; at the end of its type, 2 ^ 64 - 1, that number
-- stands still, as the count of faults does.
use Rattle.std.specs.Prelude.{◌≡◌, ℕ, ◌<◌, List, length, Contains}
use Rattle.ntx_io.specs.Outside.{next_count}

-- what is left of a source's bytes, the calls made so far, the numbers of the calls that fail, the faults so far
pub record SourceState : Type 0 where
  pub left : List ℕ
  pub calls : ℕ
  pub fails : List ℕ
  pub faults : ℕ

-- what a sink has taken, how many bytes there is room for in all, the calls made so far, the numbers of the calls that fail, the faults so far
pub record SinkState : Type 0 where
  pub taken : List ℕ
  pub room : ℕ
  pub calls : ℕ
  pub fails : List ℕ
  pub faults : ℕ

-- The next call is one of those that fail.
abbrev pub FailsNext : List ℕ → ℕ → Type 0
FailsNext fails calls = Contains fails (next_count calls)

-- There is no room left, and a piece has bytes.
abbrev pub IsFullFor : SinkState → List ℕ → Type 0
IsFullFor sink piece = (length sink.taken ≡ sink.room) × (0 < length piece)
