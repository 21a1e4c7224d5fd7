-- A sink in memory.
use Rattle.std.specs.Prelude.{ℕ, ◌-◌, ◌≤◌, min, List, Option, Some, None}
use Rattle.std.specs.Option.{ForSome}
use Rattle.pm_io.specs.Sink.{SinkMoment}

-- the bytes that it holds, how many it has room for where that is limited, and how many writes have failed
pub record Stored : Type 0 where
  pub bytes : List ℕ
  pub room : Option ℕ
  pub faults : ℕ

-- it never takes 0 of a piece that isn't empty
abbrev pub moment_of : Stored → SinkMoment
moment_of stored = record { bytes = stored.bytes; faults = stored.faults; stalls = 0 }

-- how many bytes of a piece of this length are taken where so many are held: all, or as many as there is room for
abbrev pub count_taken : Option ℕ → ℕ → ℕ → ℕ
count_taken None held piece = piece
count_taken (Some room) held piece = min piece (room - held)

-- what a limited sink holds fits its room, and its room fits the memory that it has reserved
pub record FitsRoom (room : Option ℕ) (held capacity : ℕ) : Type 0 where
  pub within : ForSome room (λ at. held ≤ at)
  pub reserved : ForSome room (λ at. at ≤ capacity)
