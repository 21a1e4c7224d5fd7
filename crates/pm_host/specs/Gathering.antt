-- A sink that gathers bytes and hands them on to a writer.
use Rattle.std.specs.Prelude.{◌≡◌, ◌⊎◌, ℕ, ◌+◌, ◌<◌, ◌≤◌, List, [], ◌++◌, length, take, Bool, true, false}
use Rattle.pm_host.specs.Written.{Hands, Written}
use Rattle.pm_host.specs.declared.writer.Handed.{Handed}
use Rattle.pm_host.specs.declared.writer.Handed.TheVariants.{All}
use Rattle.pm_io.specs.Sink.{SinkMoment}

-- the writer, the bytes that are gathered, all that were accepted, how many of the gathered ones came before the last piece,
-- whether a byte was lost, how many writes failed, and how many took 0 of a piece that isn't empty
pub record Gathering : Type 0 where
  pub out : Written
  pub pending : List ℕ
  pub accepted : List ℕ
  pub before : ℕ
  pub lost : Bool
  pub faults : ℕ
  pub stalls : ℕ

-- what was accepted was handed on or is gathered, in order, unless a byte was lost; and then the writer failed or took 0, as
-- it did if a write of the sink failed or took 0. What came before the last piece is among what is gathered
pub record IsSound (sink : Gathering) : Type 0 where
  pub whole : sink.lost ≡ false → sink.accepted ≡ sink.out.bytes ++ sink.pending
  pub due : sink.lost ≡ false → sink.before ≤ length sink.pending
  pub broke : (sink.lost ≡ true) ⊎ (0 < sink.faults + sink.stalls) → sink.out.broken ≡ true

-- what it shows: of every writer, the bytes that it accepted
abbrev pub moment_of : Gathering → SinkMoment
moment_of sink = record { bytes = sink.accepted; faults = sink.faults; stalls = sink.stalls }

-- what was gathered was handed on, and the writer took so many bytes of it
pub record HandsOn (old new : Gathering) (count : ℕ) (handed : Handed) : Type 0 where
  pub size : count ≤ length old.pending
  pub all : handed ≡ All → count ≡ length old.pending
  pub hands : Hands (take count old.pending) old.out new.out
  pub broke : (handed ≡ All) ⊎ (new.out.broken ≡ true)
  pub pending : new.pending ≡ []
  pub lost : old.lost ≡ true → new.lost ≡ true
  pub kept : new.lost ≡ false → (old.lost ≡ false) × (count ≡ length old.pending)
  pub accepted : new.accepted ≡ old.accepted
  pub faults : new.faults ≡ old.faults
  pub stalls : new.stalls ≡ old.stalls

-- the writer took what was accepted but for some last bytes of what is gathered, all of which are of the last piece
pub record WritesBut (old new : Gathering) : Type 0 where
  pub count : ℕ
  pub enough : old.before ≤ count
  pub accepted : old.accepted ≡ old.out.bytes ++ old.pending
  pub written : new.out.bytes ≡ old.out.bytes ++ take count old.pending
