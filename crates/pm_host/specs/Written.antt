-- What a writer took.
use Rattle.std.specs.Prelude.{◌≡◌, ℕ, List, [], ◌∷◌, ◌++◌, Bool, true, false, Option, Some, None}
use Rattle.std.specs.Io.KnownBytes.{Appends}
use Rattle.pm_io.specs.Calls.{Call, Begin, Read}
use Rattle.pm_io.specs.Given.{given}

-- the bytes that its writes took, in order, whether one failed or took 0, and the bytes that it holds, if it shows them
pub record Written : Type 0 where
  pub bytes : List ℕ
  pub broken : Bool
  pub held : Option (List ℕ)

-- whether a call failed or took 0
abbrev pub is_broken : List Call → Bool
is_broken [] = false
is_broken (Begin name answer ∷ calls) = is_broken calls
is_broken (Read id None ∷ calls) = true
is_broken (Read id (Some []) ∷ calls) = true
is_broken (Read id (Some (byte ∷ bytes)) ∷ calls) = is_broken calls

-- its writes are logged as reads are, under the number 0
abbrev pub written_of : List Call → Option (List ℕ) → Written
written_of calls held = record { bytes = given 0 calls; broken = is_broken calls; held = held }

-- these bytes were handed to a writer, and nothing else
pub record Hands (bytes : List ℕ) (old new : Written) : Type 0 where
  pub bytes_of : new.bytes ≡ old.bytes ++ bytes
  pub held : Appends old.held new.held bytes
  pub still : old.broken ≡ true → new.broken ≡ true
