-- Which calls a reading of a named input makes between two moments.
use Rattle.std.specs.Prelude.{◌≡◌, ℕ, List, [], ◌∷◌, ◌++◌, false, Result, Ok, Err}
use Rattle.pm_base.specs.declared.errors.NoMemory.{NoMemory}
use Rattle.pm_io.specs.Calls.{Call, GoesOn, GoesToFault, GoesUpTo, Named, ReadsEach, ReadsOn, ReadsToFault}
use Rattle.pm_io.specs.Inputs.{Moment}
use Rattle.pm_io.specs.Prefix.{Prefix}
use Rattle.pm_io.specs.declared.prefix.StopReason.{StopReason}
use Rattle.pm_io.specs.declared.prefix.StopReason.TheVariants.{End, Limit, Failure, Unbegun}

-- between two moments just these calls were made, of which this holds
pub record Meanwhile (before after : Moment) (Are : List Call → Type 0) : Type 0 where
  pub calls : List Call
  pub logged : after.calls ≡ before.calls ++ calls
  pub are : Are calls

-- what is left under a number is read, by how it ended: to its end or the last byte that may be taken, or up to a read
-- that failed
abbrev pub LeftReadBy : StopReason → ℕ → ℕ → List Call → Type 0
LeftReadBy End id left calls = GoesOn id left false calls
LeftReadBy Limit id left calls = GoesOn id left false calls
LeftReadBy Failure id left calls = GoesToFault id left false calls
LeftReadBy Unbegun id left calls = ⊥

-- the same by the result: where memory is wanted, up to somewhere
abbrev pub LeftRead : Result Prefix NoMemory → ℕ → ℕ → List Call → Type 0
LeftRead (Ok prefix) id left calls = LeftReadBy prefix.stop id left calls
LeftRead (Err starved) id left calls = GoesUpTo id left false calls

-- a name is begun and read, by how it ended: whole, or up to a call that failed
abbrev pub NameReadBy : StopReason → Named → List Call → Type 0
NameReadBy End n calls = ReadsEach (n ∷ []) calls
NameReadBy Limit n calls = ReadsEach (n ∷ []) calls
NameReadBy Failure n calls = ReadsToFault (n ∷ []) calls
NameReadBy Unbegun n calls = ReadsToFault (n ∷ []) calls

-- the same by the result: where memory is wanted, up to somewhere
abbrev pub NameRead : Result Prefix NoMemory → Named → List Call → Type 0
NameRead (Ok prefix) n calls = NameReadBy prefix.stop n calls
NameRead (Err starved) n calls = ReadsOn (n ∷ []) calls
