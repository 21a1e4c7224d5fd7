-- One input in memory, which stands under every name.
use Rattle.std.specs.Prelude.{◌≡◌, ℕ, ◌==◌, if◌then◌else◌, true, List, Option, Some, None, IfSome}
use Rattle.pm_io.specs.Calls.{Call, is_answered}
use Rattle.pm_io.specs.Inputs.{File, Input, Moment, nothing}

-- its bytes, the place of the next one that is read, where it was begun, and the calls
pub record OneContent : Type 0 where
  pub bytes : List ℕ
  pub place : Option ℕ
  pub calls : List Call

-- if it stands at a place, it was begun under the number 0
abbrev pub WasBegun : Option ℕ → List Call → Type 0
WasBegun place calls = IfSome place (λ _. is_answered 0 calls ≡ true)

-- how many inputs it tells that can still be begun
abbrev pub always_room : ℕ
always_room = 16

-- no read of it fails
abbrev pub file_with : List ℕ → File
file_with bytes = record { bytes = bytes; fails_at = None }

-- the place at which an input that is read under a number stands: the number is 0
abbrev pub place_under : ℕ → Option ℕ → Option ℕ
place_under id place = if id == 0 then place else None

-- what stands at a place of these bytes. The name is not shown, since it may be any
abbrev pub input_at : List ℕ → Option ℕ → Input
input_at bytes None = nothing
input_at bytes (Some place) = record { name = None; file = file_with bytes; place = place }

-- what it shows
abbrev pub moment_of : OneContent → Moment
moment_of held = record {
  file = λ name. Some (file_with held.bytes);
  room = always_room;
  input = λ id. input_at held.bytes (place_under id held.place);
  faults = 0;
  calls = held.calls;
}
