-- What the reads of a source gave, as its calls tell: of every source, whether or not it shows what it holds.
use Rattle.std.specs.Prelude.{◌≡◌, ℕ, ◌==◌, ◌||◌, nat_lt, if◌then◌else◌, List, [], ◌∷◌, ◌++◌, length, Bool, true, false, Some, None}
use Rattle.pm_io.specs.Calls.{Call, Begin, Read}
use Rattle.pm_io.specs.Prefix.{Prefix, unbegun}
use Rattle.pm_io.specs.declared.prefix.StopReason.{StopReason}
use Rattle.pm_io.specs.declared.prefix.StopReason.TheVariants.{End, Limit, Failure}

-- the bytes that the reads under a number gave, in order
abbrev pub given : ℕ → List Call → List ℕ
given id [] = []
given id (Begin name answer ∷ calls) = given id calls
given id (Read other None ∷ calls) = given id calls
given id (Read other (Some bytes) ∷ calls) = (if other == id then bytes else []) ++ given id calls

-- whether a read under a number told the end: it gave nothing
abbrev pub is_ended : ℕ → List Call → Bool
is_ended id [] = false
is_ended id (Begin name answer ∷ calls) = is_ended id calls
is_ended id (Read other None ∷ calls) = is_ended id calls
is_ended id (Read other (Some []) ∷ calls) = (other == id) || is_ended id calls
is_ended id (Read other (Some (byte ∷ bytes)) ∷ calls) = is_ended id calls

-- where what was given under a number ends, by whether the end was told and by its bytes: at a byte past the limit, at the
-- end, or else it breaks off
abbrev pub stop_by : Bool → ℕ → List ℕ → StopReason
stop_by told limit bytes = if nat_lt limit (length bytes) then Limit else (if told then End else Failure)

abbrev pub stop_after : ℕ → ℕ → List Call → StopReason
stop_after limit id calls = stop_by (is_ended id calls) limit (given id calls)

-- what calls gave under a number, up to a byte past a limit
abbrev pub prefix_given : ℕ → ℕ → List Call → Prefix
prefix_given limit id calls = record { bytes = given id calls; stop = stop_after limit id calls }

-- what calls gave of the name that the first of them begins
abbrev pub prefix_called : ℕ → List Call → Prefix
prefix_called limit [] = unbegun
prefix_called limit (Begin name None ∷ calls) = unbegun
prefix_called limit (Begin name (Some id) ∷ calls) = prefix_given limit id calls
prefix_called limit (Read id answer ∷ calls) = unbegun

-- what was read is what these calls gave: of what is left under a number, and of a name
abbrev pub LeftGiven : ℕ → ℕ → Prefix → List Call → Type 0
LeftGiven limit id prefix calls = prefix ≡ prefix_given limit id calls

abbrev pub NameGiven : ℕ → Prefix → List Call → Type 0
NameGiven limit prefix calls = prefix ≡ prefix_called limit calls

-- these bytes were given under a number, and the end was told or not
pub record Gave (id : ℕ) (got : List ℕ) (told : Bool) (calls : List Call) : Type 0 where
  pub bytes : given id calls ≡ got
  pub ended : is_ended id calls ≡ told
