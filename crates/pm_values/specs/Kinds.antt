-- What the value of each unit is found by, and the units that rest in a step.
use Rattle.std.specs.Prelude.{◌≡◌, ◌<◌, ℕ, ◌+◌, ◌*◌, ◌/◌, ◌%◌, ◌^◌, bit_or, Bool, true, false, not, List, length, slice_get, slice_set, unwrap_or, Option, Some, None}
use Rattle.std.specs.Int.{bit_at}
use Rattle.pm_topology.specs.declared.places.Kind.TheVariants.{Slave}
use Rattle.pm_values.specs.declared.caches.UnitKind.{UnitKind}
use Rattle.pm_values.specs.declared.kinds.Other.{Other}
use Rattle.pm_values.specs.declared.caches.UnitKind.TheVariants.{Entry, Reset}

-- the kind of each unit by its place, and which units don't rest
pub record UnitKinds : Type 0 where
  pub items : List UnitKind
  pub awake : List Bool

-- the unit at a place rests
abbrev pub rests_at : List Bool → ℕ → Bool
rests_at awake k = not (unwrap_or (slice_get awake k) true)

-- the unit at a place doesn't rest from now on
abbrev pub woken_at : ℕ → List Bool → List Bool
woken_at k awake = slice_set awake k true

-- so does the one at this place, if there is one
abbrev pub woken_in : Option ℕ → List Bool → List Bool
woken_in None awake = awake
woken_in (Some k) awake = woken_at k awake

-- the bit of a place is set in the words, where each has sixty-four places
abbrev pub with_bit : ℕ → List ℕ → List ℕ
with_bit k words =
    slice_set words (k / 64) (bit_or (unwrap_or (slice_get words (k / 64)) 0) (1 * 2 ^ (k % 64) % 2 ^ 64))

-- each sixty-four places have a word, and each unit rests whose bit isn't set in it
pub record AreInWords (units : List Bool) (words : List ℕ) : Type 0 where
  pub places : length words ≡ length units / 64 + 1
  pub clear : (k : ℕ) → k < length units → bit_at (unwrap_or (slice_get words (k / 64)) 0) (k % 64) ≡ 0
      → rests_at units k ≡ true

-- a unit of this kind is a slave or a reset line
abbrev pub is_slave_or_line : UnitKind → Bool
is_slave_or_line (Entry (Slave s)) = true
is_slave_or_line (Reset place) = true
is_slave_or_line _ = false

-- the places of the units of slaves, where this kind stands at place k
abbrev pub with_home : UnitKind → ℕ → List ℕ → List ℕ
with_home (Entry (Slave s)) k homes = slice_set homes s k
with_home _ k homes = homes

-- each slave has its unit at one place, and there are so many slaves
pub record AreApart (slaves : ℕ) (kinds : List UnitKind) : Type 0 where
  pub one : (j k s : ℕ) → slice_get kinds j ≡ Some (Entry (Slave s)) → slice_get kinds k ≡ Some (Entry (Slave s))
      → j ≡ k
  pub within : (k s : ℕ) → slice_get kinds k ≡ Some (Entry (Slave s)) → s < slaves

-- these are the places of the units of the slaves that stand before place n
abbrev pub AreHomes : List UnitKind → ℕ → List ℕ → Type 0
AreHomes kinds n homes =
    (k s : ℕ) → k < n → slice_get kinds k ≡ Some (Entry (Slave s)) → slice_get homes s ≡ Some k

-- the unit at place k, of this kind, stands in a list
pub record StandsIn (k : ℕ) (kind : UnitKind) (others : List Other) : Type 0 where
  pub place : ℕ
  pub other : Other
  pub at : slice_get others place ≡ Some other
  pub number : other.unit ≡ k
  pub alike : other.kind ≡ kind

-- of the units before place n those stand in the list that are no slave and no reset line
abbrev pub AreListed : List UnitKind → ℕ → List Other → Type 0
AreListed kinds n others =
    (k : ℕ) (kind : UnitKind) → k < n → slice_get kinds k ≡ Some kind → is_slave_or_line kind ≡ false → StandsIn k kind others

-- no unit rests after it that didn't rest before
abbrev pub RestLess : List Bool → List Bool → Type 0
RestLess before after = (k : ℕ) → rests_at after k ≡ true → rests_at before k ≡ true

-- the places of the units of all slaves, and the units that are no slave and no reset line, by the kinds of the units
pub record AreIndexed (kinds : List UnitKind) (homes : List ℕ) (others : List Other) (awake : List Bool) : Type 0 where
  pub home : AreHomes kinds (length kinds) homes
  pub listed : AreListed kinds (length kinds) others
  pub places : length awake ≡ length kinds
