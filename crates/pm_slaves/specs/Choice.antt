-- The state of a slave: the first in its list that meets the requirements in force.
use Rattle.std.specs.Prelude.{◌≡◌, ℕ, ◌-◌, ◌<◌, ◌==◌, Bool, true, false, ◌&&◌, nat_le, Option, Some, None, IsSome, IsSomeAnd, List, length, fold, position, slice_get, unwrap_or, bit_and, bit_or}
use Rattle.pm_topology.specs.declared.topology.SlaveState.{SlaveState}
use Rattle.pm_topology.specs.WellFormed.{HasFullLast}

-- a latency keeps a limit, where there is one
abbrev pub within : ℕ → Option ℕ → Bool
within latency None = true
within latency (Some limit) = nat_le latency limit

-- a state meets the requirements where it has each of these capabilities and a latency of at most the limit
abbrev pub meets : ℕ → Option ℕ → SlaveState → Bool
meets caps limit s = (bit_and s.caps.0 caps == caps) && within s.latency limit

-- the place of the first state that meets them, and 0 where none does
abbrev pub state_for : List SlaveState → ℕ → Option ℕ → ℕ
state_for states caps limit = unwrap_or (position (meets caps limit) states) 0

-- the state at a place meets the requirements, and none before it does
pub record IsFirstToMeet (states : List SlaveState) (caps : ℕ) (limit : Option ℕ) (k : ℕ) : Type 0 where
  pub state : SlaveState
  pub here : slice_get states k ≡ Some state
  pub enough : meets caps limit state ≡ true
  pub least : (j : ℕ) (earlier : SlaveState) → j < k → slice_get states j ≡ Some earlier → meets caps limit earlier ≡ false

-- the last state has each of these capabilities, and latency 0
abbrev pub LastHas : List SlaveState → ℕ → Type 0
LastHas states caps = IsSomeAnd (slice_get states (length states - 1)) (λ last. (bit_and last.caps.0 caps ≡ caps) × (last.latency ≡ 0))

-- the capabilities of a slave: each that one of its states has
abbrev pub capabilities : List SlaveState → ℕ
capabilities states = fold (λ all s. bit_or all s.caps.0) 0 states

-- what holds of every list of states: what a search answers is the first to meet, and where the last state is full
-- there is one for all that the slave is capable of
pub record ChoiceLaws : Type 0 where
  pub first : (states : List SlaveState) (caps : ℕ) (limit : Option ℕ) (k : ℕ)
      → position (meets caps limit) states ≡ Some k → IsFirstToMeet states caps limit k
  pub full : (states : List SlaveState) (caps : ℕ) (limit : Option ℕ)
      → HasFullLast states → bit_and (capabilities states) caps ≡ caps → IsSome (position (meets caps limit) states)
