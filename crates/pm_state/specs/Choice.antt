-- Which state a slave stands in: the first one in its list that meets what is wanted of it.
use Rattle.std.specs.Prelude.{ℕ, List}
use Rattle.pm_base.specs.declared.caps.Caps.{Caps}
use Rattle.pm_topology.specs.declared.topology.SlaveState.{SlaveState}
use Rattle.pm_slaves.specs.Choice.{capabilities, IsFirstToMeet}
use Rattle.pm_slaves.specs.Choice as least
use Rattle.pm_rows.specs.declared.wanted.Wanted.{Wanted}

-- the place of the first state that meets what is wanted, and 0 where none does
abbrev pub state_for : Wanted → List SlaveState → ℕ
state_for wanted states = least.state_for states wanted.caps.0 wanted.limit

-- the capabilities that some state has
abbrev pub all_of : List SlaveState → Caps
all_of states = record { 0 = capabilities states }

-- the state at this place meets what is wanted, and none before it does
abbrev pub StandsMet : Wanted → List SlaveState → ℕ → Type 0
StandsMet wanted states place = IsFirstToMeet states wanted.caps.0 wanted.limit place
