-- The classes of slaves and their states.
use Rattle.std.specs.Prelude.{ℕ, Bool, true, false, List, [], ◌∷◌}
use Rattle.pm_topology.specs.declared.topology.SlaveState.{SlaveState}
use Rattle.pm_chip.specs.declared.classes.Class.{Class}
use Rattle.pm_chip.specs.declared.classes.Class.TheVariants.{Memory, Dram, Peripheral, Block, External}

-- a state by its capabilities (ACCESS 1, CONTEXT 2, WAKEUP 4), its latency, whether it needs power, and its figure
abbrev pub state : ℕ → ℕ → Bool → ℕ → SlaveState
state caps latency powered figure = record { caps = record { 0 = caps }; latency = latency; powered = powered; figure = figure }

-- the states of the slaves of a class, from the least to the fullest
abbrev pub states_of : Class → List SlaveState
states_of Memory = state 0 1000 false 0 ∷ state 2 300 true 5 ∷ state 3 0 true 15 ∷ []
states_of Dram = state 0 5000 false 0 ∷ state 2 500 false 20 ∷ state 3 0 true 120 ∷ []
states_of Peripheral = state 0 100 false 0 ∷ state 7 0 true 10 ∷ []
states_of Block = state 0 200 false 0 ∷ state 3 0 true 25 ∷ []
states_of External = state 7 0 false 0 ∷ []
