-- The units of a book, and those that move.
use Rattle.std.specs.Prelude.{ℕ, not, ◌==◌, List, filter, ◌+◌, length}
use Rattle.pm_base.specs.declared.names.Unit.{Unit}
use Rattle.pm_topology.specs.Units.{units_of}
use Rattle.pm_state.specs.Values.{value}
use Rattle.pm_state.specs.State.{State}
use Rattle.pm_topology.specs.declared.topology.Topology.{Topology}

abbrev pub units : State → List Unit
units book = units_of book.fixed.topology

-- the units whose value differs from the one before, in their order
abbrev pub moved : (Unit → ℕ) → State → List Unit
moved before book = filter (λ u. not (before u == value u book)) (units book)

-- how many units a chip has
abbrev pub unit_count : Topology → ℕ
unit_count t = length t.slaves + length t.procs + length t.powers + length t.lines
