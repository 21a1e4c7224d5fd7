-- The units of a device in memory: the value of each, and whether it is a broken node.
use Rattle.std.specs.Prelude.{ℕ, Bool, false, if◌then◌else◌, unwrap_or, is_some, List, [], ◌∷◌}
use Rattle.std.specs.List.{flat_map}
use Rattle.pm_base.specs.declared.names.Unit.{Unit}
use Rattle.pm_base.specs.declared.names.Unit.TheVariants.{Node, Line}
use Rattle.pm_base.specs.declared.names.NodeId.{NodeId}
use Rattle.pm_topology.specs.UnitMap.{value_of, with_value}
use Rattle.pm_device.specs.declared.cells.Cell.{Cell}

-- a unit at 0 that isn't broken
abbrev pub idle : Cell
idle = record { value = 0; broken = false }

-- the cell of a unit, and an idle one of a unit that isn't there
abbrev pub cell_of : List (Unit × Cell) → Unit → Cell
cell_of cells unit = unwrap_or (value_of cells unit) idle

abbrev pub is_there : {T : Type 0} → List (Unit × T) → Unit → Bool
is_there entries unit = is_some (value_of entries unit)

-- a unit is a broken node
abbrev pub is_broken_cell : List (Unit × Cell) → Unit → Bool
is_broken_cell cells (Node n) = (cell_of cells (Node n)).broken
is_broken_cell cells (Line l) = false

-- the numbers of the broken nodes, in the order of the cells
abbrev pub broken_number : Unit → Bool → List ℕ
broken_number (Node n) broken = if broken then n.0 ∷ [] else []
broken_number (Line l) broken = []

abbrev pub broken_of : List (Unit × Cell) → List ℕ
broken_of cells = flat_map (λ e. broken_number e.0 e.1.broken) cells

-- a unit is set to a value, and a node is broken or mended; nothing changes for one that isn't there
abbrev pub set_value : Unit → ℕ → List (Unit × Cell) → List (Unit × Cell)
set_value unit value cells = with_value unit (record { value = value; broken = (cell_of cells unit).broken }) cells

abbrev pub set_broken : NodeId → Bool → List (Unit × Cell) → List (Unit × Cell)
set_broken node broken cells =
    with_value (Node node) (record { value = (cell_of cells (Node node)).value; broken = broken }) cells
