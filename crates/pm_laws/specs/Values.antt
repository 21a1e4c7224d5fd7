-- The units beyond a border, their moves and starts, and books with the same values and modes there.
use Rattle.std.specs.Prelude.{◌≡◌, Bool, true, List, filter}
use Rattle.pm_base.specs.declared.names.NodeId.{NodeId}
use Rattle.pm_base.specs.declared.names.Unit.{Unit}
use Rattle.pm_base.specs.declared.names.Unit.TheVariants.{Node, Line}
use Rattle.pm_object.specs.declared.object.Object.{Object}
use Rattle.pm_topology.specs.declared.topology.Topology.{Topology}
use Rattle.pm_topology.specs.Places.{kind_of, line_place}
use Rattle.pm_values.specs.declared.starts.Start.{Start}
use Rattle.pm_state.specs.State.{State}
use Rattle.pm_state.specs.Values.{value}
use Rattle.pm_state.specs.Nodes.{mode}
use Rattle.pm_laws.specs.Border.{Border, line_beyond, unit_beyond}

-- a unit is beyond; a processor is if its owner is, or if it has none
abbrev pub is_beyond : Object → Topology → Border → Unit → Bool
is_beyond object t border (Node node) = unit_beyond object t border (kind_of t node)
is_beyond object t border (Line line) = line_beyond border (line_place t.lines line.0)

-- the moved units among these that are beyond
abbrev pub moves_beyond : Object → Topology → Border → List Unit → List Unit
moves_beyond object t border moved = filter (is_beyond object t border) moved

-- the starts among these of processors beyond
abbrev pub starts_beyond : Object → Topology → Border → List Start → List Start
starts_beyond object t border starts = filter (λ (start : Start). is_beyond object t border (Node start.proc)) starts

-- in two books each unit beyond has the same value
abbrev pub IsValueAlike : Object → Topology → Border → State → State → Type 0
IsValueAlike object t border a b = (unit : Unit) → is_beyond object t border unit ≡ true → value unit a ≡ value unit b

-- in two books each processor beyond has the same mode
abbrev pub IsModeAlike : Object → Topology → Border → State → State → Type 0
IsModeAlike object t border a b =
    (proc : NodeId) → is_beyond object t border (Node proc) ≡ true → mode proc a ≡ mode proc b
