-- Nodes and units by their numbers.
use Rattle.std.specs.Prelude.{ℕ}
use Rattle.pm_base.specs.declared.names.NodeId.{NodeId}
use Rattle.pm_base.specs.declared.names.Unit.{Unit}
use Rattle.pm_base.specs.declared.names.Unit.TheVariants.{Node, Line}

-- the node with a number
abbrev pub numbered_node : ℕ → NodeId
numbered_node number = record { 0 = number }

-- the number of a node or a reset line
abbrev pub unit_number : Unit → ℕ
unit_number (Node node) = node.0
unit_number (Line line) = line.0
