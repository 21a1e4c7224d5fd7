-- Which units of a chip are power nodes.
use Rattle.std.specs.Prelude.{Bool, false, is_some}
use Rattle.pm_base.specs.declared.names.Unit.{Unit}
use Rattle.pm_base.specs.declared.names.Unit.TheVariants.{Node, Line}
use Rattle.pm_topology.specs.declared.topology.Topology.{Topology}
use Rattle.pm_topology.specs.declared.places.Kind.{Kind}
use Rattle.pm_topology.specs.Places.{kind_of, power_of}

abbrev pub is_power_kind : Kind → Bool
is_power_kind kind = is_some (power_of kind)

abbrev pub is_power : Topology → Unit → Bool
is_power t (Node node) = is_power_kind (kind_of t node)
is_power t (Line line) = false
