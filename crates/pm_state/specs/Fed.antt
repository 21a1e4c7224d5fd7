-- Values in which each node that needs power has it.
use Rattle.std.specs.Prelude.{◌≡◌, ℕ, ◌≤◌, true, slice_get, Some}
use Rattle.pm_base.specs.declared.names.NodeId.{NodeId}
use Rattle.pm_base.specs.declared.names.Unit.{Unit}
use Rattle.pm_base.specs.declared.names.Unit.TheVariants.{Node}
use Rattle.pm_topology.specs.declared.topology.Topology.{Topology}
use Rattle.pm_topology.specs.declared.topology.PowerDef.{PowerDef}
use Rattle.pm_topology.specs.Places.{parent_of}
use Rattle.pm_topology.specs.Units.{needs_power, parent_of_unit}

-- some unit directly below the power node at w needs power in its value
abbrev pub IsNeeded : Topology → (Unit → ℕ) → ℕ → Type 0
IsNeeded t values w = (u : Unit) × (parent_of_unit t u ≡ Some w) × (needs_power t u (values u) ≡ true)

pub record IsFed (t : Topology) (values : Unit → ℕ) : Type 0 where
  -- a node that needs power in its value stands directly below a power node that is up
  pub fed : (node : NodeId) (w : ℕ) (power : PowerDef)
      → parent_of t node ≡ Some w
      → slice_get t.powers w ≡ Some power
      → needs_power t (Node node) (values (Node node)) ≡ true
      → values (Node power.node) ≡ 1
  -- a power node is up or down
  pub up_or_down : (w : ℕ) (power : PowerDef) → slice_get t.powers w ≡ Some power → values (Node power.node) ≤ 1
