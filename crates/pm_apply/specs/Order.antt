-- The order of acts: nothing is used without power, no domain goes down under its users, and a unit lags only where a
-- command failed.
use Rattle.std.specs.Prelude.{◌≡◌, ◌≢◌, ℕ, ◌⊎◌, false, true, List, [], ◌∷◌, ◌++◌, slice_get, Some, ⊤}
use Rattle.pm_base.specs.declared.names.Command.{Command}
use Rattle.pm_base.specs.declared.names.NodeId.{NodeId}
use Rattle.pm_base.specs.declared.names.Unit.{Unit}
use Rattle.pm_base.specs.declared.names.Unit.TheVariants.{Node, Line}
use Rattle.pm_topology.specs.declared.topology.Topology.{Topology}
use Rattle.pm_topology.specs.declared.topology.PowerDef.{PowerDef}
use Rattle.pm_topology.specs.Places.{parent_of, IsBelow}
use Rattle.pm_device.specs.Act.{Act, Order, Rig, Fit, value_by}
use Rattle.pm_topology.specs.Units.{has_unit, needs_power}
use Rattle.pm_core.specs.declared.outbox.Done.{Done}
use Rattle.pm_record.specs.Record.{Kept, kept_value}

-- a command that is in its place where the units stand at these values
pub record IsOrderly (t : Topology) (values : Unit → ℕ) (command : Command) : Type 0 where
  -- no node is set to a value that needs power while its parent is down
  pub fed : (node : NodeId) (w : ℕ) (power : PowerDef)
      → command.unit ≡ Node node
      → parent_of t node ≡ Some w
      → slice_get t.powers w ≡ Some power
      → needs_power t (Node node) command.value ≡ true
      → values (Node power.node) ≢ 0
  -- no power node is set to 0 while a node directly below needs power
  pub unused : (node : NodeId) (w : ℕ) (power : PowerDef)
      → slice_get t.powers w ≡ Some power
      → command.unit ≡ Node power.node
      → command.value ≡ 0
      → parent_of t node ≡ Some w
      → needs_power t (Node node) (values (Node node)) ≡ false

-- each order of these acts, whether it is refused or not, is in its place where the units stand at what the acts before
-- it left, by their answers; and the device isn't fitted among them
abbrev pub IsOrdered : Topology → (Unit → ℕ) → List Act → Type 0
IsOrdered t values [] = ⊤
IsOrdered t values (Order command ok ∷ acts) = IsOrderly t values command × IsOrdered t (value_by (Order command ok) values) acts
IsOrdered t values (Rig node broken ∷ acts) = IsOrdered t values acts
IsOrdered t values (Fit chip ∷ acts) = ⊥

-- one of these commands failed, on this unit
pub record FailedOn (done : List Done) (unit : Unit) : Type 0 where
  pub front : List Done
  pub back : List Done
  pub d : Done
  pub is : done ≡ front ++ d ∷ back
  pub on : d.command.unit ≡ unit
  pub failed : d.ok ≡ false

-- the one node has the other, a power node, above it at any height
pub record HasAbove (t : Topology) (node above : NodeId) : Type 0 where
  pub w : ℕ
  pub power : PowerDef
  pub is : slice_get t.powers w ≡ Some power
  pub named : power.node ≡ above
  pub below : IsBelow t w node

-- a unit on the way: the node itself, one above it or one below it
abbrev pub IsOnPath : Topology → Unit → Unit → Type 0
IsOnPath t (Node node) (Node other) = (node ≡ other) ⊎ (HasAbove t node other ⊎ HasAbove t other node)
IsOnPath t (Line line) (Line other) = line ≡ other
IsOnPath t (Node node) (Line line) = ⊥
IsOnPath t (Line line) (Node node) = ⊥

-- a command failed on the unit, on a power node above it or on a unit below it
pub record IsExplained (t : Topology) (done : List Done) (unit : Unit) : Type 0 where
  pub other : Unit
  pub path : IsOnPath t unit other
  pub failed : FailedOn done other

-- each unit whose kept value isn't the book's lags for such a failure in this step
abbrev pub LagsAreExplained : Topology → (Unit → ℕ) → Kept → List Done → Type 0
LagsAreExplained t values kept done =
    (unit : Unit) → has_unit t unit ≡ true → kept_value kept unit ≢ values unit → IsExplained t done unit
