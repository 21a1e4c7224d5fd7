-- The operating characteristics of a node in its present state: its power figure and its latency.
use Rattle.std.specs.Prelude.{ℕ, Bool, ◌==◌, if◌then◌else◌, slice_get, Option, Some, None, option_map}
use Rattle.pm_base.specs.declared.names.NodeId.{NodeId}
use Rattle.pm_base.specs.declared.names.Unit.TheVariants.{Node}
use Rattle.pm_topology.specs.declared.places.Kind.{Kind}
use Rattle.pm_topology.specs.declared.places.Kind.TheVariants.{Proc, Slave, Power, Unknown}
use Rattle.pm_topology.specs.declared.topology.PowerDef.{PowerDef}
use Rattle.pm_topology.specs.declared.topology.ProcDef.{ProcDef}
use Rattle.pm_topology.specs.declared.topology.SlaveDef.{SlaveDef}
use Rattle.pm_topology.specs.declared.topology.SlaveState.{SlaveState}
use Rattle.pm_topology.specs.declared.topology.Topology.{Topology}
use Rattle.pm_topology.specs.Places.{kind_of}
use Rattle.pm_calls.specs.declared.characteristics.Characteristics.{Characteristics}
use Rattle.pm_state.specs.State.{State}
use Rattle.pm_state.specs.Values.{value}

-- up, a processor or power node has its own figure and no latency; down, it has no figure and its own latency
abbrev pub powered : (figure latency : ℕ) (up : Bool) → Characteristics
powered figure latency up =
    if up then record { figure = figure; latency = 0 } else record { figure = 0; latency = latency }

-- a slave has the figure and the latency of its state; zeros without a state
abbrev pub in_state : Option SlaveState → Characteristics
in_state None = record { figure = 0; latency = 0 }
in_state (Some state) = record { figure = state.figure; latency = state.latency }

-- the characteristics of a node of this kind with this value
abbrev pub characteristics_at : Kind → ℕ → Topology → Option Characteristics
characteristics_at (Proc p) value t = option_map (λ (proc : ProcDef). powered proc.figure proc.latency (value == 1)) (slice_get t.procs p)
characteristics_at (Slave s) value t = option_map (λ (slave : SlaveDef). in_state (slice_get slave.states value)) (slice_get t.slaves s)
characteristics_at (Power w) value t = option_map (λ (power : PowerDef). powered power.figure power.latency (value == 1)) (slice_get t.powers w)
characteristics_at Unknown value t = None

-- the characteristics of a node in the book; none if the chip doesn't have it
abbrev pub characteristics : NodeId → State → Option Characteristics
characteristics node book =
    characteristics_at (kind_of book.fixed.topology node) (value (Node node) book) book.fixed.topology
