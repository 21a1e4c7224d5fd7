-- The values of the units, by the rows and the processors as they are now.
use Rattle.std.specs.Prelude.{ℕ, ◌+◌, Bool, cond, List, [], ◌∷◌, ◌++◌, slice_get, Option, Some, None}
use Rattle.pm_base.specs.declared.names.LineId.{LineId}
use Rattle.pm_base.specs.declared.names.NodeId.{NodeId}
use Rattle.pm_base.specs.declared.names.Unit.{Unit}
use Rattle.pm_base.specs.declared.names.Unit.TheVariants.{Node, Line}
use Rattle.pm_topology.specs.declared.topology.ProcDef.{ProcDef}
use Rattle.pm_topology.specs.declared.topology.SlaveDef.{SlaveDef}
use Rattle.pm_topology.specs.declared.places.Kind.{Kind}
use Rattle.pm_topology.specs.declared.places.Kind.TheVariants.{Proc, Slave, Power, Unknown}
use Rattle.pm_topology.specs.Places.{kind_of}
use Rattle.pm_topology.specs.Places as places
use Rattle.pm_topology.specs.Units.{needs_in}
use Rattle.pm_grants.specs.Laws as grants
use Rattle.pm_power.specs.declared.child.Child.{Child}
use Rattle.pm_power.specs.Forest.{Needs, is_up}
use Rattle.pm_power.specs.Needs.{child}
use Rattle.pm_procs.specs.Modes.{is_awake, mode_number}
use Rattle.pm_procs.specs.Procs.{mode_at}
use Rattle.pm_resets.specs.Resets.{value_of}
use Rattle.pm_rows.specs.Wanted.{wanted_of}
use Rattle.pm_state.specs.Choice.{state_for}
use Rattle.pm_state.specs.State.{Fixed, CoreHalf, State}

-- the place of a slave in the table of the chip
abbrev pub slave_place : NodeId → State → Option ℕ
slave_place node book = places.slave_place book.fixed.topology.slaves node.0

-- the place of a configured master in the object
abbrev pub master_place : NodeId → State → Option ℕ
master_place node book = grants.master_place book.fixed.object.masters node

-- what is made of each entry of a list and its place; the first one stands at place k
abbrev pub placed : {X Y : Type 0} → (ℕ → X → Y) → ℕ → List X → List Y
placed f k [] = []
placed f k (x ∷ xs) = f k x ∷ placed f (k + 1) xs

-- the chosen state of this slave, which stands at place s
abbrev pub chosen : CoreHalf → ℕ → SlaveDef → ℕ
chosen core s slave = state_for (wanted_of s core.rows) slave.states

abbrev pub state_at : ℕ → Option SlaveDef → CoreHalf → ℕ
state_at s None core = 0
state_at s (Some slave) core = chosen core s slave

-- whether it needs its power node in that state
abbrev pub need_of : CoreHalf → ℕ → SlaveDef → Bool
need_of core s slave = needs_in (chosen core s slave) slave

-- whether the processor at place p runs, and so needs its power node: while it is active or suspending
abbrev pub runs : CoreHalf → ℕ → Bool
runs core p = is_awake (mode_at p core.procs)

-- whether a processor runs, beside its entry in the table
abbrev pub run_of : CoreHalf → ℕ → ProcDef → Bool
run_of core p proc = runs core p

-- a slave and a processor with their needs
abbrev pub slave_child : CoreHalf → ℕ → SlaveDef → Child
slave_child core s slave = child slave.node slave.parent (need_of core s slave)

abbrev pub proc_child : CoreHalf → ℕ → ProcDef → Child
proc_child core p proc = child proc.node proc.parent (run_of core p proc)

-- the power nodes, with the needs of what is below them
abbrev pub forest : Fixed → CoreHalf → Needs
forest fixed core = record {
  powers = fixed.topology.powers;
  children = placed (slave_child core) 0 fixed.topology.slaves ++ placed (proc_child core) 0 fixed.topology.procs;
}

-- the value of a node: the chosen state of a slave, 1 for a processor that runs and for a power node that is up, and
-- else 0
abbrev pub value_at : Kind → Fixed → CoreHalf → ℕ
value_at (Slave s) fixed core = state_at s (slice_get fixed.topology.slaves s) core
value_at (Power w) fixed core = cond (is_up (forest fixed core) w) 1 0
value_at (Proc p) fixed core = cond (runs core p) 1 0
value_at Unknown fixed core = 0

-- the place of a reset line in the table of the chip
abbrev pub line_place : LineId → Fixed → Option ℕ
line_place line fixed = places.line_place fixed.topology.lines line.0

-- the value of the reset line at a place: 1 while it is asserted, and 0 where there is none
abbrev pub line_at : Option ℕ → List Bool → ℕ
line_at None lines = 0
line_at (Some l) lines = value_of l lines

-- the value of a unit by what is fixed and the core half, and 0 for a unit that isn't there
abbrev pub value_in : Fixed → CoreHalf → Unit → ℕ
value_in fixed core (Node node) = value_at (kind_of fixed.topology node) fixed core
value_in fixed core (Line line) = line_at (line_place line fixed) core.lines

abbrev pub value : Unit → State → ℕ
value unit book = value_in book.fixed book.now.core unit

-- the operating point of a node, as it is told: of a processor the number of its mode, and of any other its value
abbrev pub point_at : Kind → Fixed → CoreHalf → ℕ
point_at (Proc p) fixed core = mode_number (mode_at p core.procs)
point_at kind fixed core = value_at kind fixed core

-- the operating point of a node in a book
abbrev pub point : NodeId → State → ℕ
point node book = point_at (kind_of book.fixed.topology node) book.fixed book.now.core

-- what is shown of a unit: the operating point of a node, which is the number of the mode of a processor and the
-- value of any other, and the value of a reset line
abbrev pub shown : Unit → State → ℕ
shown (Node node) book = point node book
shown (Line reset) book = value (Line reset) book
