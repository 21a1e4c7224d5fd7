-- A topology with what one more line says, or why that line is wrong.
use Rattle.std.specs.Prelude.{ℕ, Bool, true, not, ◌==◌, ◌&&◌, if◌then◌else◌, List, [], ◌∷◌, ◌++◌, length, map, Option, Some, None, Result, Ok, Err}
use Rattle.std.specs.Option.{option_map}
use Rattle.pm_topology.specs.Places.{power_place}
use Rattle.pm_base.specs.declared.names.NodeId.{NodeId}
use Rattle.pm_topology.specs.declared.topology.SlaveState.{SlaveState}
use Rattle.pm_topology.specs.declared.topology.SlaveDef.{SlaveDef}
use Rattle.pm_topology.specs.declared.topology.PowerDef.{PowerDef}
use Rattle.pm_topology.specs.declared.topology.MasterDef.{MasterDef}
use Rattle.pm_topology.specs.declared.topology.Topology.{Topology}
use Rattle.pm_topofile.specs.declared.fault.TopoTextCause.{TopoTextCause}
use Rattle.pm_topofile.specs.declared.fault.TopoTextCause.TheVariants as causes
use Rattle.pm_topofile.specs.declared.item.PowerLine.{PowerLine}
use Rattle.pm_topofile.specs.declared.item.ProcLine.{ProcLine}
use Rattle.pm_topofile.specs.declared.item.SlaveLine.{SlaveLine}
use Rattle.pm_topofile.specs.declared.item.Item.{Item}
use Rattle.pm_topofile.specs.declared.item.Item.TheVariants.{Empty, Power, Proc, Slave, State, Line, Owner}

-- a topology without entries
abbrev pub nothing : Topology
nothing = record { slaves = []; procs = []; powers = []; lines = []; masters = [] }

-- ---- the order of the kinds: power nodes, processors, slaves with their states, reset lines, masters

abbrev pub before_masters : Topology → Bool
before_masters t = length t.masters == 0

abbrev pub before_lines : Topology → Bool
before_lines t = (length t.lines == 0) && before_masters t

abbrev pub before_slaves : Topology → Bool
before_slaves t = (length t.slaves == 0) && before_lines t

abbrev pub before_procs : Topology → Bool
before_procs t = (length t.procs == 0) && before_slaves t

-- whether a line stands in its place: no entry of a later kind comes before it, and a state follows a slave
abbrev pub stands : Item → Topology → Bool
stands Empty t = true
stands (Power p) t = before_procs t
stands (Proc p) t = before_slaves t
stands (Slave s) t = before_lines t
stands (State s) t = not (length t.slaves == 0) && before_lines t
stands (Line l) t = before_masters t
stands (Owner node procs) t = true

-- ---- parents

-- a power node's parent: none, or the place of an earlier power node; None where there is no such
abbrev pub optional_place : Option NodeId → List PowerDef → Option (Option ℕ)
optional_place None powers = Some None
optional_place (Some node) powers = option_map Some (power_place powers node.0)

-- what is made of a parent, which must be there
abbrev pub under : {P : Type 0} → Option P → (P → Topology) → Result Topology TopoTextCause
under None made = Err causes.Parent
under (Some parent) made = Ok (made parent)

-- ---- the last slave and the last master

-- the slaves, with one more state of the last one
abbrev pub with_state : SlaveState → List SlaveDef → List SlaveDef
with_state state [] = []
with_state state (s ∷ []) = record s { states = s.states ++ state ∷ [] } ∷ []
with_state state (s ∷ next ∷ slaves) = s ∷ with_state state (next ∷ slaves)

-- the masters, with more processors of the last one, or with a new one where that has another number
abbrev pub with_members : NodeId → List NodeId → List MasterDef → List MasterDef
with_members node procs [] = record { node = node; procs = procs } ∷ []
with_members node procs (m ∷ []) =
    if m.node.0 == node.0 then record m { procs = m.procs ++ procs } ∷ []
    else m ∷ record { node = node; procs = procs } ∷ []
with_members node procs (m ∷ next ∷ masters) = m ∷ with_members node procs (next ∷ masters)

-- ---- a line

abbrev pub with_power : PowerLine → Topology → Option ℕ → Topology
with_power p t parent = record t { powers = t.powers ++ record { node = p.node; parent = parent; held = p.held; figure = p.figure; latency = p.latency } ∷ [] }

abbrev pub with_proc : ProcLine → Topology → ℕ → Topology
with_proc p t parent = record t { procs = t.procs ++ record { node = p.node; parent = parent; figure = p.figure; latency = p.latency } ∷ [] }

abbrev pub with_slave : SlaveLine → Topology → ℕ → Topology
with_slave s t parent = record t { slaves = t.slaves ++ record { node = s.node; parent = parent; states = [] } ∷ [] }

-- a line that stands in its place
abbrev pub placed : Item → Topology → Result Topology TopoTextCause
placed Empty t = Ok t
placed (Power p) t = under (optional_place p.parent t.powers) (with_power p t)
placed (Proc p) t = under (power_place t.powers p.parent.0) (with_proc p t)
placed (Slave s) t = under (power_place t.powers s.parent.0) (with_slave s t)
placed (State s) t = Ok (record t { slaves = with_state s t.slaves })
placed (Line l) t = Ok (record t { lines = t.lines ++ l ∷ [] })
placed (Owner node procs) t = Ok (record t { masters = with_members node (map (λ n. record { 0 = n }) procs.items) t.masters })

-- a line of right form
unfoldable pub taken : Item → Topology → Result Topology TopoTextCause
taken item t = if stands item t then placed item t else Err causes.Place
