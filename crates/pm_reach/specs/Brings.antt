-- What a master brings into a reach: the slaves, power nodes and reset lines that it can change.
use Rattle.std.specs.Prelude.{ℕ, Bool, false, ◌&&◌, ◌||◌, ◌==◌, if◌then◌else◌, find, is_some, option_and_then, Option, Some, None, [], ◌∷◌, List}
use Rattle.std.specs.List.{list_any}
use Rattle.std.specs.Option.{option_map_or}
use Rattle.pm_base.specs.declared.names.NodeId.{NodeId}
use Rattle.pm_base.specs.declared.names.Unit.{Unit}
use Rattle.pm_base.specs.declared.names.Unit.TheVariants.{Node, Line}
use Rattle.pm_object.specs.declared.object.Object.{Object}
use Rattle.pm_topology.specs.declared.topology.SlaveDef.{SlaveDef}
use Rattle.pm_topology.specs.declared.topology.ProcDef.{ProcDef}
use Rattle.pm_topology.specs.declared.topology.LineDef.{LineDef}
use Rattle.pm_topology.specs.declared.topology.Topology.{Topology}
use Rattle.pm_topology.specs.declared.places.Kind.{Kind}
use Rattle.pm_topology.specs.Places.{is_below, kind_of, power_of, slave_of}
use Rattle.pm_perms.specs.Several.{some_may_use, some_may_reset}
use Rattle.pm_reach.specs.declared.members.MemberKind.{MemberKind}
use Rattle.pm_reach.specs.declared.members.MemberKind.TheVariants as members
use Rattle.pm_reach.specs.declared.members.Why.{Why}
use Rattle.pm_reach.specs.declared.members.Why.TheVariants.{Myself, Suspend, Wake, Force, Reset, Shutdown, Config, Uses, Above}
use Rattle.pm_reach.specs.Leads.{node_at, forces_above, has_processor_at}

-- the target of a line is this slave
abbrev pub is_line_of : NodeId → LineDef → Bool
is_line_of slave l = option_map_or (λ (n : NodeId). n.0 == slave.0) l.target false

-- a master may reset a line whose target is this slave
abbrev pub resets_slave : List Object → Topology → NodeId → NodeId → Bool
resets_slave objects t master slave =
    list_any (λ (l : LineDef). is_line_of slave l && some_may_reset objects t master l.line) t.lines

-- the master at a place brings in a slave for a reason: it may use it, force a power node above it, or reset it
abbrev pub brings_slave_for : List Object → Topology → ℕ → NodeId → Why → Bool
brings_slave_for objects t a slave Uses = some_may_use objects t (node_at objects a) slave
brings_slave_for objects t a slave Force = forces_above objects t (node_at objects a) slave
brings_slave_for objects t a slave Reset = resets_slave objects t (node_at objects a) slave
brings_slave_for objects t a slave Myself = false
brings_slave_for objects t a slave Suspend = false
brings_slave_for objects t a slave Wake = false
brings_slave_for objects t a slave Shutdown = false
brings_slave_for objects t a slave Config = false
brings_slave_for objects t a slave Above = false

-- the first reason for which it does, in this order
abbrev pub brings_slave : List Object → Topology → ℕ → NodeId → Option Why
brings_slave objects t a slave = find (brings_slave_for objects t a slave) (Uses ∷ Force ∷ Reset ∷ [])

-- the power node at w is above a processor of the master at place a
abbrev pub is_above_proc : List Object → Topology → ℕ → ℕ → Bool
is_above_proc objects t a w = list_any (λ (p : ProcDef). has_processor_at objects t a p.node && is_below t w p.node) t.procs

-- the power node at w is above a slave that the master at place a brings in
abbrev pub is_above_slave : List Object → Topology → ℕ → ℕ → Bool
is_above_slave objects t a w =
    list_any (λ (s : SlaveDef). is_some (brings_slave objects t a s.node) && is_below t w s.node) t.slaves

-- the master at place a brings in the power node at w
abbrev pub brings_power : List Object → Topology → ℕ → ℕ → Bool
brings_power objects t a w = is_above_proc objects t a w || is_above_slave objects t a w

-- ---- units

-- why the master at place a brings in a node as a slave: none where its kind is another
abbrev pub brings_as_slave : List Object → Topology → ℕ → NodeId → Kind → Option Why
brings_as_slave objects t a node kind = option_and_then (λ s. brings_slave objects t a node) (slave_of kind)

-- why it brings in a node as a power node: none where its kind is another
abbrev pub brings_as_power : List Object → Topology → ℕ → Kind → Option Why
brings_as_power objects t a kind =
    option_and_then (λ w. if brings_power objects t a w then Some Above else None) (power_of kind)

-- why the master at place a brings in a unit as a member of this kind: none where it doesn't, or the unit is of another
-- kind
abbrev pub brings : List Object → Topology → MemberKind → Unit → ℕ → Option Why
brings objects t members.Slave (Node node) a = brings_as_slave objects t a node (kind_of t node)
brings objects t members.Power (Node node) a = brings_as_power objects t a (kind_of t node)
brings objects t members.Line (Line line) a =
    if some_may_reset objects t (node_at objects a) line then Some Reset else None
brings objects t members.Slave (Line line) a = None
brings objects t members.Power (Line line) a = None
brings objects t members.Line (Node node) a = None
brings objects t members.Master unit a = None
