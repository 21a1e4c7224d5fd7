-- What is within the reach of a master; all else is beyond its border. Masters stand for themselves by their places.
use Rattle.std.specs.Prelude.{◌≡◌, ℕ, ◌<◌, ◌||◌, IsTrue, Some, List, length, slice_get}
use Rattle.pm_base.specs.declared.names.NodeId.{NodeId}
use Rattle.pm_base.specs.declared.names.LineId.{LineId}
use Rattle.pm_base.specs.declared.names.Unit.{Unit}
use Rattle.pm_base.specs.declared.names.Unit.TheVariants.{Node, Line}
use Rattle.pm_object.specs.declared.object.Object.{Object}
use Rattle.pm_topology.specs.declared.topology.LineDef.{LineDef}
use Rattle.pm_topology.specs.declared.topology.PowerDef.{PowerDef}
use Rattle.pm_topology.specs.declared.topology.ProcDef.{ProcDef}
use Rattle.pm_topology.specs.declared.topology.SlaveDef.{SlaveDef}
use Rattle.pm_topology.specs.declared.topology.Topology.{Topology}
use Rattle.pm_topology.specs.declared.places.Kind.TheVariants as kinds
use Rattle.pm_topology.specs.Places.{is_below, kind_of}
use Rattle.pm_topology.specs.WellFormed.{IsWellFormed}
use Rattle.pm_perms.specs.Several.{masters_of, some_may_configure, some_may_reset, some_may_shut, some_may_suspend, some_may_use, some_may_wake}
use Rattle.pm_reach.specs.declared.members.MemberKind.{MemberKind}
use Rattle.pm_reach.specs.declared.members.MemberKind.TheVariants as members
use Rattle.pm_reach.specs.declared.members.Why.{Why}
use Rattle.pm_reach.specs.Leads.{forces_above, forces_proc, has_processor_at, node_at, targets}
use Rattle.pm_reach.specs.Brings.{brings}
use Rattle.pm_reach.specs.Paths.{IsPath}

-- a path leads from one master to another
abbrev pub Reaches : List Object → Topology → ℕ → ℕ → Type 0
Reaches objects t from place = (path : List ℕ) × (why : Why) × IsPath objects t from path place why

-- a master that is reached brings in a unit as a member of this kind
abbrev pub IsIn : List Object → Topology → ℕ → MemberKind → Unit → Type 0
IsIn objects t from kind unit =
    (a : ℕ) × (why : Why) × Reaches objects t from a × (brings objects t kind unit a ≡ Some why)

-- the border is closed to masters: where a master within may suspend or wake another, force a processor of it, a power
-- node above one or above a slave that it may use, reset a processor of it, shut all down, or set the configuration,
-- that other one is within
pub record IsClosedToMasters : Type 0 where
  pub suspended : (os : List Object) (t : Topology) (from a : ℕ) → Reaches os t from a
      → (b : ℕ) → b < length (masters_of os)
      → IsTrue (some_may_suspend os t (node_at os a) (node_at os b))
      → Reaches os t from b
  pub woken : (os : List Object) (t : Topology) (from a : ℕ) → Reaches os t from a
      → (b : ℕ) → b < length (masters_of os)
      → IsTrue (some_may_wake os t (node_at os a) (node_at os b))
      → Reaches os t from b
  pub forced : (os : List Object) (t : Topology) (from a : ℕ) → Reaches os t from a
      → (b : ℕ) → b < length (masters_of os)
      → (k : ℕ) (p : ProcDef) → slice_get t.procs k ≡ Some p
      → IsTrue (has_processor_at os t b p.node)
      → IsTrue (forces_proc os t (node_at os a) p.node)
      → Reaches os t from b
  pub user : (os : List Object) (t : Topology) (from a : ℕ) → Reaches os t from a
      → (b : ℕ) → b < length (masters_of os)
      → (k : ℕ) (s : SlaveDef) → slice_get t.slaves k ≡ Some s
      → IsTrue (some_may_use os t (node_at os b) s.node)
      → IsTrue (forces_above os t (node_at os a) s.node)
      → Reaches os t from b
  pub reset : (os : List Object) (t : Topology) (from a : ℕ) → Reaches os t from a
      → (b : ℕ) → b < length (masters_of os)
      → (k : ℕ) (l : LineDef) → slice_get t.lines k ≡ Some l
      → IsTrue (targets os t l b)
      → IsTrue (some_may_reset os t (node_at os a) l.line)
      → Reaches os t from b
  pub shut : (os : List Object) (t : Topology) (from a : ℕ) → Reaches os t from a
      → (b : ℕ) → b < length (masters_of os)
      → IsTrue (some_may_shut os t (node_at os a) 1 || some_may_shut os t (node_at os a) 2)
      → Reaches os t from b
  pub configured : (os : List Object) (t : Topology) (from a : ℕ) → Reaches os t from a
      → (b : ℕ) → b < length (masters_of os)
      → IsTrue (some_may_configure os t (node_at os a))
      → Reaches os t from b

-- it is closed to units: a slave that a master within may use is within, a line that one may reset, and a power node
-- that is above a processor of one or above a slave within
pub record IsClosedToUnits : Type 0 where
  pub used : (os : List Object) (t : Topology) (from a : ℕ) → Reaches os t from a
      → (s : NodeId) (k : ℕ) → kind_of t s ≡ kinds.Slave k
      → IsTrue (some_may_use os t (node_at os a) s)
      → IsIn os t from members.Slave (Node s)
  pub line : (os : List Object) (t : Topology) (from a : ℕ) → Reaches os t from a
      → (l : LineId) → IsTrue (some_may_reset os t (node_at os a) l)
      → IsIn os t from members.Line (Line l)
  pub above_proc : (os : List Object) (t : Topology) (from a : ℕ) → Reaches os t from a
      → (n : NodeId) (w : ℕ) → kind_of t n ≡ kinds.Power w
      → (k : ℕ) (p : ProcDef) → slice_get t.procs k ≡ Some p
      → IsTrue (has_processor_at os t a p.node)
      → IsTrue (is_below t w p.node)
      → IsIn os t from members.Power (Node n)
  pub above_slave : (os : List Object) (t : Topology) (from : ℕ) (n : NodeId) (w : ℕ) → kind_of t n ≡ kinds.Power w
      → (k : ℕ) (s : SlaveDef) (j : ℕ) → slice_get t.slaves k ≡ Some s
      → kind_of t s.node ≡ kinds.Slave j
      → IsIn os t from members.Slave (Node s.node)
      → IsTrue (is_below t w s.node)
      → IsIn os t from members.Power (Node n)

-- it is closed upwards: in a well-formed topology the power node directly above a processor of a master within, a slave
-- within or a power node within is within
pub record IsClosedUpwards : Type 0 where
  pub proc : (os : List Object) (t : Topology) (from a : ℕ) → IsWellFormed t → Reaches os t from a
      → (k : ℕ) (p : ProcDef) (n : NodeId) → slice_get t.procs k ≡ Some p
      → IsTrue (has_processor_at os t a p.node)
      → kind_of t n ≡ kinds.Power p.parent
      → IsIn os t from members.Power (Node n)
  pub slave : (os : List Object) (t : Topology) (from : ℕ) → IsWellFormed t
      → (k : ℕ) (s : SlaveDef) (n : NodeId) → slice_get t.slaves k ≡ Some s
      → IsIn os t from members.Slave (Node s.node)
      → kind_of t n ≡ kinds.Power s.parent
      → IsIn os t from members.Power (Node n)
  pub power : (os : List Object) (t : Topology) (from : ℕ) → IsWellFormed t
      → (w v : ℕ) (power : PowerDef) (n : NodeId) → slice_get t.powers w ≡ Some power
      → power.parent ≡ Some v
      → IsIn os t from members.Power (Node power.node)
      → kind_of t n ≡ kinds.Power v
      → IsIn os t from members.Power (Node n)
