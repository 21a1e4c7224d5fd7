-- Each permission that is looked up by places is the one that the object's records give by numbers.
use Rattle.std.specs.Prelude.{◌≡◌, ℕ, ◌==◌, Bool, false, List, slice_get, position, Option, Some, None}
use Rattle.pm_base.specs.declared.names.NodeId.{NodeId}
use Rattle.pm_base.specs.declared.names.LineId.{LineId}
use Rattle.pm_object.specs.declared.object.MasterRec.{MasterRec}
use Rattle.pm_object.specs.declared.object.Object.{Object}
use Rattle.pm_object.specs.Grammar.{IsObject}
use Rattle.pm_topology.specs.declared.topology.Topology.{Topology}
use Rattle.pm_topology.specs.Places.{kind_of, line_place, slave_place}
use Rattle.pm_perms.specs.Permits.{may_configure, may_force, may_reset, may_shut, may_suspend, may_use, may_wake}
use Rattle.pm_grants.specs.Grants.{grants_of, permits_configure, permits_force, permits_reset, permits_shut, permits_suspend, permits_use, permits_wake}

-- the place of the master with a number
abbrev pub master_place : List MasterRec → NodeId → Option ℕ
master_place masters node = position (λ (master : MasterRec). master.node == node.0) masters

-- a test of a place: where there is none it fails
abbrev pub at_place : (ℕ → Bool) → Option ℕ → Bool
at_place test None = false
at_place test (Some k) = test k

abbrev pub at_places : (ℕ → ℕ → Bool) → Option ℕ → Option ℕ → Bool
at_places test None other = false
at_places test (Some k) other = at_place (test k) other

-- each permission by numbers, for every object and every chip: it is looked up at the places of these numbers
pub record GrantLaws : Type 0 where
  pub use_ : (o : Object) (t : Topology) (master slave : NodeId)
      → may_use o t master slave ≡ at_places (permits_use (grants_of o t)) (master_place o.masters master) (slave_place t.slaves slave.0)
  pub suspend : (o : Object) (t : Topology) (master other : NodeId)
      → may_suspend o t master other ≡ at_places (permits_suspend (grants_of o t)) (master_place o.masters master) (master_place o.masters other)
  pub wake : (o : Object) (t : Topology) (master other : NodeId)
      → may_wake o t master other ≡ at_places (permits_wake (grants_of o t)) (master_place o.masters master) (master_place o.masters other)
  pub force : (o : Object) (t : Topology) (master node : NodeId)
      → may_force o t master node ≡ at_place (λ m. permits_force (grants_of o t) m (kind_of t node)) (master_place o.masters master)
  pub reset : (o : Object) (t : Topology) (master : NodeId) (line : LineId)
      → may_reset o t master line ≡ at_places (permits_reset (grants_of o t)) (master_place o.masters master) (line_place t.lines line.0)
  pub shut : (o : Object) (t : Topology) (master : NodeId) (subtype : ℕ)
      → may_shut o t master subtype ≡ at_place (λ m. permits_shut (grants_of o t) m subtype) (master_place o.masters master)
  pub configure : (o : Object) (t : Topology) (master : NodeId)
      → may_configure o t master ≡ at_place (permits_configure (grants_of o t)) (master_place o.masters master)
  -- in a well-formed object each master stands at the place of its number
  pub places : (o : Object) (m : ℕ) (master : MasterRec) → IsObject o → slice_get o.masters m ≡ Some master
      → master_place o.masters (record { 0 = master.node }) ≡ Some m
