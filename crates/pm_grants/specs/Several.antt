-- What at least one of several objects permits, by places.
use Rattle.std.specs.Prelude.{◌≡◌, ℕ, Bool, List, map}
use Rattle.std.specs.List.{AllByRecursion as Each, list_any}
use Rattle.pm_base.specs.declared.names.NodeId.{NodeId}
use Rattle.pm_base.specs.declared.names.LineId.{LineId}
use Rattle.pm_object.specs.declared.object.Object.{Object}
use Rattle.pm_topology.specs.declared.topology.Topology.{Topology}
use Rattle.pm_topology.specs.Places.{kind_of, line_place, slave_place}
use Rattle.pm_perms.specs.Several.{masters_of, some_may_configure, some_may_force, some_may_reset, some_may_shut, some_may_suspend, some_may_use, some_may_wake}
use Rattle.pm_grants.specs.declared.grants.Grants.{Grants}
use Rattle.pm_grants.specs.Grants.{grants_of, permits_configure, permits_force, permits_reset, permits_shut, permits_suspend, permits_use, permits_wake}
use Rattle.pm_grants.specs.Laws.{at_place, at_places, master_place}

-- what each of several objects permits on a chip
abbrev pub all_grants : List Object → Topology → List Grants
all_grants objects t = map (λ (object : Object). grants_of object t) objects

-- at least one of them permits it: each permission on its own
abbrev pub some_permits : (Grants → Bool) → List Grants → Bool
some_permits permits grants = list_any permits grants

-- a master's number has the same place in each of the objects
abbrev pub HaveSamePlaces : List Object → Type 0
HaveSamePlaces objects =
    Each (λ (object : Object). (node : NodeId) → master_place object.masters node ≡ master_place (masters_of objects) node) objects

-- each permission by numbers, for all objects in which the masters have the same places: it is looked up at these places in
-- what each of the objects permits
pub record SeveralGrantLaws : Type 0 where
  pub use_ : (os : List Object) (t : Topology) (master slave : NodeId) → HaveSamePlaces os → some_may_use os t master slave
      ≡ at_places (λ m s. some_permits (λ g. permits_use g m s) (all_grants os t)) (master_place (masters_of os) master) (slave_place t.slaves slave.0)
  pub suspend : (os : List Object) (t : Topology) (master other : NodeId) → HaveSamePlaces os → some_may_suspend os t master other
      ≡ at_places (λ m k. some_permits (λ g. permits_suspend g m k) (all_grants os t)) (master_place (masters_of os) master) (master_place (masters_of os) other)
  pub wake : (os : List Object) (t : Topology) (master other : NodeId) → HaveSamePlaces os → some_may_wake os t master other
      ≡ at_places (λ m k. some_permits (λ g. permits_wake g m k) (all_grants os t)) (master_place (masters_of os) master) (master_place (masters_of os) other)
  pub force : (os : List Object) (t : Topology) (master node : NodeId) → HaveSamePlaces os → some_may_force os t master node
      ≡ at_place (λ m. some_permits (λ g. permits_force g m (kind_of t node)) (all_grants os t)) (master_place (masters_of os) master)
  pub reset : (os : List Object) (t : Topology) (master : NodeId) (line : LineId) → HaveSamePlaces os → some_may_reset os t master line
      ≡ at_places (λ m l. some_permits (λ g. permits_reset g m l) (all_grants os t)) (master_place (masters_of os) master) (line_place t.lines line.0)
  pub shut : (os : List Object) (t : Topology) (master : NodeId) (subtype : ℕ) → HaveSamePlaces os → some_may_shut os t master subtype
      ≡ at_place (λ m. some_permits (λ g. permits_shut g m subtype) (all_grants os t)) (master_place (masters_of os) master)
  pub configure : (os : List Object) (t : Topology) (master : NodeId) → HaveSamePlaces os → some_may_configure os t master
      ≡ at_place (λ m. some_permits (λ g. permits_configure g m) (all_grants os t)) (master_place (masters_of os) master)
