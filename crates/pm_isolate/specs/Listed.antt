-- The units that a reach lists: its members, and the processors of its masters.
use Rattle.std.specs.Prelude.{◌≡◌, ℕ, List, Some, slice_get, [], ◌∷◌}
use Rattle.std.specs.List.{AllByRecursion as Each}
use Rattle.pm_base.specs.declared.events.Event.{Event}
use Rattle.pm_base.specs.declared.names.NodeId.{NodeId}
use Rattle.pm_base.specs.declared.names.Unit.{Unit}
use Rattle.pm_base.specs.declared.names.Unit.TheVariants.{Node, Line}
use Rattle.pm_object.specs.declared.object.Object.{Object}
use Rattle.pm_topology.specs.declared.places.Kind.{Kind}
use Rattle.pm_topology.specs.declared.places.Kind.TheVariants.{Proc, Slave, Power, Unknown}
use Rattle.pm_topology.specs.declared.topology.Topology.{Topology}
use Rattle.pm_topology.specs.Places.{kind_of}
use Rattle.pm_reach.specs.declared.members.Member.{Member}
use Rattle.pm_reach.specs.declared.members.MemberKind.{MemberKind}
use Rattle.pm_reach.specs.declared.members.MemberKind.TheVariants as members
use Rattle.pm_reach.specs.Leads.{node_at}
use Rattle.pm_state.specs.Members.{owner_at}
use Rattle.pm_run.specs.Run.{Setup}
use Rattle.pm_isolate.specs.Differences.{differing}

-- a member of this kind has this number
pub record HasMember (found : List Member) (kind : MemberKind) (number : ℕ) : Type 0 where
  pub place : ℕ
  pub member : Member
  pub there : slice_get found place ≡ Some member
  pub kind_is : member.kind ≡ kind
  pub number_is : member.number ≡ number

-- a processor of a master that is a member
pub record IsOfMember (object : Object) (t : Topology) (found : List Member) (p : ℕ) : Type 0 where
  pub owner : ℕ
  pub owns : owner_at object t p ≡ Some owner
  pub within : HasMember found members.Master (node_at (object ∷ []) owner).0

-- a node of this kind and number is a member, or a processor of a master that is one
abbrev pub IsKindListed : Object → Topology → List Member → Kind → ℕ → Type 0
IsKindListed object t found (Proc p) number = IsOfMember object t found p
IsKindListed object t found (Slave s) number = HasMember found members.Slave number
IsKindListed object t found (Power w) number = HasMember found members.Power number
IsKindListed object t found Unknown number = ⊥

-- a unit is a member, or a processor of a master that is one
abbrev pub IsListed : Object → Topology → List Member → Unit → Type 0
IsListed object t found (Node node) = IsKindListed object t found (kind_of t node) node.0
IsListed object t found (Line line) = HasMember found members.Line line.0

-- each unit that differs between the run of these events and the run without the messages of a master is listed so
abbrev pub AreListed : Setup → NodeId → List Member → List Event → Type 0
AreListed c m found events = Each (IsListed c.object c.topology found) (differing c m events)
