-- The reach of a master: the masters to which a path leads from it, and what they bring in.
use Rattle.std.specs.Prelude.{◌≡◌, ℕ, ◌==◌, ◌++◌, find, position, map, length, Option, None, Some, List, [], ◌∷◌}
use Rattle.std.specs.List.{filter_map, range_with_len}
use Rattle.std.specs.Option.{option_map, option_or}
use Rattle.pm_base.specs.Names.{unit_number}
use Rattle.pm_base.specs.declared.names.NodeId.{NodeId}
use Rattle.pm_base.specs.declared.names.Unit.{Unit}
use Rattle.pm_object.specs.declared.object.Object.{Object}
use Rattle.pm_object.specs.declared.object.MasterRec.{MasterRec}
use Rattle.pm_topology.specs.declared.topology.Topology.{Topology}
use Rattle.pm_topology.specs.Units.{units_of}
use Rattle.pm_perms.specs.Several.{masters_of}
use Rattle.pm_reach.specs.declared.members.MemberKind.{MemberKind}
use Rattle.pm_reach.specs.declared.members.MemberKind.TheVariants as members
use Rattle.pm_reach.specs.declared.members.Member.{Member}
use Rattle.pm_reach.specs.declared.members.Why.{Why}
use Rattle.pm_reach.specs.declared.routes.Route.{Route}
use Rattle.pm_reach.specs.Leads.{node_at}
use Rattle.pm_reach.specs.Paths.{AreLeast}
use Rattle.pm_reach.specs.Brings.{brings}

-- the numbers of the masters of a path
abbrev pub nodes_of : List Object → List ℕ → List NodeId
nodes_of objects path = map (node_at objects) path

-- a member of a reach, with the path that leads to it
abbrev pub member_by : List Object → MemberKind → ℕ → Why → Route → Member
member_by objects kind number why route =
    record { kind = kind; number = number; why = why; path = nodes_of objects route.path }

-- ---- masters

-- the master at a place is a member where a path leads to it: with the least path and the reason of its last step
abbrev pub master_member : List Object → List Route → ℕ → Option Member
master_member objects routes place =
    option_map
    (λ (r : Route). member_by objects members.Master (node_at objects place).0 r.why r)
    (find (λ (r : Route). r.end == place) routes)

-- the masters in the order of the objects
abbrev pub master_members : List Object → List Route → List Member
master_members objects routes =
    filter_map (master_member objects routes) (range_with_len 0 (length (masters_of objects)))

-- ---- slaves, power nodes and lines

-- a unit is a member where a master of the reach brings it in: with the path of the first one that does, by the order
-- of paths, and that one's first reason
abbrev pub unit_member : List Object → Topology → MemberKind → Unit → List Route → Option Member
unit_member objects t kind unit [] = None
unit_member objects t kind unit (r ∷ routes) =
    option_or
    (option_map (λ why. member_by objects kind (unit_number unit) why r) (brings objects t kind unit r.end))
    (unit_member objects t kind unit routes)

-- the members of a kind by number
abbrev pub unit_members : List Object → Topology → MemberKind → List Route → List Unit → List Member
unit_members objects t kind routes units = filter_map (λ unit. unit_member objects t kind unit routes) units

-- ---- all

-- the slaves, then the power nodes, and then the lines of these units that paths bring in
abbrev pub part_members : List Object → Topology → List Route → List Unit → List Member
part_members objects t routes units =
    unit_members objects t members.Slave routes units
    ++ (unit_members objects t members.Power routes units ++ unit_members objects t members.Line routes units)

-- what paths bring into a reach: masters in the order of the objects, and then slaves, power nodes and lines by number
abbrev pub members_of : List Object → Topology → List Route → List Member
members_of objects t routes =
    master_members objects routes ++ part_members objects t routes (units_of t)

-- these are the members of the reach of a master: what the least paths from it bring in
pub record IsReach (objects : List Object) (t : Topology) (m : NodeId) (found : List Member) : Type 0 where
  pub from : ℕ
  pub place : position (λ (r : MasterRec). r.node == m.0) (masters_of objects) ≡ Some from
  pub routes : List Route
  pub least : AreLeast objects t from routes
  pub members : found ≡ members_of objects t routes
