-- The border of the reach of a master: beyond it is all that its messages can't change, by themselves or through
-- other masters.
use Rattle.std.specs.Prelude.{◌≡◌, ℕ, Bool, true, false, not, ◌<◌, ◌&&◌, nat_lt, ◌↔◌, length, slice_get, Option, Some, None, List, [], ◌∷◌}
use Rattle.std.specs.Option.{option_map}
use Rattle.pm_base.specs.declared.names.LineId.{LineId}
use Rattle.pm_base.specs.declared.names.NodeId.{NodeId}
use Rattle.pm_base.specs.declared.names.Unit.{Unit}
use Rattle.pm_base.specs.declared.names.Unit.TheVariants.{Node, Line}
use Rattle.pm_object.specs.declared.object.Object.{Object}
use Rattle.pm_topology.specs.declared.topology.LineDef.{LineDef}
use Rattle.pm_topology.specs.declared.topology.PowerDef.{PowerDef}
use Rattle.pm_topology.specs.declared.topology.SlaveDef.{SlaveDef}
use Rattle.pm_topology.specs.declared.topology.Topology.{Topology}
use Rattle.pm_perms.specs.Several.{masters_of}
use Rattle.pm_grants.specs.Grants.{permits_use}
use Rattle.pm_grants.specs.Laws.{master_place}
use Rattle.pm_grants.specs.Several.{all_grants, some_permits}
use Rattle.pm_reach.specs.declared.members.MemberKind.{MemberKind}
use Rattle.pm_reach.specs.declared.members.MemberKind.TheVariants as members
use Rattle.pm_reach.specs.Border.{Reaches, IsIn}
use Rattle.pm_reach.specs.Reached.{some_master, is_reached, is_brought_in}
use Rattle.pm_state.specs.State.{Fixed, objects_of, usable_among}
use Rattle.pm_laws.specs.Border.{Border, IsBeyond, node_beyond}

-- the place of a configured master
abbrev pub configured_place : Object → NodeId → Option ℕ
configured_place object m = master_place object.masters m

-- a path leads from the master at a place to another; none does if the master isn't configured
abbrev pub reaches : List Object → Topology → Option ℕ → ℕ → Bool
reaches objects t None k = false
reaches objects t (Some from) k = is_reached objects t from k

-- a master at the end of such a path brings in a unit as a member of this kind
abbrev pub brings_in : List Object → Topology → Option ℕ → MemberKind → Unit → Bool
brings_in objects t None kind unit = false
brings_in objects t (Some from) kind unit = is_brought_in objects t from kind unit

-- a master of the objects to which no path leads
abbrev pub master_beyond : List Object → Topology → Option ℕ → ℕ → Bool
master_beyond objects t from k = nat_lt k (length (masters_of objects)) && not (reaches objects t from k)

-- the slave or power node of a number isn't brought in, or there is none
abbrev pub entry_beyond : List Object → Topology → Option ℕ → MemberKind → Option NodeId → Bool
entry_beyond objects t from kind None = true
entry_beyond objects t from kind (Some node) = not (brings_in objects t from kind (Node node))

-- the reset line of a number isn't brought in, or there is none
abbrev pub reset_beyond : List Object → Topology → Option ℕ → Option LineId → Bool
reset_beyond objects t from None = true
reset_beyond objects t from (Some line) = not (brings_in objects t from members.Line (Line line))

-- the border by the masters and units beyond the reach of the master at a place, with these numbers of nodes
abbrev pub unit_border : List Object → Topology → Option ℕ → (ℕ → Bool) → Border
unit_border objects t from nodes = record {
  master = master_beyond objects t from;
  slave = λ s. entry_beyond objects t from members.Slave (option_map (λ (slave : SlaveDef). slave.node) (slice_get t.slaves s));
  used = λ s. some_master objects (λ k. master_beyond objects t from k && some_permits (λ g. permits_use g k s) (all_grants objects t));
  power = λ w. entry_beyond objects t from members.Power (option_map (λ (power : PowerDef). power.node) (slice_get t.powers w));
  line = λ l. reset_beyond objects t from (option_map (λ (line : LineDef). line.line) (slice_get t.lines l));
  node = nodes;
  some = some_master objects (master_beyond objects t from);
}

-- the number of a node is beyond if its unit and the master of that number are; the loaded object says which number
-- is which master
abbrev pub number_beyond : Object → List Object → Topology → Option ℕ → ℕ → Bool
number_beyond object others t from number =
    node_beyond object t (unit_border (object ∷ others) t from (λ other. true)) (record { 0 = number })

-- the border of the reach of the master with this number, by the permissions of the loaded object and the others; a
-- processor is beyond if its owner is
abbrev pub border_over : Object → List Object → Topology → NodeId → Border
border_over object others t m =
    unit_border (object ∷ others) t (configured_place object m) (number_beyond object others t (configured_place object m))

-- the border of the reach of a master, by the permissions of a run's objects
abbrev pub border_of : Fixed → NodeId → Border
border_of fixed m = border_over fixed.object (usable_among fixed.object fixed.attached) fixed.topology m

-- the border is that of the reach of the configured master at a place. A master is beyond exactly if no path leads to
-- it; a slave, power node or reset line exactly if no master at the end of a path brings it in. Some master is beyond
-- exactly if one of them is
pub record IsBorderOver (objects : List Object) (t : Topology) (from : ℕ) (border : Border) : Type 0 where
  pub master : (k : ℕ) → k < length (masters_of objects) → (border.master k ≡ false) ↔ Reaches objects t from k
  pub slave : (k : ℕ) (s : SlaveDef) → slice_get t.slaves k ≡ Some s
      → (border.slave k ≡ false) ↔ IsIn objects t from members.Slave (Node s.node)
  pub power : (k : ℕ) (p : PowerDef) → slice_get t.powers k ≡ Some p
      → (border.power k ≡ false) ↔ IsIn objects t from members.Power (Node p.node)
  pub line : (k : ℕ) (l : LineDef) → slice_get t.lines k ≡ Some l
      → (border.line k ≡ false) ↔ IsIn objects t from members.Line (Line l.line)
  pub configured : (k : ℕ) → IsBeyond border k → k < length (masters_of objects)
  pub some : border.some ≡ true → (k : ℕ) × IsBeyond border k

abbrev pub IsBorderOf : Fixed → ℕ → Border → Type 0
IsBorderOf fixed from border = IsBorderOver (objects_of fixed) fixed.topology from border

-- each master of the object and each unit is beyond the border
pub record IsAllBeyond (object : Object) (border : Border) : Type 0 where
  pub masters : (k : ℕ) → k < length object.masters → IsBeyond border k
  pub slaves : (s : ℕ) → border.slave s ≡ true
  pub powers : (w : ℕ) → border.power w ≡ true
  pub lines : (l : ℕ) → border.line l ≡ true
