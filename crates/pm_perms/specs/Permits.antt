-- What the object permits to each master (UG1137, configuration object). A group's mask has one bit for each master of
-- the group: a master is in it where the mask has its bit.
use Rattle.std.specs.Prelude.{ℕ, Bool, true, false, not, ◌&&◌, ◌||◌, ◌==◌, find, is_some, Option, Some, None, List, bit_and}
use Rattle.std.specs.Option.{option_map}
use Rattle.pm_base.specs.declared.names.NodeId.{NodeId}
use Rattle.pm_base.specs.declared.names.LineId.{LineId}
use Rattle.pm_object.specs.declared.object.Object.{Object}
use Rattle.pm_object.specs.declared.object.MasterRec.{MasterRec}
use Rattle.pm_object.specs.declared.object.SlaveRec.{SlaveRec}
use Rattle.pm_object.specs.declared.object.Pair.{Pair}
use Rattle.pm_topology.specs.declared.topology.Topology.{Topology}
use Rattle.pm_topology.specs.declared.places.Kind.{Kind}
use Rattle.pm_topology.specs.declared.places.Kind.TheVariants.{Slave, Unknown}
use Rattle.pm_topology.specs.Places.{kind_of, slave_place}
use Rattle.pm_topology.specs.Units.{has_line}

-- ---- the records of the object

-- the object's record of the slave with a number
abbrev pub slave_record : Object → NodeId → Option SlaveRec
slave_record object slave = find (λ (r : SlaveRec). r.node == slave.0) object.slaves

-- the object's master with a number
abbrev pub master_record : Object → NodeId → Option MasterRec
master_record object master = find (λ (m : MasterRec). m.node == master.0) object.masters

-- the record of a power node, a processor, a reset line or a subtype of shutdown, and the mask of it
abbrev pub pair_record : List Pair → ℕ → Option Pair
pair_record pairs key = find (λ (r : Pair). r.key == key) pairs

abbrev pub pair_mask : List Pair → ℕ → Option ℕ
pair_mask pairs key = option_map (λ (r : Pair). r.mask) (pair_record pairs key)

-- ---- a master's bit in a mask

-- a record's mask has a master's bit
abbrev pub mask_has : ℕ → ℕ → Bool
mask_has mask bit = not (bit_and mask bit == 0)

-- both are there, and the mask has the master's bit: a master that the object doesn't have is permitted nothing
abbrev pub is_in : Option MasterRec → Option ℕ → Bool
is_in (Some master) (Some mask) = mask_has mask master.mask
is_in (Some master) None = false
is_in None mask = false

-- ---- slaves

abbrev pub may_use_by : Option MasterRec → Option SlaveRec → Bool
may_use_by (Some master) (Some r) = mask_has r.mask master.mask
may_use_by (Some master) None = false
may_use_by None r = false

-- a master may use a slave: both are there, in the object and in the chip, and the object has a record of the slave,
-- whose mask has the master's bit
abbrev pub may_use : Object → Topology → NodeId → NodeId → Bool
may_use object t master slave =
    is_some (slave_place t.slaves slave.0) && may_use_by (master_record object master) (slave_record object slave)

-- bit 0 of the record's flags: several masters may use the slave at a time
abbrev pub is_shareable : SlaveRec → Bool
is_shareable r = bit_and r.flags 1 == 1

-- ---- other masters

-- a master may suspend another: both are in the object, and the first one's suspend word has the other's bit
abbrev pub may_suspend : Object → Topology → NodeId → NodeId → Bool
may_suspend object t master other =
    is_in (master_record object other) (option_map (λ (m : MasterRec). m.suspend) (master_record object master))

-- a master may wake another: both are in the object, and the first one's wake word has the other's bit
abbrev pub may_wake : Object → Topology → NodeId → NodeId → Bool
may_wake object t master other =
    is_in (master_record object other) (option_map (λ (m : MasterRec). m.wake) (master_record object master))

-- ---- power nodes, processors and reset lines

-- what a node must be to be forced down
abbrev pub can_be_forced : Kind → Bool
can_be_forced (Slave k) = false
can_be_forced Unknown = false
can_be_forced _ = true

-- a master may force a node down: it is a power node or a processor, and the mask of its power record has the master's
-- bit
abbrev pub may_force : Object → Topology → NodeId → NodeId → Bool
may_force object t master node =
    can_be_forced (kind_of t node) && is_in (master_record object master) (pair_mask object.power node.0)

-- a master may reset a line: the chip has it, and the mask of its reset record has the master's bit
abbrev pub may_reset : Object → Topology → NodeId → LineId → Bool
may_reset object t master line =
    has_line line.0 t.lines && is_in (master_record object master) (pair_mask object.reset line.0)

-- ---- the system

-- a master may shut down: itself (subtype 0) always, more than itself (subtype 1 or 2) where the mask of that subtype's
-- shutdown record has its bit
abbrev pub may_shut : Object → Topology → NodeId → ℕ → Bool
may_shut object t master subtype =
    is_some (master_record object master) && (subtype == 0)
    || ((subtype == 1) || (subtype == 2)) && is_in (master_record object master) (pair_mask object.shutdown subtype)

-- a master may set the configuration: the object's base mask has its bit
abbrev pub may_configure : Object → Topology → NodeId → Bool
may_configure object t master = is_in (master_record object master) (Some object.base_mask)
