-- What an object permits on a chip, compiled once: for each master, slave, processor, power node and reset line, by its place,
-- the mask of its record. A permission is then one look-up.
use Rattle.std.specs.Prelude.{ℕ, ◌==◌, Bool, is_some, List, slice_get, unwrap_or, map, if◌then◌else◌}
use Rattle.std.specs.Option.{option_map, option_map_or}
use Rattle.pm_object.specs.declared.object.MasterRec.{MasterRec}
use Rattle.pm_object.specs.declared.object.Object.{Object}
use Rattle.pm_object.specs.declared.object.Pair.{Pair}
use Rattle.pm_object.specs.declared.object.SlaveRec.{SlaveRec}
use Rattle.pm_topology.specs.declared.places.Kind.{Kind}
use Rattle.pm_topology.specs.declared.places.Kind.TheVariants.{Power, Proc}
use Rattle.pm_topology.specs.declared.topology.LineDef.{LineDef}
use Rattle.pm_topology.specs.declared.topology.PowerDef.{PowerDef}
use Rattle.pm_topology.specs.declared.topology.ProcDef.{ProcDef}
use Rattle.pm_topology.specs.declared.topology.SlaveDef.{SlaveDef}
use Rattle.pm_topology.specs.declared.topology.Topology.{Topology}
use Rattle.pm_perms.specs.Permits.{mask_has, pair_mask, slave_record}
use Rattle.pm_grants.specs.declared.grants.Grants.{Grants}
use Rattle.pm_grants.specs.declared.grants.MasterMasks.{MasterMasks}

-- ---- compiled

-- what stands in the object's record of a master: its bit, and the bits of those that it may suspend and wake
abbrev pub master_masks : MasterRec → MasterMasks
master_masks master = record { bit = master.mask; suspend = master.suspend; wake = master.wake }

-- the mask of the object's record of a slave; where it has none, nobody is in it
abbrev pub slave_mask : Object → SlaveDef → ℕ
slave_mask object slave = unwrap_or (option_map (λ (r : SlaveRec). r.mask) (slave_record object slave.node)) 0

-- the mask of the record with a key; where there is none, nobody is in it
abbrev pub mask_for : List Pair → ℕ → ℕ
mask_for pairs key = unwrap_or (pair_mask pairs key) 0

-- what an object permits on a chip
abbrev pub grants_of : Object → Topology → Grants
grants_of object t = record {
  masters = map master_masks object.masters;
  slaves = map (slave_mask object) t.slaves;
  procs = map (λ (proc : ProcDef). mask_for object.power proc.node.0) t.procs;
  powers = map (λ (power : PowerDef). mask_for object.power power.node.0) t.powers;
  lines = map (λ (line : LineDef). mask_for object.reset line.line.0) t.lines;
  domain = mask_for object.shutdown 1;
  system = mask_for object.shutdown 2;
  configure = object.base_mask;
}

-- ---- looked up

-- the bit of the master at a place: none past the last one, so nothing is permitted there
abbrev pub bit_of : Grants → ℕ → ℕ
bit_of grants m = option_map_or (λ (master : MasterMasks). master.bit) (slice_get grants.masters m) 0

-- the masks of those that the master at a place may suspend and wake
abbrev pub suspend_mask : Grants → ℕ → ℕ
suspend_mask grants m = option_map_or (λ (master : MasterMasks). master.suspend) (slice_get grants.masters m) 0

abbrev pub wake_mask : Grants → ℕ → ℕ
wake_mask grants m = option_map_or (λ (master : MasterMasks). master.wake) (slice_get grants.masters m) 0

-- the mask at a place
abbrev pub mask_at : List ℕ → ℕ → ℕ
mask_at masks place = unwrap_or (slice_get masks place) 0

-- the master at a place is in a mask
abbrev pub is_within_mask : Grants → ℕ → ℕ → Bool
is_within_mask grants m mask = mask_has mask (bit_of grants m)

-- ---- what the master at place m may do

-- use the slave at a place
abbrev pub permits_use : Grants → ℕ → ℕ → Bool
permits_use grants m s = is_within_mask grants m (mask_at grants.slaves s)

-- suspend and wake the master at a place: the other's bit is in the first one's mask
abbrev pub permits_suspend : Grants → ℕ → ℕ → Bool
permits_suspend grants m other = is_within_mask grants other (suspend_mask grants m)

abbrev pub permits_wake : Grants → ℕ → ℕ → Bool
permits_wake grants m other = is_within_mask grants other (wake_mask grants m)

-- force down the node of a kind: a processor or a power node
abbrev pub force_mask : Grants → Kind → ℕ
force_mask grants (Proc p) = mask_at grants.procs p
force_mask grants (Power w) = mask_at grants.powers w
force_mask grants _ = 0

abbrev pub permits_force : Grants → ℕ → Kind → Bool
permits_force grants m kind = is_within_mask grants m (force_mask grants kind)

-- reset the line at a place
abbrev pub permits_reset : Grants → ℕ → ℕ → Bool
permits_reset grants m l = is_within_mask grants m (mask_at grants.lines l)

-- shut down, by the subtype: itself (0), the power supply's domain (1) or the system (2)
abbrev pub shut_mask : Grants → ℕ → ℕ
shut_mask grants subtype = if subtype == 1 then grants.domain else (if subtype == 2 then grants.system else 0)

abbrev pub permits_shut : Grants → ℕ → ℕ → Bool
permits_shut grants m subtype =
    if subtype == 0 then is_some (slice_get grants.masters m) else is_within_mask grants m (shut_mask grants subtype)

-- set the configuration
abbrev pub permits_configure : Grants → ℕ → Bool
permits_configure grants m = is_within_mask grants m grants.configure
