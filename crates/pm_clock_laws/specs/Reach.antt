-- The clocks within the reach of a master.
use Rattle.std.specs.Prelude.{◌≡◌, ℕ, true, false, slice_get, Some}
use Rattle.pm_base.specs.declared.names.NodeId.{NodeId}
use Rattle.pm_topology.specs.declared.places.Kind.TheVariants.{Slave}
use Rattle.pm_topology.specs.Places.{kind_of}
use Rattle.pm_object.specs.declared.object.MasterRec.{MasterRec}
use Rattle.pm_perms.specs.Permits.{may_use}
use Rattle.pm_object.specs.declared.object.Object.{Object}
use Rattle.pm_state.specs.State.{Fixed, object_at}
use Rattle.pm_laws.specs.Border.{Border}
use Rattle.pm_clock_tree.specs.declared.table.ClockDef.{ClockDef}
use Rattle.pm_clock_tree.specs.Table.{clocks, parent_at, roots}
use Rattle.pm_clocks.specs.Clocked.{node_of}

-- the least set of clocks within: each root whose slave is within the border; each clock whose slave a master within
-- may use by an object of the run; and each clock that has one of these among its parents, selected or not
pub data IsClockWithin (fixed : Fixed) (border : Border) : ℕ → Type 0 where
  root : (c s : ℕ) (node : NodeId) → slice_get roots c ≡ Some node
      → kind_of fixed.topology node ≡ Slave s → border.slave s ≡ false → IsClockWithin fixed border c
  used : (k p o : ℕ) (def : ClockDef) (master : MasterRec) (object : Object) → slice_get clocks k ≡ Some def
      → slice_get fixed.object.masters p ≡ Some master → border.master p ≡ false → object_at fixed o ≡ Some object
      → may_use object fixed.topology (node_of master) def.node ≡ true → IsClockWithin fixed border def.number
  driven : (k i c : ℕ) (def : ClockDef) → slice_get clocks k ≡ Some def → parent_at i def ≡ Some c
      → IsClockWithin fixed border c → IsClockWithin fixed border def.number

-- a clock is beyond
abbrev pub IsClockBeyond : Fixed → Border → ℕ → Type 0
IsClockBeyond fixed border c = IsClockWithin fixed border c → ⊥
