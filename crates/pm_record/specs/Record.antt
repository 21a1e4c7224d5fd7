-- The record: the kept value of each unit, which is the one that the device last took for it.
use Rattle.std.specs.Prelude.{◌≡◌, ℕ, ◌≤◌, ◌==◌, Bool, false, not, if◌then◌else◌, Some, List, slice_get, unwrap_or}
use Rattle.pm_base.specs.declared.names.Command.{Command}
use Rattle.pm_base.specs.declared.names.Unit.{Unit}
use Rattle.pm_base.specs.declared.names.Unit.TheVariants.{Node}
use Rattle.pm_topology.specs.declared.topology.Topology.{Topology}
use Rattle.pm_topology.specs.declared.topology.PowerDef.{PowerDef}
use Rattle.pm_topology.specs.Units.{units_of}
use Rattle.pm_topology.specs.UnitMap.{all_at, mapped, units_in, value_of, with_value}
use Rattle.pm_record.specs.declared.kept.KeptValue.{KeptValue}

-- the kept values of all units
abbrev pub Kept : Type 0
Kept = List (Unit × KeptValue)

-- a unit that stands at 0 and doesn't lag
abbrev pub idle : KeptValue
idle = record { value = 0; lags = false }

-- the record's entry of a unit; an idle one if the unit isn't there
abbrev pub kept_of : Kept → Unit → KeptValue
kept_of kept unit = unwrap_or (value_of kept unit) idle

-- the kept value of a unit, and 0 for a unit that isn't there
abbrev pub kept_value : Kept → Unit → ℕ
kept_value kept unit = (kept_of kept unit).value

-- whether a unit lags, and not so for a unit that isn't there
abbrev pub lags_in : Kept → Unit → Bool
lags_in kept unit = (kept_of kept unit).lags

-- the record once the device took a value for a unit; nothing changes for one that isn't there
abbrev pub keep : Unit → ℕ → Kept → Kept
keep unit value kept = with_value unit (record (kept_of kept unit) { value = value }) kept

-- the record once a command was answered
abbrev pub after_answer : Command → Bool → Kept → Kept
after_answer c ok kept = if ok then keep c.unit c.value kept else kept

-- the record with a mark at exactly the units whose value isn't this one
abbrev pub mark : (Unit → ℕ) → Unit → KeptValue → KeptValue
mark values unit kept = record kept { lags = not (kept.value == values unit) }

abbrev pub marked : (Unit → ℕ) → Kept → Kept
marked values kept = mapped (mark values) kept

-- at first each unit of the chip stands at 0, and none lags
abbrev pub at_zero : Topology → Kept
at_zero t = all_at idle (units_of t)

-- a record in which all stands at 0, also a unit that isn't there, and nothing lags
pub record IsAtZero (kept : Kept) : Type 0 where
  pub values : (unit : Unit) → kept_value kept unit ≡ 0
  pub marks : (unit : Unit) → lags_in kept unit ≡ false

-- a record of the units of this chip, in which each power node is up or down
pub record IsRecordOf (t : Topology) (kept : Kept) : Type 0 where
  pub units : units_in kept ≡ units_of t
  pub up_or_down : (w : ℕ) (power : PowerDef) → slice_get t.powers w ≡ Some power → kept_value kept (Node power.node) ≤ 1
