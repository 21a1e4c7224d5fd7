-- The marks of a record: which units lag, by the list of their places.
use Rattle.std.specs.Prelude.{◌≡◌, ℕ, ◌==◌, true, false, Option, Some, None, List, [], ◌∷◌, length, slice_get}
use Rattle.pm_base.specs.BoundedList.{Bounded}
use Rattle.pm_base.specs.declared.names.LineId.{LineId}
use Rattle.pm_base.specs.declared.names.Unit.{Unit}
use Rattle.pm_base.specs.declared.names.Unit.TheVariants.{Node, Line}
use Rattle.pm_topology.specs.declared.topology.PowerDef.{PowerDef}
use Rattle.pm_topology.specs.declared.topology.Topology.{Topology}
use Rattle.pm_topology.specs.UnitMap.{units_in, with_value}
use Rattle.pm_topology.specs.Units.{has_in}
use Rattle.pm_record.specs.declared.kept.KeptValue.{KeptValue}
use Rattle.pm_base.specs.Places.{has_place}
use Rattle.pm_record.specs.Record.{Kept, kept_of, kept_value, lags_in, mark, marked}

-- each entry that lags stands at one of these places
abbrev pub LagsWithin : List ℕ → Kept → Type 0
LagsWithin places kept = (k : ℕ) (e : Unit × KeptValue) → slice_get kept k ≡ Some e → e.1.lags ≡ true → has_place places k ≡ true

-- the mark of the unit at a place was made by its value; nothing else changed
pub record Remakes (values : Unit → ℕ) (place : ℕ) (before after : Kept) : Type 0 where
  pub alike : marked values after ≡ marked values before
  pub here : (e : Unit × KeptValue) → slice_get after place ≡ Some e → mark values e.0 e.1 ≡ e.1
  pub others : (k : ℕ) → (place == k) ≡ false → slice_get after k ≡ slice_get before k

-- the places of the units that lag are listed, and both lists have room for the places of all units
pub record ListsMarks (kept : Kept) (listed spare : Bounded ℕ) : Type 0 where
  pub lags : LagsWithin listed.items kept
  pub room : listed.room ≡ length kept
  pub other : spare.room ≡ length kept

-- the entry at a place, which doesn't lag
pub record LagsNotAt (place : ℕ) (kept : Kept) : Type 0 where
  pub entry : Unit × KeptValue
  pub here : slice_get kept place ≡ Some entry
  pub idle : entry.1.lags ≡ false

-- no power node lags
abbrev pub NoPowerLags : Topology → Kept → Type 0
NoPowerLags t kept = (w : ℕ) (p : PowerDef) → slice_get t.powers w ≡ Some p → lags_in kept (Node p.node) ≡ false

-- an entry that doesn't lag has this value
abbrev pub StandsAt : (Unit → ℕ) → Unit × KeptValue → Type 0
StandsAt values e = e.1.lags ≡ false → e.1.value ≡ values e.0

-- each unit of the record that doesn't lag has this value
abbrev pub StandsElsewhere : (Unit → ℕ) → Kept → Type 0
StandsElsewhere values kept = (unit : Unit) → has_in (units_in kept) unit ≡ true → lags_in kept unit ≡ false → kept_value kept unit ≡ values unit

-- the unit of a line that is pulsed, if one is
abbrev pub pulsed : Option LineId → List Unit
pulsed None = []
pulsed (Some line) = Line line ∷ []

-- a unit is marked; nothing changes where it isn't there
abbrev pub with_mark : Unit → Kept → Kept
with_mark unit kept = with_value unit (record (kept_of kept unit) { lags = true }) kept

-- these units were marked, no other lost its mark, and the record comes to the same once each unit is marked by its value
pub record Marks (units : List Unit) (before after : Kept) : Type 0 where
  pub alike : (values : Unit → ℕ) → marked values after ≡ marked values before
  pub these : (unit : Unit) → has_in units unit ≡ true → has_in (units_in before) unit ≡ true → lags_in after unit ≡ true
  pub others : (unit : Unit) → lags_in before unit ≡ true → lags_in after unit ≡ true
