-- A device that fails at listed commands.
use Rattle.std.specs.Prelude.{◌≡◌, ℕ, ◌+◌, ◌-◌, ◌==◌, Bool, true, false, not, ◌||◌, unwrap_or, List, [], ◌∷◌, ◌++◌, ⊤}
use Rattle.std.specs.List.{list_any}
use Rattle.pm_base.specs.Faults.{raised}
use Rattle.pm_base.specs.declared.names.Unit.{Unit}
use Rattle.pm_base.specs.declared.names.Command.{Command}
use Rattle.pm_topology.specs.UnitMap.{all_at, value_of, with_value}
use Rattle.pm_topology.specs.Units.{units_of}
use Rattle.pm_device.specs.Act.{Act, Order, Rig, Fit, Shows}
use Rattle.pm_device.specs.Device.{DeviceMoment}
use Rattle.pm_device.specs.Cells.{is_there}

-- the values of the units, the numbers of the commands that fail, how many commands were given, how many failed, and the
-- acts since it was new, in their order
pub record Listed : Type 0 where
  pub values : List (Unit × ℕ)
  pub failing : List ℕ
  pub commands : ℕ
  pub faults : ℕ
  pub log : List Act

-- what it shows: its values alone, beside its count of faults
abbrev pub listed_moment : Listed → DeviceMoment
listed_moment d = record {
  value = λ unit. unwrap_or (value_of d.values unit) 0;
  has = is_there d.values;
  broken = [];
  faults = d.faults;
}

-- the next command fails where its number is listed, and on a unit that isn't there
abbrev pub next_fails : Listed → Unit → Bool
next_fails d unit = list_any (λ number. number == raised d.commands) d.failing || not (is_there d.values unit)

-- after a command that was carried out, and after one that failed
abbrev pub listed_after : Command → Bool → Listed → Listed
listed_after command true d =
    record d { values = with_value command.unit command.value d.values; commands = raised d.commands }
listed_after command false d = record d { commands = raised d.commands; faults = raised d.faults }

-- the units and the counts after an act; a node that is rigged changes nothing, and a fit none of the counts
abbrev pub listed_done : Act → Listed → Listed
listed_done (Order command ok) d = listed_after command ok d
listed_done (Rig node broken) d = d
listed_done (Fit chip) d = record d { values = all_at 0 (units_of chip) }

-- after an act, which is logged
abbrev pub listed_by : Act → Listed → Listed
listed_by act d = record (listed_done act d) { log = d.log ++ act ∷ [] }

-- an order is refused exactly where it fails by its number or its unit
abbrev pub IsAnsweredBy : Act → Listed → Type 0
IsAnsweredBy (Order command ok) d = ok ≡ not (next_fails d command.unit)
IsAnsweredBy (Rig node broken) d = ⊤
IsAnsweredBy (Fit chip) d = ⊤

-- an act leads from the one to the other
pub record ListedDoes (act : Act) (old new : Listed) : Type 0 where
  pub shows : Shows ⊤ ⊥ act (listed_moment old) (listed_moment new)
  pub after : new ≡ listed_by act old
  pub answer : IsAnsweredBy act old
