-- What is done to a device, act by act, and what it then shows.
use Rattle.std.specs.Prelude.{◌≡◌, ℕ, ◌+◌, ◌≤◌, Bool, true, false, not, ◌&&◌, if◌then◌else◌, List, [], ◌∷◌, ⊤}
use Rattle.pm_base.specs.declared.names.Unit.{Unit}
use Rattle.pm_base.specs.declared.names.Unit.TheVariants.{Node}
use Rattle.pm_base.specs.declared.names.NodeId.{NodeId}
use Rattle.pm_base.specs.declared.names.Command.{Command}
use Rattle.pm_topology.specs.declared.topology.Topology.{Topology}
use Rattle.pm_device.specs.Device.{DeviceMoment, RoseBy, fails, rigged, rises}
use Rattle.pm_topology.specs.Units.{has_unit, same_unit}

-- a command with its answer, a node that is broken or mended, and a device that is fitted to a chip
pub data Act : Type 0 where
  Order : (command : Command) (ok : Bool) → Act
  Rig : (node : NodeId) (broken : Bool) → Act
  Fit : (chip : Topology) → Act

-- ---- one act

-- the values after an act: an order that isn't refused sets its unit, and a fit sets all to 0
abbrev pub value_by : Act → (Unit → ℕ) → Unit → ℕ
value_by (Order command ok) value unit = if ok && same_unit command.unit unit then command.value else value unit
value_by (Rig node broken) value unit = value unit
value_by (Fit chip) value unit = 0

-- the units after an act: a fit gives it exactly those of the chip
abbrev pub has_by : Act → DeviceMoment → Unit → Bool
has_by (Order command ok) now = now.has
has_by (Rig node broken) now = now.has
has_by (Fit chip) now = has_unit chip

-- the broken nodes after an act: a node that the device has is broken or mended, and a fit leaves none
abbrev pub broken_by : Act → DeviceMoment → List ℕ
broken_by (Order command ok) now = now.broken
broken_by (Rig node broken) now = if now.has (Node node) then rigged node.0 broken now.broken else now.broken
broken_by (Fit chip) now = []

-- the values, units and broken nodes that a device shows after an act; its count is left out
abbrev pub shown_after : Act → DeviceMoment → DeviceMoment
shown_after act now = record now { value = value_by act now.value; has = has_by act now; broken = broken_by act now }

-- an order is refused exactly on a unit that the device lacks and on a broken node
abbrev pub Matches : Act → DeviceMoment → Type 0
Matches (Order command ok) now = ok ≡ not (fails now command.unit)
Matches (Rig node broken) now = ⊤
Matches (Fit chip) now = ⊤

-- how many orders an act refuses
abbrev pub refused : Act → ℕ
refused (Order command ok) = if ok then 0 else 1
refused (Rig node broken) = 0
refused (Fit chip) = 0

-- how the count of faults moves: it never falls, it rises where an order is refused, and a rig or a fit leaves it
abbrev pub Counts : Act → ℕ → ℕ → Type 0
Counts (Order command ok) before now = (before ≤ now) × RoseBy (refused (Order command ok)) before now
Counts (Rig node broken) before now = now ≡ before
Counts (Fit chip) before now = now ≡ before

-- between two moments this one act was done, and nothing else, as far as that can be observed
pub record Shows (values_observable nodes_observable : Type 0) (act : Act) (old new : DeviceMoment) : Type 0 where
  pub counted : Counts act old.faults new.faults
  pub values : values_observable → (unit : Unit) → new.value unit ≡ (shown_after act old).value unit
  pub units : nodes_observable → (unit : Unit) → new.has unit ≡ (shown_after act old).has unit
  pub broken : nodes_observable → new.broken ≡ (shown_after act old).broken
  pub matches : nodes_observable → Matches act old
  pub rising : nodes_observable → rises new.broken ≡ true

-- ---- acts one after another

-- these acts, in this order and nothing else, lead from a device to a device
abbrev pub Chain : {D : Type 0} → (Act → D → D → Type 0) → List Act → D → D → Type 0
Chain Does [] old new = old ≡ new
Chain {D} Does (act ∷ acts) old new = (next : D) × Does act old next × Chain Does acts next new

-- the values after these acts
abbrev pub values_after : List Act → (Unit → ℕ) → Unit → ℕ
values_after [] value unit = value unit
values_after (act ∷ acts) value unit = values_after acts (value_by act value) unit

-- the values, units and broken nodes that a device shows after these acts; its count is left out
abbrev pub shown_by : List Act → DeviceMoment → DeviceMoment
shown_by [] now = now
shown_by (act ∷ acts) now = shown_by acts (shown_after act now)

-- how many orders they refuse
abbrev pub refusals : List Act → ℕ
refusals [] = 0
refusals (act ∷ acts) = refused act + refusals acts

-- each act matches what the acts before it left
abbrev pub AllMatch : List Act → DeviceMoment → Type 0
AllMatch [] now = ⊤
AllMatch (act ∷ acts) now = Matches act now × AllMatch acts (shown_after act now)

-- each order is on a unit of the chip, no node is broken, and each fit is to this chip
abbrev pub AreHarmless : Topology → List Act → Type 0
AreHarmless t [] = ⊤
AreHarmless t (Order command ok ∷ acts) = (has_unit t command.unit ≡ true) × AreHarmless t acts
AreHarmless t (Rig node broken ∷ acts) = (broken ≡ false) × AreHarmless t acts
AreHarmless t (Fit chip ∷ acts) = (chip ≡ t) × AreHarmless t acts

-- between two moments these acts were done, and nothing else, as far as that can be observed
pub record ShowsAll (values_observable nodes_observable : Type 0) (acts : List Act) (old new : DeviceMoment) : Type 0 where
  pub later : old.faults ≤ new.faults
  pub counted : RoseBy (refusals acts) old.faults new.faults
  pub values : values_observable → (unit : Unit) → new.value unit ≡ values_after acts old.value unit
  pub units : nodes_observable → (unit : Unit) → new.has unit ≡ (shown_by acts old).has unit
  pub broken : nodes_observable → new.broken ≡ (shown_by acts old).broken
  pub matched : nodes_observable → AllMatch acts old
  pub rising : nodes_observable → rises old.broken ≡ true → rises new.broken ≡ true
