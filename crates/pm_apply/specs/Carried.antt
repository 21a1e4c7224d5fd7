-- What some turns of a step did: to the list of commands, the record and the device.
use Rattle.std.specs.Prelude.{◌≡◌, ℕ, ◌==◌, ◌⊎◌, true, not, List, ◌++◌}
use Rattle.pm_base.specs.declared.names.Unit.{Unit}
use Rattle.pm_topology.specs.declared.topology.Topology.{Topology}
use Rattle.pm_device.specs.Act.{Act, Chain}
use Rattle.pm_device.specs.Device.{DeviceMoment}
use Rattle.pm_topology.specs.Units.{has_in, has_unit}
use Rattle.pm_core.specs.declared.outbox.Done.{Done}
use Rattle.pm_core.specs.declared.outbox.Outbox.{Outbox}
use Rattle.pm_apply.specs.declared.turns.Turn.{Turn}
use Rattle.pm_apply.specs.Part.{orders_of}
use Rattle.pm_state.specs.State.{State}
use Rattle.pm_state.specs.Values.{value}
use Rattle.pm_apply.specs.Failing.{falls_short, told_answer}
use Rattle.pm_apply.specs.Plan.{plan, answers_of, turns_of}
use Rattle.pm_record.specs.Record.{Kept, lags_in, kept_value, marked}

-- these turns were taken: exactly the commands of their plan were given to the device, in their order and nothing else,
-- under the answers that it gave, and put behind those before
pub record Takes {D : Type 0} (Does : Act → D → D → Type 0) (t : Topology) (values : Unit → ℕ) (turns : List Turn)
    (kept_before kept_after : Kept) (done_before done_after : List Done) (before after : D) : Type 0 where
  pub done : List Done
  pub put : done_after ≡ done_before ++ done
  pub planned : plan t values turns kept_before (answers_of done) ≡ record { done = done; kept = kept_after }
  pub given : Chain Does (orders_of done) before after

-- of an outbox only the commands changed
pub record KeepsRest (before after : Outbox) : Type 0 where
  pub room : after.done.room ≡ before.done.room
  pub moved : after.moved ≡ before.moved
  pub pulse : after.pulse ≡ before.pulse
  pub starts : after.starts ≡ before.starts
  pub late : after.late ≡ before.late
  pub callbacks : after.callbacks ≡ before.callbacks
  pub answer : after.answer ≡ before.answer

-- the marks of a record: each unit of the chip lags exactly where its value isn't this one
abbrev pub AreMarked : Topology → (Unit → ℕ) → Kept → Type 0
AreMarked t values kept = (unit : Unit) → has_unit t unit ≡ true → lags_in kept unit ≡ not (kept_value kept unit == values unit)

-- what a step finds: each unit of the chip is one of these that moved, or lags, or has this value in the record
abbrev pub DifferencesAreMarked : Topology → (Unit → ℕ) → List Unit → Kept → Type 0
DifferencesAreMarked t values moved kept = (unit : Unit) → has_unit t unit ≡ true
    → (has_in moved unit ≡ true) ⊎ ((lags_in kept unit ≡ true) ⊎ (kept_value kept unit ≡ values unit))

-- the device stands as the record says
abbrev pub StandsAs : Kept → DeviceMoment → Type 0
StandsAs kept moment = (unit : Unit) → moment.value unit ≡ kept_value kept unit

-- the turns of a step were taken from a record that comes to the same once each unit is marked by its value, then the units
-- were marked by their values, and the answer is by what the device did
pub record HasCarried {D : Type 0} (Does : Act → D → D → Type 0) (book : State) (kept now : Kept) (before after : Outbox) (old new : D) : Type 0 where
  pub start : Kept
  pub left : Kept
  pub alike : (values : Unit → ℕ) → marked values start ≡ marked values kept
  pub takes : Takes Does book.fixed.topology (λ u. value u book) (turns_of book.fixed.topology before.pulse) start left before.done.items after.done.items old new
  pub marks : now ≡ marked (λ u. value u book) left
  pub answer : after.answer ≡ told_answer (falls_short (λ u. value u book) before.moved.items before.pulse after.done.items now) before.answer
  pub rest : KeepsRest before (record after { answer = before.answer })
