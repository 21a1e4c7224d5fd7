-- A step that was carried out: it is the part of its device under its answers, and what holds of each part holds of it.
use Rattle.std.proofs.Common.{Bool, ◌≡◌, ℕ, List, [], ◌++◌, sym, ap, subst, ◌∙◌}
use Rattle.pm_base.specs.declared.names.Unit.{Unit}
use Rattle.pm_device.specs.Act.{Act, AreHarmless, Chain, values_after}
use Rattle.pm_device.specs.Chains.{values_after-same}
use Rattle.pm_device.specs.Device.{DeviceMoment}
use Rattle.pm_core.specs.declared.outbox.Done.{Done}
use Rattle.pm_core.specs.declared.outbox.Outbox.{Outbox}
use Rattle.pm_core.specs.Outbox.{Outputs, outputs_in}
use Rattle.pm_state.specs.State.{State}
use Rattle.pm_state.specs.Values.{value}
use Rattle.pm_apply.specs.Carried.{AreMarked, Takes, StandsAs}
use Rattle.pm_apply.specs.Order.{IsOrdered, LagsAreExplained}
use Rattle.pm_apply.specs.Part.{Part, answers_in, orders_in, orders_of, part_in, part_of}
use Rattle.pm_apply.specs.Plan.{answers_of, plan, turns_of}
use Rattle.pm_record.specs.Record.{IsRecordOf, Kept, kept_value, marked}
use Rattle.pm_apply.proofs.FailingLemmas.{part_after, part_by}

-- what holds of the commands of a step and of the record that they leave
pub record IsSafe (kept : Kept) (book : State) (part : Part) : Type 0 where
  pub ordered : IsOrdered book.fixed.topology (kept_value kept) (orders_of part.commands)
  pub explained : LagsAreExplained book.fixed.topology (λ u. value u book) part.kept part.commands
  pub known : AreHarmless book.fixed.topology (orders_of part.commands)
  pub record_of : IsRecordOf book.fixed.topology part.kept
  pub marks : AreMarked book.fixed.topology (λ u. value u book) part.kept
  pub follows : (unit : Unit) → kept_value part.kept unit ≡ values_after (orders_of part.commands) (kept_value kept) unit

-- exactly the step's part, given command by command
pub record IsCarried {D : Type 0} (Does : Act → D → D → Type 0) (kept now : Kept) (book : State) (before after : Outbox) (old new : D) : Type 0 where
  pub part : part_in now after ≡ part_of kept (answers_in after) book (outputs_in before)
  pub given : Chain Does (orders_in after) old new
  pub safe : IsSafe kept book (part_in now after)

module _ {D : Type 0} (Does : Act → D → D → Type 0) (kept start left now : Kept) (book : State) (before after : Outbox) (old new : D) where
  -- the record that is left and the outbox are the part of the step
  part_is : plan book.fixed.topology (λ u. value u book) (turns_of book.fixed.topology before.pulse) start (answers_in after) ≡ record { done = after.done.items; kept = left }
      → now ≡ marked (λ u. value u book) left
      → after.answer ≡ (part_by (λ u. value u book) (outputs_in before) after.done.items now).answer
      → part_in now after ≡ part_of start (answers_in after) book (outputs_in before)
  part_is planned marks answer =
      let values : Unit → ℕ = λ u. value u book in
      ap (λ answer. record { commands = after.done.items; kept = now; answer = answer }) answer
      ∙ ap (part_by values (outputs_in before) after.done.items) marks
      ∙ sym (ap (part_after values (outputs_in before)) planned)

  -- the turns of a step were taken from a record that comes to the same, then the record was marked, and the answer is by
  -- the record; each part of the step is safe
  pub carried : ((answers : List Bool) (outputs : Outputs) → IsSafe kept book (part_of kept answers book outputs))
      → ((answers : List Bool) (outputs : Outputs) → part_of start answers book outputs ≡ part_of kept answers book outputs)
      → before.done.items ≡ []
      → Takes Does book.fixed.topology (λ u. value u book) (turns_of book.fixed.topology before.pulse) start left before.done.items after.done.items old new
      → after.answer ≡ (part_by (λ u. value u book) (outputs_in before) after.done.items now).answer
      → now ≡ marked (λ u. value u book) left
      → IsCarried Does kept now book before after old new
  carried safe same fresh takes answer marks =
      let all : takes.done ≡ after.done.items = sym (takes.put ∙ ap (λ done. done ++ takes.done) fresh) in
      let Planned : List Done → Type 0 = λ done. plan book.fixed.topology (λ u. value u book) (turns_of book.fixed.topology before.pulse) start (answers_of done) ≡ record { done = done; kept = left } in
      let Given : List Done → Type 0 = λ done. Chain Does (orders_of done) old new in
      let part = part_is (subst Planned all takes.planned) marks answer ∙ same (answers_in after) (outputs_in before) in
      record {
        part = part;
        given = subst Given all takes.given;
        safe = subst (IsSafe kept book) (sym part) (safe (answers_in after) (outputs_in before));
      }

-- a device whose values were those of a record, and are those after some acts, stands as the record that has these
pub stands_then : (acts : List Act) (kept after : Kept) (old new : DeviceMoment)
    → ((unit : Unit) → kept_value after unit ≡ values_after acts (kept_value kept) unit)
    → ((unit : Unit) → new.value unit ≡ values_after acts old.value unit)
    → StandsAs kept old → StandsAs after new
stands_then acts kept after old new follows shown stands unit =
    shown unit ∙ values_after-same acts old.value (kept_value kept) stands unit ∙ sym (follows unit)
