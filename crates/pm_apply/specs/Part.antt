-- What a step does with a device: its commands with their answers, the record that they leave, and the step's answer.
use Rattle.std.specs.Prelude.{◌≡◌, Bool, true, List, map}
use Rattle.std.specs.List.{list_all}
use Rattle.pm_device.specs.Act.{Act, Order}
use Rattle.pm_core.specs.declared.outbox.Done.{Done}
use Rattle.pm_core.specs.declared.outbox.Outbox.{Outbox}
use Rattle.pm_core.specs.declared.replies.Answer.{Answer}
use Rattle.pm_core.specs.Outbox.{Outputs}
use Rattle.pm_state.specs.State.{State}
use Rattle.pm_state.specs.Values.{value}
use Rattle.pm_apply.specs.Failing.{falls_short, told_answer}
use Rattle.pm_apply.specs.Plan.{answers_of, plan, turns_of}
use Rattle.pm_record.specs.Record.{marked}
pub use Rattle.pm_record.specs.Record.{Kept}

pub record Part : Type 0 where
  pub commands : List Done
  pub kept : Kept
  pub answer : Answer

-- under these answers of the device (one that isn't there is a yes): the plan of the step, the record with its marks, and
-- the book's answer, which is an internal error in place of success if the device didn't follow the step
abbrev pub part_of : Kept → List Bool → State → Outputs → Part
part_of kept answers book outputs =
    let carried = plan book.fixed.topology (λ u. value u book) (turns_of book.fixed.topology outputs.pulse) kept answers in
    let after = marked (λ u. value u book) carried.kept in
    record {
      commands = carried.done;
      kept = after;
      answer = told_answer (falls_short (λ u. value u book) outputs.moved outputs.pulse carried.done after) outputs.answer;
    }

-- commands with their answers, as the device has them
abbrev pub order_of : Done → Act
order_of d = Order d.command d.ok

abbrev pub orders_of : List Done → List Act
orders_of commands = map order_of commands

-- each of these commands succeeded
abbrev pub AllSucceed : List Done → Type 0
AllSucceed commands = list_all (λ (d : Done). d.ok) commands ≡ true

-- each of these answers is a yes
abbrev pub AllYes : List Bool → Type 0
AllYes answers = list_all (λ (ok : Bool). ok) answers ≡ true

-- ---- what an outbox holds of them

abbrev pub answers_in : Outbox → List Bool
answers_in out = answers_of out.done.items

abbrev pub orders_in : Outbox → List Act
orders_in out = orders_of out.done.items

abbrev pub part_in : Kept → Outbox → Part
part_in kept out = record { commands = out.done.items; kept = kept; answer = out.answer }
