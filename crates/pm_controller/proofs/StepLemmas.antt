-- What the calls of a controller do, from what their parts do.
use Rattle.std.proofs.Common.{◌≡◌, ℕ, Bool, Option, Some, None, List, [], ◌∷◌, ◌++◌, refl, sym, ap, ◌∙◌}
use Rattle.std.specs.Prelude.{IfSome}
use Rattle.pm_base.specs.declared.names.Command.{Command}
use Rattle.pm_base.specs.declared.names.LineId.{LineId}
use Rattle.pm_base.specs.declared.names.Unit.{Unit}
use Rattle.pm_state.specs.Values.{value}
use Rattle.pm_core.specs.declared.outbox.Outbox.{Outbox}
use Rattle.pm_core.specs.declared.replies.Answer.{Answer}
use Rattle.pm_tell.specs.declared.callbacks.Callback.{Callback}
use Rattle.pm_tell.specs.declared.late.Late.{Late}
use Rattle.pm_values.specs.declared.starts.Start.{Start}
use Rattle.pm_core.specs.Outbox.{Holds, Outputs, outputs_in}
use Rattle.pm_apply.specs.declared.carrying.Carrying.{Carrying}
use Rattle.pm_apply.specs.Carried.{KeepsRest}
use Rattle.pm_apply.specs.Left.{turns_left}
use Rattle.pm_record.specs.Record.{after_answer, Kept, marked}
use Rattle.pm_apply.specs.Plan.{Carried, done_as, later_answers, next_answer, plan, turns_of}
use Rattle.pm_apply.proofs.AlikeLemmas.{alike_part}
use Rattle.pm_record.proofs.Below.{ChipLaws}
use Rattle.pm_trace.specs.Step.{notices_in, notices_of}
use Rattle.pm_controller.specs.Controls.{Controls, chip_of, coming, coming_where, part_with}
use Rattle.pm_controller.specs.Stands.{IsAsking, Stands}
use Rattle.pm_controller.specs.Steps.{IsNext, StepBegins, TakesAnswer}
use Rattle.pm_controller.proofs.ComingLemmas.{plan_first}

-- what an outbox holds
abbrev made : List Unit → Option LineId → List Start → List Late → List Callback → Answer → Outputs
made moved pulse starts late callbacks answer =
    record { moved = moved; pulse = pulse; starts = starts; late = late; callbacks = callbacks; answer = answer }

held : (outs : Outputs) (out : Outbox) → Holds outs out → outputs_in out ≡ outs
held outs out holds =
    ap (λ moved. made moved out.pulse out.starts.items out.late.items out.callbacks.items out.answer) holds.moved
    ∙ (ap (λ pulse. made outs.moved pulse out.starts.items out.late.items out.callbacks.items out.answer) holds.pulse
    ∙ (ap (λ starts. made outs.moved outs.pulse starts out.late.items out.callbacks.items out.answer) holds.starts
    ∙ (ap (λ late. made outs.moved outs.pulse outs.starts late out.callbacks.items out.answer) holds.late
    ∙ (ap (λ callbacks. made outs.moved outs.pulse outs.starts outs.late callbacks out.answer) holds.callbacks
    ∙ ap (made outs.moved outs.pulse outs.starts outs.late outs.callbacks) holds.answer))))

told : (outs : Outputs) (out : Outbox) → Holds outs out → notices_in out ≡ notices_of outs
told outs out holds =
    let starts = holds.starts in
    let late = holds.late in
    let callbacks = holds.callbacks in
    cc

-- the step whose units were marked and whose turns are all left
pub step_begins : ChipLaws → (c : Controls) (kept begun : Kept) (out : Outbox) (outs : Outputs) (left : Carrying)
    → Holds outs out → turns_left (chip_of c) out.pulse left ≡ turns_of (chip_of c) out.pulse
    → ((values : Unit → ℕ) → marked values begun ≡ marked values kept)
    → c.outbox ≡ record out { answer = c.outbox.answer }
    → ((answers : List Bool) → coming c answers ≡ part_with c.book (outputs_in out) out.done.items (plan (chip_of c) (λ u. value u c.book) (turns_left (chip_of c) out.pulse left) begun answers))
    → StepBegins kept outs c
step_begins laws c kept begun out outs left holds all alike rest comes = record {
  fresh = ap (λ (o : Outbox). o.done.items) rest ∙ holds.done;
  notices = ap notices_in rest ∙ told outs out holds;
  comes = λ answers.
      let values : Unit → ℕ = λ u. value u c.book in
      comes answers
      ∙ (ap (λ turns. part_with c.book (outputs_in out) out.done.items (plan (chip_of c) values turns begun answers)) all
      ∙ (ap (λ done. part_with c.book (outputs_in out) done (plan (chip_of c) values (turns_of (chip_of c) out.pulse) begun answers)) holds.done
      ∙ (ap (λ (outs : Outputs). part_with c.book outs [] (plan (chip_of c) values (turns_of (chip_of c) outs.pulse) begun answers)) (held outs out holds)
      ∙ alike_part laws begun kept c.book alike answers outs)));
}

-- an answer was taken down, and the next command found
pub takes_answer : (old new : Controls) (command : Command) (ok : Bool) (out : Outbox) (kept : Kept) (left : Carrying)
    → old.waits ≡ Some command → new.book ≡ old.book
    → new.outbox ≡ record out { answer = new.outbox.answer }
    → KeepsRest old.outbox out
    → out.done.items ≡ old.outbox.done.items ++ done_as command old.kept ok ∷ []
    → ((answers : List Bool) → coming new answers
    ≡ part_with old.book (outputs_in out) out.done.items (plan (chip_of old) (λ u. value u old.book) (turns_left (chip_of old) out.pulse left) kept answers))
    → ((answers : List Bool) → part_with old.book (outputs_in out) out.done.items (plan (chip_of old) (λ u. value u old.book) (turns_left (chip_of old) out.pulse left) kept answers)
    ≡ coming_where old (Some command) (ok ∷ answers))
    → TakesAnswer ok old new
takes_answer old new command ok out kept left waited book found rest done comes answered = record {
  command = command;
  waited = waited;
  book = book;
  done = ap (λ (o : Outbox). o.done.items) found ∙ done;
  notices = ap notices_in found ∙ same rest;
  comes = λ answers. comes answers ∙ (answered answers ∙ sym (ap (λ waits. coming_where old waits (ok ∷ answers)) waited));
}
  where
    same : KeepsRest old.outbox out → notices_in out ≡ notices_in old.outbox
    same rest =
        let starts = rest.starts in
        let late = rest.late in
        let callbacks = rest.callbacks in
        cc

-- the command that waits is the next one of the step
pub is_next : (c : Controls) → Stands c.waits c.book c.kept c.outbox c.left → IfSome c.waits (λ command. (answers : List Bool) → IsNext command c answers)
is_next c stands = at c.waits refl stands
  where
    next : (command : Command) → c.waits ≡ Some command → IsAsking c.book c.kept c.outbox.pulse c.outbox.done.items c.left command → (answers : List Bool) → IsNext command c answers
    next command is asking answers =
        let values : Unit → ℕ = λ u. value u c.book in
        let found = ap (λ turns. plan (chip_of c) values turns c.kept answers) asking.waits.first.is ∙ plan_first (chip_of c) values asking.waits.turn asking.waits.first.later c.kept command answers asking.waits.has in
        record {
          later = (plan (chip_of c) values asking.waits.first.later (after_answer command (next_answer answers) c.kept) (later_answers answers)).done;
          commands =
              ap (λ waits. (coming_where c waits answers).commands) is
              ∙ ap (λ (carried : Carried). c.outbox.done.items ++ carried.done) found;
        }

    at : (waits : Option Command) → c.waits ≡ waits → Stands waits c.book c.kept c.outbox c.left → IfSome waits (λ command. (answers : List Bool) → IsNext command c answers)
    at None is stands = tt
    at (Some command) is asking = next command is asking
