-- What an outbox still holds of a step once its commands are done, and its answer.
use Rattle.std.proofs.Common.{◌≡◌, ◌∙◌, Bool, true, false, ap, refl}
use Rattle.pm_base.specs.BoundedList.{Bounded}
use Rattle.pm_base.specs.declared.events.Event.{Event}
use Rattle.pm_base.specs.declared.events.Event.TheVariants.{Ipi}
use Rattle.pm_tell.specs.declared.callbacks.Callback.{Callback}
use Rattle.pm_tell.specs.declared.late.Late.{Late}
use Rattle.pm_core.specs.declared.outbox.Outbox.{Outbox}
use Rattle.pm_values.specs.declared.starts.Start.{Start}
use Rattle.pm_core.specs.declared.replies.Answer.{Answer}
use Rattle.pm_core.specs.declared.replies.Answer.TheVariants.{Ack, Drop, Reply, Silent}
use Rattle.pm_core.specs.Outbox.{Holds, Outputs}
use Rattle.pm_clocks.specs.Clocked.{made}
use Rattle.pm_apply.specs.Failing.{told_answer}
use Rattle.pm_trace.specs.Step.{notices_in, notices_of}

-- where it held these outputs, and its starts, late replies and callbacks stayed, it has their notices
pub notices_are : (outputs : Outputs) (before after : Outbox) → Holds outputs before → after.starts ≡ before.starts → after.late ≡ before.late → after.callbacks ≡ before.callbacks → notices_in after ≡ notices_of outputs
notices_are outputs before after holds starts late calls =
    let starts_are = ap (λ (list : Bounded Start). list.items) starts ∙ holds.starts in
    let late_are = ap (λ (list : Bounded Late). list.items) late ∙ holds.late in
    let callbacks_are = ap (λ (list : Bounded Callback). list.items) calls ∙ holds.callbacks in
    rw (starts_are, late_are, callbacks_are) refl

-- a clock's reply is made where the book's answer is a reply, whatever the device did
pub made_alike : (event : Event) (short : Bool) (answer : Answer) → made event (told_answer short answer) ≡ made event answer
made_alike (Ipi sender message) true (Reply master response) = refl
made_alike (Ipi sender message) true Silent = refl
made_alike (Ipi sender message) true (Drop master) = refl
made_alike (Ipi sender message) true (Ack master node status point shown) = refl
made_alike event true answer = refl
made_alike event false answer = refl
