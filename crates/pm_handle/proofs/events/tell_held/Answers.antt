use Rattle.pm_handle.specs.Handle.{IsOver, IsWaiting}
use Rattle.pm_handle.proofs.HeldLemmas.{found, is_none_now, not_none}
use Rattle.pm_handle.proofs.events.tell_held.Goals as goal

pub returns-else-event-clause-left : goal.returns-else-event-clause-left
returns-else-event-clause-left c = λ _.
    found (λ controller. controller.value) IsWaiting _ _ _ c.in-Some.is c.deref_mut.ensures.value (not_none _ c.if-event.ensures.taken)

pub returns-then-event-clause-over : goal.returns-then-event-clause-over
returns-then-event-clause-over c = λ _.
    found (λ controller. controller.value) IsOver _ _ _ c.in-Some.is c.deref_mut.ensures.value (is_none_now _ c.if-event.ensures.taken)
