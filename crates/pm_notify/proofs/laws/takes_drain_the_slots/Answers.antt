use Rattle.pm_notify.specs.Notify.{notes_for}
use Rattle.pm_notify.proofs.OrderLemmas.{told_in_order}
use Rattle.pm_notify.proofs.TakeLemmas.{all_next, drained, few, next}
use Rattle.pm_notify.proofs.WaitingLemmas.{exactly_waits}
use Rattle.pm_notify.proofs.laws.takes_drain_the_slots.Goals as goal

pub returns : goal.returns
returns c = record {
  exactly = λ m notify w order. exactly_waits c.units_stand_in_order.ensures (notes_for m notify) w order;
  ordered = λ m notify order. told_in_order (notes_for m notify) order;
  next = next;
  all = all_next c.unit_maps.ensures;
  drained = drained c.unit_maps.ensures;
  few = λ m notify. few (notes_for m notify);
}
