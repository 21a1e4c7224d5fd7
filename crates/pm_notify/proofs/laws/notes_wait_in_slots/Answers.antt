use Rattle.pm_notify.proofs.NotifyLaw.{slot_laws}
use Rattle.pm_notify.proofs.laws.notes_wait_in_slots.Goals as goal

pub returns : goal.returns
returns c = slot_laws c.unit_maps.ensures c.units_stand_in_order.ensures
