use Rattle.pm_notify.proofs.NotifyLaw.{order_laws}
use Rattle.pm_notify.proofs.laws.notes_stand_in_order.Goals as goal

pub returns : goal.returns
returns c = order_laws c.unit_maps.ensures c.units_stand_in_order.ensures
