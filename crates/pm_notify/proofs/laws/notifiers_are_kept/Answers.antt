use Rattle.pm_notify.proofs.NotifyLaw.{notifier_laws}
use Rattle.pm_notify.proofs.laws.notifiers_are_kept.Goals as goal

pub returns : goal.returns
returns c = notifier_laws c.unit_maps.ensures c.units_stand_in_order.ensures
