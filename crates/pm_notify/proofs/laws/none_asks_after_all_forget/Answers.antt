use Rattle.pm_notify.proofs.AskLemmas.{none_restarted}
use Rattle.pm_notify.proofs.laws.none_asks_after_all_forget.Goals as goal

pub returns : goal.returns
returns c = none_restarted c.unit_maps.ensures c.units_stand_in_order.ensures
