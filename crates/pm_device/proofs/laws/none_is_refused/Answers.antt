use Rattle.pm_device.proofs.ChainLaw.{unrefused_still, unrefused_whole}
use Rattle.pm_device.proofs.laws.none_is_refused.Goals as goal

pub returns-clause-still : goal.returns-clause-still
returns-clause-still g c =
    unrefused_still g.D.Device.values_observable g.D.Device.nodes_observable g.D.Device.Does g.D.Device.state g.met.D.Device.shows

pub returns-clause-whole : goal.returns-clause-whole
returns-clause-whole g c =
    unrefused_whole g.D.Device.values_observable g.D.Device.nodes_observable g.D.Device.Does g.D.Device.state g.met.D.Device.shows
