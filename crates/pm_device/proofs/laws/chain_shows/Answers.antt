use Rattle.pm_device.proofs.ChainLaw as chain
use Rattle.pm_device.proofs.laws.chain_shows.Goals as goal

pub returns : goal.returns
returns g c =
    chain.chain_shows g.D.Device.values_observable g.D.Device.nodes_observable g.D.Device.Does g.D.Device.state g.met.D.Device.shows
