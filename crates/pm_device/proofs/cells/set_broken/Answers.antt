use Rattle.std.proofs.Common.{ap, ◌∙◌}
use Rattle.pm_topology.specs.Units.{rises}
use Rattle.pm_device.proofs.CellsLaw.{broken_now, broken_rises}
use Rattle.pm_device.proofs.cells.set_broken.Goals as goal

pub returns-clause-broken : goal.returns-clause-broken
returns-clause-broken c =
    broken_now c.args.node _ c.args.cells.now c.set.new.self c.get.ensures.rising c.set.ensures.one c.set.ensures.same

-- the units stay, and they rise
pub returns-clause-rising : goal.returns-clause-rising
returns-clause-rising c = broken_rises c.set.new.self (ap rises c.set.ensures.units ∙ c.get.ensures.rising)
