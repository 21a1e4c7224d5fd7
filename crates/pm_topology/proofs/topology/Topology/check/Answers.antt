use Rattle.pm_topology.proofs.FirstBrokenLaw.{answer_is_first}
use Rattle.pm_topology.proofs.WellFormedLaw.{passes_where_well_formed}
use Rattle.pm_topology.proofs.topology.Topology.check.Goals as goal

pub returns-clause-well_formed : goal.returns-clause-well_formed
returns-clause-well_formed c = passes_where_well_formed c.args.self.now c.first_broken.result c.first_broken.ensures

pub returns-clause-broken : goal.returns-clause-broken
returns-clause-broken c = answer_is_first c.args.self.now c.first_broken.result c.first_broken.ensures
