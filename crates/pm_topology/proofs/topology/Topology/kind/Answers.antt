use Rattle.pm_topology.proofs.KindLaw.{kind_is, kind_only}
use Rattle.pm_topology.proofs.topology.Topology.kind.Goals as goal

pub returns-clause-entry : goal.returns-clause-entry
returns-clause-entry c = kind_is c.args.self.now c.args.n c.search.result c.search.ensures

pub returns-clause-only : goal.returns-clause-only
returns-clause-only c = kind_only c.args.self.now c.args.n c.search.result c.search.ensures
