use Rattle.std.proofs.Common.{rules}
use Rattle.pm_topology.proofs.BelowLaw.{below_is}
use Rattle.pm_topology.proofs.topology.Topology.below.Goals as goal

pub returns-clause-at_any_height : goal.returns-clause-at_any_height
returns-clause-at_any_height c = below_is c.args.self.now c.args.w c.args.n c.is_on_way_up.result (search rules)
