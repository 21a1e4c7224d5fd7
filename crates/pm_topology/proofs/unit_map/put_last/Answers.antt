use Rattle.std.proofs.Common.{◌∙◌}
use Rattle.pm_topology.proofs.UnitMapLaw.{put_last}
use Rattle.pm_topology.proofs.unit_map.put_last.Goals as goal

pub returns-in-Ok : goal.returns-in-Ok
returns-in-Ok g c = c.in-Ok.ensures.entries ∙ put_last c.args.unit c.args.value c.args.entries.now.entries c.requires
