use Rattle.std.proofs.Common.{◌∙◌}
use Rattle.pm_values.proofs.CachesLaw.{kept_value}
use Rattle.pm_values.proofs.values.value.Goals as goal

pub returns : goal.returns
returns c = c.value.ensures ∙ kept_value c.units_stand_in_order.ensures c.kinds_are_exact.ensures c.args.tables.now c.args.caches.now c.args.unit c.requires
