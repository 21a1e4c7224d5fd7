use Rattle.std.proofs.Common.{sym, ◌∙◌}
use Rattle.pm_values.specs.Along.{is_down}
use Rattle.pm_values.proofs.AlongLaw.{down_stays}
use Rattle.pm_values.proofs.along.add_down.Goals as goal

pub returns-then-at_or : goal.returns-then-at_or
returns-then-at_or c =
    down_stays c.args.downs.now c.args.p (is_down c.args.tables.now c.args.p) c.requires (sym c.at_or.ensures ∙ c.if-at_or.true)
