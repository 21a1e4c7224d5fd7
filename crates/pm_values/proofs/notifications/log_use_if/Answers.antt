use Rattle.std.proofs.Common.{slice_get, refl}
use Rattle.pm_values.proofs.FollowLaw.{use_written}
use Rattle.pm_values.proofs.notifications.log_use_if.Goals as goal

pub returns-then-asked : goal.returns-then-asked
returns-then-asked c =
    let slaves = c.args.tables.now.fixed.topology.slaves in
    use_written c.args.tables.now.now.core c.args.s c.args.asked slaves (slice_get slaves c.args.s) c.args.used.now c.log_use.new.used
    c.if-asked.true refl c.requires c.log_use.ensures
