use Rattle.std.proofs.Common.{sym}
use Rattle.pm_notify.proofs.QuietLemmas.{blank_dropped}
use Rattle.pm_notify.proofs.master_notes.drop_notifiers_if.Goals as goal

pub returns-else-may_hold : goal.returns-else-may_hold
returns-else-may_hold c = sym (blank_dropped c.args.notes.now (c.requires c.if-may_hold.false))
