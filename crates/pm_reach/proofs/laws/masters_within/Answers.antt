use Rattle.pm_reach.proofs.BorderLaw.{to_suspended, to_woken, to_forced_proc, to_forced_slave, to_reset, to_all_shut, to_all_configured}
use Rattle.pm_reach.proofs.laws.masters_within.Goals as goal

pub returns : goal.returns
returns c = record {
  suspended = to_suspended;
  woken = to_woken;
  forced = to_forced_proc;
  user = to_forced_slave;
  reset = to_reset;
  shut = to_all_shut;
  configured = to_all_configured;
}
