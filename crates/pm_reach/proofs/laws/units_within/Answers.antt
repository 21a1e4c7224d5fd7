use Rattle.pm_reach.proofs.BorderLaw.{to_used, to_line, to_power_above_proc, to_power_above_slave}
use Rattle.pm_reach.proofs.laws.units_within.Goals as goal

pub returns : goal.returns
returns c = record {
  used = to_used;
  line = to_line;
  above_proc = to_power_above_proc;
  above_slave = to_power_above_slave;
}
