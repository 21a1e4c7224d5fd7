use Rattle.pm_reach.proofs.ParentsLaw.{to_parent_of_power, to_parent_of_proc, to_parent_of_slave}
use Rattle.pm_reach.proofs.laws.parents_within.Goals as goal

pub returns : goal.returns
returns c = record {
  proc = to_parent_of_proc c.kinds_are_exact.ensures;
  slave = to_parent_of_slave c.kinds_are_exact.ensures;
  power = to_parent_of_power c.kinds_are_exact.ensures;
}
