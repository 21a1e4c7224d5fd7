use Rattle.pm_topology.proofs.KindLaw.{kind_of_is, kind_alone}
use Rattle.pm_topology.proofs.laws.kinds_are_exact.Goals as goal

pub returns : goal.returns
returns c = record { is = kind_of_is; alone = kind_alone }
