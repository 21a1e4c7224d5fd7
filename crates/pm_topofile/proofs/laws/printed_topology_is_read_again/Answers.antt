use Rattle.pm_topofile.proofs.Printed.{read_again}
use Rattle.pm_topofile.proofs.laws.printed_topology_is_read_again.Goals as goal

pub returns : goal.returns
returns c = read_again
