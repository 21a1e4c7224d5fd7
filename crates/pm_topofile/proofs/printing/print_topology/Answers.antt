use Rattle.pm_topofile.proofs.Printed.{again_where}
use Rattle.pm_topofile.proofs.printing.print_topology.Goals as goal

pub returns-clause-again : goal.returns-clause-again
returns-clause-again c = again_where (λ v. v.items) c.args.t.now c.print_lists.result c.printed_topology_is_read_again.ensures c.print_lists.ensures.printed c.print_lists.ensures.small
