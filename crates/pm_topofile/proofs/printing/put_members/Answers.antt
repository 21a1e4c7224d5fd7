use Rattle.std.proofs.Common.{arith, ◌≤◌, length, subst}
use Rattle.std.specs.List.{AllByRecursion}
use Rattle.std.proofs.lemmas.Bool.Decides.{nat_tests}
use Rattle.std.proofs.lemmas.Grind.{common_steps}
use Rattle.std.proofs.lemmas.List.{take_all}
use Rattle.pm_topofile.specs.Printing.{IsSmall, number_of}
use Rattle.pm_topofile.proofs.Leads.{nodes_small}
use Rattle.pm_topofile.proofs.printing.put_members.Goals as goal

pub returns-clause-small : goal.returns-clause-small
returns-clause-small c =
    let past : length c.args.procs.now ≤ c.loop-proc.proc-index = grind (arith, nat_tests, common_steps) in
    nodes_small c.args.procs.now (subst (AllByRecursion (λ n. IsSmall (number_of n))) (take_all c.loop-proc.proc-index c.args.procs.now past) c.loop-proc.invariant.small)
