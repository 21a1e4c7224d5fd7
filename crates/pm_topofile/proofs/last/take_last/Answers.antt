use Rattle.std.proofs.Common.{arith, ◌≡◌, ◌==◌, true, false}
use Rattle.std.proofs.lemmas.Bool.Decides.{nat_tests}
use Rattle.std.proofs.lemmas.Grind.{common_steps}
use Rattle.pm_topofile.proofs.LastLemmas.{same_taken, other_taken}
use Rattle.pm_topofile.proofs.last.take_last.Goals as goal

pub returns-then-eq : goal.returns-then-eq
returns-then-eq c = λ procs.
    let same : (c.in-Some.master.node.0 == c.args.node.0) ≡ true = grind (arith, nat_tests, common_steps) in
    same_taken c.args.node procs c.args.masters.now.items c.pop.new.self.items c.in-Some.master (grind (arith, common_steps)) same

pub returns : goal.returns
returns c = λ procs.
    let other : (c.in-Some.master.node.0 == c.args.node.0) ≡ false = grind (arith, nat_tests, common_steps) in
    rw c.new_master-2.ensures (other_taken c.args.node procs c.args.masters.now.items c.pop.new.self.items c.push.new.self.items c.in-Some.master (grind (arith, common_steps)) other (grind (arith, common_steps)))
