use Rattle.std.proofs.Common.{arith}
use Rattle.std.proofs.lemmas.Grind.{common_steps}
use Rattle.pm_topofile.proofs.LastLemmas.{state_added}
use Rattle.pm_topofile.proofs.last.add_state.Goals as goal

pub returns-in_ok-map_err : goal.returns-in_ok-map_err
returns-in_ok-map_err c =
    state_added c.args.state c.args.slaves.now.items c.pop.new.self.items c.push-in-Some.new.self.items c.in-Some.slave c.push.new.self
    (grind (arith, common_steps)) (grind (arith, common_steps)) (grind (arith, common_steps))
