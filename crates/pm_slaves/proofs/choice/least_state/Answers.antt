use Rattle.std.proofs.Common.{rules}
use Rattle.pm_slaves.proofs.Full.{some_meets}
use Rattle.pm_slaves.proofs.choice.least_state.Goals as goal

pub unreachable-requires : goal.unreachable-requires
unreachable-requires c = some_meets c.args.states.now c.args.caps.0 c.args.limit c.requires.last (search rules)
