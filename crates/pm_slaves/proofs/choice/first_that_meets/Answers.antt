use Rattle.pm_slaves.proofs.Full.{first_found, always_one}
use Rattle.pm_slaves.proofs.choice.first_that_meets.Goals as goal

pub returns-clause-first : goal.returns-clause-first
returns-clause-first c = first_found c.args.states.now c.args.caps.0 c.args.limit c.search.result c.search.ensures

pub returns-clause-full : goal.returns-clause-full
returns-clause-full c = always_one c.args.states.now c.args.caps.0 c.args.limit c.search.result c.search.ensures
