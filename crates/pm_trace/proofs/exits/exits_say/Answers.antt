use Rattle.pm_trace.proofs.ExitsLemmas.{exit_says}
use Rattle.pm_trace.proofs.exits.exits_say.Goals as goal

pub returns : goal.returns
returns g c = exit_says g.O.Sink
