use Rattle.pm_reach.proofs.ReachedLaw.{brought_where, reached_where, some_where}
use Rattle.pm_reach.proofs.laws.reach_is_decided.Goals as goal

pub returns : goal.returns
returns c = record { masters = reached_where; units = brought_where; some = some_where }
