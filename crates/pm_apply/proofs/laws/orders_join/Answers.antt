use Rattle.pm_apply.proofs.OrderLaw.{ordered-append, ordered-same}
use Rattle.pm_apply.proofs.laws.orders_join.Goals as goal

pub returns-clause-append : goal.returns-clause-append
returns-clause-append c = ordered-append

pub returns-clause-alike : goal.returns-clause-alike
returns-clause-alike c = ordered-same
