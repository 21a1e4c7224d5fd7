use Rattle.pm_isolate.proofs.HistoryLemmas.{differs_not, differs_only}
use Rattle.pm_isolate.proofs.laws.transitions_are_exact.Goals as goal

pub returns : goal.returns
returns c = record { same = differs_not; differ = differs_only }
