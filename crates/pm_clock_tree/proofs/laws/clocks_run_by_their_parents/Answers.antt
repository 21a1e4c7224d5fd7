use Rattle.pm_clock_tree.proofs.RunsLaw.{runs_law}
use Rattle.pm_clock_tree.proofs.laws.clocks_run_by_their_parents.Goals as goal

pub returns : goal.returns
returns c = runs_law
