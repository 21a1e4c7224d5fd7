use Rattle.pm_run.proofs.ServedLaw.{run_serves}
use Rattle.pm_run.proofs.laws.boxes_of_a_run.Goals as goal

pub returns : goal.returns
returns c = run_serves c.boxes_are_served.ensures
