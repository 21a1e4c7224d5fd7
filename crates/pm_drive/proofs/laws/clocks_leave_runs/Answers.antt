use Rattle.pm_drive.proofs.ClocksLaw.{clocks_leave_run}
use Rattle.pm_drive.proofs.laws.clocks_leave_runs.Goals as goal

pub returns : goal.returns
returns c = clocks_leave_run
