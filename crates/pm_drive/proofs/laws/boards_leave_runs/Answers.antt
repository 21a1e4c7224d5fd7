use Rattle.pm_drive.proofs.BoardsLaw.{leaves_run}
use Rattle.pm_drive.proofs.laws.boards_leave_runs.Goals as goal

pub returns : goal.returns
returns c = leaves_run
