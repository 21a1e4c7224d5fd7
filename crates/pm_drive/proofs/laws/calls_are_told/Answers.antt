use Rattle.pm_drive.proofs.CallsLaw.{calls_told_in_run}
use Rattle.pm_drive.proofs.laws.calls_are_told.Goals as goal

pub returns : goal.returns
returns c = calls_told_in_run
