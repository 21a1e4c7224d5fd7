use Rattle.pm_drive.proofs.LoweredLaw.{run_lowered}
use Rattle.pm_drive.proofs.laws.scripts_are_lowered.Goals as goal

pub returns : goal.returns
returns c = run_lowered
