use Rattle.pm_drive.specs.Drive.{driven}
use Rattle.pm_drive.proofs.FollowedLaw.{clocks_stand}
use Rattle.pm_drive.proofs.laws.clocks_are_followed.Goals as goal

pub returns : goal.returns
returns c = λ setup events answers. clocks_stand c.clocks_stand_after_steps.ensures c.clocks_run_by_their_parents.ensures setup (driven setup answers events)
