use Rattle.pm_split.proofs.ServedLaw.{serves_all}
use Rattle.pm_split.proofs.laws.boxes_are_served.Goals as goal

pub returns : goal.returns
returns c = serves_all
