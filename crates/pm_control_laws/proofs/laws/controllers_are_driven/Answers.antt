use Rattle.pm_control_laws.proofs.SessionLaw.{session_ends}
use Rattle.pm_control_laws.proofs.laws.controllers_are_driven.Goals as goal

pub returns : goal.returns
returns c = session_ends
