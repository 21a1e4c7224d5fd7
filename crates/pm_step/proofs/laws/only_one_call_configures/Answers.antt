use Rattle.pm_step.proofs.ForceLaw.{object_stays}
use Rattle.pm_step.proofs.laws.only_one_call_configures.Goals as goal

pub returns : goal.returns
returns c = record { force = object_stays }
