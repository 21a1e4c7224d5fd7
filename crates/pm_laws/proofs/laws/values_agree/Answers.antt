use Rattle.pm_laws.proofs.ValuesLaw.{modes_alike, values_alike}
use Rattle.pm_laws.proofs.laws.values_agree.Goals as goal

pub returns : goal.returns
returns c = record { values = values_alike; modes = modes_alike }
