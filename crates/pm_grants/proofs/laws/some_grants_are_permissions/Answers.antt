use Rattle.pm_grants.proofs.SeveralLaw.{several_laws}
use Rattle.pm_grants.proofs.laws.some_grants_are_permissions.Goals as goal

pub returns : goal.returns
returns c = several_laws c.grants_are_permissions.ensures
