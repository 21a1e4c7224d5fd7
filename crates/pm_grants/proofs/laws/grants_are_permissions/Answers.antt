use Rattle.pm_grants.proofs.GrantsLaw.{grant_laws}
use Rattle.pm_grants.proofs.laws.grants_are_permissions.Goals as goal

pub returns : goal.returns
returns c = grant_laws c.kinds_are_exact.ensures
