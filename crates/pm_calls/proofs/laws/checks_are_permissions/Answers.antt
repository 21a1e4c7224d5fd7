use Rattle.pm_calls.proofs.PermissionsLaw.{checks_permitted}
use Rattle.pm_calls.proofs.laws.checks_are_permissions.Goals as goal

pub returns : goal.returns
returns c = checks_permitted c.grants_are_permissions.ensures c.loads_are_sound.ensures.permitted
