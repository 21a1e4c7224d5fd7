use Rattle.pm_device.specs.Chains.{Chain-append, Chain-refl, Chain-then}
use Rattle.pm_device.proofs.laws.chains_join.Goals as goal

pub returns-clause-none : goal.returns-clause-none
returns-clause-none g c = Chain-refl g.D.Device.Does

pub returns-clause-then : goal.returns-clause-then
returns-clause-then g c = Chain-then g.D.Device.Does

pub returns-clause-append : goal.returns-clause-append
returns-clause-append g c = Chain-append g.D.Device.Does
