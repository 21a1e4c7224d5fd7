use Rattle.std.proofs.Common.{ap}
use Rattle.pm_device.specs.Listed.{Listed, ListedDoes}
use Rattle.pm_device.specs.Model.{Bench, BenchDoes}
use Rattle.pm_device.proofs.ChainLaw.{chain_logged}
use Rattle.pm_device.proofs.laws.chains_are_logged.Goals as goal

pub returns-clause-model : goal.returns-clause-model
returns-clause-model c =
    let log = λ (b : Bench). b.log in
    chain_logged BenchDoes log (λ act old new does. ap log does.after)

pub returns-clause-listed : goal.returns-clause-listed
returns-clause-listed c =
    let log = λ (d : Listed). d.log in
    chain_logged ListedDoes log (λ act old new does. ap log does.after)
