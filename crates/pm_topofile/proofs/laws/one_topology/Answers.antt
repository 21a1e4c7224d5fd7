use Rattle.pm_topofile.proofs.MeansLaw.{meant_exactly, one_meant}
use Rattle.pm_topofile.proofs.laws.one_topology.Goals as goal

pub returns-clause-read : goal.returns-clause-read
returns-clause-read c = meant_exactly

pub returns-clause-one : goal.returns-clause-one
returns-clause-one c = one_meant
