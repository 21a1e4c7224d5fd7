use Rattle.pm_topofile.proofs.Known.{supported_where}
use Rattle.pm_topofile.proofs.MeansLaw.{found_where, only_where}
use Rattle.pm_topofile.proofs.meaning.read_topology.Goals as goal

pub returns-clause-supported : goal.returns-clause-supported
returns-clause-supported c = supported_where c.args.text.now c.read_text.result c.read_text.ensures

pub returns-clause-found : goal.returns-clause-found
returns-clause-found c = found_where c.args.text.now c.read_text.result c.read_text.ensures

pub returns-clause-only : goal.returns-clause-only
returns-clause-only c = λ t means. only_where c.args.text.now c.read_text.result t c.read_text.ensures means
