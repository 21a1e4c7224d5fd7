use Rattle.pm_laws.proofs.PathLaw.{path_alike, path_hidden, stages_alike, stages_hidden}
use Rattle.pm_laws.proofs.laws.paths_agree.Goals as goal

pub returns : goal.returns
returns c = record { hidden = path_hidden c.laws_below.ensures; last_hidden = stages_hidden c.laws_below.ensures; alike = path_alike c.laws_below.ensures; last_alike = stages_alike c.laws_below.ensures }
