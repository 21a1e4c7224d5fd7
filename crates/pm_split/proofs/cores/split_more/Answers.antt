use Rattle.pm_split.specs.Boxes.{waiting_in}
use Rattle.pm_split.proofs.SplitLaw.{passed}
use Rattle.pm_split.proofs.cores.split_more.Goals as goal

pub returns-in-Serve-clause-some : goal.returns-in-Serve-clause-some
returns-in-Serve-clause-some c = passed (waiting_in c.args.object.now c.args.boxes.now)
