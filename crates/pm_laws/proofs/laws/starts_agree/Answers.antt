use Rattle.pm_laws.proofs.StartsLaw.{starts_agree, starts_hidden}
use Rattle.pm_laws.proofs.laws.starts_agree.Goals as goal

pub returns : goal.returns
returns c = record { both = starts_agree c.laws_below.ensures; hidden = starts_hidden c.laws_below.ensures }
