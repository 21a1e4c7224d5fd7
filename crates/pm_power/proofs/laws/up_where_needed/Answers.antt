use Rattle.pm_power.proofs.UpLaw.{after_parents, up_where_needed}
use Rattle.pm_power.proofs.laws.up_where_needed.Goals as goal

pub returns : goal.returns
returns c = record { after = after_parents; exactly = up_where_needed }
