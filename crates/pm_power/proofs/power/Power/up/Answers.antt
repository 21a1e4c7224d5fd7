use Rattle.pm_power.proofs.UpLaw.{up_exactly}
use Rattle.pm_power.proofs.power.Power.up.Goals as goal

pub returns-clause-exactly : goal.returns-clause-exactly
returns-clause-exactly c = up_exactly c.args.self.now c.args.w c.kept_up.result c.kept_up.ensures.after c.requires c.kept_up.ensures.up
