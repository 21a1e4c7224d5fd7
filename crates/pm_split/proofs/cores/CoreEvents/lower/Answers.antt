use Rattle.std.proofs.Common.{refl, sym}
use Rattle.pm_psci.specs.Lowering.{lowered}
use Rattle.pm_split.proofs.PlacesLaw.{next_is}
use Rattle.pm_split.proofs.cores.CoreEvents.lower.Goals as goal

pub returns : goal.returns
returns c =
    record { events = (next_is (lowered c.args.t.now c.args.smc) c.args.k c.in_ok-event.event (sym c.in_ok-event.ensures), refl) }
