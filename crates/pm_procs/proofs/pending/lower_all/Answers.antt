use Rattle.std.proofs.Common.{arith}
use Rattle.std.specs.Prelude.{option_map}
use Rattle.std.proofs.lemmas.List.{get_or_default}
use Rattle.pm_base.proofs.InPlace.{map_step}
use Rattle.pm_procs.specs.Pending.{lowered}
use Rattle.pm_procs.proofs.pending.lower_all.Goals as goal

pub loop-request-preserved : goal.loop-request-preserved
loop-request-preserved c =
    map_step (option_map (lowered c.args.count)) c.args.pending.now c.loop-request.pending c.loop-request.request-index _ _ (omega arith)
    c.loop-request.invariant
    (get_or_default c.loop-request.pending c.loop-request.request-index _ _ (omega arith))
    c.lowered_request.ensures
