use Rattle.std.proofs.Common.{None, get_or, arith, refl}
use Rattle.std.proofs.lemmas.List.{get_or_default}
use Rattle.pm_base.proofs.InPlace.{map_step}
use Rattle.pm_procs.specs.Pending.{dropped}
use Rattle.pm_procs.proofs.pending.end_all.Goals as goal

pub loop-request-preserved : goal.loop-request-preserved
loop-request-preserved c =
    let was = get_or c.loop-request.pending c.loop-request.request-index None in
    map_step dropped c.args.pending.now c.loop-request.pending c.loop-request.request-index was _ (omega arith)
    c.loop-request.invariant
    (get_or_default c.loop-request.pending c.loop-request.request-index None was (omega arith))
    refl
