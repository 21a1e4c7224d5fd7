use Rattle.std.proofs.Common.{get_or, arith}
use Rattle.std.proofs.lemmas.List.{get_or_default}
use Rattle.pm_base.proofs.InPlace.{map_step}
use Rattle.pm_procs.specs.Procs.{off, turned_off}
use Rattle.pm_procs.proofs.procs.turn_off.Goals as goal

pub loop-proc-preserved : goal.loop-proc-preserved
loop-proc-preserved c =
    let was = get_or c.loop-proc.procs c.loop-proc.proc-index off in
    map_step turned_off c.args.procs.now c.loop-proc.procs c.loop-proc.proc-index was _ (omega arith)
    c.loop-proc.invariant
    (get_or_default c.loop-proc.procs c.loop-proc.proc-index off was (omega arith))
    c.off.ensures
