use Rattle.std.proofs.Common.{◌<◌, length, arith}
use Rattle.pm_isolate.specs.Within.{has_differed}
use Rattle.pm_isolate.proofs.MarksLemmas.{mark_step}
use Rattle.pm_isolate.proofs.marks.log_all.Goals as goal

pub loop-place-preserved : goal.loop-place-preserved
loop-place-preserved c =
    let within : c.loop-place.place < length c.args.marks.now = omega (arith, c.len-place-end.ensures.len) in
    mark_step c.unit_map_places.ensures (has_differed c.args.loud.now c.args.quiet.now) c.args.marks.now c.loop-place.marks c.log_at.new.marks c.loop-place.place c.loop-place.invariant within c.log_at.ensures
