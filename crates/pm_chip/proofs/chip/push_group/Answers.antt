use Rattle.std.proofs.Common.{rules}
use Rattle.pm_chip.proofs.Groups.{put_step}
use Rattle.pm_chip.proofs.chip.push_group.Goals as goal

pub loop-place-preserved : goal.loop-place-preserved
loop-place-preserved c =
    put_step _ _ _ _ c.args.group.0 c.loop-place.place c.args.group.1 c.args.group.2 c.args.group.3
    c.loop-place-test.true
    c.in_ok-push.ensures.ok
    (search rules)
    c.loop-place.invariant
