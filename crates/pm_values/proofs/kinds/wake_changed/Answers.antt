use Rattle.std.proofs.Common.{length, refl, ap, ◌∙◌}
use Rattle.pm_values.specs.Caches.{has_stayed}
use Rattle.pm_values.proofs.KindsLaw.{length_unless}
use Rattle.pm_values.proofs.OthersLaw.{less_unless, stay_next, stay_start}
use Rattle.pm_values.proofs.kinds.wake_changed.Goals as goal

pub loop-i-init : goal.loop-i-init
loop-i-init c = record {
  places = refl;
  stay = stay_start c.args.along.now.downs c.args.procs.now.procs c.args.ups.now c.args.others.now c.args.values.now c.args.awake.now;
  less = λ k rests. rests;
}

pub loop-i-preserved : goal.loop-i-preserved
loop-i-preserved c =
    let other = c.other_at-other.result in
    let stays = c.has_stayed-stays.result in
    let awake = c.loop-i.awake in
    record {
      places = ap length c.wake_unless.ensures ∙ (length_unless stays other.unit awake ∙ c.loop-i.invariant.places);
      stay = stay_next c.args.along.now.downs c.args.procs.now.procs c.args.ups.now c.args.others.now c.args.values.now c.loop-i.i other stays awake c.wake_unless.new.awake
          c.other_at-other.ensures
          (c.has_stayed-stays.ensures ∙ ap (λ e. has_stayed c.args.along.now.downs c.args.procs.now.procs c.args.ups.now other.kind e) c.entry.ensures)
          c.wake_unless.ensures c.loop-i.invariant.stay;
      less = λ k rests. c.loop-i.invariant.less k (less_unless stays other.unit awake c.wake_unless.new.awake c.wake_unless.ensures k rests);
    }
