use Rattle.std.proofs.Common.{◌≡◌, length}
use Rattle.pm_values.specs.Caches.{ListedStay}
use Rattle.pm_values.specs.Kinds.{RestLess}
use Rattle.pm_values.proofs.kinds.wake_changed.Given as goal

-- of the units before place i of the list those rest to which nothing happened
abbrev pub invariant-loop-i : goal.invariant-loop-i
invariant-loop-i l = record {
  places : length l.awake ≡ length l.fn.awake;
  stay : ListedStay l.along.downs l.procs.procs l.ups l.awake l.others l.i l.values;
  less : RestLess l.fn.awake l.awake;
}
