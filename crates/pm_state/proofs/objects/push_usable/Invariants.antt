use Rattle.std.proofs.Common.{◌≡◌, ◌++◌, drop}
use Rattle.pm_state.specs.State.{usable_among}
use Rattle.pm_state.proofs.objects.push_usable.Given as goal

-- the objects put in so far and those of what is left make the whole
abbrev pub invariant-loop-one : goal.invariant-loop-one
invariant-loop-one l = l.objects ++ usable_among l.object (drop l.one-index l.attached) ≡ l.fn.objects ++ usable_among l.object l.attached
