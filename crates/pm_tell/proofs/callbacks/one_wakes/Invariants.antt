use Rattle.std.proofs.Common.{◌≡◌, ℕ, ◌<◌, false}
use Rattle.pm_state.specs.Members.{mode_of_master}
use Rattle.pm_tell.specs.Callbacks.{wakes}
use Rattle.pm_tell.specs.Telling.{mode_before}
use Rattle.pm_tell.proofs.callbacks.one_wakes.Given as goal

-- no master before place k wakes
abbrev pub invariant-loop-k : goal.invariant-loop-k
invariant-loop-k l =
    (m : ℕ) → m < l.k → wakes (mode_before l.telling m) (mode_of_master l.tables.fixed l.tables.now.core m) ≡ false
