-- The requests to suspend that end in a step.
use Rattle.std.specs.Prelude.{ℕ, ◌+◌, Bool, false, ◌||◌, List, [], ◌∷◌, ◌++◌, Option, Some, None, if◌then◌else◌}
use Rattle.pm_procs.specs.declared.pending.Pending.{Pending}
use Rattle.pm_procs.specs.Pending.{is_due}
use Rattle.pm_ipi.specs.Status.{abort_suspend, timeout}
use Rattle.pm_tell.specs.declared.ended.Ended.{Ended}
use Rattle.pm_values.specs.declared.turns.Turns.{Turns}
use Rattle.pm_base.specs.Places.{is_place}

-- whether a request is due in a step, in which this time passes, if any does
abbrev pub due_after : Option ℕ → Pending → Bool
due_after None request = false
due_after (Some count) request = is_due count request

-- how a request ends, by the first that holds: with 0 where its target becomes asleep or off, as an aborted suspend
-- where that goes on in place of suspending or aborts, and as timed out where its time is over
abbrev pub ends_with : (down on due : Bool) → Option ℕ
ends_with down on due = if down then Some 0 else if on then Some abort_suspend else if due then Some timeout else None

-- the status with which a request to the master at place m ends, by what becomes of that master's mode, by the master
-- that aborts its suspend, and by the time that passes
abbrev pub end_of : Turns → Option ℕ → Option ℕ → ℕ → Pending → Option ℕ
end_of turns aborts count m request = ends_with turns.down (turns.on || is_place m aborts) (due_after count request)

abbrev pub ended_with : ℕ → Pending → Option ℕ → List Ended
ended_with m request None = []
ended_with m request (Some status) = record { target = m; request = request; status = status } ∷ []

-- the end of what is pending on the master at place m
abbrev pub ended_at : Turns → Option ℕ → Option ℕ → ℕ → Option Pending → List Ended
ended_at turns aborts count m None = []
ended_at turns aborts count m (Some request) = ended_with m request (end_of turns aborts count m request)

-- the ends of what is pending on these masters, in object order; the first of them has place m
abbrev pub ended_from : (ℕ → Turns) → Option ℕ → Option ℕ → ℕ → List (Option Pending) → List Ended
ended_from turns aborts count m [] = []
ended_from turns aborts count m (pending ∷ later) =
    ended_at (turns m) aborts count m pending ++ ended_from turns aborts count (m + 1) later
