-- One event of a history.
use Rattle.std.proofs.Common.{◌≡◌, ℕ, ◌+◌, List, [], ◌∷◌, ◌++◌, drop, refl, append_assoc}
use Rattle.pm_tasks.specs.Timetable.{Timetable}
use Rattle.pm_tasks.specs.declared.history.Happening.{Happening}
use Rattle.pm_tasks.specs.declared.history.Happening.TheVariants.{Start, Cancel, Tick}
use Rattle.pm_tasks.specs.declared.history.Line.{Line}
use Rattle.pm_tasks.specs.History.{after, after_all, history, lines}

left_after : (event : Happening) (t : Timetable) → t.left ≡ [] → (after event t).left ≡ []
left_after (Start key interval) t settled = settled
left_after (Cancel key) t settled = settled
left_after (Tick count) t settled = refl

-- what holds before an event holds after it, of the events that are left
pub run_step : (events : List Happening) (k : ℕ) (event : Happening) (t u last : Timetable) (out more all : List Line)
    → drop k events ≡ event ∷ drop (k + 1) events
    → u ≡ after event t
    → more ≡ out ++ lines event t
    → (t.left ≡ []) × (after_all (drop k events) t ≡ last) × (out ++ history (drop k events) t ≡ all)
    → (u.left ≡ []) × (after_all (drop (k + 1) events) u ≡ last) × (more ++ history (drop (k + 1) events) u ≡ all)
run_step events k event t u last out more all split is told had =
    let later = drop (k + 1) events in (
      rw is (left_after event t had.0),
      rw is (rw split at had.1),
      rw (is, told, append_assoc out (lines event t) (history later (after event t))) (rw split at had.2),
    )
