-- The board that the program gives to a run: two modules, and two timed tasks that count their calls.
use Rattle.std.specs.Prelude.{◌≡◌, ◌⊎◌, ℕ, List, [], ◌∷◌, Some, None}
use Rattle.pm_modules.specs.Ranges.{Ranged}
use Rattle.pm_modules.specs.Responders.{echoed, masked}
use Rattle.pm_tasks.specs.Timetable.{Timed, Timetable, slot, stored_count}

-- words 256 to 259 are answered by their first three arguments, and words 260 to 263 by the low byte of the first one
abbrev pub programs_modules : List Ranged
programs_modules =
    record { first = 256; last = 259; says = echoed } ∷ record { first = 260; last = 263; says = masked 255 } ∷ []

-- a task that is stopped and was never called
abbrev pub unused : Timed
unused = record { plan = None; calls = 0 }

-- two tasks are stored, each of them stopped and never called, and it is time 0
pub record AreTwoCounters (t : Timetable) : Type 0 where
  pub two : stored_count t ≡ 2
  pub each : (key : ℕ) → (slot key t ≡ None) ⊎ (slot key t ≡ Some unused)
  pub start : t.now ≡ 0
  pub settled : t.left ≡ []
