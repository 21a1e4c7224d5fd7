-- What becomes of the mode of a master.
use Rattle.std.specs.Prelude.{ℕ, Bool, false, not, ◌&&◌, ◌||◌, List, [], ◌∷◌, map}
use Rattle.pm_base.specs.declared.names.Mode.{Mode}
use Rattle.pm_base.specs.declared.names.Mode.TheVariants.{Off, Active, Suspending}
use Rattle.pm_procs.specs.Modes.{is_awake, same_mode}
use Rattle.pm_values.specs.declared.turns.Turns.{Turns}
use Rattle.pm_state.specs.Members.{mode_of_master}
use Rattle.pm_state.specs.State.{State}

-- along these modes, the first of which is this one, a change of the mode passes this test
abbrev pub ever : (Mode → Mode → Bool) → Mode → List Mode → Bool
ever test mode [] = false
ever test mode (next ∷ modes) = (not (same_mode mode next) && test mode next) || ever test next modes

-- a master that changes so becomes asleep or off
abbrev pub goes_down : Mode → Mode → Bool
goes_down before after = not (is_awake after)

-- a master that changes so was suspending and goes on
abbrev pub goes_on : Mode → Mode → Bool
goes_on before after = same_mode before Suspending && same_mode after Active

-- a master that changes so becomes off
abbrev pub goes_off : Mode → Mode → Bool
goes_off before after = same_mode after Off

-- what becomes of the mode of a master along these modes, the first of which is this one: it becomes asleep or off,
-- it goes on in place of suspending, and it becomes off
abbrev pub turns_of : Mode → List Mode → Turns
turns_of mode modes =
    record { down = ever goes_down mode modes; on = ever goes_on mode modes; off = ever goes_off mode modes }

-- the modes of the master at place m in these books
abbrev pub modes_along : ℕ → List State → List Mode
modes_along m books = map (λ (book : State). mode_of_master book.fixed book.now.core m) books

-- along these books, which follow on this one
abbrev pub turns_along : State → List State → ℕ → Turns
turns_along before books m = turns_of (mode_of_master before.fixed before.now.core m) (modes_along m books)
