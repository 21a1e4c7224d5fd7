-- The log of the units that moved in a script line, in either book, and of changes of modes.
use Rattle.std.specs.Prelude.{ℕ, ◌||◌, nat_lt, Bool, true, false, if◌then◌else◌, List, [], ◌∷◌, ◌++◌, fold, length, Option, None, Some}
use Rattle.pm_base.specs.BoundedList.{Bounded}
use Rattle.pm_base.specs.declared.events.Event.{Event}
use Rattle.pm_base.specs.declared.names.Unit.{Unit}
use Rattle.pm_topology.specs.UnitMap.{place_of}
use Rattle.pm_state.specs.State.{State}
use Rattle.pm_state.specs.Units.{moved}
use Rattle.pm_state.specs.Values.{value}
use Rattle.pm_core.specs.Step.{effect, turns_proc}
use Rattle.pm_run.specs.Run.{Stand, setup_of, split}
use Rattle.pm_base.specs.Places.{has_place}
use Rattle.pm_isolate.specs.Marks.{Marks}

-- the logged places, or all places if there was no room for one, and whether a mode may have changed
pub record Logged : Type 0 where
  pub places : Bounded ℕ
  pub all : Bool
  pub modes : Bool

-- no place is logged, and no mode has changed
abbrev pub cleared : Logged → Logged
cleared m = record { places = record m.places { items = [] }; all = false; modes = false }

-- with whether a processor went to a mode
abbrev pub with_turn : Bool → Logged → Logged
with_turn turned m = record m { modes = m.modes || turned }

-- one more place, or all places, if there is no room for it
abbrev pub with_place : ℕ → Logged → Logged
with_place place m =
    if nat_lt (length m.places.items) m.places.room then record m { places = record m.places { items = m.places.items ++ place ∷ [] } }
    else record m { all = true }

-- with the place of a unit, if it has one
abbrev pub with_place_of : Option ℕ → Logged → Logged
with_place_of None m = m
with_place_of (Some place) m = with_place place m

abbrev pub with_unit : Marks → Logged → Unit → Logged
with_unit marks m unit = with_place_of (place_of marks unit) m

abbrev pub with_units : Marks → List Unit → Logged → Logged
with_units marks units m = fold (with_unit marks) m units

-- a place is logged
abbrev pub is_logged : Logged → ℕ → Bool
is_logged m k = m.all || has_place m.places.items k

-- with a core event from one book to another, and the places of the units that it moves
abbrev pub with_step : Marks → Event → State → State → Logged → Logged
with_step marks event book after m = with_units marks (moved (λ u. value u book) after) (with_turn (turns_proc event book) m)

-- with these core events, one after another
abbrev pub logged_along : Marks → List Event → State → Logged → Logged
logged_along marks [] book m = m
logged_along marks (event ∷ events) book m =
    logged_along marks events (effect event book) (with_step marks event book (effect event book) m)

-- with the core events of a script line
abbrev pub line_moves : Marks → Event → Stand → Logged → Logged
line_moves marks event stand m = logged_along marks (split (setup_of stand.book) event stand).events stand.book m
