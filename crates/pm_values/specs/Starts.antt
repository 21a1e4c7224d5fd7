-- Which processors a step starts.
use Rattle.std.specs.Prelude.{ℕ, Bool, not, ◌&&◌, if◌then◌else◌, List, [], ◌∷◌, ◌++◌}
use Rattle.std.specs.List.{list_any}
use Rattle.pm_base.specs.declared.names.NodeId.{NodeId}
use Rattle.pm_base.specs.declared.names.Mode.TheVariants.{Active}
use Rattle.pm_base.specs.declared.names.Unit.{Unit}
use Rattle.pm_base.specs.declared.names.Unit.TheVariants.{Node, Line}
use Rattle.pm_topology.specs.declared.places.Kind.{Kind}
use Rattle.pm_topology.specs.declared.places.Kind.TheVariants.{Proc}
use Rattle.pm_topology.specs.Places.{kind_of}
use Rattle.pm_procs.specs.Modes.{same_mode, is_awake}
use Rattle.pm_procs.specs.Procs.{mode_at, proc_at}
use Rattle.pm_values.specs.declared.starts.Start.{Start}
use Rattle.pm_state.specs.State.{State}
use Rattle.pm_state.specs.Units.{units}

-- the processor at place p was off or asleep in one of these books
abbrev pub was_down : List State → ℕ → Bool
was_down books p = list_any (λ (book : State). not (is_awake (mode_at p book.now.core.procs))) books

-- the start of the processor at place p, which has this number, where it was down before and is active now
abbrev pub start_at : (ℕ → Bool) → State → NodeId → ℕ → List Start
start_at down after node p =
    if down p && same_mode (mode_at p after.now.core.procs) Active
    then record { proc = node; address = (proc_at p after.now.core.procs).address } ∷ []
    else []

-- the start of a node by its kind: only a processor starts
abbrev pub start_by : (ℕ → Bool) → State → NodeId → Kind → List Start
start_by down after node (Proc p) = start_at down after node p
start_by down after node _ = []

-- the start of a unit
abbrev pub start_of : (ℕ → Bool) → State → Unit → List Start
start_of down after (Node node) = start_by down after node (kind_of after.fixed.topology node)
start_of down after (Line line) = []

-- the starts of these units, in their order
abbrev pub starts_among : (ℕ → Bool) → State → List Unit → List Start
starts_among down after [] = []
starts_among down after (unit ∷ units) = start_of down after unit ++ starts_among down after units

-- the starts, by number, of the processors that are active now and were down, as this test says, before
abbrev pub starts : (ℕ → Bool) → State → List Start
starts down after = starts_among down after (units after)
