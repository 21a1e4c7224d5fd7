-- What is told of clocks: which of them began or ceased to run since the last time.
use Rattle.std.specs.Prelude.{ℕ, Bool, true, false, not, ◌&&◌, if◌then◌else◌, List, flat_map, is_some, Option, Some, None, option_to_list}
use Rattle.pm_base.specs.declared.names.NodeId.{NodeId}
use Rattle.pm_clock_tree.specs.declared.table.ClockDef.{ClockDef}
use Rattle.pm_clock_tree.specs.declared.clock_tree.ClockChange.{ClockChange}
use Rattle.pm_clock_tree.specs.declared.clock_tree.ClockEnd.{ClockEnd}
use Rattle.pm_clock_tree.specs.Table.{clock_place, clocks}
use Rattle.pm_clock_tree.specs.Tree.{Seen, Tree, divider, index, is_running, loaded, running, runs}

-- the clock tree, and which clocks ran when they were told of last
pub record Clocked : Type 0 where
  pub tree : Tree
  pub told : List Bool

abbrev pub was_running : ℕ → Clocked → Bool
was_running number clocked = is_running clocked.told (Some number)

abbrev pub change : ℕ → Bool → Bool → ClockChange
change number from to = record { clock = number; from = from; to = to }

-- two are the same
abbrev pub same : Bool → Bool → Bool
same true on = on
same false on = not on

-- the change of a clock that is no root, where it changed
abbrev pub change_at : ℕ → Clocked → Option ClockChange
change_at number clocked =
    if is_some (clock_place number) && not (same (was_running number clocked) (runs number clocked.tree))
    then Some (change number (was_running number clocked) (runs number clocked.tree))
    else None

-- all of them, by number
abbrev pub changes : Clocked → List ClockChange
changes clocked = flat_map (λ (def : ClockDef). option_to_list (change_at def.number clocked)) clocks

-- they are told of
abbrev pub told : Clocked → Clocked
told clocked = record clocked { told = running clocked.tree }

abbrev pub loaded_clocks : List NodeId → Seen → Clocked
loaded_clocks masters seen = record { tree = loaded masters seen; told = running (loaded masters seen) }

-- a clock that is no root, where it runs, with its divider and the index of its parent
abbrev pub end_at : ℕ → Tree → Option ClockEnd
end_at number tree =
    if is_some (clock_place number) && runs number tree
    then Some (record { clock = number; divider = divider number tree; index = index number tree })
    else None

-- all of them, by number
abbrev pub ends : Tree → List ClockEnd
ends tree = flat_map (λ (def : ClockDef). option_to_list (end_at def.number tree)) clocks
