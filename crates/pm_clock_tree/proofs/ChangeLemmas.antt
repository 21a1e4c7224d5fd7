-- ClockTree that run as they were told of have no change.
use Rattle.std.proofs.Common.{◌≡◌, ℕ, Bool, true, false, ◌&&◌, List, [], ◌∷◌, ◌++◌, Some, None, refl, ap, ◌∙◌}
use Rattle.std.specs.Prelude.{flat_map, if◌then◌else◌, is_some, not, option_to_list}
use Rattle.pm_clock_tree.specs.declared.clock_tree.ClockChange.{ClockChange}
use Rattle.pm_clock_tree.specs.declared.table.ClockDef.{ClockDef}
use Rattle.pm_clock_tree.specs.Table.{clock_place}
use Rattle.pm_clock_tree.specs.Told.{Clocked, change, change_at, same}
use Rattle.pm_clock_tree.specs.Tree.{is_running, running}

not_changed : (here a : Bool) (told : ClockChange) → (if here && not (same a a) then Some told else None) ≡ None
not_changed false a told = refl
not_changed true true told = refl
not_changed true false told = refl

unchanged : (number : ℕ) (clocked : Clocked) → clocked.told ≡ running clocked.tree → change_at number clocked ≡ None
unchanged number clocked is =
    ap (λ told. if is_some (clock_place number) && not (same (is_running told (Some number)) (is_running (running clocked.tree) (Some number)))
    then Some (change number (is_running told (Some number)) (is_running (running clocked.tree) (Some number))) else None) is
    ∙ not_changed (is_some (clock_place number)) (is_running (running clocked.tree) (Some number))
    (change number (is_running (running clocked.tree) (Some number)) (is_running (running clocked.tree) (Some number)))

pub no_changes : (clocked : Clocked) (defs : List ClockDef) → clocked.told ≡ running clocked.tree
    → flat_map (λ (def : ClockDef). option_to_list (change_at def.number clocked)) defs ≡ []
no_changes clocked [] is = refl
no_changes clocked (def ∷ defs) is =
    ap (λ found. option_to_list found ++ flat_map (λ (other : ClockDef). option_to_list (change_at other.number clocked)) defs) (unchanged def.number clocked is)
    ∙ no_changes clocked defs is
