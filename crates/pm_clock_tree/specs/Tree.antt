-- The clock tree: who enables which clock, the dividers and parents that were chosen, and which clocks run.
use Rattle.std.specs.Prelude.{◌≡◌, ℕ, ◌+◌, Bool, true, false, ◌&&◌, List, [], ◌∷◌, ◌++◌, map, replicate, length, slice_get, unwrap_or, Option, Some, None}
use Rattle.std.specs.List.{list_any}
use Rattle.std.specs.Option.{option_and_then, option_map_or}
use Rattle.pm_base.specs.declared.names.NodeId.{NodeId}
use Rattle.pm_clock_tree.specs.declared.table.ClockDef.{ClockDef}
use Rattle.pm_clock_tree.specs.declared.tree.Setting.{Setting}
use Rattle.pm_clock_tree.specs.Table.{clock_count, clock_place, clocks, parent_at, root_count, roots}

-- what clocks look at in a book: which masters are off, which slaves a master may use by the object in force, and which
-- slaves of the chip stand in a state other than 0
pub record Seen : Type 0 where
  pub is_off : NodeId → Bool
  pub may_use : NodeId → NodeId → Bool
  pub is_on : NodeId → Bool

-- a master, and of each clock that is no root, by its place, whether the master enables it
pub record Holder : Type 0 where
  pub node : NodeId
  pub enables : List Bool

-- the masters in object order, the settings of the clocks that are no roots, by their places, and which roots run
pub record Tree : Type 0 where
  pub holders : List Holder
  pub settings : List Setting
  pub roots : List Bool

-- ---- what is enabled and set

-- a master enables the clock at a place
abbrev pub has : ℕ → Holder → Bool
has k holder = unwrap_or (slice_get holder.enables k) false

-- some master enables it
abbrev pub is_enabled : ℕ → List Holder → Bool
is_enabled k holders = list_any (has k) holders

-- the setting of a clock: a root has none
abbrev pub setting_of : ℕ → Tree → Option Setting
setting_of number tree = option_and_then (λ k. slice_get tree.settings k) (clock_place number)

-- its divider and the index of its parent, and 0 for a root or where there is no such clock
abbrev pub divider : ℕ → Tree → ℕ
divider number tree = option_map_or (λ (setting : Setting). setting.divider) (setting_of number tree) 0

abbrev pub index : ℕ → Tree → ℕ
index number tree = option_map_or (λ (setting : Setting). setting.index) (setting_of number tree) 0

-- ---- which clocks run

-- a root runs where its slave is on; any other clock where a master enables it and the parent that is chosen for it
-- runs
pub data Runs (tree : Tree) : ℕ → Type 0 where
  root : (c : ℕ) → slice_get tree.roots c ≡ Some true → Runs tree c
  driven : (k p : ℕ) (def : ClockDef) (setting : Setting)
      → slice_get clocks k ≡ Some def
      → slice_get tree.settings k ≡ Some setting
      → is_enabled k tree.holders ≡ true
      → parent_at setting.index def ≡ Some p
      → Runs tree p
      → Runs tree def.number

-- whether a clock runs, by its number: the roots, and then the others, each by those with lower numbers
abbrev pub is_running : List Bool → Option ℕ → Bool
is_running running None = false
is_running running (Some c) = unwrap_or (slice_get running c) false

abbrev pub runs_by : List Bool → List Holder → ℕ → ClockDef → Setting → Bool
runs_by running holders k def setting =
    is_enabled k holders && is_running running (parent_at setting.index def)

abbrev pub running_from : List Bool → List Holder → ℕ → List ClockDef → List Setting → List Bool
running_from running holders k (def ∷ defs) (setting ∷ settings) =
    running_from (running ++ runs_by running holders k def setting ∷ []) holders (k + 1) defs settings
running_from running holders k _ _ = running

abbrev pub running : Tree → List Bool
running tree = running_from tree.roots tree.holders 0 clocks tree.settings

abbrev pub runs : ℕ → Tree → Bool
runs number tree = is_running (running tree) (Some number)

-- ---- the tree at load

abbrev pub idle_holder : NodeId → Holder
idle_holder node = record { node = node; enables = replicate (clock_count) false }

-- nothing is divided, and each clock takes its first parent
abbrev pub first_setting : Setting
first_setting = record { divider = 1; index = 0 }

-- the roots as they are seen
abbrev pub roots_seen : Seen → List Bool
roots_seen seen = map seen.is_on roots

-- nobody enables anything
abbrev pub loaded : List NodeId → Seen → Tree
loaded masters seen = record {
  holders = map idle_holder masters;
  settings = replicate (clock_count) first_setting;
  roots = roots_seen seen;
}

-- a tree has a place for each clock of the table
pub record HasAllPlaces (tree : Tree) : Type 0 where
  pub settings : length tree.settings ≡ clock_count
  pub roots : length tree.roots ≡ root_count
