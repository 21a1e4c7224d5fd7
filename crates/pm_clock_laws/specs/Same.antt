-- Agreement of two clock trees beyond a border.
use Rattle.std.specs.Prelude.{◌≡◌, ℕ, List, [], ◌∷◌, slice_get, Some}
use Rattle.pm_state.specs.State.{Fixed, State}
use Rattle.pm_run.specs.Run.{Core}
use Rattle.pm_laws.specs.Border.{Border}
use Rattle.pm_clock_tree.specs.declared.table.ClockDef.{ClockDef}
use Rattle.pm_clock_tree.specs.Table.{clocks}
use Rattle.pm_clock_tree.specs.Tree.{HasAllPlaces, Tree}
use Rattle.pm_clocks.specs.Clocked.{StandsOver, tree_after_core}
use Rattle.pm_clock_laws.specs.Column.{column}
use Rattle.pm_clock_laws.specs.Reach.{IsClockBeyond}

-- a tree fits a book, and has a place for each clock
pub record IsTreeOver (book : State) (tree : Tree) : Type 0 where
  pub stands : StandsOver book tree
  pub places : HasAllPlaces tree

-- each of two trees fits its book; and for a clock beyond both have the same enables, divider and parent
pub record SameClocks (fixed : Fixed) (border : Border) (a b : State) (s t : Tree) : Type 0 where
  pub first : IsTreeOver a s
  pub second : IsTreeOver b t
  pub columns : (k : ℕ) (def : ClockDef) → slice_get clocks k ≡ Some def → IsClockBeyond fixed border def.number
      → column k s ≡ column k t

-- the tree after core steps: the accepted calls on clocks are done in order, and enables are dropped
abbrev pub tree_along : List Core → Tree → Tree
tree_along [] tree = tree
tree_along (core ∷ cores) tree = tree_along cores (tree_after_core core tree)
