-- The laws of the clocks.
use Rattle.std.specs.Prelude.{◌≡◌, ◌↔◌, ℕ, true, List}
use Rattle.pm_base.specs.declared.names.NodeId.{NodeId}
use Rattle.pm_clock_tree.specs.declared.calls.ClockCall.{ClockCall}
use Rattle.pm_clock_tree.specs.Followed.{ArePermitted, PermitAlike, Stands, followed}
use Rattle.pm_clock_tree.specs.Served.{served}
use Rattle.pm_clock_tree.specs.Tree.{HasAllPlaces, Runs, Seen, Tree, loaded, runs}

-- the clocks that run, as they are found in the order of the table, are those that run by their parents
abbrev pub RunByTheirParents : Type 0
RunByTheirParents = (tree : Tree) → HasAllPlaces tree → (c : ℕ) → (runs c tree ≡ true) ↔ Runs tree c

-- each master may use the slaves of the clocks that it enables: so it is after each step, and no call changes it
pub record StayPermitted : Type 0 where
  pub followed : (seen : Seen) (tree : Tree) → ArePermitted seen (followed seen tree)
  pub served : (seen : Seen) (master : NodeId) (call : ClockCall) (tree : Tree)
      → ArePermitted seen tree → ArePermitted seen (served seen master call tree)

-- clocks stand over the book at load and after each step. Where they stand each master may use the slaves of the clocks
-- that it enables, and so it is in a step that leaves the object in force as it is. No call changes a root
pub record StandAfterSteps : Type 0 where
  pub loaded : (masters : List NodeId) (seen : Seen) → Stands seen (loaded masters seen)
  pub followed : (seen : Seen) (tree : Tree) → Stands seen (followed seen tree)
  pub permitted : (seen : Seen) (tree : Tree) → Stands seen tree → ArePermitted seen tree
  pub kept : (before after : Seen) (tree : Tree) → PermitAlike before after → ArePermitted before tree → ArePermitted after tree
  pub roots : (seen : Seen) (master : NodeId) (call : ClockCall) (tree : Tree) → (served seen master call tree).roots ≡ tree.roots
