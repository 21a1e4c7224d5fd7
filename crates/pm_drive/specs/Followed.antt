-- The clocks along a run.
use Rattle.std.specs.Prelude.{◌≡◌, ◌↔◌, ⊤, ℕ, true, List, [], ◌∷◌}
use Rattle.pm_state.specs.Load.{load_of}
use Rattle.pm_state.specs.State.{State}
use Rattle.pm_clock_tree.specs.Tree.{HasAllPlaces, Runs, Tree, runs}
use Rattle.pm_clocks.specs.Clocked.{StandsOver, tree_after_core}
use Rattle.pm_run.specs.Run.{Setup}
use Rattle.pm_drive.specs.Clocks.{first_tree}
use Rattle.pm_drive.specs.Drive.{Driven, Given}
use Rattle.pm_drive.specs.Lowered.{given_in}

-- a tree over a book: no master that is off enables anything in it, and each enables only clocks whose slaves it may use by the object
-- in force; a root runs exactly where its slave of the chip is in a state other than 0; and any other clock runs exactly where a
-- master enables it and the parent that is chosen for it runs
pub record IsTreeOf (book : State) (tree : Tree) : Type 0 where
  pub stands : StandsOver book tree
  pub places : HasAllPlaces tree
  pub runs : (number : ℕ) → (runs number tree ≡ true) ↔ Runs tree number

-- so after each of these core steps: the tree is the one before with the call on a clock that was made in it, if it wasn't refused, and
-- without the enables that are dropped then
abbrev pub StandAlong : Tree → List Given → Type 0
StandAlong tree [] = ⊤
StandAlong tree (g ∷ given) =
    IsTreeOf g.core.after (tree_after_core g.core tree) × StandAlong (tree_after_core g.core tree) given

-- at the load of a run and after each core step of these lines, from the load on
pub record ClocksStand (c : Setup) (xs : List Driven) : Type 0 where
  pub load : IsTreeOf (load_of c.object c.attached c.topology) (first_tree c)
  pub steps : StandAlong (first_tree c) (given_in xs)
