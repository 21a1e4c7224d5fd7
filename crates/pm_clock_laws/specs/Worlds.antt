-- The clocks of a run beside those of the run without the messages of a master, line by line.
use Rattle.std.specs.Prelude.{◌≡◌, ℕ, List, [], ◌∷◌, Option}
use Rattle.pm_base.specs.declared.events.Event.{Event}
use Rattle.pm_base.specs.declared.names.NodeId.{NodeId}
use Rattle.pm_state.specs.State.{Fixed}
use Rattle.pm_run.specs.Run.{Line, Setup, loaded, run, fixed_of}
use Rattle.pm_laws.specs.Border.{Border}
use Rattle.pm_laws.specs.Both.{Both}
use Rattle.pm_laws.specs.Quiet.{quiet}
use Rattle.pm_laws.specs.ReachBorder.{border_of}
use Rattle.pm_clock_tree.specs.declared.clock_tree.ClockChange.{ClockChange}
use Rattle.pm_clock_tree.specs.Told.{change_at, end_at}
use Rattle.pm_clock_tree.specs.Tree.{Tree, running, runs}
use Rattle.pm_clocks.specs.Clocked.{tree_of}
use Rattle.pm_clock_laws.specs.Reach.{IsClockBeyond}
use Rattle.pm_clock_laws.specs.Same.{tree_along}

-- the trees before and after a line
pub record Turn : Type 0 where
  pub before : Tree
  pub after : Tree

-- the trees around these lines, the first of which begins with this tree
abbrev pub turns : Tree → List Line → List Turn
turns tree [] = []
turns tree (x ∷ xs) = record { before = tree; after = tree_along x.cores tree } ∷ turns (tree_along x.cores tree) xs

-- the start or stop of a clock in a line
abbrev pub turn_of : ℕ → Turn → Option ClockChange
turn_of number turn = change_at number (record { tree = turn.after; told = running turn.before })

-- a clock beyond runs after both lines or after neither, starts or stops in both or in neither, and has equal
-- dividers and parents if it runs
pub record IsClockAlike (fixed : Fixed) (border : Border) (x y : Turn) : Type 0 where
  pub runs : (number : ℕ) → IsClockBeyond fixed border number → runs number x.after ≡ runs number y.after
  pub turns : (number : ℕ) → IsClockBeyond fixed border number → turn_of number x ≡ turn_of number y
  pub ends : (number : ℕ) → IsClockBeyond fixed border number → end_at number x.after ≡ end_at number y.after

-- beyond the reach of the master, the clocks of the run of these events are those of the run without its messages,
-- line by line
abbrev pub AreClocksAlike : Setup → NodeId → List Event → Type 0
AreClocksAlike c m events =
    Both (IsClockAlike (fixed_of c) (border_of (fixed_of c) m))
    (turns (tree_of (loaded c).book) (run c events)) (turns (tree_of (loaded c).book) (run c (quiet m events)))
