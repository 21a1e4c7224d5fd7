-- Two runs side by side: the state of both, and for each unit whether it was found to differ.
use Rattle.std.specs.Prelude.{◌≡◌, ℕ, Bool, false, Some, slice_get}
use Rattle.pm_base.specs.declared.names.Unit.{Unit}
use Rattle.pm_topology.specs.UnitMap.{units_in}
use Rattle.pm_state.specs.State.{State}
use Rattle.pm_state.specs.Units.{units}
use Rattle.pm_state.specs.Values.{shown}
use Rattle.pm_run.specs.Run.{Stand}
use Rattle.pm_isolate.specs.Marks.{Marks}

-- the run with all messages, the quiet one without those of a master, and the marks of the units
pub record Sides : Type 0 where
  pub loud : Stand
  pub quiet : Stand
  pub differs : Marks

-- two books have one object and one chip, each unit of the chip has its mark, and an unmarked one shows the same in
-- both
pub record AreMarked (a b : State) (marks : Marks) : Type 0 where
  pub fixed : b.fixed ≡ a.fixed
  pub units : units_in marks ≡ units a
  pub shows : (k : ℕ) (mark : Unit × Bool) → slice_get marks k ≡ Some mark → mark.1 ≡ false → shown mark.0 a ≡ shown mark.0 b
