-- What holds of every table of rows.
use Rattle.std.specs.Prelude.{◌≡◌, ℕ, Bool, IsTrue, List, length}
use Rattle.pm_base.specs.BoundedList.{Bounded}
use Rattle.pm_rows.specs.declared.row.Pair.{Pair}
use Rattle.pm_rows.specs.declared.row.Row.{Row}
use Rattle.pm_rows.specs.Counted.{IsTable, AreNarrow}
use Rattle.pm_rows.specs.Spans.{IsIndexed}

-- each pair has its row, and there is room for as many pairs as cells; where it is said so, no pair and no row has a capability
-- past the third; and the rows of each slave stand between its two places
pub record IsKept (seeds : Bounded Pair) (cells : List Row) (slaves : ℕ) (narrow : Bool) (first past : List ℕ) : Type 0 where
  pub base : IsTable seeds.items cells slaves
  pub room : seeds.room ≡ length cells
  pub each : length first ≡ slaves
  pub narrow_ones : IsTrue narrow → AreNarrow seeds.items cells
  pub spans : IsIndexed (length seeds.items) seeds.items first past
