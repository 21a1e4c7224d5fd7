-- What the rows of a book keep, as the crate of the rows promises it.
use Rattle.std.proofs.Common.{◌≡◌, ℕ, Bool, List, map, is_some, nat_lt, Some, None, ◌⊎◌}
use Rattle.std.specs.Prelude.{count_by}
use Rattle.std.specs.List.{All}
use Rattle.pm_base.specs.declared.names.Mode.{Mode}
use Rattle.pm_rows.specs.declared.row.Pair.{Pair}
use Rattle.pm_rows.specs.declared.row.RowSeed.{RowSeed}
use Rattle.pm_rows.specs.declared.row.Row.{Row}
use Rattle.pm_rows.specs.declared.row.Entry.{Entry}
use Rattle.pm_rows.specs.declared.row.Change.{Change}
use Rattle.pm_rows.specs.Rows.{Rows, all_cleared, entry_at, loaded_rows, pair_of, remade, row_changed, settled, slave_dropped}
use Rattle.pm_rows.specs.Shift.{shifted, shifted_row}
use Rattle.pm_rows.specs.Sound.{AreOnce, AreRemadeRight, AreSound, IsFit, IsLoadable, is_pair}

pub record RowLaws : Type 0 where
  pub load : (masters slaves boot room : ℕ) (seeds : List RowSeed) → AreOnce (map pair_of seeds) → All (IsLoadable masters boot) seeds
      → AreSound (map pair_of seeds) (loaded_rows masters slaves boot room seeds)
  pub remade : (seeds : List RowSeed) (rows : Rows) → AreRemadeRight rows.known seeds → AreSound (map pair_of seeds) (remade seeds rows)
  pub change : (permitted : List Pair) (rows : Rows) (m s : ℕ) (by : Change) (entry : Entry)
      → AreOnce permitted → AreSound permitted rows → entry_at m s rows ≡ Some entry → IsFit m s by entry rows
      → AreSound permitted (row_changed entry.seed.master entry.seed.slave by rows)
  pub shift : (permitted : List Pair) (rows : Rows) (m : ℕ) (to : Mode)
      → AreOnce permitted → AreSound permitted rows → AreSound permitted (shifted m to rows)
  pub settle : (permitted : List Pair) (rows : Rows) (m : ℕ) → AreSound permitted rows → AreSound permitted (settled m rows)
  pub drop_slave : (permitted : List Pair) (rows : Rows) (s : ℕ) → AreSound permitted rows → AreSound permitted (slave_dropped s rows)
  pub clear : (permitted : List Pair) (rows : Rows) → AreSound permitted rows → AreSound permitted (all_cleared rows)
  pub there : (permitted : List Pair) (rows : Rows) (m s : ℕ) → AreSound permitted rows
      → is_some (entry_at m s rows) ≡ nat_lt 0 (count_by (is_pair m s) permitted)
  pub armed : (from to : Mode) (taken : Bool) (row : Row)
      → (shifted_row from to taken row).armed ≡ row.armed ⊎ (shifted_row from to taken row).armed ≡ None
