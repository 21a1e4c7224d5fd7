-- What the crates below promise of what the values of a book are made from.
use Rattle.std.proofs.Common.{◌≡◌, ℕ, IsTrue, List}
use Rattle.std.specs.List.{All}
use Rattle.pm_base.specs.declared.caps.Caps.{Caps}
use Rattle.pm_topology.specs.Places.{KindLaws}
use Rattle.pm_slaves.specs.Choice.{ChoiceLaws}
use Rattle.pm_power.specs.Forest.{UpLaws}
use Rattle.pm_rows.specs.declared.row.Pair.{Pair}
use Rattle.pm_rows.specs.Rows.{Rows, has_all}
use Rattle.pm_rows.specs.Sound.{AreSound}
use Rattle.pm_rows.specs.Wanted.{wanted_of}

-- what is wanted of a slave, and what comes of it
pub record ValueLaws : Type 0 where
  pub wanted : (permitted : List Pair) (rows : Rows) (s : ℕ) (all : Caps) → AreSound permitted rows
      → All (λ pair. pair.slave ≡ s → pair.all ≡ all) permitted → IsTrue (has_all all (wanted_of s rows).caps)
  pub kinds : KindLaws
  pub choice : ChoiceLaws
  pub ups : UpLaws
