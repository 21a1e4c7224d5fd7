-- Which row of a slave is looked for.
use Rattle.std.specs.Prelude.{ℕ, Bool, ◌&&◌}
use Rattle.pm_rows.specs.declared.row.Entry.{Entry}
use Rattle.pm_rows.specs.declared.seeking.Sought.{Sought}
use Rattle.pm_rows.specs.declared.seeking.Sought.TheVariants.{At, Rival, Use, OtherUse}
use Rattle.pm_rows.specs.Rows.{is_at, is_of_other, is_rival}

abbrev pub is_sought : Sought → Entry → Bool
is_sought (At m s) entry = is_at m s entry
is_sought (Rival m s) entry = is_rival m s entry
is_sought (Use m s) entry = is_at m s entry && entry.row.used
is_sought (OtherUse m s) entry = is_of_other m s entry && entry.row.used

abbrev pub slave_of : Sought → ℕ
slave_of (At m s) = s
slave_of (Rival m s) = s
slave_of (Use m s) = s
slave_of (OtherUse m s) = s
