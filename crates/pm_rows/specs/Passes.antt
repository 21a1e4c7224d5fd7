-- A pass over all rows: which rows it touches, what it makes of them, and which modes are known afterwards.
use Rattle.std.specs.Prelude.{ℕ, ◌+◌, Bool, true, false, ◌&&◌, ◌||◌, not, is_some, ◌==◌, if◌then◌else◌, List, slice_set, cond}
use Rattle.pm_base.specs.declared.names.Mode.{Mode}
use Rattle.pm_rows.specs.declared.row.Pair.{Pair}
use Rattle.pm_rows.specs.declared.row.Row.{Row}
use Rattle.pm_rows.specs.declared.row.Entry.{Entry}
use Rattle.pm_rows.specs.declared.passes.Pass.{Pass}
use Rattle.pm_rows.specs.declared.passes.Pass.TheVariants.{One, Settle, Shift, DropSlave, Clear}
use Rattle.pm_rows.specs.Rows.{applied, cleared}
use Rattle.pm_rows.specs.Shift.{shifted_row, is_start, is_taken}
use Rattle.pm_rows.specs.Sound.{is_plain}
use Rattle.pm_rows.specs.Modes.{mode_in}
use Rattle.pm_rows.specs.Counted.{Counted, counted, counted_in, permitted_on}
use Rattle.pm_rows.specs.Cost.{put_cost}

-- the rows of these pairs change
abbrev pub touches : Pass → Pair → Bool
touches (One m s by) seed = (seed.master == m) && (seed.slave == s)
touches (Settle m) seed = seed.master == m
touches (Shift m from to) seed = seed.master == m
touches (DropSlave s) seed = seed.slave == s
touches Clear seed = true

-- what the pass makes of a row, judged on the rows before it
abbrev pub row_after : Pass → List Entry → Entry → Row
row_after (One m s by) entries entry = applied by entry.row
row_after (Settle m) entries entry = record entry.row { hold = false }
row_after (Shift m from to) entries entry = shifted_row from to (is_taken entries entry) entry.row
row_after (DropSlave s) entries entry = cleared entry.row
row_after Clear entries entry = cleared entry.row

-- a row that stays as it is while the mode of its master changes: it isn't armed, or what arming requires is the same in both
-- modes; and nothing is scheduled in it
abbrev pub rests : Bool → Entry → Bool
rests differs entry = not (differs && is_some entry.row.armed) && is_plain entry.row

-- an idle row: it isn't used, held or armed, and nothing is wanted by it or kept in it but its preset
abbrev pub is_idle : Row → Bool
is_idle row =
    not row.used
    && ((row.now.0 == 0)
    && ((row.next.0 == 0) && (not row.hold && (not (is_some row.armed) && not (is_some row.latency)))))

-- a row that a pass leaves as it is, and that is counted as before: there is no hold to drop; or the row is idle, and
-- its master doesn't start with its preset
abbrev pub is_left : Pass → Row → Bool
is_left (One m s by) row = false
is_left (Settle m) row = not row.hold
is_left (Shift m from to) row = is_idle row && (not (is_start from to) || (row.preset.0 == 0))
is_left (DropSlave s) row = is_idle row
is_left Clear row = is_idle row

-- each row after the pass
abbrev pub passed : Pass → List Entry → Entry → Entry
passed pass entries entry =
    if touches pass entry.seed then record entry { row = row_after pass entries entry } else entry

-- the modes that are known after it
abbrev pub known_after : Pass → List Mode → List Mode
known_after (One m s by) known = known
known_after (Settle m) known = known
known_after (Shift m from to) known = slice_set known m to
known_after (DropSlave s) known = known
known_after Clear known = known

-- a row as it is counted after the pass
abbrev pub done : Pass → List Mode → List Entry → Entry → Counted
done pass known entries entry = counted_in (mode_in entry.seed.master (known_after pass known)) (passed pass entries entry)

-- what the change of a row costs: it is read and put
abbrev pub cost_of : Pass → List Mode → List Entry → Entry → ℕ
cost_of pass known entries entry =
    cond (touches pass entry.seed)
    (1 + put_cost (counted known entry) (done pass known entries entry) (permitted_on entry.seed.slave entries)) 0
