-- What the change of one row costs: reads of rows, and counts that change.
use Rattle.std.specs.Prelude.{ℕ, ◌+◌, ◌*◌, ◌≤◌, ◌==◌, Bool, true, false, cond, Option, None, Some, count_by, sum_by}
use Rattle.pm_base.specs.declared.caps.Caps.{Caps}
use Rattle.pm_rows.specs.declared.row.Entry.{Entry}
use Rattle.pm_rows.specs.declared.row.Change.{Change}
use Rattle.pm_rows.specs.Modes.{mode_in}
use Rattle.pm_rows.specs.Rows.{Rows, change_at, is_at}
use Rattle.pm_rows.specs.Counted.{Counted, counted, counted_in, has, permitted_on, uses}
use Rattle.pm_rows.specs.Wanted.{limit_by, required_by}

-- one count changes if a row passed its test before and doesn't afterwards, or the other way round
abbrev pub moves : Bool → Bool → ℕ
moves true true = 0
moves true false = 1
moves false true = 1
moves false false = 0

-- the counts of capabilities that change if a row requires other ones
abbrev pub caps_cost : Caps → Caps → ℕ
caps_cost before after =
    moves (has 0 before) (has 0 after) + (moves (has 1 before) (has 1 after) + moves (has 2 before) (has 2 after))

abbrev pub is_same_limit : Option ℕ → Option ℕ → Bool
is_same_limit None None = true
is_same_limit None (Some b) = false
is_same_limit (Some a) None = false
is_same_limit (Some a) (Some b) = a == b

-- each row on a slave is read if the latency that one of them allows isn't the one before
abbrev pub limit_cost : Option ℕ → Option ℕ → ℕ → ℕ
limit_cost before after permitted = cond (is_same_limit before after) 0 permitted

-- a row is put in place of another, on a slave with so many rows: each count that changes is a step, and each row that is read
abbrev pub put_cost : Counted → Counted → ℕ → ℕ
put_cost x y permitted =
    caps_cost (required_by x.mode x.entry) (required_by y.mode y.entry)
    + (moves (uses x) (uses y) + limit_cost (limit_by x.entry) (limit_by y.entry) permitted)

-- what the change of the row of a pair costs at a row: that row is read and put, and no other one
abbrev pub change_cost_at : ℕ → ℕ → Change → Rows → Entry → ℕ
change_cost_at m s by rows entry =
    cond (is_at m s entry)
    (1 + put_cost (counted rows.known entry) (counted_in (mode_in entry.seed.master rows.known) (change_at m s by entry))
    (permitted_on entry.seed.slave rows.entries))
    0

-- and at all rows
abbrev pub change_cost : ℕ → ℕ → Change → Rows → ℕ
change_cost m s by rows = sum_by (change_cost_at m s by rows) rows.entries

-- where the pair stands at most once, rows that are read and counts that change are together at most twice the masters that
-- may use the slave, and four
abbrev pub IsCheap : ℕ → ℕ → Rows → ℕ → ℕ → Type 0
IsCheap m s rows before after =
    count_by (is_at m s) rows.entries ≤ 1 → after ≤ before + (2 * permitted_on s rows.entries + 4)
