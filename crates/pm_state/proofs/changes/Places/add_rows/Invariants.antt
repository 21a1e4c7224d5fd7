use Rattle.std.proofs.Common.{◌≡◌, ◌-◌, drop}
use Rattle.pm_state.specs.Changes.{is_of, listed_rows}
use Rattle.pm_state.proofs.changes.Places.add_rows.Given as goal

-- the rows that are left make the whole with those that were visited
abbrev pub invariant-entries : goal.invariant-entries
invariant-entries l = listed_rows (is_of l.master l.starts) (drop l.k l.rows.entries) l.self ≡ listed_rows (is_of l.master l.starts) l.rows.entries l.fn.self

abbrev pub decreases-entries : goal.decreases-entries
decreases-entries l = l.end - l.k
