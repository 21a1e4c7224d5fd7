use Rattle.std.proofs.Common.{◌≡◌, ◌+◌, ◌≤◌, drop}
use Rattle.std.specs.Prelude.{count_by}
use Rattle.pm_rows.specs.Counted.{permitted_on}
use Rattle.pm_rows.specs.Rows.{is_at}
use Rattle.test_counts.proofs.sizes.rows_of.Given as goal

-- the count so far and the count of the rest add up to the whole
abbrev pub invariant-loop-k : goal.invariant-loop-k
invariant-loop-k l = record {
  few : l.all ≤ l.k;
  less : l.own ≤ l.k;
  own : l.own + count_by (is_at l.master l.slave) (drop l.k l.rows.entries) ≡ count_by (is_at l.master l.slave) l.rows.entries;
  all : l.all + permitted_on l.slave (drop l.k l.rows.entries) ≡ permitted_on l.slave l.rows.entries;
}
