use Rattle.std.proofs.Common.{◌≡◌, drop}
use Rattle.std.specs.Prelude.{find}
use Rattle.pm_rows.specs.Seeking.{is_sought}
use Rattle.pm_rows.proofs.seeking.found.Given as goal

-- what is found from here on is what is found in all
abbrev pub invariant-loop-k : goal.invariant-loop-k
invariant-loop-k l = find (is_sought l.sought) (drop l.k l.table.entries) ≡ find (is_sought l.sought) l.table.entries
