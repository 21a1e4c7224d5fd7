use Rattle.std.proofs.Common.{◌≡◌, drop, fold}
use Rattle.pm_rows.specs.Wanted.{nothing_wanted, with_row}
use Rattle.pm_rows.proofs.table.Table.collected.Given as goal

-- what is found so far and what is left make the whole
abbrev pub invariant-loop-k : goal.invariant-loop-k
invariant-loop-k l =
    fold (with_row l.slave l.known) l.wanted (drop l.k l.self.entries) ≡ fold (with_row l.slave l.known) nothing_wanted l.self.entries
