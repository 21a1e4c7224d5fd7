use Rattle.std.proofs.Common.{◌≡◌, drop}
use Rattle.std.specs.Prelude.{◌||◌, find, is_some}
use Rattle.pm_rows.specs.Seeking.{is_sought}
use Rattle.pm_rows.specs.declared.seeking.Sought.TheVariants.{OtherUse, Use}
use Rattle.pm_rows.proofs.seeking.users.Given as goal

-- what was found before here or is found from here on is what is found in all
abbrev pub invariant-loop-k : goal.invariant-loop-k
invariant-loop-k l =
    ((l.own || is_some (find (is_sought (Use l.master l.slave)) (drop l.k l.table.entries)))
    ≡ is_some (find (is_sought (Use l.master l.slave)) l.table.entries))
    × ((l.other || is_some (find (is_sought (OtherUse l.master l.slave)) (drop l.k l.table.entries)))
    ≡ is_some (find (is_sought (OtherUse l.master l.slave)) l.table.entries))
