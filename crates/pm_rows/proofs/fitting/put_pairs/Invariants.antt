use Rattle.std.proofs.Common.{◌≡◌, map, take}
use Rattle.pm_rows.specs.Rows.{pair_of}
use Rattle.pm_rows.proofs.fitting.put_pairs.Given as goal

abbrev pub invariant-loop-seed : goal.invariant-loop-seed
invariant-loop-seed l = l.pairs ≡ record l.fn.pairs { items = map pair_of (take l.seed-index l.seeds) }
