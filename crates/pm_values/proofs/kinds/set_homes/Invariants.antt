use Rattle.std.proofs.Common.{◌≡◌, length}
use Rattle.pm_values.specs.Kinds.{AreHomes}
use Rattle.pm_values.proofs.kinds.set_homes.Given as goal

-- the places of the units before place k are written
abbrev pub invariant-loop-k : goal.invariant-loop-k
invariant-loop-k l = record {
  places : length l.homes ≡ length l.fn.homes;
  homes : AreHomes l.kinds l.k l.homes;
}
