use Rattle.std.proofs.Common.{◌≡◌, length, take}
use Rattle.pm_values.specs.Behind.{renewed_on}
use Rattle.pm_values.specs.Caches.{use_of}
use Rattle.pm_values.proofs.bringing.log_uses_on.Given as goal

-- of the slaves before this place of the list it is written whether they are used
abbrev pub invariant-loop-s : goal.invariant-loop-s
invariant-loop-s l = record {
  places : length l.used ≡ length l.tables.fixed.topology.slaves;
  used : l.used ≡ renewed_on (take l.s-index l.places) use_of l.tables l.fn.used;
}
