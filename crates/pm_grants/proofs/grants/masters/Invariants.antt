use Rattle.std.proofs.Common.{◌≡◌, map, take}
use Rattle.pm_grants.specs.Grants.{master_masks}
use Rattle.pm_grants.proofs.grants.masters.Given as goal

abbrev pub invariant-loop-entry : goal.invariant-loop-entry
invariant-loop-entry l = l.masks ≡ map master_masks (take l.entry-index l.records)
