use Rattle.std.proofs.Common.{◌≡◌, ◌≤◌, ◌+◌, drop}
use Rattle.pm_state.specs.Objects.{found_from}
use Rattle.pm_state.proofs.objects.found_in.Given as goal

-- nothing that was looked at stands at the address
abbrev pub invariant-loop-one : goal.invariant-loop-one
invariant-loop-one l = record {
  found : found_from l.object l.address l.k (drop l.one-index l.attached) ≡ found_from l.object l.address 1 l.attached;
  bound : l.k ≤ l.one-index + 1;
}
