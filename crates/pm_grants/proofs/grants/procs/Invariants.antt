use Rattle.std.proofs.Common.{◌≡◌, map, take}
use Rattle.pm_grants.specs.Grants.{mask_for}
use Rattle.pm_grants.proofs.grants.procs.Given as goal

abbrev pub invariant-loop-proc : goal.invariant-loop-proc
invariant-loop-proc l = l.masks ≡ map (λ proc. mask_for l.pairs proc.node.0) (take l.proc-index l.procs)
