use Rattle.std.proofs.Common.{◌≡◌, map, take}
use Rattle.pm_grants.specs.Grants.{mask_for}
use Rattle.pm_grants.proofs.grants.lines.Given as goal

abbrev pub invariant-loop-line : goal.invariant-loop-line
invariant-loop-line l = l.masks ≡ map (λ line. mask_for l.pairs line.line.0) (take l.line-index l.lines)
