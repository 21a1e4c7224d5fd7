use Rattle.std.proofs.Common.{◌≡◌, map, take}
use Rattle.pm_grants.specs.Grants.{mask_for}
use Rattle.pm_grants.proofs.grants.powers.Given as goal

abbrev pub invariant-loop-power : goal.invariant-loop-power
invariant-loop-power l = l.masks ≡ map (λ power. mask_for l.pairs power.node.0) (take l.power-index l.powers)
