use Rattle.std.proofs.Common.{◌≡◌, take}
use Rattle.pm_power.proofs.power.copied.Given as goal

abbrev pub invariant-loop-power : goal.invariant-loop-power
invariant-loop-power l = l.list ≡ take l.power-index l.powers
