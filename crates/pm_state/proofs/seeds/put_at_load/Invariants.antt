use Rattle.std.proofs.Common.{◌≡◌, map, take}
use Rattle.pm_state.specs.Pairs.{seed_at_load}
use Rattle.pm_state.proofs.seeds.put_at_load.Given as goal

abbrev pub invariant-loop-permitted : goal.invariant-loop-permitted
invariant-loop-permitted l = l.seeds ≡ record l.fn.seeds { items = map (seed_at_load l.boot) (take l.permitted-index l.pairs) }
