use Rattle.std.proofs.Common.{◌≡◌, map, take}
use Rattle.pm_state.specs.Pairs.{seed_anew}
use Rattle.pm_state.proofs.seeds.put_anew.Given as goal

abbrev pub invariant-loop-permitted : goal.invariant-loop-permitted
invariant-loop-permitted l = l.seeds ≡ record l.fn.seeds { items = map (seed_anew l.rows.known l.pairs) (take l.permitted-index l.pairs) }
