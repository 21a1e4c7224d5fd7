use Rattle.std.proofs.Common.{◌≡◌, drop}
use Rattle.pm_state.specs.Pairs.{taker}
use Rattle.pm_state.proofs.seeds.taker.Given as goal

-- none that was looked at takes the slave
abbrev pub invariant-loop-permitted : goal.invariant-loop-permitted
invariant-loop-permitted l = taker l.rows.known l.slave (drop l.permitted-index l.pairs) ≡ taker l.rows.known l.slave l.pairs
