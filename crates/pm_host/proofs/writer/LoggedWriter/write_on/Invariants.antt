use Rattle.std.proofs.Common.{◌≤◌, ◌-◌, length, take}
use Rattle.pm_host.specs.Written.{Hands}
use Rattle.pm_host.proofs.writer.LoggedWriter.write_on.Given as goal

abbrev pub invariant-loop-count : goal.invariant-loop-count
invariant-loop-count g l = (l.count ≤ length l.bytes) × Hands (take l.count l.bytes) l.fn.self l.self

abbrev pub decreases-loop-count : goal.decreases-loop-count
decreases-loop-count g l = length l.bytes - l.count
