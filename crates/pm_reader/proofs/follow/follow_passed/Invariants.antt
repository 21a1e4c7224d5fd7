use Rattle.std.proofs.Common.{replicate}
use Rattle.pm_base.specs.declared.events.Event.TheVariants.{Pass}
use Rattle.pm_reader.specs.Follow.{GoesThrough}
use Rattle.pm_reader.proofs.follow.follow_passed.Given as goal

abbrev pub invariant-loop-k : goal.invariant-loop-k
invariant-loop-k g l = GoesThrough g.F.Follower.Follows 1 (replicate l.k Pass) l.fn.follower l.follower
