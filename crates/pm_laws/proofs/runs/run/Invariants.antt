-- The events before this one are stepped through, and those that are left lead to the same end.
use Rattle.std.proofs.Common.{drop}
use Rattle.pm_laws.proofs.RunsLaw.{IsUnderWay}
use Rattle.pm_laws.proofs.runs.run.Given as goal

abbrev pub invariant-loop-event : goal.invariant-loop-event
invariant-loop-event l = IsUnderWay l.events (drop l.event-index l.events) l.initial.book l.book l.initial.out l.out
