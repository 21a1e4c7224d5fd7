use Rattle.std.proofs.Common.{◌≡◌, take}
use Rattle.pm_trace.specs.Reach.{reach_text}
use Rattle.pm_trace.proofs.reach.reach_text.Given as goal

abbrev pub invariant-loop-member : goal.invariant-loop-member
invariant-loop-member l = l.text.items ≡ reach_text (take l.member-index l.reach.members)
