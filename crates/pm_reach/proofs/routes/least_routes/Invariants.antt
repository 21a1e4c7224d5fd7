use Rattle.std.proofs.Common.{◌-◌, length}
use Rattle.pm_perms.specs.Several.{masters_of}
use Rattle.pm_reach.specs.Search.{IsSearch}
use Rattle.pm_reach.proofs.routes.least_routes.Given as goal

-- the paths before the next one were tried with each master
abbrev pub invariant-loop-next : goal.invariant-loop-next
invariant-loop-next l = IsSearch l.objects l.t l.from l.routes l.next 0

-- there are no more paths than masters
abbrev pub decreases-loop-next : goal.decreases-loop-next
decreases-loop-next l = length (masters_of l.objects) - l.next
