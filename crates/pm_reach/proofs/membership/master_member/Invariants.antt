use Rattle.std.proofs.Common.{◌≡◌, drop}
use Rattle.pm_reach.specs.Membership.{master_member}
use Rattle.pm_reach.proofs.membership.master_member.Given as goal

-- the paths that are left give the member that all give
abbrev pub invariant-loop-route : goal.invariant-loop-route
invariant-loop-route l =
    master_member l.objects (drop l.route-index l.routes) l.place ≡ master_member l.objects l.routes l.place
