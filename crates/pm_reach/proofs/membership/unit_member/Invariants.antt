use Rattle.std.proofs.Common.{◌≡◌, drop}
use Rattle.pm_reach.specs.Membership.{unit_member}
use Rattle.pm_reach.proofs.membership.unit_member.Given as goal

-- the paths that are left give the member that all give
abbrev pub invariant-loop-route : goal.invariant-loop-route
invariant-loop-route l =
    unit_member l.objects l.t l.kind l.unit (drop l.route-index l.routes) ≡ unit_member l.objects l.t l.kind l.unit l.routes
