use Rattle.std.proofs.Common.{◌≡◌, ◌-◌, ◌++◌, length}
use Rattle.std.specs.List.{filter_map, range_with_len}
use Rattle.pm_perms.specs.Several.{masters_of}
use Rattle.pm_reach.specs.Membership.{master_member}
use Rattle.pm_reach.proofs.membership.push_masters.Given as goal

-- the members put in so far and those of the places that are left make the whole
abbrev pub invariant-loop-place : goal.invariant-loop-place
invariant-loop-place l =
    l.members ++ filter_map (master_member l.objects l.routes) (range_with_len l.place (length (masters_of l.objects) - l.place))
    ≡ l.fn.members ++ filter_map (master_member l.objects l.routes) (range_with_len 0 (length (masters_of l.objects)))
