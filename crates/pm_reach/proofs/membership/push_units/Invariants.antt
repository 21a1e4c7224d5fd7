use Rattle.std.proofs.Common.{◌≡◌, ◌++◌, drop}
use Rattle.pm_reach.specs.Membership.{unit_members}
use Rattle.pm_reach.proofs.membership.push_units.Given as goal

-- the members put in so far and those of the units that are left make the whole
abbrev pub invariant-loop-unit : goal.invariant-loop-unit
invariant-loop-unit l =
    l.members ++ unit_members l.objects l.t l.kind l.routes (drop l.unit-index l.units)
    ≡ l.fn.members ++ unit_members l.objects l.t l.kind l.routes l.units
