use Rattle.std.proofs.Common.{◌≡◌, ◌-◌, ◌==◌, length}
use Rattle.std.specs.List.{list_any}
use Rattle.pm_topology.specs.Places.{upwards}
use Rattle.pm_topology.proofs.places.is_on_way_up.Given as goal

-- the rest of the way up meets w exactly where the whole does
abbrev pub invariant-loop-climbed : goal.invariant-loop-climbed
invariant-loop-climbed l =
    list_any (λ v. v == l.w) (upwards (length l.powers - l._climbed) l.powers l.at)
    ≡ list_any (λ v. v == l.w) (upwards (length l.powers) l.powers l.initial.at)
