use Rattle.std.proofs.Common.{◌≡◌, ◌-◌}
use Rattle.pm_state.specs.Changes.{all_listed, listed_from}
use Rattle.pm_state.proofs.changes.Places.add_all.Given as goal

-- the places that are left make the whole with those that are written down
abbrev pub invariant-loop-k : goal.invariant-loop-k
invariant-loop-k l = listed_from (l.k-end - l.k) l.k l.self ≡ all_listed l.fn.self
