use Rattle.std.proofs.Common.{◌≡◌, drop}
use Rattle.pm_state.specs.Changes.{unmarked}
use Rattle.pm_state.proofs.changes.unmark.Given as goal

-- the places that are left make the whole with those that are unmarked
abbrev pub invariant-loop-k : goal.invariant-loop-k
invariant-loop-k l = unmarked (drop l.k-index l.places) l.marks ≡ unmarked l.places l.fn.marks
