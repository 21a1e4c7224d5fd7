use Rattle.std.proofs.Common.{ℕ, ◌<◌, get_or}
use Rattle.pm_record.proofs.places.first_from.Given as goal

-- the places so far come before
abbrev pub invariant-loop-place : goal.invariant-loop-place
invariant-loop-place l = (j : ℕ) → j < l.place-index → get_or l.places j 0 < l.from
