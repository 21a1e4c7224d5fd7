use Rattle.std.proofs.Common.{◌≡◌, take}
use Rattle.pm_reach.proofs.routes.longer.Given as goal

-- the places so far
abbrev pub invariant-loop-place : goal.invariant-loop-place
invariant-loop-place l = l.longer ≡ take l.place-index l.path
