use Rattle.std.proofs.Common.{◌≡◌, ◌++◌, map, drop}
use Rattle.pm_reach.specs.Leads.{node_at}
use Rattle.pm_reach.proofs.membership.nodes_of.Given as goal

-- the numbers so far and those of the places that are left make the whole
abbrev pub invariant-loop-place : goal.invariant-loop-place
invariant-loop-place l = l.nodes ++ map (node_at l.objects) (drop l.place-index l.path) ≡ map (node_at l.objects) l.path
