use Rattle.std.proofs.Common.{◌≡◌, drop, flat_map, map}
use Rattle.pm_tell.specs.Callbacks.{acknowledged_to}
use Rattle.pm_state.specs.Talk.{talked, wait_of}
use Rattle.pm_tell.proofs.keeping.keep_ended.Given as goal

-- the acknowledgements that are left wait after those that do
abbrev pub invariant-loop-end : goal.invariant-loop-end
invariant-loop-end l =
    talked (flat_map (λ end. map (wait_of l.k) (acknowledged_to l.k end)) (drop l.end-index l.ended)) l.tables
    ≡ talked (flat_map (λ end. map (wait_of l.k) (acknowledged_to l.k end)) l.ended) l.fn.tables
