use Rattle.std.proofs.Common.{ℕ, ◌<◌, length}
use Rattle.pm_reach.specs.Search.{IsSearch}
use Rattle.pm_reach.proofs.routes.try_all.Given as goal

-- the masters so far were tried
abbrev pub invariant-loop-end : goal.invariant-loop-end
invariant-loop-end l = record {
  inside : l.next < length l.routes;
  search : (from : ℕ)
      → IsSearch l.objects l.t from l.fn.routes l.next 0
      → IsSearch l.objects l.t from l.routes l.next l.end;
}
