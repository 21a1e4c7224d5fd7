use Rattle.std.proofs.Common.{◌≡◌, ◌+◌, ◌-◌, ◌≤◌, length, drop}
use Rattle.pm_power.specs.Needs.{with_needs_in}
use Rattle.pm_power.specs.Uses.{IsForest, needs_cost_in}
use Rattle.pm_power.proofs.power.put_needs.Given as goal

-- the children that are done, and those that are left with the needs that are left, make the whole
abbrev pub invariant-loop-k : goal.invariant-loop-k
invariant-loop-k g l = record {
  start : l.from ≤ l.k;
  places : length l.children ≡ length l.fn.children;
  whole : with_needs_in l.k (l.to - l.k) (drop (l.k - l.from) l.needs) l.children ≡ with_needs_in l.from (l.to - l.from) l.needs l.fn.children;
  forest : IsForest l.children l.powers l.counts l.ups;
  cost : l.steps + needs_cost_in l.powers l.k (l.to - l.k) (drop (l.k - l.from) l.needs) l.children
      ≤ l.fn.steps + needs_cost_in l.powers l.from (l.to - l.from) l.needs l.fn.children;
}
