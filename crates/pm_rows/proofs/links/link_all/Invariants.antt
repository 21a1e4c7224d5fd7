use Rattle.std.proofs.Common.{◌≡◌, ◌-◌, length}
use Rattle.pm_rows.specs.Links.{IsLinked}
use Rattle.pm_rows.proofs.links.link_all.Given as goal

abbrev pub invariant-loop-done : goal.invariant-loop-done
invariant-loop-done l = record {
  linked : IsLinked (length l.pairs - l.done) l.pairs l.first l.next;
  masters : length l.first ≡ length l.fn.first;
  rows : length l.next ≡ length l.fn.next;
}
