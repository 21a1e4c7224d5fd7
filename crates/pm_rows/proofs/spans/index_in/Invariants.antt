use Rattle.std.proofs.Common.{◌≡◌, length}
use Rattle.pm_rows.specs.Spans.{IsIndexed}
use Rattle.pm_rows.proofs.spans.index_in.Given as goal

abbrev pub invariant-loop-k : goal.invariant-loop-k
invariant-loop-k l = record {
  index : IsIndexed l.k l.pairs l.first l.past;
  places : length l.first ≡ length l.fn.first;
  others : length l.past ≡ length l.fn.past;
}
