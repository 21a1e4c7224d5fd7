use Rattle.std.proofs.Common.{◌≡◌, ◌+◌, ◌≤◌, ◌++◌, drop}
use Rattle.pm_trace.proofs.line.put_name.Given as goal

-- the bytes that were written so far are before those that were there
abbrev pub invariant-loop-left : goal.invariant-loop-left
invariant-loop-left g l = record {
  left : l.left ≤ g.row.N;
  put : drop (l.from + l.left) l.text ≡ drop l.left l.name ++ drop l.at l.fn.text;
}

abbrev pub decreases-loop-left : goal.decreases-loop-left
decreases-loop-left g l = l.left
