use Rattle.std.proofs.Common.{◌≡◌, ◌+◌, ◌++◌, ◌≤◌, length, drop}
use Rattle.pm_tell.specs.Callbacks.{late_replies}
use Rattle.pm_tell.proofs.late.tell_late.Given as goal

-- the replies for the ends that are left make the whole with those that are put in
abbrev pub invariant-loop-end : goal.invariant-loop-end
invariant-loop-end l = record {
  room : l.late.room ≡ l.fn.late.room;
  few : length l.late.items ≤ length l.fn.late.items + l.end-index;
  whole : l.late.items ++ late_replies (drop l.end-index l.ended) l.tables ≡ l.fn.late.items ++ late_replies l.ended l.tables;
}
