use Rattle.std.proofs.Common.{◌≡◌, ◌++◌, ◌≤◌, length, drop}
use Rattle.pm_tell.specs.Ended.{ended_from}
use Rattle.pm_tell.specs.Telling.{turns_in}
use Rattle.pm_calls.specs.Verdict.{aborted_by, asked_by}
use Rattle.pm_tell.proofs.telling.Telling.log_ended.Given as goal

-- of the masters before place m the ends are logged, and with those that are left they make the whole
abbrev pub invariant-loop-m : goal.invariant-loop-m
invariant-loop-m l = record {
  news : l.self ≡ record l.fn.self { asks = asked_by l.fn.says; ended = record l.fn.self.ended { items = l.self.ended.items } };
  few : length l.self.ended.items ≤ l.m;
  ended : l.self.ended.items ++ ended_from (turns_in l.fn.self) (aborted_by l.fn.says) l.count l.m (drop l.m l.tables.now.talk.pending)
      ≡ ended_from (turns_in l.fn.self) (aborted_by l.fn.says) l.count 0 l.tables.now.talk.pending;
}
