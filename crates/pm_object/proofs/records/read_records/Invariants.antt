use Rattle.std.proofs.Common.{◌≡◌, [], ◌-◌}
use Rattle.pm_object.specs.Reading.{records}
use Rattle.pm_object.proofs.records.read_records.Given as goal

abbrev pub invariant-loop : goal.invariant-loop
invariant-loop g l = records g.T.Record.one (l.count - l.counter) l.list l.words ≡ records g.T.Record.one l.count [] l.initial.words
