use Rattle.std.proofs.Common.{◌≡◌, ◌-◌}
use Rattle.pm_object.specs.Reading.{sections}
use Rattle.pm_object.proofs.sections.read_sections.Given as goal

abbrev pub invariant-loop : goal.invariant-loop
invariant-loop l = sections (l.count - l.counter) l.object l.words ≡ sections l.count l.initial.object l.initial.words
