use Rattle.std.proofs.Common.{◌≡◌, ◌-◌, ◌++◌}
use Rattle.pm_gen.specs.Script.{lines_from, made}
use Rattle.pm_gen.proofs.script.make.Given as goal

abbrev pub invariant-loop : goal.invariant-loop
invariant-loop l = l.text.items ++ lines_from (l.fn.n - l.counter) l.state ≡ made l.fn.n
