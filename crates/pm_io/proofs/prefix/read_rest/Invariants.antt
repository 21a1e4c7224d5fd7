use Rattle.std.proofs.Common.{◌≡◌, ◌+◌, ◌-◌, ◌≤◌, false, length}
use Rattle.pm_io.specs.Calls.{Comes}
use Rattle.pm_io.specs.Given.{Gave}
use Rattle.pm_io.specs.Inputs.{Took}
use Rattle.pm_io.specs.Readings.{Meanwhile}
use Rattle.pm_io.proofs.prefix.read_rest.Given as goal

abbrev pub invariant-loop-window : goal.invariant-loop-window
invariant-loop-window g l = record {
  took : Took g.I.Inputs.observable l.id l.bytes.items (g.I.Inputs.state l.fn.inputs) (g.I.Inputs.state l.inputs);
  within : length l.bytes.items ≤ l.limit + 1;
  calls : Meanwhile (g.I.Inputs.state l.fn.inputs) (g.I.Inputs.state l.inputs) (Comes l.id (l.limit + 1) false (l.limit + 1 - length l.bytes.items) false);
  gave : Meanwhile (g.I.Inputs.state l.fn.inputs) (g.I.Inputs.state l.inputs) (Gave l.id l.bytes.items false);
  most : l.most ≡ l.limit + 1;
}

abbrev pub decreases-loop-window : goal.decreases-loop-window
decreases-loop-window g l = l.most - length l.bytes.items
