use Rattle.std.proofs.Common.{◌-◌, ◌∙◌, arith, ap}
use Rattle.std.specs.Prelude.{decimal}
use Rattle.pm_trace.proofs.step_text.Tens.number.Goals as goal

pub invariant_of-result : goal.invariant_of-result
invariant_of-result c =
    let first = c.self.inside.first in (
      omega (arith, c.self.invariant.0),
      ap decimal (omega (arith, c.requires.from, c.self.view_is)) ∙ c.self.invariant.1 (c.args.n - first) (omega (arith, c.requires.from, c.requires.to, c.self.view_is)),
    )
