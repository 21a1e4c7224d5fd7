use Rattle.std.proofs.Common.{List, ap, ◌∙◌}
use Rattle.pm_topology.specs.declared.topology.LineDef.{LineDef}
use Rattle.pm_values.specs.Behind.{line_unit}
use Rattle.pm_values.proofs.LinesLaw.{less_in, line_woken}
use Rattle.pm_values.proofs.bringing.wake_line.Goals as goal

pub returns-clause-woken : goal.returns-clause-woken
returns-clause-woken c = λ k at.
    line_woken c.requires.laws c.args.t.now c.args.kinds.now.items c.args.values.now c.args.l c.requires.kinds c.requires.units
    c.line_unit.result c.args.kinds.now.awake c.wake_in.new.self.awake
    (c.line_unit.ensures ∙ ap (λ (lines : List LineDef). line_unit lines c.args.values.now c.args.l) c.as_slice.ensures)
    c.wake_in.ensures.awake k at

pub returns-clause-less : goal.returns-clause-less
returns-clause-less c = λ k is.
    less_in c.line_unit.result c.args.kinds.now.awake c.wake_in.new.self.awake c.wake_in.ensures.awake k is
