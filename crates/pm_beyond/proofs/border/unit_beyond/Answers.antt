use Rattle.std.proofs.Common.{ap, sym, ◌∙◌}
use Rattle.pm_laws.specs.Border.{unit_beyond}
use Rattle.pm_laws.specs.ReachBorder.{unit_border}
use Rattle.pm_beyond.proofs.border.unit_beyond.Goals as goal

pub returns-in-Slave : goal.returns-in-Slave
returns-in-Slave c = λ from nodes are.
    c.slave_beyond.ensures from nodes are
    ∙ ap (unit_beyond c.args.loaded.now c.args.t.now (unit_border c.args.objects.now c.args.t.now from nodes)) (sym c.in-Slave.is)

pub returns-in-Power : goal.returns-in-Power
returns-in-Power c = λ from nodes are.
    c.power_beyond.ensures from nodes are
    ∙ ap (unit_beyond c.args.loaded.now c.args.t.now (unit_border c.args.objects.now c.args.t.now from nodes)) (sym c.in-Power.is)
