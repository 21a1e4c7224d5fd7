use Rattle.std.proofs.Common.{ap, ◌∙◌}
use Rattle.pm_laws.specs.Border.{line_beyond}
use Rattle.pm_laws.specs.ReachBorder.{unit_border}
use Rattle.pm_beyond.proofs.border.line_beyond.Goals as goal

pub returns-in-Some : goal.returns-in-Some
returns-in-Some c = λ from nodes are.
    c.reset_beyond.ensures from nodes are ∙ ap (line_beyond (unit_border c.args.objects.now c.args.t.now from nodes)) c.in-Some.ensures
