use Rattle.pm_modules.specs.Ranges.{Ranged}
use Rattle.pm_modules.specs.Modules.{ranged, ranges}
use Rattle.pm_cli.proofs.Refusals.{fits_beside, have_none}
use Rattle.pm_cli.proofs.brought.modules.Goals as goal

pub add-requires-2 : goal.add-requires-2
add-requires-2 g c =
    let first : Ranged = ranged g.H.Responder c.new-2.result in
    let second : Ranged = ranged g.H.Responder c.new-3.result in
    fits_beside g.H.Responder c.new-3.result first
    (have_none second first (g.H.Responder.says c.args.second) (g.H.Responder.says c.args.first) c.new-3.ensures c.new-2.ensures)
    c.add.new.modules (ranges g.H.Responder c.in_ok-modules.modules) c.add.ensures c.in_ok-modules.ensures
