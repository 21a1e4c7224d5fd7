use Rattle.pm_core.specs.Step.{outputs_at_load}
use Rattle.pm_record.proofs.Below.{ChipLaws}
use Rattle.pm_controller.specs.Controls.{Controls}
use Rattle.pm_controller.proofs.StepLemmas.{step_begins}
use Rattle.pm_controller.proofs.WayLemmas.{way_start}
use Rattle.pm_controller.proofs.controller.begun.Goals as goal

pub find-waits-requires : goal.find-waits-requires
find-waits-requires c =
    way_start c.args.book c.args.outbox.pulse c.begin_all-left.new.kept c.args.outbox.done.items c.begin_all-left.result
    c.begin_all-left.ensures.«record» c.begin_all-left.ensures.followed c.begin_all-left.ensures.left c.requires.out.done

pub returns-clause-step : goal.returns-clause-step
returns-clause-step c =
    let laws : ChipLaws = record { units = c.units_stand_in_order.ensures; kinds = c.kinds_are_exact.ensures; table = c.unit_maps.ensures } in
    let found = c.find-waits in
    let new : Controls = record { book = c.args.book; kept = found.new.kept; outbox = found.new.out; left = found.new.left; waits = found.result } in
    step_begins laws new c.args.kept c.begin_all-left.new.kept c.args.outbox (outputs_at_load c.args.book) c.begin_all-left.result c.requires.out
    c.begin_all-left.ensures.left c.begin_all-left.ensures.alike found.ensures.rest found.ensures.comes
