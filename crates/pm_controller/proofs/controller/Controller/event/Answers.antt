use Rattle.pm_core.specs.Step.{outputs}
use Rattle.pm_record.proofs.Below.{ChipLaws}
use Rattle.pm_controller.specs.Controls.{Controls}
use Rattle.pm_controller.proofs.StepLemmas.{step_begins}
use Rattle.pm_controller.proofs.controller.Controller.event.Goals as goal

pub returns-clause-begun : goal.returns-clause-begun
returns-clause-begun c = λ _.
    let laws : ChipLaws = record { units = c.units_stand_in_order.ensures; kinds = c.kinds_are_exact.ensures; table = c.unit_maps.ensures } in
    let found = c.find-self-inside in
    let new : Controls = record { book = c.step.new.self; kept = found.new.kept; outbox = found.new.out; left = found.new.left; waits = found.result } in
    rw (← c.self.view_is)
    (record {
      book = c.step.ensures.book;
      step = step_begins laws new c.self.inside.kept c.begin-self-inside.new.kept c.step.new.out (outputs c.args.event.now c.self.inside.book) c.begin-self-inside.result
          c.step.ensures.out c.begin-self-inside.ensures.left c.begin-self-inside.ensures.alike found.ensures.rest found.ensures.comes;
    })
