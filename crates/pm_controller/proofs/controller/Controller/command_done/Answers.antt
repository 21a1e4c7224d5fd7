use Rattle.pm_controller.specs.Controls.{Controls}
use Rattle.pm_controller.proofs.StepLemmas.{takes_answer}
use Rattle.std.proofs.Common.{refl}
use Rattle.pm_controller.proofs.controller.Controller.command_done.Goals as goal

pub returns-clause-answered : goal.returns-clause-answered
returns-clause-answered c = λ _.
    let inside = c.self.inside in
    let old : Controls = record { book = inside.book; kept = inside.kept; outbox = inside.outbox; left = inside.left; waits = inside.waits } in
    let found = c.find-self-inside in
    let new : Controls = record { book = inside.book; kept = found.new.kept; outbox = found.new.out; left = found.new.left; waits = found.result } in
    rw (← c.self.view_is)
    (takes_answer old new c.in-Some.command c.args.ok c.answer.new.out c.answer.new.kept c.answer.new.left c.in-Some.is refl found.ensures.rest c.answer.ensures.rest c.answer.ensures.done found.ensures.comes c.answer.ensures.comes)
