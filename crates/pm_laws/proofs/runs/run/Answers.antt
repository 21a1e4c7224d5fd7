use Rattle.std.proofs.Common.{List, subst, arith}
use Rattle.std.proofs.lemmas.List.{drop_all}
use Rattle.pm_base.specs.declared.events.Event.{Event}
use Rattle.pm_laws.proofs.RunsLaw.{IsUnderWay, runs_to_end}
use Rattle.pm_laws.proofs.runs.run.Goals as goal

pub returns-clause-run : goal.returns-clause-run
returns-clause-run c =
    let events : List Event = c.args.events.now in
    let P : List Event → Type 0 = λ left. IsUnderWay events left c.args.book.now c.loop-event.book c.args.out.now c.loop-event.out in
    runs_to_end events c.args.book.now c.loop-event.book c.args.out.now c.loop-event.out
    (subst P (drop_all c.loop-event.event-index events (omega (arith, c.loop-event-test.false))) c.loop-event.invariant)
