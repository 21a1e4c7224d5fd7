use Rattle.std.proofs.Common.{◌≡◌, ◌∙◌, List, sym, ap}
use Rattle.pm_base.specs.declared.events.Event.{Event}
use Rattle.pm_run.specs.Run.{book_after}
use Rattle.pm_isolate.specs.Moves.{line_moves, logged_along}
use Rattle.pm_isolate.specs.Within.{line_after}
use Rattle.pm_isolate.proofs.MovesLemmas.{pass_logs}
use Rattle.pm_isolate.proofs.StandLemmas.{own_split, pass_stands, stand_is}
use Rattle.pm_isolate.proofs.worlds.step_line.Goals as goal

pub returns-in-Pass : goal.returns-in-Pass
returns-in-Pass c =
    let start = c.args.runner.now in
    let m = c.args.moves.now in
    record {
      stand = sym (ap (λ (e : Event). line_after e start) c.in-Pass.is ∙ pass_stands start);
      moves = sym (ap (λ (e : Event). line_moves c.args.marks.now e start m) c.in-Pass.is ∙ pass_logs c.args.marks.now start m);
    }

pub returns-then-is_own : goal.returns-then-is_own
returns-then-is_own c =
    let event = c.args.event.now in
    let start = c.args.runner.now in
    let own = own_split event start (sym c.is_own.ensures ∙ c.if-is_own.true) in
    record {
      stand = stand_is c.step.new.self (line_after event start)
          (c.step.ensures.book ∙ sym (ap (λ (events : List Event). book_after events start.book) own.0))
          (c.step.ensures.boxes ∙ sym own.1);
      moves = c.step.ensures.moves ∙ sym (ap (λ (events : List Event). logged_along c.args.marks.now events start.book c.args.moves.now) own.0);
    }
