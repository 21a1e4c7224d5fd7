use Rattle.std.proofs.Common.{List, None, Ok, refl, ap, map, subst, ◌++◌}
use Rattle.pm_core.specs.declared.outbox.Outbox.{Outbox}
use Rattle.pm_modules.specs.Modules.{ranges}
use Rattle.pm_modules.specs.Ranges.{Ranged}
use Rattle.pm_tasks.specs.Timetable.{Timetable}
use Rattle.pm_board.specs.Board.{Standing}
use Rattle.pm_board.specs.Standing.{standing}
use Rattle.pm_clock_tree.specs.Told.{Clocked, changes}
use Rattle.pm_split.specs.declared.cores.CoreEvents.TheVariants.{Past}
use Rattle.pm_split.specs.Split.{Note}
use Rattle.pm_run.specs.Run.{setup_of}
use Rattle.pm_trace.specs.Step.{notices_in, step_text}
use Rattle.pm_drive.specs.Clocks.{clock_note}
use Rattle.pm_drive.specs.Completed.{completed}
use Rattle.pm_drive.specs.Tasks.{task_notes}
use Rattle.pm_drive.specs.Text.{later_reply}
use Rattle.pm_engine.specs.Progress.{Progress, stand_in}
use Rattle.pm_engine.specs.Writes.{Writes}
use Rattle.pm_replay.specs.Within.{RanCore}
use Rattle.pm_replay.proofs.AloneLemmas.{alone_notes, alone_rigged, alone_way}
use Rattle.pm_replay.proofs.CoresLemmas.{line_ran}
use Rattle.pm_engine.proofs.TasksLemmas.{notes_on}
use Rattle.pm_replay.proofs.lines.run_alone.Goals as goal

pub returns : goal.returns
returns g c = λ cs is are.
    let n = c.args.number in
    let event = c.args.event.now in
    let start : Progress = c.args.engine.now in
    let mid : Progress = c.step.new.self in
    let then : Progress = c.clocks_on-clocked.new.engine in
    let modules : List Ranged = ranges g.H.Responder c.args.modules.now in
    let board : Standing = standing g.H.Responder g.T.Handler c.args.modules.now c.args.tasks.now in
    let left : Standing = standing g.H.Responder g.T.Handler c.args.modules.now c.tasks_on.new.tasks in
    let P : Outbox → Type 0 = λ outbox. Writes g.O.Sink (step_text n outbox.done.items (notices_in outbox) (completed modules event outbox.answer)) c.args.out.now c.write_completed-written.new.out c.write_completed-written.result in
    let one : RanCore g.O.Sink g.D.Device n event start.book start.kept start.clocks.tree mid modules (Ok tt) c.write_completed-written.result c.args.out.now c.write_completed-written.new.out c.args.dev.now c.step.new.dev = record {
      after = c.step.ensures.book;
      part = c.step.ensures.goes.part;
      turned = ap (λ (it : Clocked). it.tree) c.step.ensures.goes.clocks;
      notices = c.step.ensures.notices;
      given = c.step.ensures.given;
      writes = subst P c.outbox.ensures c.write_completed-written.ensures;
    }
    in
    let told_of = c.clocks_on-clocked.ensures.clocks in
    let turns : List Note = map clock_note (changes mid.clocks) in
    let fired : List Note = task_notes event board.tasks in
    let reply = later_reply None (completed modules event mid.outbox.answer) in
    line_ran g.O.Sink g.D.Device n event board left Past (turns ++ fired) start mid then reply
    c.write_completed-written.result c.tasks_on.result c.args.out.now c.write_completed-written.new.out c.tasks_on.new.out c.args.dev.now c.args.dev.now c.step.new.dev
    (alone_rigged g.O.Sink g.D.Device event c.args.dev.now c.requires)
    (alone_way g.O.Sink g.D.Device n event modules start mid c.write_completed-written.result c.args.out.now c.write_completed-written.new.out c.args.dev.now c.step.new.dev
    c.requires c.step.ensures.boxes (ap (λ (it : Clocked). it.told) c.step.ensures.goes.clocks) one)
    (ap (λ (it : Progress). it.book) told_of)
    (ap (λ (it : Progress). it.kept) told_of)
    (ap (λ (it : Progress). it.clocks) told_of) are
    refl
    (ap (λ (it : Progress). it.boxes) told_of)
    (alone_notes (setup_of start.book) then.book.fixed.topology event (stand_in start) reply turns fired c.requires)
    (notes_on g.O.Sink n turns fired c.write_completed-written.result c.clocks_on-clocked.result c.tasks_on.result
    c.write_completed-written.new.out c.clocks_on-clocked.new.out c.tasks_on.new.out c.clocks_on-clocked.ensures.writes c.tasks_on.ensures.writes)
    (ap (λ (t : Timetable). record board { tasks = t }) c.tasks_on.ensures.tasks) cs is
