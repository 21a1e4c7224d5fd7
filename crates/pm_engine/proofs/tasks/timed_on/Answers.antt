use Rattle.std.proofs.Common.{Bool, [], ◌++◌, map, if◌then◌else◌, ◌∙◌, ap, subst}
use Rattle.pm_tasks.specs.Stored.{timetable}
use Rattle.pm_tasks.specs.Timetable.{Timetable}
use Rattle.pm_board.specs.Board.{settled}
use Rattle.pm_trace.specs.Notes.{notes_text}
use Rattle.pm_drive.specs.Tasks.{fired_note, key_notes, refusal_notes}
use Rattle.pm_engine.specs.Writes.{WritesOn}
use Rattle.pm_engine.proofs.TasksLemmas.{notes_on}
use Rattle.pm_engine.proofs.tasks.timed_on.Goals as goal

pub returns-clause-writes : goal.returns-clause-writes
returns-clause-writes g c =
    let event = c.args.event.now in
    let old = timetable g.T.Handler c.args.tasks.now in
    let mid = timetable g.T.Handler c.happen-is_found.new.tasks in
    let P : Bool → Type 0 = λ found. WritesOn g.O.Sink (notes_text c.args.number (if found then [] else key_notes event)) c.args.written c.refusal_on-refused.result c.args.out.now c.refusal_on-refused.new.out in
    let Q : Timetable → Type 0 = λ t. WritesOn g.O.Sink (notes_text c.args.number (refusal_notes event old ++ map fired_note t.left)) c.args.written c.calls_on.result c.args.out.now c.calls_on.new.out in
    subst Q c.happen-is_found.ensures.tasks
    (notes_on g.O.Sink c.args.number (refusal_notes event old) (map fired_note mid.left) c.args.written c.refusal_on-refused.result c.calls_on.result
    c.args.out.now c.refusal_on-refused.new.out c.calls_on.new.out (subst P c.happen-is_found.ensures.answer c.refusal_on-refused.ensures) c.calls_on.ensures.writes)

pub returns-clause-tasks : goal.returns-clause-tasks
returns-clause-tasks g c = c.calls_on.ensures.tasks ∙ ap settled c.happen-is_found.ensures.tasks
