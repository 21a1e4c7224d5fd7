use Rattle.std.proofs.Common.{◌≡◌, ◌∷◌, ◌++◌, List, Option, length, map, ap, arith, refl, subst, sym, ◌∙◌}
use Rattle.pm_ipi.specs.declared.responses.Response.{Response}
use Rattle.pm_topology.specs.declared.topology.Topology.{Topology}
use Rattle.pm_core.specs.declared.outbox.Outbox.{Outbox}
use Rattle.pm_core.specs.declared.replies.Answer.{Answer}
use Rattle.pm_modules.specs.Modules.{ranges}
use Rattle.pm_modules.specs.Ranges.{Ranged}
use Rattle.pm_tasks.specs.Timetable.{Timetable}
use Rattle.pm_board.specs.Board.{Standing}
use Rattle.pm_board.specs.Standing.{standing}
use Rattle.pm_state.specs.State.{Fixed, State}
use Rattle.pm_clock_tree.specs.Told.{Clocked, changes, told as clocks_told}
use Rattle.pm_split.specs.Boxes.{Boxes}
use Rattle.pm_base.specs.declared.events.Event.{Event}
use Rattle.pm_split.specs.Left.{core_event, events_left}
use Rattle.pm_split.specs.Split.{Note, called_note, noted, noted_call}
use Rattle.pm_run.specs.Run.{setup_of, split}
use Rattle.pm_trace.specs.Step.{notices_in, step_text}
use Rattle.pm_drive.specs.Clocks.{clock_note}
use Rattle.pm_drive.specs.Completed.{completed}
use Rattle.pm_drive.specs.Tasks.{task_notes}
use Rattle.pm_drive.specs.Text.{later_reply}
use Rattle.pm_engine.specs.Progress.{Progress, stand_in}
use Rattle.pm_engine.specs.Writes.{WritesOn}
use Rattle.pm_replay.specs.Within.{RanCore}
use Rattle.pm_replay.proofs.CoresLemmas.{IsUnderWay, line_ran, none_yet, one_more}
use Rattle.pm_engine.proofs.TasksLemmas.{notes_on}
use Rattle.pm_replay.proofs.lines.run_split.Goals as goal

pub loop-core-init : goal.loop-core-init
loop-core-init g c =
    none_yet g.O.Sink g.D.Device c.args.number c.args.event.now (ranges g.H.Responder c.args.modules.now) c.split-parts.result.cores c.args.engine.now c.split-parts.new.self
    c.args.out.now c.rig.new.dev c.split-parts.ensures.book c.split-parts.ensures.kept c.split-parts.ensures.clocks c.split-parts.ensures.events c.split-parts.ensures.boxes

pub loop-core-preserved : goal.loop-core-preserved
loop-core-preserved g c =
    let modules : List Ranged = ranges g.H.Responder c.args.modules.now in
    let core = c.event-taken.result.now in
    let next : events_left c.loop-core.engine.book.fixed.object c.loop-core.engine.book.fixed.topology c.loop-core.engine.boxes c.loop-core.left ≡ core ∷ events_left c.loop-core.engine.book.fixed.object c.loop-core.engine.book.fixed.topology c.next.new.self.boxes c.next.new.cores =
    c.in-Some.ensures.events ∙ ap (λ (e : Event). e ∷ events_left c.loop-core.engine.book.fixed.object c.loop-core.engine.book.fixed.topology c.next.new.self.boxes c.next.new.cores) (sym c.event-taken.ensures)
    in
    let shown : Outbox = c.outbox-outbox.result.now in
    let taken = c.next.new.self in
    let W : Answer → Type 0 = λ answer. WritesOn g.O.Sink (step_text c.args.number shown.done.items (notices_in shown) answer) c.loop-core.written c.write_on-written.result c.loop-core.out c.write_on-written.new.out in
    let V : Outbox → Type 0 = λ outbox. WritesOn g.O.Sink (step_text c.args.number outbox.done.items (notices_in outbox) (completed modules core outbox.answer)) c.loop-core.written c.write_on-written.result c.loop-core.out c.write_on-written.new.out in
    let one : RanCore g.O.Sink g.D.Device c.args.number core taken.book taken.kept taken.clocks.tree c.step.new.self modules c.loop-core.written c.write_on-written.result c.loop-core.out c.write_on-written.new.out c.loop-core.dev c.step.new.dev = record {
      after = c.step.ensures.book;
      part = c.step.ensures.goes.part;
      turned = ap (λ (it : Clocked). it.tree) c.step.ensures.goes.clocks;
      notices = c.step.ensures.notices;
      given = c.step.ensures.given;
      writes = subst V c.outbox-outbox.ensures (subst W c.completed-answer.ensures c.write_on-written.ensures);
    }
    in
    let told : later_reply c.loop-core.reply (completed modules core c.step.new.self.outbox.answer) ≡ c.later_reply-reply.result =
    ap (λ (outbox : Outbox). later_reply c.loop-core.reply (completed modules core outbox.answer)) (sym c.outbox-outbox.ensures)
    ∙ (ap (λ (answer : Answer). later_reply c.loop-core.reply answer) (sym c.completed-answer.ensures) ∙ sym c.later_reply-reply.ensures)
    in
    let P : Option Response → Type 0 = λ reply. IsUnderWay g.O.Sink g.D.Device c.args.number c.args.event.now modules c.next.new.cores c.args.engine.now c.step.new.self reply
    c.write_on-written.result c.args.out.now c.write_on-written.new.out c.rig.new.dev c.step.new.dev
    in
    subst P told
    (one_more g.O.Sink g.D.Device c.args.number c.args.event.now core modules c.loop-core.left c.next.new.cores c.args.engine.now c.loop-core.engine taken c.step.new.self
    c.loop-core.reply c.loop-core.written c.write_on-written.result c.args.out.now c.loop-core.out c.write_on-written.new.out c.rig.new.dev c.loop-core.dev c.step.new.dev
    c.loop-core.invariant c.in-Some.ensures.book c.in-Some.ensures.kept c.in-Some.ensures.clocks next c.in-Some.ensures.boxes c.step.ensures.boxes
    (ap (λ (it : Clocked). it.told) c.step.ensures.goes.clocks) one)

pub loop-core-smaller : goal.loop-core-smaller
loop-core-smaller g c =
    let O = c.args.engine.now.book.fixed.object in
    let T = c.args.engine.now.book.fixed.topology in
    let core = core_event c.in-Some.core c.next.new.made in
    let P : Fixed → Type 0 = λ fixed. events_left fixed.object fixed.topology c.loop-core.engine.boxes c.loop-core.left ≡ core ∷ events_left fixed.object fixed.topology c.next.new.self.boxes c.next.new.cores in
    let next = subst P c.loop-core.invariant.fixed c.in-Some.ensures.events ∙ ap (λ (b : Boxes). core ∷ events_left O T b c.next.new.cores) (sym c.step.ensures.boxes) in
    omega (arith, ap length next)

pub returns : goal.returns
returns g c = λ cs is are.
    let n = c.args.number in
    let event = c.args.event.now in
    let start = c.args.engine.now in
    let now = c.loop-core.engine in
    let then = c.clocks_on-clocked.new.engine in
    let board : Standing = standing g.H.Responder g.T.Handler c.args.modules.now c.args.tasks.now in
    let left : Standing = standing g.H.Responder g.T.Handler c.args.modules.now c.tasks_on-fired.new.tasks in
    let chip : c.topology.result.now ≡ then.book.fixed.topology = c.topology.ensures.topology ∙ ap (λ (b : State). b.fixed.topology) c.book.ensures in
    let called : noted_call c.call_answer-called.result ≡ called_note then.book.fixed.topology event c.loop-core.reply =
    c.call_answer-called.ensures ∙ ap (λ (t : Topology). called_note t event c.loop-core.reply) chip
    in
    let told_of = c.clocks_on-clocked.ensures.clocks in
    let busy : List Note = noted c.split-parts.result.note in
    let turns : List Note = map clock_note (changes c.next.new.self.clocks) in
    let turned : turns ≡ map clock_note (changes now.clocks) = ap (λ (it : Clocked). map clock_note (changes it)) c.in_default.ensures.clocks in
    let fired : List Note = task_notes event board.tasks in
    let told : List Note = noted_call c.call_answer-called.result in
    let own : List Note = (split (setup_of start.book) event (stand_in start)).notes in
    let two = notes_on g.O.Sink n busy turns c.loop-core.written c.note_on-noted.result c.clocks_on-clocked.result
    c.loop-core.out c.note_on-noted.new.out c.clocks_on-clocked.new.out c.note_on-noted.ensures c.clocks_on-clocked.ensures.writes
    in
    let three = notes_on g.O.Sink n (busy ++ turns) fired c.loop-core.written c.clocks_on-clocked.result c.tasks_on-fired.result
    c.loop-core.out c.clocks_on-clocked.new.out c.tasks_on-fired.new.out two c.tasks_on-fired.ensures.writes
    in
    line_ran g.O.Sink g.D.Device n event board left c.loop-core.left (((busy ++ turns) ++ fired) ++ told) start now then c.loop-core.reply
    c.loop-core.written c.call_on.result c.args.out.now c.loop-core.out c.call_on.new.out c.args.dev.now c.rig.new.dev c.loop-core.dev
    c.rig.ensures c.loop-core.invariant
    (ap (λ (it : Progress). it.book) told_of ∙ c.in_default.ensures.book)
    (ap (λ (it : Progress). it.kept) told_of ∙ c.in_default.ensures.kept)
    (ap (λ (it : Progress). it.clocks) told_of ∙ ap clocks_told c.in_default.ensures.clocks) are
    c.in_default.ensures.events.0
    (ap (λ (it : Progress). it.boxes) told_of ∙ c.in_default.ensures.end refl)
    (ap (λ (notes : List Note). ((notes ++ turns) ++ fired) ++ told) c.split-parts.ensures.notes
    ∙ (ap (λ (notes : List Note). ((own ++ notes) ++ fired) ++ told) turned
    ∙ ap (λ (notes : List Note). ((own ++ map clock_note (changes now.clocks)) ++ fired) ++ notes) called))
    (notes_on g.O.Sink n ((busy ++ turns) ++ fired) told c.loop-core.written c.tasks_on-fired.result c.call_on.result
    c.loop-core.out c.tasks_on-fired.new.out c.call_on.new.out three c.call_on.ensures)
    (ap (λ (t : Timetable). record board { tasks = t }) c.tasks_on-fired.ensures.tasks) cs is
