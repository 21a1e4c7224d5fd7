use Rattle.std.proofs.Common.{[], ◌∷◌, ◌∙◌, ap, refl, subst, sym}
use Rattle.pm_io.specs.Sink.{Wrote}
use Rattle.pm_io.specs.Writing.{BreaksIn}
use Rattle.pm_board.specs.Standing.{standing}
use Rattle.pm_tasks.specs.Timetable.{Timetable}
use Rattle.pm_core.specs.declared.outbox.Outbox.{Outbox}
use Rattle.pm_reader.specs.Front.{ran}
use Rattle.pm_reader.proofs.AheadLemmas.{Idle}
use Rattle.pm_reader.proofs.ShownLemmas.{front_read, read_more}
use Rattle.pm_reader.proofs.StandsLemmas.{front_calls}
use Rattle.pm_run.specs.Run.{setup_of}
use Rattle.pm_trace.specs.Step.{notices_in, step_text}
use Rattle.pm_replay.specs.Within.{AreTold, Started}
use Rattle.pm_replay.proofs.RestLemmas.{RanScript-cut, RanScript-first}
use Rattle.pm_replay.proofs.run.run.Goals as goal

pub returns-in-Ok-clause-ran : goal.returns-in-Ok-clause-ran
returns-in-Ok-clause-ran g c = λ ahead front.
    let then = c.start.new.self in
    let board = standing g.H.Responder g.T.Handler c.args.board.now.modules.now c.args.board.now.tasks in
    let begun = standing g.H.Responder g.T.Handler c.args.board.now.modules.now c.happen.new.tasks in
    let started : Started g.O.Sink g.D.Device c.args.engine.now then c.args.dev.now c.start.new.dev = record { book = c.start.ensures.book; boxes = c.start.ensures.boxes; clocks = c.start.ensures.clocks; part = c.start.ensures.part; notices = c.start.ensures.notices; given = c.start.ensures.given } in
    let left = standing g.H.Responder g.T.Handler c.args.board.now.modules.now c.run_rest.new.board.tasks in
    let P : Outbox → Type 0 = λ outbox. Wrote g.O.Sink.observable (step_text 0 outbox.done.items (notices_in outbox) outbox.answer) (g.O.Sink.state c.args.out.now) (g.O.Sink.state c.write_step.new.out) in
    read_more g.I.Inputs.observable c.args.id _ _ _ _
    (λ s did. (did.0, RanScript-first g.O.Sink g.D.Device (ran s) c.args.engine.now then c.args.out.now c.write_step.new.out c.run_rest.new.out c.args.dev.now c.start.new.dev c.run_rest.new.dev board begun left c.run_rest.result c.requires.loaded started (ap (λ (t : Timetable). record board { tasks = t }) c.happen.ensures.tasks) (subst P c.outbox-outbox.ensures c.in-Ok.ensures) did.1))
    (c.run_rest.ensures.ran ahead front (setup_of c.args.engine.now.book) (ap setup_of c.start.ensures.book)
    (subst AreTold (sym (c.start.ensures.clocks ∙ c.requires.loaded.clocks.are)) refl))

pub returns-in-Err-clause-ran : goal.returns-in-Err-clause-ran
returns-in-Err-clause-ran g c = λ ahead front.
    let then = c.start.new.self in
    let board = standing g.H.Responder g.T.Handler c.args.board.now.modules.now c.args.board.now.tasks in
    let begun = standing g.H.Responder g.T.Handler c.args.board.now.modules.now c.happen.new.tasks in
    let started : Started g.O.Sink g.D.Device c.args.engine.now then c.args.dev.now c.start.new.dev = record { book = c.start.ensures.book; boxes = c.start.ensures.boxes; clocks = c.start.ensures.clocks; part = c.start.ensures.part; notices = c.start.ensures.notices; given = c.start.ensures.given } in
    let P : Outbox → Type 0 = λ outbox. BreaksIn g.O.Sink 0 (step_text 0 outbox.done.items (notices_in outbox) outbox.answer ∷ []) c.args.out.now c.write_step.new.out in
    read_more g.I.Inputs.observable c.args.id _ _ _ _
    (λ s attached. (attached, RanScript-cut g.O.Sink g.D.Device (ran s) c.args.engine.now then c.args.out.now c.write_step.new.out c.args.dev.now c.start.new.dev board begun c.requires.loaded started (ap (λ (t : Timetable). record board { tasks = t }) c.happen.ensures.tasks) (subst P c.outbox-outbox.ensures c.in-Err.ensures)))
    (front_read g.I.Inputs.observable c.args.id ahead (g.I.Inputs.state c.args.inputs.now) c.in-Err.field-0 c.args.front.now front)

pub returns-in-Err-clause-reads : goal.returns-in-Err-clause-reads
returns-in-Err-clause-reads g c = λ ahead front. front_calls Idle g.I.Inputs.observable c.args.id ahead tt c.args.front.now (g.I.Inputs.state c.args.inputs.now) front
