use Rattle.std.proofs.Common.{Option, map, string_bytes, subst}
use Rattle.pm_io.specs.World.{world}
use Rattle.pm_block.specs.Block.{passed}
use Rattle.pm_run.specs.Run.{setup, setup_for}
use Rattle.pm_run.proofs.FormedLemmas.{objects_formed}
use Rattle.pm_top.specs.declared.works.Request.{Request}
use Rattle.pm_top.specs.Done.{DoneIf}
use Rattle.pm_top.specs.Given.{HoldsEach}
use Rattle.pm_top.specs.Theorem.{IsReplayed}
use Rattle.pm_top.proofs.CompleteLemmas.{is_complete}
use Rattle.pm_top.proofs.DroveLemmas.{replay_drove}
use Rattle.pm_top.proofs.HeadlineLaw.{HeadlineLaws, replayed_headline}
use Rattle.pm_top.proofs.MainLemmas.{decides, decides_given, memory, read_cause, reading_fault, unfailing, untouched, usage, writing_fault}
use Rattle.pm_top.proofs.OutcomeLaw.{outcome}
use Rattle.pm_board.specs.Standing.{standing}
use Rattle.pm_top.proofs.program.pm_main.Goals as goal

pub returns-clause-headline : goal.returns-clause-headline
returns-clause-headline g c = λ seen written named done is.
    let laws : HeadlineLaws g.D.Device = record {
      kinds = c.kinds_are_exact.ensures;
      exact = c.reach_is_closed.ensures.exact;
      objects = objects_formed c.attached_objects_are_formed.ensures;
      keeps = c.driven_runs_keep_apart.ensures.run;
      causes = c.runs_have_causes.ensures.run;
      transitions = c.what_differs_is_reached.ensures.beyond;
    } in
    let found = standing g.H.Responder g.T.Handler c.args.modules.now c.args.tasks.now in
    let left = standing g.H.Responder g.T.Handler c.args.modules.now c.run_board.new.tasks in
    let w = world c.args.inputs.now c.args.out.now c.args.dev.now in
    let w' = world c.run_board.new.inputs c.run_board.new.out c.run_board.new.dev in
    let run : IsReplayed g.I.Inputs g.O.Sink g.D.Device named (map string_bytes c.args.words.now) found left w w' =
    subst (λ (request : Option Request). DoneIf g.I.Inputs g.O.Sink g.D.Device request (map string_bytes c.args.words.now) found left w w') is
    (c.run_board.ensures.done seen written done)
    in
    replayed_headline g.O.Sink g.D.Device laws (HoldsEach (g.I.Inputs.state w.inputs)) named (map string_bytes c.args.words.now) found left w.sink w'.sink w.device w'.device run

pub returns-clause-given : goal.returns-clause-given
returns-clause-given g c =
    let laws : HeadlineLaws g.D.Device = record {
      kinds = c.kinds_are_exact.ensures;
      exact = c.reach_is_closed.ensures.exact;
      objects = objects_formed c.attached_objects_are_formed.ensures;
      keeps = c.driven_runs_keep_apart.ensures.run;
      causes = c.runs_have_causes.ensures.run;
      transitions = c.what_differs_is_reached.ensures.beyond;
    } in
    let ws = map string_bytes c.args.words.now in
    let found = standing g.H.Responder g.T.Handler c.args.modules.now c.args.tasks.now in
    let left = standing g.H.Responder g.T.Handler c.args.modules.now c.run_board.new.tasks in
    let w = world c.args.inputs.now c.args.out.now c.args.dev.now in
    let w' = world c.run_board.new.inputs c.run_board.new.out c.run_board.new.dev in
    outcome g.O.Sink g.D.Device ws found left (g.I.Inputs.state w.inputs) (g.I.Inputs.state w'.inputs) w.sink w'.sink w.device w'.device c.run_board.result
    c.one_reading.ensures.written (λ text object. (c.one_meaning.ensures.built text object).1) laws
    (decides_given g.I.Inputs g.O.Sink c.exits_say.ensures g.D.Device ws found left w w' c.run_board.result)
    c.run_board.ensures.begun c.run_board.ensures.given c.run_board.ensures.gave

pub returns-clause-usage : goal.returns-clause-usage
returns-clause-usage g c = usage g.I.Inputs g.O.Sink c.exits_say.ensures g.D.Device (map string_bytes c.args.words.now) (standing g.H.Responder g.T.Handler c.args.modules.now c.args.tasks.now) (standing g.H.Responder g.T.Handler c.args.modules.now c.run_board.new.tasks) (world c.args.inputs.now c.args.out.now c.args.dev.now) (world c.run_board.new.inputs c.run_board.new.out c.run_board.new.dev) c.run_board.result c.run_board.ensures.ran

pub returns-clause-decided : goal.returns-clause-decided
returns-clause-decided g c = decides g.I.Inputs g.O.Sink c.exits_say.ensures g.D.Device (map string_bytes c.args.words.now) (standing g.H.Responder g.T.Handler c.args.modules.now c.args.tasks.now) (standing g.H.Responder g.T.Handler c.args.modules.now c.run_board.new.tasks) (world c.args.inputs.now c.args.out.now c.args.dev.now) (world c.run_board.new.inputs c.run_board.new.out c.run_board.new.dev) c.run_board.result c.run_board.ensures.ran

pub returns-clause-untouched : goal.returns-clause-untouched
returns-clause-untouched g c = λ before. (untouched g.I.Inputs g.O.Sink c.exits_say.ensures g.D.Device (map string_bytes c.args.words.now) (standing g.H.Responder g.T.Handler c.args.modules.now c.args.tasks.now) (standing g.H.Responder g.T.Handler c.args.modules.now c.run_board.new.tasks) (world c.args.inputs.now c.args.out.now c.args.dev.now) (world c.run_board.new.inputs c.run_board.new.out c.run_board.new.dev) c.run_board.result c.run_board.ensures.ran before).0

pub returns-clause-still : goal.returns-clause-still
returns-clause-still g c = λ before. (untouched g.I.Inputs g.O.Sink c.exits_say.ensures g.D.Device (map string_bytes c.args.words.now) (standing g.H.Responder g.T.Handler c.args.modules.now c.args.tasks.now) (standing g.H.Responder g.T.Handler c.args.modules.now c.run_board.new.tasks) (world c.args.inputs.now c.args.out.now c.args.dev.now) (world c.run_board.new.inputs c.run_board.new.out c.run_board.new.dev) c.run_board.result c.run_board.ensures.ran before).1

pub returns-clause-memory : goal.returns-clause-memory
returns-clause-memory g c = memory g.I.Inputs g.O.Sink c.exits_say.ensures g.D.Device (map string_bytes c.args.words.now) (standing g.H.Responder g.T.Handler c.args.modules.now c.args.tasks.now) (standing g.H.Responder g.T.Handler c.args.modules.now c.run_board.new.tasks) (world c.args.inputs.now c.args.out.now c.args.dev.now) (world c.run_board.new.inputs c.run_board.new.out c.run_board.new.dev) c.run_board.result c.run_board.ensures.ran

pub returns-clause-read_fault : goal.returns-clause-read_fault
returns-clause-read_fault g c = reading_fault g.I.Inputs g.O.Sink c.exits_say.ensures g.D.Device (map string_bytes c.args.words.now) (standing g.H.Responder g.T.Handler c.args.modules.now c.args.tasks.now) (standing g.H.Responder g.T.Handler c.args.modules.now c.run_board.new.tasks) (world c.args.inputs.now c.args.out.now c.args.dev.now) (world c.run_board.new.inputs c.run_board.new.out c.run_board.new.dev) c.run_board.result c.run_board.ensures.ran

pub returns-clause-read_cause : goal.returns-clause-read_cause
returns-clause-read_cause g c = read_cause g.I.Inputs g.O.Sink c.exits_say.ensures g.D.Device (map string_bytes c.args.words.now) (standing g.H.Responder g.T.Handler c.args.modules.now c.args.tasks.now) (standing g.H.Responder g.T.Handler c.args.modules.now c.run_board.new.tasks) (world c.args.inputs.now c.args.out.now c.args.dev.now) (world c.run_board.new.inputs c.run_board.new.out c.run_board.new.dev) c.run_board.result c.run_board.ensures.ran

pub returns-clause-write_fault : goal.returns-clause-write_fault
returns-clause-write_fault g c = writing_fault g.I.Inputs g.O.Sink c.exits_say.ensures g.D.Device (map string_bytes c.args.words.now) (standing g.H.Responder g.T.Handler c.args.modules.now c.args.tasks.now) (standing g.H.Responder g.T.Handler c.args.modules.now c.run_board.new.tasks) (world c.args.inputs.now c.args.out.now c.args.dev.now) (world c.run_board.new.inputs c.run_board.new.out c.run_board.new.dev) c.run_board.result c.run_board.ensures.ran

pub returns-clause-unfailed : goal.returns-clause-unfailed
returns-clause-unfailed g c = unfailing g.I.Inputs g.O.Sink c.exits_say.ensures g.D.Device (map string_bytes c.args.words.now) (standing g.H.Responder g.T.Handler c.args.modules.now c.args.tasks.now) (standing g.H.Responder g.T.Handler c.args.modules.now c.run_board.new.tasks) (world c.args.inputs.now c.args.out.now c.args.dev.now) (world c.run_board.new.inputs c.run_board.new.out c.run_board.new.dev) c.run_board.result c.run_board.ensures.ran

pub returns-clause-keeps : goal.returns-clause-keeps
returns-clause-keeps g c = λ object topology start of formed. record {
  run = λ answers events drove. c.driven_runs_keep_apart.ensures.run (setup_for object topology events) (passed events) answers start c.run_board.new.dev (objects_formed c.attached_objects_are_formed.ensures object topology events of) formed drove;
  steps = λ answers events cut drove. c.driven_runs_keep_apart.ensures.steps (setup_for object topology events) (passed events) answers cut start c.run_board.new.dev (objects_formed c.attached_objects_are_formed.ensures object topology events of) formed drove;
}

pub returns-clause-causes : goal.returns-clause-causes
returns-clause-causes g c = λ object topology events. c.runs_have_causes.ensures.run (setup_for object topology events) (passed events)

pub returns-clause-boxes : goal.returns-clause-boxes
returns-clause-boxes g c = λ object topology is events. c.boxes_of_a_run.ensures (setup_for object topology events) (passed events) is

pub returns-clause-calls : goal.returns-clause-calls
returns-clause-calls g c = λ object topology. record {
  line = λ attached. c.power_calls_are_their_events.ensures (setup object attached topology);
  script = λ events. c.scripts_are_lowered.ensures (setup_for object topology events) (passed events);
}

pub returns-clause-tasks : goal.returns-clause-tasks
returns-clause-tasks g c = λ object topology events. c.calls_are_told.ensures (setup_for object topology events) (standing g.H.Responder g.T.Handler c.args.modules.now c.args.tasks.now) (passed events)

pub returns-clause-clocks : goal.returns-clause-clocks
returns-clause-clocks g c = λ object topology events. c.clocks_are_followed.ensures (setup_for object topology events) (passed events)

pub returns-clause-complete : goal.returns-clause-complete
returns-clause-complete g c = is_complete c.one_reading.ensures.written (λ text object. (c.one_meaning.ensures.built text object).1) g.I.Inputs g.O.Sink g.D.Device (map string_bytes c.args.words.now) (standing g.H.Responder g.T.Handler c.args.modules.now c.args.tasks.now) (standing g.H.Responder g.T.Handler c.args.modules.now c.run_board.new.tasks) (world c.args.inputs.now c.args.out.now c.args.dev.now) (world c.run_board.new.inputs c.run_board.new.out c.run_board.new.dev) c.run_board.result (decides g.I.Inputs g.O.Sink c.exits_say.ensures g.D.Device (map string_bytes c.args.words.now) (standing g.H.Responder g.T.Handler c.args.modules.now c.args.tasks.now) (standing g.H.Responder g.T.Handler c.args.modules.now c.run_board.new.tasks) (world c.args.inputs.now c.args.out.now c.args.dev.now) (world c.run_board.new.inputs c.run_board.new.out c.run_board.new.dev) c.run_board.result c.run_board.ensures.ran) c.run_board.ensures.done (reading_fault g.I.Inputs g.O.Sink c.exits_say.ensures g.D.Device (map string_bytes c.args.words.now) (standing g.H.Responder g.T.Handler c.args.modules.now c.args.tasks.now) (standing g.H.Responder g.T.Handler c.args.modules.now c.run_board.new.tasks) (world c.args.inputs.now c.args.out.now c.args.dev.now) (world c.run_board.new.inputs c.run_board.new.out c.run_board.new.dev) c.run_board.result c.run_board.ensures.ran)

pub returns-clause-driven : goal.returns-clause-driven
returns-clause-driven g c = λ named done is.
    replay_drove g.I.Inputs g.O.Sink c.exits_say.ensures g.D.Device (map string_bytes c.args.words.now) (standing g.H.Responder g.T.Handler c.args.modules.now c.args.tasks.now) (standing g.H.Responder g.T.Handler c.args.modules.now c.run_board.new.tasks) (world c.args.inputs.now c.args.out.now c.args.dev.now) (world c.run_board.new.inputs c.run_board.new.out c.run_board.new.dev) c.run_board.result named c.run_board.ensures.ran is done
