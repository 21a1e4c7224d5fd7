use Rattle.std.proofs.Common.{List, subst}
use Rattle.pm_tasks.specs.declared.tasks.TasksOf.{TasksOf}
use Rattle.pm_replay.specs.Replay.{Touched, replay_report}
use Rattle.pm_replay.specs.Replayed.{Replayed, ReplayedGiven}
use Rattle.pm_board.specs.Standing.{standing}
use Rattle.pm_base.specs.declared.events.Event.{Event}
use Rattle.pm_block.specs.Block.{passed}
use Rattle.pm_run.specs.Run.{setup, setup_for}
use Rattle.pm_run.proofs.FormedLemmas.{objects_formed}
use Rattle.pm_io.specs.World.{world}
use Rattle.pm_trace.specs.Scripts.{IsScriptOf}
use Rattle.pm_trace.proofs.ScriptsLemmas as scripts
use Rattle.pm_io.specs.Readings.{Meanwhile}
use Rattle.pm_replay.proofs.ReplayLemmas.{of_script, replay_done, replay_safe, replay_untouched, script_itself}
use Rattle.pm_replay.proofs.run.replay.Goals as goal

pub returns : goal.returns
returns g c =
    let object = c.args.object in
    let t = c.args.topology in
    let w = world c.args.inputs.now c.args.out.now c.args.dev.now in
    let w' = world c.run_named-exit.new.inputs c.run_named-exit.new.out c.run_named-exit.new.dev in
    let board = standing g.H.Responder g.T.Handler c.args.modules.now c.args.tasks.now in
    let left = standing g.H.Responder g.T.Handler c.args.modules.now c.run_named-exit.new.board.tasks in
    let name = c.args.script.now in
    let result = c.run_named-exit.result in
    let ran = subst (λ (tasks : TasksOf _). Replayed g.I.Inputs g.O.Sink g.D.Device object t (standing g.H.Responder g.T.Handler c.args.modules.now tasks) left name w w' result) c.replace.ensures.value c.run_named-exit.ensures.ran in
    let formed = λ (events : List Event). objects_formed c.attached_objects_are_formed.ensures object t events c.requires.object in
    let Asks = IsScriptOf g.I.Inputs name w.inputs w'.inputs result in
    let Touching = Touched g.D.Device object t board left w.device w'.device in
    record {
      done = replay_done g.I.Inputs g.O.Sink g.D.Device object t board left name w w' result ran;
      decided = scripts.did_decided g.I.Inputs g.O.Sink script_itself (replay_report object t board) (of_script object t board) name w.inputs w'.inputs w.sink w'.sink result Asks (λ job asked. asked) Touching ran;
      given = subst (λ (tasks : TasksOf _). Meanwhile (g.I.Inputs.state w.inputs) (g.I.Inputs.state w'.inputs) (λ calls. ReplayedGiven g.O.Sink g.D.Device object t (standing g.H.Responder g.T.Handler c.args.modules.now tasks) left name calls (world (g.I.Inputs.state w.inputs) w.sink w.device) (world (g.I.Inputs.state w'.inputs) w'.sink w'.device) result)) c.replace.ensures.value c.run_named-exit.ensures.given;
      safe = replay_safe g.I.Inputs g.O.Sink g.D.Device object t board left name w w' result ran;
      ran = ran;
      keeps = record { run = λ answers events drove. c.driven_runs_keep_apart.ensures.run (setup_for object t events) (passed events) answers w.device w'.device (formed events) c.requires.formed drove; steps = λ answers events cut drove. c.driven_runs_keep_apart.ensures.steps (setup_for object t events) (passed events) answers cut w.device w'.device (formed events) c.requires.formed drove };
      causes = λ events. c.runs_have_causes.ensures.run (setup_for object t events) (passed events);
      boxes = λ events. c.boxes_of_a_run.ensures (setup_for object t events) (passed events) c.requires.object;
      calls = record {
        line = λ attached. c.power_calls_are_their_events.ensures (setup object attached t);
        script = λ events. c.scripts_are_lowered.ensures (setup_for object t events) (passed events);
      };
      tasks = λ events. c.calls_are_told.ensures (setup_for object t events) board (passed events);
      clocks = λ events. c.clocks_are_followed.ensures (setup_for object t events) (passed events);
      begun = c.run_named-exit.ensures.begun;
      memory = scripts.did_memory g.I.Inputs g.O.Sink script_itself (replay_report object t board) (of_script object t board) name w.inputs w'.inputs w.sink w'.sink result Asks (λ job asked. asked) Touching ran;
      untouched = replay_untouched g.I.Inputs g.O.Sink g.D.Device object t board left name w w' result ran;
      read_fault = scripts.did_read_fault g.I.Inputs g.O.Sink script_itself (replay_report object t board) (of_script object t board) name w.inputs w'.inputs w.sink w'.sink result Asks (λ job asked. asked) Touching ran;
      read_cause = scripts.did_read_cause g.I.Inputs g.O.Sink script_itself (replay_report object t board) (of_script object t board) name w.inputs w'.inputs w.sink w'.sink result Asks (λ job asked. asked) Touching ran;
      write_fault = scripts.did_write_fault g.I.Inputs g.O.Sink script_itself (replay_report object t board) (of_script object t board) name w.inputs w'.inputs w.sink w'.sink result Asks (λ job asked. asked) Touching ran;
      unfailed = scripts.did_unfailed g.I.Inputs g.O.Sink script_itself (replay_report object t board) (of_script object t board) name w.inputs w'.inputs w.sink w'.sink result Asks (λ job asked. asked) Touching ran;
    }
