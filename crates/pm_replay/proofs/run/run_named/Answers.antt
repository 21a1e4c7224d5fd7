use Rattle.std.proofs.Common.{List, ◌∷◌, Some, None, arith, inl, inr, refl, ap}
use Rattle.std.proofs.lemmas.Bool.{false≢true}
use Rattle.pm_base.specs.Faults.{Rose}
use Rattle.pm_io.specs.Calls.{Begin, Call}
use Rattle.pm_io.specs.Readings.{Meanwhile}
use Rattle.pm_io.specs.World.{world}
use Rattle.pm_io.proofs.GivenLemmas.{one_call}
use Rattle.pm_io.proofs.ReadingsLemmas.{meanwhile_map, then_read}
use Rattle.pm_board.specs.Standing.{standing}
use Rattle.pm_tasks.specs.declared.tasks.TasksOf.{TasksOf}
use Rattle.pm_reader.specs.Follow.{script_given}
use Rattle.pm_reader.specs.Front.{ran}
use Rattle.pm_reader.proofs.Named.{script_begun, script_unbegun}
use Rattle.pm_run.specs.Run.{setup_for}
use Rattle.pm_script.specs.Script.{Script, script_from, script_lines, stop_of}
use Rattle.pm_trace.specs.Scripts.{ReadsBegun, script_named}
use Rattle.pm_trace.specs.declared.faults.Fault.TheVariants.{Memory}
use Rattle.pm_trace.proofs.ReadsLemmas.{script_not_begun, script_reads}
use Rattle.pm_trace.proofs.ScriptsLemmas.{asked_starved, memory_exit}
use Rattle.pm_replay.proofs.GivenLemmas.{IsRan, given_by, ran_given, ran_starved, ran_unbegun}
use Rattle.pm_replay.proofs.ReplayLemmas.{replay_ran, replay_refused, replay_unbegun}
use Rattle.pm_replay.proofs.run.run_named.Goals as goal

pub returns-in-Ok-clause-ran : goal.returns-in-Ok-clause-ran
returns-in-Ok-clause-ran g c =
    let object = c.args.object in
    let t = c.args.topology in
    let name = c.args.script.now in
    let w = world c.args.inputs.now c.args.out.now c.args.dev.now in
    let w' = world c.run_begun.new.inputs c.run_begun.new.out c.run_begun.new.dev in
    let board = standing g.H.Responder g.T.Handler c.args.board.now.modules.now c.args.board.now.tasks in
    let left = standing g.H.Responder g.T.Handler c.args.board.now.modules.now c.run_begun.new.board.tasks in
    let result = c.run_begun.result in
    elim c.run_begun.ensures.ran [
      | inl starved ↦
          replay_refused g.I.Inputs g.O.Sink g.D.Device object t board left name w w' result Memory
          (asked_starved g.I.Inputs name w.inputs w'.inputs result (memory_exit g.O.Sink w.sink w'.sink result starved.0)) starved.0 starved.1 (ap (λ (tasks : TasksOf _). standing g.H.Responder g.T.Handler c.args.board.now.modules.now tasks) starved.2)
      | inr read ↦
          let of = read.held in
          let s : Script = script_from (script_lines of.prefix) (stop_of of.prefix.stop) in
          let is = script_begun g.I.Inputs.observable name c.in-Ok.id (g.I.Inputs.state w.inputs) (g.I.Inputs.state c.begin.new.self) _ of c.in-Ok.ensures.begun (λ seen cannot. false≢true ((c.in-Ok.ensures.failed seen).1 cannot)) in
          let drove = c.driven_follows.ensures (setup_for object t s.events) (ran s).events of.holds.answers of.holds.cut w.device w'.device c.requires.formed c.requires.idle of.holds.went.given in
          replay_ran g.I.Inputs g.O.Sink g.D.Device object t board left name w w' result s is
          (λ fails. let rose : Rose (g.I.Inputs.state c.begin.new.self).faults (g.I.Inputs.state w'.inputs).faults = c.run_begun.ensures.fault fails in omega (arith, c.in-Ok.ensures.cause.later, rose))
          of.holds drove
    ]

pub returns-in-Err-clause-ran : goal.returns-in-Err-clause-ran
returns-in-Err-clause-ran g c =
    let w = world c.args.inputs.now c.args.out.now c.args.dev.now in
    let w' = world c.begin.new.self c.refuse.new.out c.args.dev.now in
    let board = standing g.H.Responder g.T.Handler c.args.board.now.modules.now c.args.board.now.tasks in
    replay_unbegun g.I.Inputs g.O.Sink g.D.Device c.args.object c.args.topology board board c.args.script.now w w' c.refuse.result
    (λ seen. script_unbegun c.args.script.now (g.I.Inputs.state c.args.inputs.now) ((c.in-Err.ensures.failed seen).0 refl))
    c.in-Err.ensures.cause.failed c.refuse.ensures refl refl

pub returns-in-Ok-clause-begun : goal.returns-in-Ok-clause-begun
returns-in-Ok-clause-begun g c = script_reads c.args.script.now c.in-Ok.id c.run_begun.result (g.I.Inputs.state c.args.inputs.now) (g.I.Inputs.state c.begin.new.self) (g.I.Inputs.state c.run_begun.new.inputs) c.in-Ok.ensures.logged c.run_begun.ensures.reads

pub returns-in-Err-clause-begun : goal.returns-in-Err-clause-begun
returns-in-Err-clause-begun g c = script_not_begun g.O.Sink c.args.script.now c.args.out.now c.refuse.new.out c.refuse.result (g.I.Inputs.state c.args.inputs.now) (g.I.Inputs.state c.begin.new.self) c.refuse.ensures c.in-Err.ensures.logged

-- so by what the calls gave
pub returns-in-Ok-clause-given : goal.returns-in-Ok-clause-given
returns-in-Ok-clause-given g c =
    let object = c.args.object in
    let t = c.args.topology in
    let name = c.args.script.now in
    let id = c.in-Ok.id in
    let first = g.I.Inputs.state c.args.inputs.now in
    let mid = g.I.Inputs.state c.begin.new.self in
    let last = g.I.Inputs.state c.run_begun.new.inputs in
    let board = standing g.H.Responder g.T.Handler c.args.board.now.modules.now c.args.board.now.tasks in
    let left = standing g.H.Responder g.T.Handler c.args.board.now.modules.now c.run_begun.new.board.tasks in
    let result = c.run_begun.result in
    let w = world first c.args.out.now c.args.dev.now in
    let w' = world last c.run_begun.new.out c.run_begun.new.dev in
    let Ran : List Call → Type 0 = IsRan g.O.Sink g.D.Device object t board left name w w' result in
    let later : Meanwhile mid last (λ calls. Ran (Begin name (Some id) ∷ calls)) = elim c.run_begun.ensures.ran [
      | inl starved ↦
          meanwhile_map mid last (ReadsBegun result id) (λ calls. Ran (Begin name (Some id) ∷ calls))
          (λ calls reads. ran_starved g.O.Sink g.D.Device object t board left name (Begin name (Some id) ∷ calls) w w' result starved.0 starved.1
          (ap (λ (tasks : TasksOf _). standing g.H.Responder g.T.Handler c.args.board.now.modules.now tasks) starved.2))
          c.run_begun.ensures.reads
      | inr read ↦
          meanwhile_map mid last _ (λ calls. Ran (Begin name (Some id) ∷ calls))
          (λ calls of.
          let s = script_given id calls in
          let drove = c.driven_follows.ensures (setup_for object t s.events) (ran s).events of.1.answers of.1.cut w.device w'.device c.requires.formed c.requires.idle of.1.went.given in
          ran_given g.O.Sink g.D.Device object t board left name id calls w w' result of.0
          (λ fails. let rose : Rose mid.faults last.faults = c.run_begun.ensures.fault fails in omega (arith, c.in-Ok.ensures.cause.later, rose))
          of.1 drove)
          read.given
    ] in
    given_by g.O.Sink g.D.Device object t board left name w w' result
    (then_read (script_named name) id first mid last (λ calls. Ran (Begin name (Some id) ∷ calls)) Ran (λ calls holds. holds) c.in-Ok.ensures.logged later)
    (script_reads name id result first mid last c.in-Ok.ensures.logged c.run_begun.ensures.reads)

pub returns-in-Err-clause-given : goal.returns-in-Err-clause-given
returns-in-Err-clause-given g c =
    let name = c.args.script.now in
    let first = g.I.Inputs.state c.args.inputs.now in
    let last = g.I.Inputs.state c.begin.new.self in
    let board = standing g.H.Responder g.T.Handler c.args.board.now.modules.now c.args.board.now.tasks in
    let w = world first c.args.out.now c.args.dev.now in
    let w' = world last c.refuse.new.out c.args.dev.now in
    given_by g.O.Sink g.D.Device c.args.object c.args.topology board board name w w' c.refuse.result
    (one_call (Begin name None) first last (IsRan g.O.Sink g.D.Device c.args.object c.args.topology board board name w w' c.refuse.result) c.in-Err.ensures.logged
    (ran_unbegun g.O.Sink g.D.Device c.args.object c.args.topology board name w w' c.refuse.result c.in-Err.ensures.cause.failed c.refuse.ensures refl))
    (script_not_begun g.O.Sink name c.args.out.now c.refuse.new.out c.refuse.result first last c.refuse.ensures c.in-Err.ensures.logged)
