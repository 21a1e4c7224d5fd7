-- The effects of the replay of a named script, on every exit, and the promises of Done.
use Rattle.std.specs.Prelude.{◌≡◌, ℕ, Bool, List, ◌++◌, Option}
use Rattle.pm_base.specs.declared.errors.Exit.{Exit}
use Rattle.pm_base.specs.declared.errors.Exit.TheVariants.{Done, ReadFault}
use Rattle.pm_base.specs.declared.events.Event.{Event}
use Rattle.pm_io.specs.declared.inputs.Inputs as Inputs
use Rattle.pm_io.specs.declared.sink.Sink as Sink
use Rattle.pm_io.specs.Calls.{Call}
use Rattle.pm_io.specs.declared.prefix.StopReason.TheVariants.{End}
use Rattle.pm_io.specs.Given.{prefix_called}
use Rattle.pm_io.specs.Inputs.{Holds, MayFail, Moment}
use Rattle.pm_io.specs.World.{World}
use Rattle.pm_device.specs.declared.device.Device as Device
use Rattle.pm_board.specs.Board.{Standing}
use Rattle.pm_object.specs.declared.attached.Attached.{Attached}
use Rattle.pm_object.specs.declared.object.Object.{Object}
use Rattle.pm_block.specs.Block.{passed}
use Rattle.pm_topology.specs.declared.topology.Topology.{Topology}
use Rattle.pm_reader.specs.Shown.{giving, shown}
use Rattle.pm_run.specs.Run.{cores_in, loaded, run, setup, setup_for}
use Rattle.pm_run.specs.Served.{EachServes}
use Rattle.pm_causes.specs.Caused.{HaveCauses}
use Rattle.pm_script.specs.Named.{IsScript, script_in}
use Rattle.pm_script.specs.Script.{script_limit}
use Rattle.pm_trace.specs.Exits.{EndsWith}
use Rattle.pm_trace.specs.Report.{Did}
use Rattle.pm_trace.specs.Scripts.{IsScriptOf, ReadsScript, script_exit, script_named, script_or_fault}
use Rattle.pm_drive.specs.Drive.{driven, until}
use Rattle.pm_drive.specs.Drove.{Drove}
use Rattle.pm_drive.specs.Lowered.{HaveSameSteps, lowered_script}
use Rattle.pm_drive.specs.PowerCalls.{EachCallIsItsEvents}
use Rattle.pm_drive.specs.Calls.{CallsAreTold}
use Rattle.pm_drive.specs.Followed.{ClocksStand}
use Rattle.pm_drive.specs.Completed.{completed_in, last_board}
use Rattle.pm_drive.specs.Scripts.{script_driven, script_text}
use Rattle.pm_apart.specs.Apart.{KeepsApart, StepsKeepApart}
use Rattle.pm_replay.specs.Replay.{Touched, replay_report}

module _ {I O D : Type 0} (i : Inputs.Ghosts I) (o : Sink.Ghosts O) (d : Device.Ghosts D) where
  -- on every exit: what was asked for, how much of it was written, the acts on the device, and the state of the board
  abbrev pub Replayed : Object → Topology → Standing → Standing → List ℕ → World I O D → World I O D → Exit → Type 0
  Replayed object t board is name w w' exit =
      Did o (IsScriptOf i name w.inputs w'.inputs exit) (replay_report object t board)
      (Touched d object t board is w.device w'.device)
      w.sink w'.sink exit

  -- a script was held under the name. The whole text of its run, with what its block attaches, was written under the
  -- device's answers, and the device was driven through that run
  pub record IsRun (object : Object) (t : Topology) (board is : Standing) (name : List ℕ) (w w' : World I O D) : Type 0 where
    pub script_bytes : List ℕ
    pub events : List Event
    pub answers : List (List Bool)
    pub held : Holds (i.state w.inputs) name script_bytes
    pub means : IsScript script_bytes events
    pub text : (o.state w'.sink).bytes ≡ (o.state w.sink).bytes ++ script_text object t board answers events
    pub drove : Drove d (setup_for object t events) (script_driven object t answers events) w.device w'.device
    pub tasks_left : is ≡ last_board board (script_driven object t answers events)

module _ {O D : Type 0} (o : Sink.Ghosts O) (d : Device.Ghosts D) where
  -- these calls read the script, from any source, and what they gave was asked for. On Done they gave a whole script,
  -- which was run. The exit follows from what they gave
  pub record ReplayedGiven (object : Object) (t : Topology) (board is : Standing) (name : List ℕ) (calls : List Call)
      (w w' : World Moment O D) (exit : Exit) : Type 0 where
    pub reads : ReadsScript exit (script_named name) calls
    pub whole : exit ≡ Done → (prefix_called script_limit calls).stop ≡ End
    pub ran : Replayed shown o d object t board is name (record w { inputs = giving script_limit calls w.inputs }) w' exit
    pub done : o.observable → exit ≡ Done → IsRun shown o d object t board is name (record w { inputs = giving script_limit calls w.inputs }) w'
    pub decided : EndsWith o (script_exit (script_or_fault (script_in (giving script_limit calls w.inputs) name))) w.sink w'.sink exit
    pub read_cause : exit ≡ ReadFault → MayFail name script_limit (giving script_limit calls w.inputs)

module _ {D : Type 0} (d : Device.Ghosts D) where
  -- for any run that the device was driven through: nothing that a master sends changes what is beyond its reach. It
  -- is so for the whole run, and for its lines up to a cut, which are all there is if a script stops at a fault or
  -- the text breaks off
  pub record RunsKeepApart (object : Object) (t : Topology) (old new : D) : Type 0 where
    pub run : (answers : List (List Bool)) (events : List Event)
        → Drove d (setup_for object t events) (script_driven object t answers events) old new
        → KeepsApart d (setup_for object t events) answers (passed events) old new
    pub steps : (answers : List (List Bool)) (events : List Event) (cut : Option ℕ)
        → Drove d (setup_for object t events) (until cut (script_driven object t answers events)) old new
        → StepsKeepApart d (setup_for object t events) answers (passed events) cut old new

-- each answer of each run, before an internal error replaces a success, has the causes of its own core event in the
-- book before it
abbrev pub AnswersHaveCauses : Object → Topology → Type 0
AnswersHaveCauses object t = (events : List Event) → HaveCauses (cores_in (run (setup_for object t events) (passed events)))

-- in each run, each line that serves the boxes sends the message of each full box once, by rising mask of the
-- masters, and leaves all boxes empty
abbrev pub LinesServe : Object → Topology → Type 0
LinesServe object t =
    (events : List Event)
    → EachServes (setup_for object t events) (loaded (setup_for object t events)).boxes (run (setup_for object t events) (passed events))

-- the line of a power call is the run of the events that it becomes. A run of a script with power calls is the run of
-- the script with a line for each of these events in place of the call: it has the same core steps, commands and
-- lines, except for the numbers of the lines and the answers to power calls
pub record LowersCalls (object : Object) (t : Topology) : Type 0 where
  pub line : (attached : List Attached) → EachCallIsItsEvents (setup object attached t)
  pub script : (events : List Event) (answers : List (List Bool))
      → HaveSameSteps (setup_for object t events) (script_driven object t answers events)
      (driven (setup_for object t events) answers (lowered_script t (passed events)))

-- in each run that begins with this board, up to any cut: each line tells exactly the calls of tasks that are due in
-- it, and a task that is stored before and after was called as often as the lines tell, modulo 2 ^ 32
abbrev pub TellsCalls : Object → Topology → Standing → Type 0
TellsCalls object t board =
    (events : List Event) (answers : List (List Bool)) (cut : Option ℕ)
    → CallsAreTold
    (completed_in (setup_for object t events) board (until cut (script_driven object t answers events))) board
    (last_board board (until cut (script_driven object t answers events))).tasks

-- in each run, at its load and after each core step: the clock tree is the one before, with the accepted call on a
-- clock in the step, if there is one, and without the enables of masters that are off or may not use the clock's
-- slave by the object in force. A root runs if its slave is in a state other than 0. Any other clock runs if a master
-- enables it and its selected parent runs
abbrev pub ClocksFollow : Object → Topology → Type 0
ClocksFollow object t = (events : List Event) (answers : List (List Bool)) → ClocksStand (setup_for object t events) (script_driven object t answers events)
