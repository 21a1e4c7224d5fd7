-- The text of each work, and the promises of Done for it. Done has no limit, no reason to stop and no cut.
use Rattle.std.specs.Prelude.{◌≡◌, ◌⊎◌, ℕ, ◌+◌, Bool, List, [], ◌∷◌, ◌++◌, length, unwrap_or, Option, Some, None}
use Rattle.pm_base.specs.declared.errors.Exit.{Exit}
use Rattle.pm_base.specs.declared.errors.Exit.TheVariants.{Done}
use Rattle.pm_base.specs.declared.events.Event.{Event}
use Rattle.pm_io.specs.declared.inputs.Inputs as Inputs
use Rattle.pm_io.specs.declared.sink.Sink as Sink
use Rattle.pm_base.specs.declared.names.NodeId.{NodeId}
use Rattle.pm_object.specs.declared.object.Object.{Object}
use Rattle.pm_object.specs.Grammar.{Reads}
use Rattle.pm_chip.specs.Chip.{chip}
use Rattle.pm_topology.specs.declared.topology.Topology.{Topology}
use Rattle.pm_reach.specs.declared.members.Member.{Member}
use Rattle.pm_reach.specs.Membership.{IsReach}
use Rattle.pm_device.specs.declared.device.Device as Device
use Rattle.pm_script.specs.Named.{IsScript}
use Rattle.pm_script.specs.Script.{script_limit}
use Rattle.pm_drive.specs.Drove.{Drove}
use Rattle.pm_board.specs.Board.{Standing}
use Rattle.pm_drive.specs.Completed.{last_board}
use Rattle.pm_drive.specs.Scripts.{script_driven, script_text}
use Rattle.pm_gen.specs.Laboratory.{laboratory}
use Rattle.pm_gen.specs.Script.{made}
use Rattle.pm_gen.specs.Summary.{summary}
use Rattle.pm_isolate.specs.Differences.{isolate_text}
use Rattle.pm_isolate.specs.Listed.{AreListed}
use Rattle.pm_io.specs.Readings.{Meanwhile}
use Rattle.pm_block.specs.Block.{attached_by, passed}
use Rattle.pm_state.specs.State.{objects_in}
use Rattle.pm_reader.specs.Front.{ran}
use Rattle.pm_run.specs.Run.{setup_for}
use Rattle.pm_io.specs.World.{World, world}
use Rattle.pm_replay.specs.Replay.{replay_report}
use Rattle.pm_replay.specs.Replayed.{IsRun, Replayed, ReplayedGiven}
use Rattle.pm_isolate.specs.Compared.{Compared, ComparedGiven, IsCompared}
use Rattle.pm_isolate.specs.Differences.{isolate_report}
use Rattle.pm_trace.specs.Report.{Report, Reports, refusal}
use Rattle.pm_trace.specs.declared.faults.Fault.TheVariants.{Memory}
use Rattle.pm_trace.specs.Scripts.{fault_at}
use Rattle.pm_top.specs.declared.works.Work.{Work}
use Rattle.pm_top.specs.declared.works.Work.TheVariants.{Replay, Isolate, Make, Write}
use Rattle.pm_top.specs.declared.works.Request.{Request}
use Rattle.pm_top.specs.Fit.{IsFitted}
use Rattle.pm_top.specs.Form.{ForMaster, IsPiece, PieceDoneBy, piece_text, request_of}
use Rattle.pm_top.specs.Given.{HoldsEach, IsTopologyOf, Text, text}
use Rattle.pm_top.specs.Asked.{lines_asked, master_of, object_limit}
use Rattle.pm_top.specs.Job.{Job}
use Rattle.pm_top.specs.Making.{Makes}
use Rattle.pm_top.specs.Theorem.{IsReplayedBy}
use Rattle.pm_top.specs.declared.reading.Subject.{Subject}
use Rattle.pm_top.specs.Within.{Writes}
use Rattle.pm_top.specs.Words.{word}

-- ---- the text

-- the number of a master if no word names one
abbrev pub no_master : NodeId
no_master = record { 0 = 0 }

-- the pieces that a work writes for its job, with a board, under the device's answers
abbrev pub body_of : Standing → Work → Job → List (List Bool) → List (List ℕ)
body_of board Replay job answers = (replay_report job.asked.subject.object job.asked.subject.topology board job.asked.script answers).body
body_of board Isolate job answers =
    (isolate_report (setup_for job.asked.subject.object job.asked.subject.topology job.asked.script.events)
    (unwrap_or job.asked.subject.master no_master) job.members (ran job.asked.script)).body
body_of board Make job answers =
    summary job.asked.subject.lines (script_text job.asked.subject.object job.asked.subject.topology board answers job.events) ∷ []
body_of board (Write piece) job answers = piece_text piece job.asked.subject job.members ∷ []

-- these pieces, and then the fault at which its script stops, if it does
abbrev pub report : Standing → Work → Job → List (List Bool) → Report
report board work job answers = record {
  body = body_of board work job answers;
  fault = fault_at (1 + length job.asked.script.events) job.asked.script.stop;
}

-- ---- the promises of Done

module _ {O D : Type 0} (o : Sink.Ghosts O) (d : Device.Ghosts D) (AreRead : List Text → Type 0) where
  -- an object and a script were read under the first two names, and the third word names a master of the object. The
  -- text is the reach of that master, each unit whose transitions differ between the run of the script and the run
  -- without the master's messages, and the number of script lines. Each such unit is in that reach, or is a processor
  -- of a master that is. Both runs are over the chip, or over the topology whose text was read under a fourth name
  pub record IsIsolatedBy (named : Option ℕ) (ws : List (List ℕ)) (old new : O) : Type 0 where
    pub object_bytes : List ℕ
    pub topology_texts : List Text
    pub script_bytes : List ℕ
    pub object : Object
    pub topology : Topology
    pub events : List Event
    pub master : NodeId
    pub members : List Member
    pub read : AreRead (text (word 1 ws) object_limit object_bytes ∷ (topology_texts ++ text (word 2 ws) script_limit script_bytes ∷ []))
    pub reads : Reads object_bytes object
    pub over : IsTopologyOf named ws topology_texts topology
    pub means : IsScript script_bytes events
    pub master_named : master_of object (word 3 ws) ≡ Some master
    pub reach : IsReach (objects_in object (attached_by events)) topology master members
    pub text : (o.state new).bytes ≡ (o.state old).bytes ++ isolate_text (setup_for object topology events) master members (passed events)
    pub listed : AreListed (setup_for object topology events) master members (passed events)

  -- nothing was read, and the word is a number of lines. The text is the summary of the run of the generated script of
  -- so many lines over the laboratory's object. The device was driven through that run, and the tasks are left as it
  -- leaves them
  pub record IsMadeBy (ws : List (List ℕ)) (board is : Standing) (sink sink' : O) (device device' : D) : Type 0 where
    pub n : ℕ
    pub events : List Event
    pub answers : List (List Bool)
    pub read : AreRead []
    pub asked : lines_asked (word 1 ws) ≡ Some n
    pub means : IsScript (made n) events
    pub text : (o.state sink').bytes ≡ (o.state sink).bytes ++ summary n (script_text laboratory chip board answers events)
    pub drove : Drove d (setup_for laboratory chip events) (script_driven laboratory chip answers events) device device'
    pub tasks_left : is ≡ last_board board (script_driven laboratory chip answers events)

  -- a work was done, on texts that were read. A replay and a generated run drive the device and call tasks; nothing else
  -- touches them
  abbrev pub WorkDoneBy : Work → Option ℕ → List (List ℕ) → Standing → Standing → O → O → D → D → Type 0
  WorkDoneBy Replay named ws board is sink sink' device device' = IsReplayedBy o d AreRead named ws board is sink sink' device device'
  WorkDoneBy Isolate named ws board is sink sink' device device' = IsIsolatedBy named ws sink sink' × ((device ≡ device') × (board ≡ is))
  WorkDoneBy Make named ws board is sink sink' device device' = IsMadeBy ws board is sink sink' device device'
  WorkDoneBy (Write piece) named ws board is sink sink' device device' =
      PieceDoneBy o AreRead piece named ws sink sink' × ((device ≡ device') × (board ≡ is))

  -- words that ask for nothing are never done
  abbrev pub DoneBy : Option Request → List (List ℕ) → Standing → Standing → O → O → D → D → Type 0
  DoneBy None ws board is sink sink' device device' = ⊥
  DoneBy (Some request) ws board is sink sink' device device' = WorkDoneBy request.work request.topology ws board is sink sink' device device'

module _ {I O D : Type 0} (i : Inputs.Ghosts I) (o : Sink.Ghosts O) (d : Device.Ghosts D) where
  -- the same on texts that the inputs held
  abbrev pub WorkDone : Work → Option ℕ → List (List ℕ) → Standing → Standing → World I O D → World I O D → Type 0
  WorkDone work named ws board is w w' =
      WorkDoneBy o d (HoldsEach (i.state w.inputs)) work named ws board is w.sink w'.sink w.device w'.device

  -- so for a request, if the words have one
  abbrev pub DoneIf : Option Request → List (List ℕ) → Standing → Standing → World I O D → World I O D → Type 0
  DoneIf request ws board is w w' = DoneBy o d (HoldsEach (i.state w.inputs)) request ws board is w.sink w'.sink w.device w'.device

  -- the whole text of what the words ask for was written
  abbrev pub IsDone : List (List ℕ) → Standing → Standing → World I O D → World I O D → Type 0
  IsDone ws board is w w' = DoneIf (request_of ws) ws board is w w'

  -- ---- the effects of a work on its subject, with the script of a name

  -- such a text was written, or memory ran out; nothing else was done
  pub record OnlyWrites (Made : List ℕ → Type 0) (board is : Standing) (w w' : World I O D) (exit : Exit) : Type 0 where
    pub writes : Writes o Made w.sink w'.sink exit
    pub inputs : w.inputs ≡ w'.inputs
    pub device : w.device ≡ w'.device
    pub still : board ≡ is

  -- two runs were compared, without the device and the tasks
  pub record Compares (object : Object) (t : Topology) (master : NodeId) (board is : Standing) (name : List ℕ) (w w' : World I O D) (exit : Exit) : Type 0 where
    pub ran : Compared i o object t master name w.inputs w'.inputs w.sink w'.sink exit
    pub done : i.observable → o.observable → exit ≡ Done → IsCompared i o object t master name w.inputs w.sink w'.sink
    pub given : Meanwhile (i.state w.inputs) (i.state w'.inputs) (λ calls. ComparedGiven o object t master name calls
        (i.state w.inputs) (i.state w'.inputs) w.sink w'.sink exit)
    pub device : w.device ≡ w'.device
    pub still : board ≡ is

  -- memory ran out before anything was done
  pub record Starved (board is : Standing) (w w' : World I O D) (exit : Exit) : Type 0 where
    pub reports : Reports o (refusal Memory) w.sink w'.sink exit
    pub inputs : w.inputs ≡ w'.inputs
    pub device : w.device ≡ w'.device
    pub still : board ≡ is

  -- the device was fitted if a word names a topology, and then a script was run
  pub record ReplaysFitted (named : Option ℕ) (object : Object) (t : Topology) (board is : Standing) (name : List ℕ) (w w' : World I O D) (exit : Exit) : Type 0 where
    pub start : D
    pub fitted : IsFitted d named t w.device start
    pub ran : Replayed i o d object t board is name (world w.inputs w.sink start) w' exit
    pub done : i.observable → o.observable → exit ≡ Done → IsRun i o d object t board is name (world w.inputs w.sink start) w'
    pub given : Meanwhile (i.state w.inputs) (i.state w'.inputs) (λ calls. ReplayedGiven o d object t board is name calls
        (world (i.state w.inputs) w.sink start) (world (i.state w'.inputs) w'.sink w'.device) exit)

  -- so, or memory ran out for the fit
  abbrev pub Replays : Option ℕ → Object → Topology → Standing → Standing → List ℕ → World I O D → World I O D → Exit → Type 0
  Replays named object t board is name w w' exit = Starved board is w w' exit ⊎ ReplaysFitted named object t board is name w w' exit

  abbrev pub Worked : Work → Option ℕ → Subject → Standing → Standing → List ℕ → World I O D → World I O D → Exit → Type 0
  Worked Replay named subject board is name w w' exit = Replays named subject.object subject.topology board is name w w' exit
  Worked Isolate named subject board is name w w' exit = ForMaster subject (λ master. Compares subject.object subject.topology master board is name w w' exit)
  Worked Make named subject board is name w w' exit =
      Makes o d subject.object subject.topology board is subject.lines w.sink w'.sink w.device w'.device exit × (w.inputs ≡ w'.inputs)
  Worked (Write piece) named subject board is name w w' exit = OnlyWrites (IsPiece piece subject) board is w w' exit
