-- The effects of the program on every exit, and the promises of each exit.
use Rattle.std.specs.Prelude.{◌≡◌, ℕ, ◌+◌, ◌<◌, ◌⊎◌, Bool, List, [], length, Option, Some, None, Result, Ok, Err, ⊤}
use Rattle.pm_base.specs.declared.errors.Exit.{Exit}
use Rattle.pm_base.specs.declared.errors.Exit.TheVariants as exit
use Rattle.pm_base.specs.declared.events.Event.{Event}
use Rattle.pm_io.specs.declared.inputs.Inputs as Inputs
use Rattle.pm_io.specs.declared.sink.Sink as Sink
use Rattle.pm_io.specs.Calls.{Call}
use Rattle.pm_io.specs.Inputs.{Moment, MayFail}
use Rattle.pm_object.specs.declared.object.Object.{Object}
use Rattle.pm_object.specs.Grammar.{IsObject}
use Rattle.pm_chip.specs.Chip.{chip}
use Rattle.pm_topology.specs.declared.topology.Topology.{Topology}
use Rattle.pm_topology.specs.WellFormed.{IsWellFormed}
use Rattle.pm_device.specs.declared.device.Device as Device
use Rattle.pm_drive.specs.Drove.{Drove}
use Rattle.pm_board.specs.Board.{Standing}
use Rattle.pm_drive.specs.Completed.{last_board}
use Rattle.pm_gen.specs.Laboratory.{laboratory}
use Rattle.pm_script.specs.Script.{script_limit}
use Rattle.pm_trace.specs.declared.faults.Fault.{Fault}
use Rattle.pm_trace.specs.declared.faults.Fault.TheVariants.{Memory, Usage}
use Rattle.pm_trace.specs.Exits.{EndsWith}
use Rattle.pm_trace.specs.Faults.{exit_after}
use Rattle.pm_trace.specs.Report.{Did, Report}
use Rattle.pm_trace.specs.Scripts.{fault_at}
use Rattle.pm_replay.specs.Replay.{Touched}
use Rattle.pm_replay.specs.Replayed.{AnswersHaveCauses, ClocksFollow, LinesServe, LowersCalls, RunsKeepApart, TellsCalls}
use Rattle.pm_drive.specs.Scripts.{script_driven}
use Rattle.pm_run.specs.Run.{setup_for}
use Rattle.pm_io.specs.World.{World}
use Rattle.pm_top.specs.declared.works.Form.{Form}
use Rattle.pm_top.specs.declared.works.Source.{Source}
use Rattle.pm_top.specs.declared.works.Source.TheVariants as source
use Rattle.pm_top.specs.declared.works.Work.{Work}
use Rattle.pm_top.specs.declared.works.Work.TheVariants.{Replay, Make}
use Rattle.pm_top.specs.Fit.{HoldsTopology, IsFitted, LeftBy}
use Rattle.pm_top.specs.Form.{form}
use Rattle.pm_top.specs.Words.{word}
use Rattle.pm_top.specs.Asked.{Asked, Begins, asked_of, lines_by, object_limit, script_turn, text_limit, topology_limit}
use Rattle.pm_top.specs.Called.{asked_given, topology_given}
use Rattle.pm_top.specs.Job.{IsAsked, IsJobFor, Job}
use Rattle.pm_top.specs.Done.{report}
use Rattle.pm_top.specs.Making.{WasDriven}

-- ---- the effects

-- a work drives the device through the lines as it writes them, through a whole run before it writes, or not at all
pub data Drives : Type 0 where
  AsItWrites : Drives
  BeforeItWrites : Drives
  Never : Drives

abbrev pub drives : Work → Drives
drives Replay = AsItWrites
drives Make = BeforeItWrites
drives work = Never

module _ {D : Type 0} (d : Device.Ghosts D) where
  -- the device was fitted if a word names a topology, and then driven through the steps of a script up to the cut;
  -- and so were the tasks
  pub record FitsAndDrives (named : Option ℕ) (board is : Standing) (job : Job) (answers : List (List Bool)) (cut : Option ℕ) (old new : D) : Type 0 where
    pub start : D
    pub fitted : IsFitted d named job.asked.subject.topology old start
    pub touched : Touched d job.asked.subject.object job.asked.subject.topology board is start new (Ok job.asked.script) answers cut

  -- the effects on the device and the tasks under these answers, up to the cut. The device is driven through the
  -- steps of the script, after a fit if a word names a topology; or through a generated script, or a first part of it
  -- if memory runs out; or not at all. The tasks are left as those lines leave them
  abbrev pub TouchesBy : Drives → Option ℕ → Standing → Standing → (Topology → Type 0) → ℕ → D → D → Result Job Fault → List (List Bool) → Option ℕ → Type 0
  TouchesBy AsItWrites named board is Named n old new (Ok job) answers cut = FitsAndDrives named board is job answers cut old new
  TouchesBy AsItWrites named board is Named n old new (Err fault) answers cut = LeftBy d fault named Named old new × (board ≡ is)
  TouchesBy BeforeItWrites named board is Named n old new (Ok job) answers cut =
      Drove d (setup_for job.asked.subject.object job.asked.subject.topology job.events)
      (script_driven job.asked.subject.object job.asked.subject.topology answers job.events) old new
      × (is ≡ last_board board (script_driven job.asked.subject.object job.asked.subject.topology answers job.events))
  TouchesBy BeforeItWrites named board is Named n old new (Err fault) answers cut =
      ((old ≡ new) × (board ≡ is)) ⊎ ((fault ≡ Memory) × WasDriven d laboratory chip board is n old new)
  TouchesBy Never named board is Named n old new job answers cut = (old ≡ new) × (board ≡ is)

  -- these effects by the work of a form, and by the number of lines and the topology that its words ask for
  abbrev pub Touches : Form → List (List ℕ) → Standing → Standing → (Topology → Type 0) → D → D → Result Job Fault → List (List Bool) → Option ℕ → Type 0
  Touches f ws board is Named old new job answers cut =
      TouchesBy (drives f.work) f.topology board is Named (lines_by f.source (word 1 ws)) old new job answers cut

-- words without a form have no job
abbrev pub nothing_to_do : ⊤ → List (List Bool) → Report
nothing_to_do job answers = record { body = []; fault = None }

module _ {O D : Type 0} (o : Sink.Ghosts O) (d : Device.Ghosts D) where
  -- words without a form were refused
  abbrev pub Refused : Standing → Standing → O → O → D → D → Exit → Type 0
  Refused board is sink sink' device device' result =
      Did o (λ job. job ≡ Err Usage) nothing_to_do (λ job answers cut. (device ≡ device') × (board ≡ is)) sink sink' result

  -- a form was carried out: the job that is asked for, how much of it was written, and the effects on the device and
  -- the tasks; a named topology is one of which this holds
  abbrev pub RanAs : Form → List (List ℕ) → Standing → Standing → (Result Job Fault → Type 0) → (Topology → Type 0) → O → O → D → D → Exit → Type 0
  RanAs f ws board is IsAsked Named sink sink' device device' result =
      Did o IsAsked (report board f.work) (Touches d f ws board is Named device device') sink sink' result

  -- so by what all calls gave
  abbrev pub RanGiven : Option Form → List (List ℕ) → Standing → Standing → List Call → O → O → D → D → Exit → Type 0
  RanGiven None ws board is calls sink sink' device device' result = Refused board is sink sink' device device' result
  RanGiven (Some f) ws board is calls sink sink' device device' result =
      RanAs f ws board is (IsJobFor f (asked_given f ws calls)) (λ topology. topology_given f calls ≡ Ok topology)
      sink sink' device device' result

module _ {I O D : Type 0} (i : Inputs.Ghosts I) (o : Sink.Ghosts O) (d : Device.Ghosts D) where
  -- a topology is the one that a form asks for, by what the inputs show
  abbrev pub IsShown : Form → List (List ℕ) → World I O D → Topology → Type 0
  IsShown f ws w topology = i.observable → HoldsTopology f.topology ws (i.state w.inputs) topology

  -- the same by what the inputs show
  abbrev pub RanForm : Option Form → List (List ℕ) → Standing → Standing → World I O D → World I O D → Exit → Type 0
  RanForm None ws board is w w' result = Refused o d board is w.sink w'.sink w.device w'.device result
  RanForm (Some f) ws board is w w' result =
      RanAs o d f ws board is (IsAsked i f ws w.inputs w'.inputs result) (IsShown f ws w) w.sink w'.sink w.device w'.device result

  -- so by the words
  abbrev pub Ran : List (List ℕ) → Standing → Standing → World I O D → World I O D → Exit → Type 0
  Ran ws board is w w' result = RanForm (form ws) ws board is w w' result

module _ {D : Type 0} (d : Device.Ghosts D) where
  -- the device was driven through the whole run of a script over an object and a topology that keeps all rules: the
  -- chip's, or, if a word names one, the one to which it was fitted before
  pub record DroveRun (named : Option ℕ) (old new : D) : Type 0 where
    pub object : Object
    pub topology : Topology
    pub events : List Event
    pub answers : List (List Bool)
    pub start : D
    pub formed : IsWellFormed topology
    pub fitted : IsFitted d named topology old start
    pub drove : Drove d (setup_for object topology events) (script_driven object topology answers events) start new

-- ---- the laws of each run

-- in a run of any object and topology, from whichever state of the device: nothing that a master sends changes what
-- is beyond its reach
abbrev pub EachKeepsApart : {D : Type 0} → Device.Ghosts D → D → Type 0
EachKeepsApart {D} d new =
    (object : Object) (topology : Topology) (start : D)
    → IsObject object → IsWellFormed topology → RunsKeepApart d object topology start new

-- in a run of any object and topology: each answer has its causes in the book before its step
abbrev pub EachHasCauses : Type 0
EachHasCauses = (object : Object) (topology : Topology) → AnswersHaveCauses object topology

-- in a run of any object and topology: each line that serves the boxes sends all their messages, and leaves them
-- empty
abbrev pub EachEmptiesBoxes : Type 0
EachEmptiesBoxes = (object : Object) (topology : Topology) → IsObject object → LinesServe object topology

-- in a run of any object and topology: the line of a power call is the run of the events that it becomes; and so it
-- is for a script
abbrev pub EachLowersCalls : Type 0
EachLowersCalls = (object : Object) (topology : Topology) → LowersCalls object topology

-- in a run of any object and topology, with these modules and tasks at first: each line tells exactly the calls of
-- tasks that are due in it, and a task that is stored before and after was called as often as the lines tell
abbrev pub EachTellsCalls : Standing → Type 0
EachTellsCalls board = (object : Object) (topology : Topology) → TellsCalls object topology board

-- in a run of any object and topology: at the load and after each core step the clocks follow the book. A root runs
-- exactly if its slave is in a state other than 0; any other clock runs exactly if a master enables it and its
-- selected parent runs
abbrev pub EachFollowsClocks : Type 0
EachFollowsClocks = (object : Object) (topology : Topology) → ClocksFollow object topology

-- ---- the promises of the exits

-- the exit of what is asked for: that of the fault that refuses it, or at which its script stops, or Done
abbrev pub job_exit : Result Asked Fault → Exit
job_exit (Ok asked) = exit_after (fault_at (1 + length asked.script.events) asked.script.stop)
job_exit (Err fault) = exit_after (Some fault)

-- the exit is that of what the words ask for, unless memory runs out or the sink fails
module _ {O : Type 0} (o : Sink.Ghosts O) where
  -- the exit of a form; words without a form end with Usage
  abbrev pub FormDecides : Option Form → List (List ℕ) → Moment → O → O → Exit → Type 0
  FormDecides None ws m old new result = result ≡ exit.Usage
  FormDecides (Some f) ws m old new result =
      (again : Begins m) × EndsWith o (job_exit (asked_of f ws m again)) old new result

  -- the exit of the words
  abbrev pub Decides : List (List ℕ) → Moment → O → O → Exit → Type 0
  Decides ws m old new result = FormDecides (form ws) ws m old new result

-- the exit of what all calls gave; for words without a form it is Usage
abbrev pub exit_given : Option Form → List (List ℕ) → List Call → Exit
exit_given None ws calls = exit.Usage
exit_given (Some f) ws calls = job_exit (asked_given f ws calls)

module _ {O : Type 0} (o : Sink.Ghosts O) where
  -- the exit follows from what all calls gave, unless memory runs out or the sink fails; words without a form end with
  -- Usage
  abbrev pub DecidesGiven : Option Form → List (List ℕ) → List Call → O → O → Exit → Type 0
  DecidesGiven None ws calls old new result = result ≡ exit.Usage
  DecidesGiven (Some f) ws calls old new result = EndsWith o (exit_given (Some f) ws calls) old new result

-- memory runs out before anything is done to the device, unless the run is kept in memory, or the device is fitted
-- first
abbrev pub StarvesBefore : Drives → Option ℕ → Type 0
StarvesBefore AsItWrites named = named ≡ None
StarvesBefore BeforeItWrites named = ⊥
StarvesBefore Never named = ⊤

abbrev pub StarvesFirst : Option Form → Type 0
StarvesFirst None = ⊤
StarvesFirst (Some f) = StarvesBefore (drives f.work) f.topology

-- an exit that comes before a script is run
abbrev pub IsBeforeRun : Option Form → Exit → Type 0
IsBeforeRun f result =
    (result ≡ exit.Usage) ⊎ ((result ≡ exit.BadObject) ⊎ ((result ≡ exit.BadText) ⊎ ((result ≡ exit.Memory) × StarvesFirst f)))

-- the inputs show that the name at a place, if there is one, can't be opened as the input of this number, or has a
-- failing byte within this limit
abbrev pub LaterMayFail : ℕ → ℕ → Option ℕ → List (List ℕ) → Moment → Type 0
LaterMayFail turn limit None ws m = ⊥
LaterMayFail turn limit (Some k) ws m = (m.room < turn) ⊎ MayFail (word k ws) limit m

-- the first name can't be opened or has a failing byte within its limit; for a number nothing is read
abbrev pub SourceMayFail : Source → List ℕ → Moment → Type 0
SourceMayFail source.Object name m = MayFail name object_limit m
SourceMayFail source.Text name m = MayFail name text_limit m
SourceMayFail source.Number name m = ⊥
SourceMayFail source.Nothing name m = ⊥

-- one of the names in the words can't be opened or has a failing byte within its limit
abbrev pub FormMayFail : Option Form → List (List ℕ) → Moment → Type 0
FormMayFail None ws m = ⊥
FormMayFail (Some f) ws m =
    SourceMayFail f.source (word 1 ws) m
    ⊎ (LaterMayFail 2 topology_limit f.topology ws m ⊎ LaterMayFail (script_turn f.topology) script_limit f.script ws m)

-- the same by the words
abbrev pub InputsMayFail : List (List ℕ) → Moment → Type 0
InputsMayFail ws m = FormMayFail (form ws) ws m
