-- The effects of the comparison of a named script's two runs, on every exit, and the promises of Done.
use Rattle.std.specs.Prelude.{◌≡◌, ℕ, Bool, List, ◌++◌, Option, Result, Ok, Err, IfOk, ⊤}
use Rattle.pm_base.specs.declared.errors.Exit.{Exit}
use Rattle.pm_base.specs.declared.errors.Exit.TheVariants.{Done, ReadFault}
use Rattle.pm_base.specs.declared.events.Event.{Event}
use Rattle.pm_io.specs.declared.inputs.Inputs as Inputs
use Rattle.pm_base.specs.declared.names.NodeId.{NodeId}
use Rattle.pm_io.specs.declared.sink.Sink as Sink
use Rattle.pm_io.specs.declared.prefix.StopReason.TheVariants.{End}
use Rattle.pm_io.specs.Calls.{Call}
use Rattle.pm_io.specs.Given.{prefix_called}
use Rattle.pm_io.specs.Inputs.{Holds, MayFail, Moment}
use Rattle.pm_reach.specs.declared.members.Member.{Member}
use Rattle.pm_reach.specs.Membership.{IsReach}
use Rattle.pm_object.specs.declared.object.Object.{Object}
use Rattle.pm_block.specs.Block.{attached_by, passed}
use Rattle.pm_topology.specs.declared.topology.Topology.{Topology}
use Rattle.pm_state.specs.State.{objects_in}
use Rattle.pm_reader.specs.Front.{ran}
use Rattle.pm_reader.specs.Shown.{giving, shown}
use Rattle.pm_run.specs.Run.{setup_for}
use Rattle.pm_script.specs.Named.{IsScript, script_in}
use Rattle.pm_script.specs.Script.{Script, script_limit}
use Rattle.pm_trace.specs.declared.faults.Fault.{Fault}
use Rattle.pm_trace.specs.Exits.{EndsWith}
use Rattle.pm_trace.specs.Report.{Did, Report}
use Rattle.pm_trace.specs.Scripts.{IsScriptOf, ReadsScript, script_exit, script_named, script_or_fault}
use Rattle.pm_isolate.specs.Differences.{isolate_report, isolate_text}
use Rattle.pm_isolate.specs.Listed.{AreListed}

-- the job of a comparison: the members of the reach, and a script that can be opened
pub record Comparison : Type 0 where
  pub members : List Member
  pub script : Script

-- the script of a comparison, or the fault that refuses it
abbrev pub script_of_job : Result Comparison Fault → Result Script Fault
script_of_job (Ok job) = Ok job.script
script_of_job (Err fault) = Err fault

-- the report of a comparison; no device answers
abbrev pub comparison_report : Object → Topology → NodeId → Comparison → List (List Bool) → Report
comparison_report object t m job answers =
    isolate_report (setup_for object t job.script.events) m job.members (ran job.script)

module _ {I : Type 0} (i : Inputs.Ghosts I) where
  -- the script is the one under the name, unless memory runs out. The members are those of the master's reach, by the
  -- loaded object and each object that the script's block attaches and that can be put in force
  pub record IsComparisonOf (object : Object) (t : Topology) (m : NodeId) (name : List ℕ) (old new : I) (exit : Exit) (job : Result Comparison Fault) : Type 0 where
    pub script : IsScriptOf i name old new exit (script_of_job job)
    pub reach : IfOk job (λ job. IsReach (objects_in object (attached_by job.script.events)) t m job.members)

-- no device is touched
abbrev pub TouchesNothing : Result Comparison Fault → List (List Bool) → Option ℕ → Type 0
TouchesNothing job answers cut = ⊤

module _ {I O : Type 0} (i : Inputs.Ghosts I) (o : Sink.Ghosts O) where
  -- on every exit: what was asked for, and how much of it was written
  abbrev pub Compared : Object → Topology → NodeId → List ℕ → I → I → O → O → Exit → Type 0
  Compared object t m name old new sink sink' exit =
      Did o (IsComparisonOf i object t m name old new exit) (comparison_report object t m) TouchesNothing sink sink' exit

  -- a script was held under the name. The text is the reach of the master, a line for each unit whose transitions
  -- differ between the run of that script and the run without the messages of the master, and the number of its
  -- lines. Each such unit is in that reach, or is a processor of a master that is
  pub record IsCompared (object : Object) (t : Topology) (m : NodeId) (name : List ℕ) (old : I) (sink sink' : O) : Type 0 where
    pub script_bytes : List ℕ
    pub events : List Event
    pub members : List Member
    pub held : Holds (i.state old) name script_bytes
    pub means : IsScript script_bytes events
    pub reach : IsReach (objects_in object (attached_by events)) t m members
    pub text : (o.state sink').bytes ≡ (o.state sink).bytes ++ isolate_text (setup_for object t events) m members (passed events)
    pub listed : AreListed (setup_for object t events) m members (passed events)

module _ {O : Type 0} (o : Sink.Ghosts O) where
  -- these calls read the script, from any source, and what they gave was asked for. On Done they gave a whole script,
  -- which was compared. The exit follows from what they gave
  pub record ComparedGiven (object : Object) (t : Topology) (m : NodeId) (name : List ℕ) (calls : List Call) (old new : Moment)
      (sink sink' : O) (exit : Exit) : Type 0 where
    pub reads : ReadsScript exit (script_named name) calls
    pub whole : exit ≡ Done → (prefix_called script_limit calls).stop ≡ End
    pub ran : Compared shown o object t m name (giving script_limit calls old) new sink sink' exit
    pub done : o.observable → exit ≡ Done → IsCompared shown o object t m name (giving script_limit calls old) sink sink'
    pub decided : EndsWith o (script_exit (script_or_fault (script_in (giving script_limit calls old) name))) sink sink' exit
    pub read_cause : exit ≡ ReadFault → MayFail name script_limit (giving script_limit calls old)
