-- The job of a form: all that it asks for, the members of the master's reach, and the events of a generated script;
-- or the fault that refuses it.
use Rattle.std.specs.Prelude.{◌≡◌, ℕ, ◌⊎◌, is_some, List, IfNone, IfSome, IsSome, Result, Ok, Err, ⊤}
use Rattle.pm_base.specs.Faults.{Rose}
use Rattle.pm_base.specs.declared.errors.Exit.{Exit}
use Rattle.pm_base.specs.declared.errors.Exit.TheVariants.{ReadFault}
use Rattle.pm_base.specs.declared.events.Event.{Event}
use Rattle.pm_io.specs.Inputs.{Moment}
use Rattle.pm_io.specs.declared.inputs.Inputs as Inputs
use Rattle.pm_gen.specs.Script.{made}
use Rattle.pm_chip.specs.Chip.{chip}
use Rattle.pm_topology.specs.WellFormed.{IsSupported}
use Rattle.pm_reach.specs.declared.members.Member.{Member}
use Rattle.pm_reach.specs.Membership.{IsReach}
use Rattle.pm_block.specs.Block.{attached_by}
use Rattle.pm_state.specs.State.{objects_in}
use Rattle.pm_script.specs.Named.{IsScript}
use Rattle.pm_trace.specs.declared.faults.Fault.{Fault}
use Rattle.pm_trace.specs.declared.faults.Fault.TheVariants.{Object as BadObject, Text as BadText, Topology as BadTopology, TopologyText, Line, Memory, Node, Number, Read, Size, Usage}
use Rattle.pm_top.specs.declared.works.Form.{Form}
use Rattle.pm_top.specs.declared.works.Source.TheVariants as source
use Rattle.pm_top.specs.Asked.{Asked, Begins, asked_of, no_script}

-- all that is asked for, the members of the reach of its master, if it has one, and the events of a generated script
pub record Job : Type 0 where
  pub asked : Asked
  pub members : List Member
  pub events : List Event

-- the reach of the subject's master on its topology, if it has one: by the loaded object, and each object that the
-- first lines of a script attach and that can be put in force
abbrev pub IsFound : Asked → List Member → Type 0
IsFound asked members =
    IfSome asked.subject.master
    (λ master. IsReach (objects_in asked.subject.object (attached_by asked.script.events)) asked.subject.topology master members)

-- a job does all that is asked for, or both are refused for the same fault
abbrev pub Meets : Result Job Fault → Result Asked Fault → Type 0
Meets (Ok job) (Ok asked) = (job.asked ≡ asked) × IsFound job.asked job.members
Meets (Ok job) (Err due) = ⊥
Meets (Err fault) (Ok asked) = ⊥
Meets (Err fault) (Err due) = fault ≡ due

-- a job of the words; if fewer inputs can be opened than are named, a source may open a later one or not
abbrev pub IsJobOf : Form → List (List ℕ) → Moment → Result Job Fault → Type 0
IsJobOf f ws m job = (again : Begins m) × Meets job (asked_of f ws m again)

-- the faults that may refuse a form: those of what it reads
abbrev pub IsFaultOf : Form → Fault → Type 0
IsFaultOf f Read = ⊤
IsFaultOf f Memory = ⊤
IsFaultOf f (BadObject fault) = f.source ≡ source.Object
IsFaultOf f (BadText fault) = f.source ≡ source.Text
IsFaultOf f (TopologyText fault) = IsSome f.topology
IsFaultOf f (BadTopology fault) = IsSome f.topology
IsFaultOf f Node = IsSome f.node
IsFaultOf f Number = f.source ≡ source.Number
IsFaultOf f Usage = ⊥
IsFaultOf f (Line n cause) = ⊥
IsFaultOf f Size = ⊥

-- a job of the form. Its topology keeps all rules, and is the chip's if no word names one. It has a master if a word
-- names one, whose reach is over that topology and the objects of the run; a script if a word names one; and the
-- events of the generated lines if a word is their number
pub record IsOf (f : Form) (job : Job) : Type 0 where
  pub supported : IsSupported job.asked.subject.topology
  pub built_in : IfNone f.topology (job.asked.subject.topology ≡ chip)
  pub named : is_some job.asked.subject.master ≡ is_some f.node
  pub reach : IsFound job.asked job.members
  pub unread : IfNone f.script (job.asked.script ≡ no_script)
  pub made : f.source ≡ source.Number → IsScript (made job.asked.subject.lines) job.events

-- a job of the form, or a fault of the form
abbrev pub IsKnown : Form → Result Job Fault → Type 0
IsKnown f (Ok job) = IsOf f job
IsKnown f (Err fault) = IsFaultOf f fault

-- a job is this one that is asked for, unless memory is wanted, and one of the form
pub record IsJobFor (f : Form) (asked : Result Asked Fault) (job : Result Job Fault) : Type 0 where
  pub is : (job ≡ Err Memory) ⊎ Meets job asked
  pub known : IsKnown f job

module _ {I : Type 0} (i : Inputs.Ghosts I) where
  -- the job is what the words ask for, by what the inputs show, unless memory runs out; on ReadFault the inputs'
  -- count rose
  pub record IsAsked (f : Form) (ws : List (List ℕ)) (old new : I) (exit : Exit) (job : Result Job Fault) : Type 0 where
    pub shown : i.observable → (job ≡ Err Memory) ⊎ IsJobOf f ws (i.state old) job
    pub failed : exit ≡ ReadFault → Rose (i.state old).faults (i.state new).faults
    pub known : IsKnown f job
