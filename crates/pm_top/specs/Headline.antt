-- The headline: what Done means for the words `replay OBJ SCRIPT` and `replay OBJ SCRIPT TOPO`, in the words of the README.
use Rattle.std.specs.Prelude.{◌≡◌, ℕ, Bool, List, [], ◌∷◌, ◌++◌, Option, Some, filter, map, slice_get}
use Rattle.std.specs.List.{concat}
use Rattle.pm_base.specs.declared.events.Event.{Event}
use Rattle.pm_base.specs.declared.names.NodeId.{NodeId}
use Rattle.pm_base.specs.declared.names.Unit.{Unit}
use Rattle.pm_base.specs.declared.names.Unit.TheVariants.{Node}
use Rattle.pm_io.specs.declared.sink.Sink as Sink
use Rattle.pm_object.specs.declared.object.Object.{Object}
use Rattle.pm_object.specs.Grammar.{Reads}
use Rattle.pm_block.specs.Block.{attached_by, passed}
use Rattle.pm_topology.specs.declared.topology.SlaveDef.{SlaveDef}
use Rattle.pm_topology.specs.declared.topology.Topology.{Topology}
use Rattle.pm_topology.specs.WellFormed.{IsWellFormed}
use Rattle.pm_reach.specs.declared.members.MemberKind.TheVariants as members
use Rattle.pm_reach.specs.Border.{IsIn}
use Rattle.pm_device.specs.declared.device.Device as Device
use Rattle.pm_script.specs.Named.{IsScript}
use Rattle.pm_script.specs.Script.{script_limit}
use Rattle.pm_state.specs.Load.{load_of}
use Rattle.pm_state.specs.State.{objects_in}
use Rattle.pm_run.specs.Run.{Line, cores_in, run, setup_for}
use Rattle.pm_causes.specs.Caused.{HaveCauses}
use Rattle.pm_laws.specs.Quiet.{quiet}
use Rattle.pm_laws.specs.ReachBorder.{configured_place}
use Rattle.pm_trace.specs.declared.line.Word.{Word}
use Rattle.pm_trace.specs.Line.{line_text}
use Rattle.pm_board.specs.Board.{Standing}
use Rattle.pm_drive.specs.Drive.{last_book}
use Rattle.pm_drive.specs.Drove.{AreTold, Drove, Follows, NoFailure}
use Rattle.pm_drive.specs.Scripts.{script_driven, script_text}
use Rattle.pm_apart.specs.Lines.{is_about, run_lines}
use Rattle.pm_isolate.specs.Transitions.{transitions}
use Rattle.pm_top.specs.Asked.{object_limit}
use Rattle.pm_top.specs.Fit.{IsFitted}
use Rattle.pm_top.specs.Given.{IsTopologyOf, Text, text}
use Rattle.pm_top.specs.Words.{word}

-- ---- a run, in which no device fails

-- the run of a script over an object and a topology, line by line, without a device
abbrev pub run_over : Object → Topology → List Event → List Line
run_over object topology events = run (setup_for object topology events) (passed events)

-- the output lines of that run over a device that never fails
abbrev pub lines_over : Object → Topology → Standing → List Event → List (List Word)
lines_over object topology board events = run_lines (setup_for object topology events) board [] (passed events)

-- the lines among these about a unit: of the commands on it, and its closing line
abbrev pub lines_about : Unit → List (List Word) → List (List Word)
lines_about unit lines = filter (is_about unit) lines

-- a master of the object, and a slave beyond the ends of all paths from it: no master to which a path leads brings
-- the slave in, by the permissions of any object of the run
pub record IsBeyondPaths (object : Object) (topology : Topology) (events : List Event) (m slave : NodeId) : Type 0 where
  pub from : ℕ
  pub place : ℕ
  pub entry : SlaveDef
  pub master : configured_place object m ≡ Some from
  pub there : slice_get topology.slaves place ≡ Some entry
  pub is : entry.node ≡ slave
  pub beyond : IsIn (objects_in object (attached_by events)) topology from members.Slave (Node slave) → ⊥

-- ---- the headline

module _ {O D : Type 0} (o : Sink.Ghosts O) (d : Device.Ghosts D) where
  -- the promises while no command of the device fails
  pub record IsUnfailing (object : Object) (topology : Topology) (board : Standing) (events : List Event) (sink sink' : O) (device : D) : Type 0 where
    -- the text is that of the run over a device that never fails, line by line
    pub text : (o.state sink').bytes ≡ (o.state sink).bytes ++ script_text object topology board [] events
    pub lines : script_text object topology board [] events ≡ concat (map line_text (lines_over object topology board events))
    -- the values that the device shows are those of the last book: each slave is in the first of its states that
    -- meets all requirements in force, and each power domain is up exactly if it is held or something directly below
    -- it needs power
    pub follows : d.values_observable → Follows
        (last_book (load_of object (attached_by events) topology) (script_driven object topology [] events)) (d.state device)
    -- the lines about a slave beyond the ends of all paths from a master are those of the run without the master's
    -- messages
    pub apart : (other : Standing) (m slave : NodeId) → IsBeyondPaths object topology events m slave
        → lines_about (Node slave) (lines_over object topology board events)
        ≡ lines_about (Node slave) (lines_over object topology other (quiet m events))

  -- the promises of a run of a script that was written under the device's answers
  pub record IsHeadline (object : Object) (topology : Topology) (board : Standing) (events : List Event) (sink sink' : O) (start device : D) : Type 0 where
    pub answers : List (List Bool)
    -- the device was driven through the run
    pub drove : Drove d (setup_for object topology events) (script_driven object topology answers events) start device
    pub unfailing : NoFailure d topology (script_driven object topology [] events) start device
        → IsUnfailing object topology board events sink sink' device
    -- whatever fails, each message gets the answer of the checks of its call, or of a module. Only a success is
    -- replaced, by an internal error, exactly if the device didn't follow the step
    pub text : (o.state sink').bytes ≡ (o.state sink).bytes ++ script_text object topology board answers events
    pub causes : HaveCauses (cores_in (run_over object topology events))
    pub told : AreTold (script_driven object topology answers events)
    -- whatever fails, each slave beyond the ends of all paths from a master goes, in the core's book, through the
    -- transitions of the run without the master's messages
    pub apart : (m slave : NodeId) → IsBeyondPaths object topology events m slave
        → transitions (Node slave) (run_over object topology events) ≡ transitions (Node slave) (run_over object topology (quiet m events))

-- The texts of the names in the words: the first is an object's bytes and the last a script; one between them, if a
-- word names it, says a topology. The headline holds for the run of that script over that object and that topology.
-- The device was fitted to the topology before, if a word names it.
pub record Headline {O D : Type 0} (o : Sink.Ghosts O) (d : Device.Ghosts D) (AreRead : List Text → Type 0) (named : Option ℕ)
    (ws : List (List ℕ)) (board : Standing) (sink sink' : O) (device device' : D) : Type 0 where
  pub object_bytes : List ℕ
  pub topology_texts : List Text
  pub script_bytes : List ℕ
  pub object : Object
  pub topology : Topology
  pub events : List Event
  pub start : D
  pub read : AreRead (text (word 1 ws) object_limit object_bytes ∷ (topology_texts ++ text (word 2 ws) script_limit script_bytes ∷ []))
  pub reads : Reads object_bytes object
  pub over : IsTopologyOf named ws topology_texts topology
  pub means : IsScript script_bytes events
  pub formed : IsWellFormed topology
  pub fitted : IsFitted d named topology device start
  pub holds : IsHeadline o d object topology board events sink sink' start device'
