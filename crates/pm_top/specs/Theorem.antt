-- The headline: the promises of Done for the words `replay OBJ SCRIPT` and `replay OBJ SCRIPT TOPO`.
use Rattle.std.specs.Prelude.{◌≡◌, ℕ, Bool, List, [], ◌∷◌, ◌++◌, Option}
use Rattle.pm_base.specs.declared.events.Event.{Event}
use Rattle.pm_io.specs.declared.inputs.Inputs as Inputs
use Rattle.pm_io.specs.declared.sink.Sink as Sink
use Rattle.pm_io.specs.World.{World}
use Rattle.pm_object.specs.declared.object.Object.{Object}
use Rattle.pm_object.specs.Grammar.{Reads}
use Rattle.pm_topology.specs.declared.topology.Topology.{Topology}
use Rattle.pm_topology.specs.WellFormed.{IsWellFormed}
use Rattle.pm_device.specs.declared.device.Device as Device
use Rattle.pm_script.specs.Named.{IsScript}
use Rattle.pm_script.specs.Script.{script_limit}
use Rattle.pm_drive.specs.Drove.{Drove}
use Rattle.pm_board.specs.Board.{Standing}
use Rattle.pm_drive.specs.Completed.{last_board}
use Rattle.pm_drive.specs.Scripts.{script_driven, script_text}
use Rattle.pm_run.specs.Run.{setup_for}
use Rattle.pm_top.specs.Asked.{object_limit}
use Rattle.pm_top.specs.Fit.{IsFitted}
use Rattle.pm_top.specs.Given.{HoldsEach, IsTopologyOf, Text, text}
use Rattle.pm_top.specs.Words.{word}

-- Two names gave these texts: an object and a script. A third, if a word names it, gave the text of a topology, which
-- keeps all rules; else the topology is the chip's. The whole text of the run of the script over the object and that
-- topology, with the objects that the script's first lines attach, was written, under the device's answers, with the
-- responses of modules and the calls of due tasks. The device was driven through that run, after a fit if a word
-- names the topology. The tasks are left as the run leaves them.
pub record IsReplayedBy {O D : Type 0} (o : Sink.Ghosts O) (d : Device.Ghosts D) (AreRead : List Text → Type 0) (named : Option ℕ)
    (ws : List (List ℕ)) (board is : Standing) (sink sink' : O) (device device' : D) : Type 0 where
  pub object_bytes : List ℕ
  pub topology_texts : List Text
  pub script_bytes : List ℕ
  pub object : Object
  pub topology : Topology
  pub events : List Event
  pub answers : List (List Bool)
  pub start : D
  pub read : AreRead (text (word 1 ws) object_limit object_bytes ∷ (topology_texts ++ text (word 2 ws) script_limit script_bytes ∷ []))
  pub reads : Reads object_bytes object
  pub over : IsTopologyOf named ws topology_texts topology
  pub means : IsScript script_bytes events
  pub formed : IsWellFormed topology
  pub text : (o.state sink').bytes ≡ (o.state sink).bytes ++ script_text object topology board answers events
  pub fitted : IsFitted d named topology device start
  pub drove : Drove d (setup_for object topology events) (script_driven object topology answers events) start device'
  pub tasks_left : is ≡ last_board board (script_driven object topology answers events)

-- so for the texts that the inputs held
abbrev pub IsReplayed : {I O D : Type 0} → Inputs.Ghosts I → Sink.Ghosts O → Device.Ghosts D → Option ℕ → List (List ℕ) → Standing → Standing → World I O D → World I O D → Type 0
IsReplayed i o d named ws board is w w' =
    IsReplayedBy o d (HoldsEach (i.state w.inputs)) named ws board is w.sink w'.sink w.device w'.device
