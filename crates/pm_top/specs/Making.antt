-- A generated script, its run, and the summary of that.
use Rattle.std.specs.Prelude.{◌≡◌, ◌⊎◌, ℕ, Bool, List, Option}
use Rattle.pm_base.specs.declared.errors.Exit.{Exit}
use Rattle.pm_base.specs.declared.events.Event.{Event}
use Rattle.pm_io.specs.declared.sink.Sink as Sink
use Rattle.pm_device.specs.declared.device.Device as Device
use Rattle.pm_gen.specs.Script.{made}
use Rattle.pm_gen.specs.Summary.{summary}
use Rattle.pm_object.specs.declared.object.Object.{Object}
use Rattle.pm_topology.specs.declared.topology.Topology.{Topology}
use Rattle.pm_run.specs.Run.{setup_for}
use Rattle.pm_script.specs.Named.{IsScript}
use Rattle.pm_trace.specs.declared.faults.Fault.TheVariants.{Memory}
use Rattle.pm_trace.specs.Report.{Reports, refusal}
use Rattle.pm_drive.specs.Drive.{until}
use Rattle.pm_drive.specs.Drove.{Drove}
use Rattle.pm_board.specs.Board.{Standing}
use Rattle.pm_drive.specs.Completed.{last_board}
use Rattle.pm_drive.specs.Scripts.{script_driven, script_text}
use Rattle.pm_top.specs.Within.{one_piece}

module _ {D : Type 0} (d : Device.Ghosts D) where
  -- the device was driven through the generated script of so many lines, or through its first lines, and the tasks
  -- are left so
  pub record WasDriven (object : Object) (t : Topology) (board is : Standing) (n : ℕ) (old new : D) : Type 0 where
    pub events : List Event
    pub answers : List (List Bool)
    pub cut : Option ℕ
    pub means : IsScript (made n) events
    pub drove : Drove d (setup_for object t events) (until cut (script_driven object t answers events)) old new
    pub tasks_left : is ≡ last_board board (until cut (script_driven object t answers events))

  -- nothing was done to the device and to the tasks, or they were driven so
  abbrev pub MayBeDriven : Object → Topology → Standing → Standing → ℕ → D → D → Type 0
  MayBeDriven object t board is n old new = ((old ≡ new) × (board ≡ is)) ⊎ WasDriven object t board is n old new

  -- a text is the summary of the run of the generated script of so many lines, and the device was driven through that
  -- run, which leaves the tasks so
  pub record IsSummary (object : Object) (t : Topology) (board is : Standing) (n : ℕ) (old new : D) (text : List ℕ) : Type 0 where
    pub events : List Event
    pub answers : List (List Bool)
    pub means : IsScript (made n) events
    pub said : text ≡ summary n (script_text object t board answers events)
    pub drove : Drove d (setup_for object t events) (script_driven object t answers events) old new
    pub tasks_left : is ≡ last_board board (script_driven object t answers events)

module _ {O D : Type 0} (o : Sink.Ghosts O) (d : Device.Ghosts D) where
  -- that summary was written
  pub record Summarizes (object : Object) (t : Topology) (board is : Standing) (n : ℕ) (sink sink' : O) (old new : D) (exit : Exit) : Type 0 where
    pub text : List ℕ
    pub made : IsSummary d object t board is n old new text
    pub reports : Reports o (one_piece text) sink sink' exit

  -- memory ran out, perhaps late
  pub record Starves (object : Object) (t : Topology) (board is : Standing) (n : ℕ) (sink sink' : O) (old new : D) (exit : Exit) : Type 0 where
    pub reports : Reports o (refusal Memory) sink sink' exit
    pub device : MayBeDriven d object t board is n old new

  abbrev pub Makes : Object → Topology → Standing → Standing → ℕ → O → O → D → D → Exit → Type 0
  Makes object t board is n sink sink' old new exit = Starves object t board is n sink sink' old new exit ⊎ Summarizes object t board is n sink sink' old new exit
