-- A whole run from C.
use Rattle.std.specs.Prelude.{◌≡◌, ◌⊎◌, ℕ, Bool, List, [], Some}
use Rattle.pm_base.specs.declared.errors.Exit.{Exit}
use Rattle.pm_base.specs.declared.errors.Exit.TheVariants as exit
use Rattle.pm_base.specs.declared.events.Event.{Event}
use Rattle.pm_io.specs.OneInput.{always_room, file_with}
use Rattle.pm_io.specs.Prefix.{prefix_of}
use Rattle.pm_object.specs.declared.object.Object.{Object}
use Rattle.pm_object.specs.Grammar.{Reads}
use Rattle.pm_chip.specs.Chip.{chip}
use Rattle.pm_device.specs.declared.device.Device as Device
use Rattle.pm_device.specs.Fresh.{IsFresh}
use Rattle.pm_script.specs.Named.{IsScript}
use Rattle.pm_script.specs.Script.{script_limit, script_of}
use Rattle.pm_trace.specs.Scripts.{script_exit, script_or_fault}
use Rattle.pm_board.specs.Board.{Standing}
use Rattle.pm_tasks.specs.Timetable.{empty}
use Rattle.pm_drive.specs.Scripts.{script_driven, script_text}
use Rattle.pm_run.specs.Run.{setup_for}
use Rattle.pm_drive.specs.Drove.{Drove}

-- no modules, and no timed tasks
abbrev pub no_board : Standing
no_board = record { modules = []; tasks = empty 0 }

-- these bytes are a script, and this is the whole text of its run over an object and the chip's topology; a new
-- device was driven through that run
pub record WasRunOver {D : Type 0} (d : Device.Ghosts D) (object : Object) (script_bytes text : List ℕ) : Type 0 where
  pub events : List Event
  pub answers : List (List Bool)
  pub before : D
  pub after : D
  pub means : IsScript script_bytes events
  pub fresh : IsFresh chip (d.state before)
  pub drove : Drove d (setup_for object chip events) (script_driven object chip answers events) before after
  pub whole : text ≡ script_text object chip no_board answers events

-- so for the object of these bytes
abbrev pub WasRun : {D : Type 0} → Device.Ghosts D → List ℕ → List ℕ → List ℕ → Type 0
WasRun d object_bytes script_bytes text = (object : Object) × Reads object_bytes object × WasRunOver d object script_bytes text

-- the exit that is due for the script of these bytes: Done, or that of the fault at which the script stops
abbrev pub exit_due : List ℕ → Exit
exit_due script_bytes =
    script_exit (script_or_fault (script_of (prefix_of script_limit (Some (file_with script_bytes)) always_room)))

-- a run ends with the due exit, or with Memory, or with WriteFault since its text has no room
abbrev pub Ends : List ℕ → Exit → Type 0
Ends script_bytes result = (result ≡ exit_due script_bytes) ⊎ ((result ≡ exit.Memory) ⊎ (result ≡ exit.WriteFault))
