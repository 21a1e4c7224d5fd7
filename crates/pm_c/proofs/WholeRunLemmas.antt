-- A run of a script that one input in memory holds.
use Rattle.std.proofs.Common.{◌≡◌, ◌⊎◌, inl, inr, ℕ, List, [], ◌++◌, Option, Some, None, refl, sym, ap, subst, ◌∙◌}
use Rattle.pm_base.specs.declared.errors.Exit.{Exit}
use Rattle.pm_base.specs.declared.errors.Exit.TheVariants as exit
use Rattle.pm_io.specs.declared.inputs.Inputs as Inputs
use Rattle.pm_io.specs.declared.sink.Sink as Sink
use Rattle.pm_io.specs.Inputs.{File}
use Rattle.pm_io.specs.OneInput.{OneContent, file_with}
use Rattle.pm_io.specs.World.{World}
use Rattle.pm_object.specs.declared.object.Object.{Object}
use Rattle.pm_topology.specs.declared.topology.Topology.{Topology}
use Rattle.pm_chip.specs.Chip.{chip}
use Rattle.pm_device.specs.declared.device.Device as Device
use Rattle.pm_device.specs.Fresh.{IsFresh}
use Rattle.std.specs.Prelude.{IsSomeAnd}
use Rattle.pm_script.specs.Named.{IsScript}
use Rattle.pm_modules.specs.Ranges.{Ranged}
use Rattle.pm_tasks.specs.Timetable.{Timetable, empty}
use Rattle.pm_board.specs.Board.{Standing}
use Rattle.pm_drive.specs.Scripts.{script_text}
use Rattle.pm_replay.specs.Replayed.{IsRun}
use Rattle.pm_c.specs.WholeRun.{Ends, WasRunOver, exit_due, no_board}

-- no modules and no tasks are no board
pub none_stand : (modules : List Ranged) (tasks : Timetable) → modules ≡ [] → tasks ≡ empty 0
    → ◌≡◌ {A = Standing} (record { modules = modules; tasks = tasks }) no_board
none_stand modules tasks no_modules no_tasks = rw (no_modules, no_tasks) refl

-- an input that has these bytes has a file of them
pub one_holds : (held : OneContent) (content : OneContent) → held ≡ content → ◌≡◌ {A = Option File} (Some (file_with held.bytes)) (Some (file_with content.bytes))
one_holds held content is = ap (λ (h : OneContent). Some (file_with h.bytes)) is

module _ {I O D : Type 0} (i : Inputs.Ghosts I) (o : Sink.Ghosts O) (d : Device.Ghosts D) where
  chip_run : (object : Object) (is : Standing) (name script : List ℕ) (w w' : World I O D)
      → (i.state w.inputs).file name ≡ Some (file_with script) → (o.state w.sink).bytes ≡ [] → IsFresh chip (d.state w.device)
      → IsRun i o d object chip no_board is name w w' → WasRunOver d object script (o.state w'.sink).bytes
  chip_run object is name script w w' held none fresh run =
      let is_held : script ≡ run.script_bytes = subst (λ (f : Option File). IsSomeAnd f (λ file. file.bytes ≡ run.script_bytes)) held run.held in
      record {
        events = run.events;
        answers = run.answers;
        before = w.device;
        after = w'.device;
        means = subst (λ (b : List ℕ). IsScript b run.events) (sym is_held) run.means;
        fresh = fresh;
        drove = run.drove;
        whole = run.text ∙ ap (λ (b : List ℕ). b ++ script_text object chip no_board run.answers run.events) none;
      }

  pub was_run : (object : Object) (topology : Topology) (board is : Standing) (name script : List ℕ) (w w' : World I O D)
      → topology ≡ chip → board ≡ no_board → (i.state w.inputs).file name ≡ Some (file_with script) → (o.state w.sink).bytes ≡ []
      → IsFresh topology (d.state w.device)
      → IsRun i o d object topology board is name w w' → WasRunOver d object script (o.state w'.sink).bytes
  was_run object topology board is name script w w' over with_none held none fresh run =
      chip_run object is name script w w' held none (subst (λ (t : Topology). IsFresh t (d.state w.device)) over fresh)
      (subst (λ (b : Standing). IsRun i o d object chip b is name w w') with_none
      (subst (λ (t : Topology). IsRun i o d object t board is name w w') over run))

-- the content of the input decides the exit of a run
pub ends_by : {X : Type 0} (held : OneContent) (script : List ℕ) (result : Exit)
    → held ≡ record { bytes = script; place = None; calls = [] }
    → (result ≡ exit_due held.bytes) ⊎ ((result ≡ exit.Memory) ⊎ ((result ≡ exit.WriteFault) × X)) → Ends script result
ends_by held script result is (inl due) = inl (due ∙ ap (λ (h : OneContent). exit_due h.bytes) is)
ends_by held script result is (inr (inl memory)) = inr (inl memory)
ends_by held script result is (inr (inr write)) = inr (inr write.0)

-- an exit that comes neither of want of memory nor of want of room was due
pub line_due : (script : List ℕ) (result : Exit) → Ends script result → result ≡ exit.BadLine → exit_due script ≡ exit.BadLine
line_due script result (inl due) is = sym due ∙ is
line_due script result (inr (inl memory)) is = cc
line_due script result (inr (inr write)) is = cc

pub read_due : (script : List ℕ) (result : Exit) → Ends script result → result ≡ exit.ReadFault → exit_due script ≡ exit.ReadFault
read_due script result (inl due) is = sym due ∙ is
read_due script result (inr (inl memory)) is = cc
read_due script result (inr (inr write)) is = cc

pub size_due : (script : List ℕ) (result : Exit) → Ends script result → result ≡ exit.TooLarge → exit_due script ≡ exit.TooLarge
size_due script result (inl due) is = sym due ∙ is
size_due script result (inr (inl memory)) is = cc
size_due script result (inr (inr write)) is = cc
