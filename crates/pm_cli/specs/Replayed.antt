-- The result of the program, by the bytes that its inputs gave and that its writer took.
use Rattle.std.specs.Prelude.{◌≡◌, ◌⊎◌, ℕ, List, [], ◌++◌, true, false, Option, Some, ⊤}
use Rattle.pm_base.specs.declared.errors.Exit.{Exit}
use Rattle.pm_base.specs.declared.errors.Exit.TheVariants as exit
use Rattle.pm_io.specs.declared.sink.Sink as Sink
use Rattle.pm_io.specs.Calls.{Call}
use Rattle.pm_host.specs.Written.{Written}
use Rattle.pm_board.specs.Board.{Standing}
use Rattle.pm_device.specs.declared.device.Device as Device
use Rattle.pm_device.specs.Model.{Bench}
use Rattle.pm_drive.specs.Drive.{acts}
use Rattle.pm_drive.specs.Scripts.{script_driven}
use Rattle.pm_top.specs.declared.works.Work.TheVariants.{Replay}
use Rattle.pm_top.specs.Complete.{FormGivenRight}
use Rattle.pm_top.specs.Done.{DoneBy}
use Rattle.pm_top.specs.Form.{form, over, request_of}
use Rattle.pm_top.specs.Given.{GaveEach}
use Rattle.pm_top.specs.Headline.{Headline}
use Rattle.pm_top.specs.Ran.{exit_given}
use Rattle.pm_top.specs.Reads.{FormReads}
use Rattle.pm_cli.specs.Brought.{AreTwoCounters, programs_modules}
use Rattle.pm_cli.specs.Logged.{fits}

-- ---- the promise of Done of `replay`

-- the bytes that a writer took, as an observable sink
abbrev pub taken : Sink.Ghosts (List ℕ)
taken = record { observable = ⊤; state = λ bytes. record { bytes = bytes; faults = 0; stalls = 0 } }

-- these calls read the names whole, one after another. The headline holds for the bytes that they gave, with the
-- modules and the tasks of the program: the text of the run is all that was taken, and the acts on the device are
-- exactly those of the run, in order, after a fit if the words name a topology
pub record HasReplayed (d : Device.Ghosts Bench) (named : Option ℕ) (ws : List (List ℕ)) (calls : List Call) (bytes : List ℕ) (old new : Bench) : Type 0 where
  pub board : Standing
  pub modules : board.modules ≡ programs_modules
  pub tasks : AreTwoCounters board.tasks
  pub headline : Headline taken d (GaveEach calls) named ws board [] bytes old new
  pub log : new.log ≡ fits named headline.topology ++ acts (script_driven headline.object headline.topology headline.holds.answers headline.events)

-- ---- the promises of every exit

-- A run of these words made exactly these calls on its inputs, and ended with this exit. It had the program's modules
-- and tasks. The writer says which bytes it took, and whether a write of it failed or took 0.
pub record RunEnded (d : Device.Ghosts Bench) (ws : List (List ℕ)) (calls : List Call) (writer : Written) (result : Exit) (old new : Bench) : Type 0 where
  pub board : Standing
  pub is : Standing
  pub modules : board.modules ≡ programs_modules
  pub tasks : AreTwoCounters board.tasks
  -- the exit before the rest of the text was handed on; it stays, unless the writer broke off
  pub due : Exit
  pub ends : (result ≡ due) ⊎ ((result ≡ exit.WriteFault) × (writer.broken ≡ true))
  -- the names of the words were opened in the order of the work, each once, and read to their end, or to one byte past
  -- the limit, or to where the run ended; nothing else was opened or read
  pub begun : FormReads (form ws) ws due calls
  -- the exit follows from what the calls gave, unless memory runs out or the writer broke off
  pub decided : (result ≡ exit_given (form ws) ws calls) ⊎ ((result ≡ exit.Memory) ⊎ ((result ≡ exit.WriteFault) × (writer.broken ≡ true)))
  -- if that is right and the writer doesn't break off, the exit is Done, or memory ran out
  pub complete : FormGivenRight (form ws) ws calls → writer.broken ≡ false → (result ≡ exit.Done) ⊎ (result ≡ exit.Memory)
  -- on Done it is right, and the bytes that were taken are exactly the text that the words ask for
  pub done : result ≡ exit.Done → DoneBy taken d (GaveEach calls) (request_of ws) ws board is [] writer.bytes old new
  -- and on Done of `replay` the headline holds for it
  pub replayed : (named : Option ℕ) → result ≡ exit.Done → request_of ws ≡ Some (over named Replay)
      → HasReplayed d named ws calls writer.bytes old new
