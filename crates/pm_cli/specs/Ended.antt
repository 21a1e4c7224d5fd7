-- A run of the program, from the host's words to the number with which its process ends.
use Rattle.std.specs.Prelude.{◌≡◌, ◌⊎◌, ℕ, List, [], Option, Some, None, Result, Ok, Err, String, Vec, map, string_bytes}
use Rattle.std.specs.declared.alloc.Global.{Global}
use Rattle.std.specs.declared.io.Error.{Error}
use Rattle.std.specs.declared.io.ErrorKind.TheVariants.{InvalidData}
use Rattle.std.specs.IoError.{error_kind}
use Rattle.pm_base.specs.declared.errors.Exit.{Exit}
use Rattle.pm_base.specs.declared.errors.Exit.TheVariants as exit
use Rattle.pm_io.specs.Calls.{Call}
use Rattle.pm_host.specs.Written.{Written}
use Rattle.pm_chip.specs.Chip.{chip}
use Rattle.pm_device.specs.declared.device.Device as Device
use Rattle.pm_device.specs.Fresh.{IsFresh}
use Rattle.pm_device.specs.Model.{Bench, moment_of}
use Rattle.pm_top.specs.declared.works.Work.TheVariants.{Replay}
use Rattle.pm_top.specs.Form.{form, over, request_of, topology_in}
use Rattle.pm_top.specs.Ran.{IsBeforeRun}
use Rattle.pm_cli.specs.Logged.{IsLogOfRun, IsSafeLog}
use Rattle.pm_cli.specs.Replayed.{RunEnded}

-- a run of these words ended with this exit, and with these acts on its device
pub record HasEnded (d : Device.Ghosts Bench) (ws : List (List ℕ)) (result : Exit) (old new : Bench) : Type 0 where
  -- Usage comes only if the words have no form
  pub usage : result ≡ exit.Usage → form ws ≡ None
  -- before a script is run nothing is done to the device
  pub untouched : IsBeforeRun (form ws) result → old ≡ new
  -- on every exit, nothing is used without power, and no domain goes down under its users
  pub safe : IsSafeLog (topology_in ws) new.log
  -- if `replay` ends with Done, the acts on the device are those of the whole run of a script, after a fit if the
  -- words name a topology
  pub driven : (named : Option ℕ) → result ≡ exit.Done → request_of ws ≡ Some (over named Replay) → IsLogOfRun named new.log
  -- memory ran out before there were inputs and an output, and nothing was done to the device; or all is as what some
  -- calls gave (those on its inputs) and some writer took (that of its output)
  pub ran : ((result ≡ exit.Memory) × (old ≡ new)) ⊎ ((calls : List Call) × (writer : Written) × RunEnded d ws calls writer result old new)

-- these words were run over a new device of the chip, with all units at 0
pub record HasRun (d : Device.Ghosts Bench) (ws : List (List ℕ)) (result : Exit) : Type 0 where
  pub old : Bench
  pub new : Bench
  pub fresh : IsFresh chip (moment_of old)
  pub empty : old.log ≡ []
  pub ended : HasEnded d ws result old new

-- the words that the host gave
abbrev pub GivenWords : Type 0
GivenWords = Result (Vec (String Global) Global) Error

-- the words are these texts; there are none if one of them is no text
abbrev pub AreWordsOf : GivenWords → List (List ℕ) → Type 0
AreWordsOf (Ok words) ws = ws ≡ map string_bytes words.items
AreWordsOf (Err error) ws = (error_kind error ≡ InvalidData) × (ws ≡ [])

-- these given words were run
pub record HasRunGiven (d : Device.Ghosts Bench) (given : GivenWords) (result : Exit) : Type 0 where
  pub ws : List (List ℕ)
  pub are : AreWordsOf given ws
  pub run : HasRun d ws result

-- these given words were run, or memory ran out before
abbrev pub MayRun : Device.Ghosts Bench → GivenWords → Exit → Type 0
MayRun d given result = (result ≡ exit.Memory) ⊎ HasRunGiven d given result

-- the number with which a process ends
abbrev pub code_of : Exit → ℕ
code_of exit.Done = 0
code_of exit.Usage = 1
code_of exit.BadObject = 2
code_of exit.BadLine = 3
code_of exit.ReadFault = 4
code_of exit.WriteFault = 5
code_of exit.Memory = 6
code_of exit.TooLarge = 7
code_of exit.BadText = 8

-- a process ends with this number: that of the exit of a run of the host's words
pub record ProcessEnds (d : Device.Ghosts Bench) (given : GivenWords) (status : ℕ) : Type 0 where
  pub result : Exit
  pub run : MayRun d given result
  pub is : status ≡ code_of result
