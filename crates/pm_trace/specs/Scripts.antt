-- A command with a named script: its job, the end of the script, and the exit.
use Rattle.std.specs.Prelude.{◌≡◌, ℕ, ◌+◌, ◌⊎◌, List, [], ◌∷◌, length, false, Option, Some, None, Result, Ok, Err, OnErr}
use Rattle.pm_base.specs.declared.errors.Exit.{Exit}
use Rattle.pm_base.specs.declared.errors.Exit.TheVariants.{ReadFault}
use Rattle.pm_base.specs.declared.errors.Exit.TheVariants as exit
use Rattle.pm_io.specs.Calls.{Call, GoesOn, GoesToFault, GoesUpTo, Named, ReadsEach, ReadsOn, ReadsToFault, begun, named}
use Rattle.pm_io.specs.declared.inputs.Inputs as Inputs
use Rattle.pm_base.specs.Faults.{Rose}
use Rattle.pm_script.specs.Named.{script_in}
use Rattle.pm_script.specs.Script.{Script, Stop, script_limit}
use Rattle.pm_script.specs.Script.Stop.{End, Bad, Past, Failed}
use Rattle.pm_trace.specs.declared.faults.Fault.{Fault}
use Rattle.pm_trace.specs.declared.faults.Fault.TheVariants.{Line, Memory, Read, Size}
use Rattle.pm_trace.specs.Faults.{exit_after}

-- a script that can't be opened is refused
abbrev pub script_or_fault : Option Script → Result Script Fault
script_or_fault None = Err Read
script_or_fault (Some s) = Ok s

-- the reason why no line follows the one before number n: none at the script's end; the fault of the line; the limit;
-- or a failed read
abbrev pub fault_at : ℕ → Stop → Option Fault
fault_at n End = None
fault_at n (Bad cause) = Some (Line n cause)
fault_at n Past = Some Size
fault_at n Failed = Some Read

-- the fault at which a script stops, or for which it is refused
abbrev pub script_fault : Result Script Fault → Option Fault
script_fault (Ok s) = fault_at (1 + length s.events) s.stop
script_fault (Err fault) = Some fault

-- the exit of a script: that of this fault, or Done
abbrev pub script_exit : Result Script Fault → Exit
script_exit job = exit_after (script_fault job)

-- a last piece is written if the script came to its end
abbrev pub at_end : Stop → List ℕ → List (List ℕ)
at_end End piece = piece ∷ []
at_end (Bad cause) piece = []
at_end Past piece = []
at_end Failed piece = []

-- ---- the calls that are made

-- the name of a script, with the limit of its size
abbrev pub script_named : List ℕ → Named
script_named name = named name script_limit

-- the calls after a script was opened under a number, by the exit. All of it is read; or up to a failed read; or up
-- to some point, if a line can't be read. If the sink breaks off or memory runs out it is one of the last two, since
-- bytes behind the first lines are read before these are run
abbrev pub ReadsBegun : Exit → ℕ → List Call → Type 0
ReadsBegun exit.Done id calls = GoesOn id (script_limit + 1) false calls
ReadsBegun exit.TooLarge id calls = GoesOn id (script_limit + 1) false calls
ReadsBegun exit.ReadFault id calls = GoesToFault id (script_limit + 1) false calls
ReadsBegun exit.BadLine id calls = GoesUpTo id (script_limit + 1) false calls
ReadsBegun exit.WriteFault id calls = GoesUpTo id (script_limit + 1) false calls ⊎ GoesToFault id (script_limit + 1) false calls
ReadsBegun exit.Memory id calls = GoesUpTo id (script_limit + 1) false calls ⊎ GoesToFault id (script_limit + 1) false calls
ReadsBegun exit.Usage id calls = ⊥
ReadsBegun exit.BadObject id calls = ⊥
ReadsBegun exit.BadText id calls = ⊥

-- a name was opened, and read up to some point
abbrev pub IsBegun : Named → List Call → Type 0
IsBegun n calls = ReadsOn (n ∷ []) calls × (begun calls ≡ n.name ∷ [])

-- a name was opened, and read up to some point or up to a failed read
abbrev pub BreaksOff : Named → List Call → Type 0
BreaksOff n calls = IsBegun n calls ⊎ ReadsToFault (n ∷ []) calls

-- the calls of the reading of a named script, by the exit: it is read whole, or up to a failed call, or up to some
-- point. If the sink breaks off or memory runs out it is one of the last two, or none if memory ran out before
abbrev pub ReadsScript : Exit → Named → List Call → Type 0
ReadsScript exit.Done n calls = ReadsEach (n ∷ []) calls
ReadsScript exit.TooLarge n calls = ReadsEach (n ∷ []) calls
ReadsScript exit.ReadFault n calls = ReadsToFault (n ∷ []) calls
ReadsScript exit.BadLine n calls = IsBegun n calls
ReadsScript exit.WriteFault n calls = BreaksOff n calls
ReadsScript exit.Memory n calls = (calls ≡ []) ⊎ BreaksOff n calls
ReadsScript exit.Usage n calls = ⊥
ReadsScript exit.BadObject n calls = ⊥
ReadsScript exit.BadText n calls = ⊥

module _ {I : Type 0} (i : Inputs.Ghosts I) where
  -- the script is the one under the name, unless memory runs out; with ReadFault the count of faults rose
  pub record IsScriptOf (name : List ℕ) (old new : I) (exit : Exit) (job : Result Script Fault) : Type 0 where
    pub shown : i.observable → (job ≡ Err Memory) ⊎ (job ≡ script_or_fault (script_in (i.state old) name))
    pub failed : exit ≡ ReadFault → Rose (i.state old).faults (i.state new).faults
    pub known : OnErr job ((job ≡ Err Read) ⊎ (job ≡ Err Memory))
