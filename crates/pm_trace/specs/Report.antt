-- The text of a command and its end: whole, or cut if the sink broke off.
use Rattle.std.specs.Prelude.{◌≡◌, ℕ, Bool, List, [], ◌∷◌, ◌++◌, length, nat_lt, if◌then◌else◌, Option, Some, None, Result, Ok, Err}
use Rattle.pm_base.specs.declared.errors.Exit.{Exit}
use Rattle.pm_base.specs.declared.errors.Exit.TheVariants.{WriteFault}
use Rattle.pm_io.specs.declared.sink.Sink as Sink
use Rattle.pm_io.specs.Writing.{Leaves}
use Rattle.pm_trace.specs.declared.faults.Fault.{Fault}
use Rattle.pm_trace.specs.Faults.{fault_text, exit_after}

-- the text of a command if the sink takes all: the pieces of its body, and then the line of its fault
pub record Report : Type 0 where
  pub body : List (List ℕ)
  pub fault : Option Fault

-- the line of a fault, if there is one
abbrev pub fault_lines : Option Fault → List (List ℕ)
fault_lines None = []
fault_lines (Some fault) = fault_text fault ∷ []

-- the pieces of a report in order: its body, and then its fault line
abbrev pub pieces : Report → List (List ℕ)
pieces report = report.body ++ fault_lines report.fault

-- the exit of a command whose text was written up to a cut; if only the fault line was cut, it is the fault's own
abbrev pub exit_of : Report → Option ℕ → Exit
exit_of report None = exit_after report.fault
exit_of report (Some k) = if nat_lt k (length report.body) then WriteFault else exit_after report.fault

-- a command that is refused writes the line of its fault alone
abbrev pub refusal : Fault → Report
refusal fault = record { body = []; fault = Some fault }

-- the report of a job with these answers of the device, or of the fault that refuses it
abbrev pub report_of : {J : Type 0} → (J → List (List Bool) → Report) → Result J Fault → List (List Bool) → Report
report_of report (Ok job) answers = report job answers
report_of report (Err fault) answers = refusal fault

module _ {O : Type 0} (o : Sink.Ghosts O) where
  -- a report was written up to a cut, and the exit is its own
  pub record Reports (report : Report) (old new : O) (exit : Exit) : Type 0 where
    pub cut : Option ℕ
    pub left : Leaves o (pieces report) cut old new
    pub ends : exit ≡ exit_of report cut

  -- the three facts from which all that is said of a call follows: its job, or the fault that refuses it; the
  -- device's answers to each of its core steps; and the piece within which the sink broke off, if it did
  pub record Did {J : Type 0} (IsAsked : Result J Fault → Type 0) (report : J → List (List Bool) → Report)
      (Touches : Result J Fault → List (List Bool) → Option ℕ → Type 0) (old new : O) (exit : Exit) : Type 0 where
    pub job : Result J Fault
    pub answers : List (List Bool)
    pub cut : Option ℕ
    pub asked : IsAsked job
    pub left : Leaves o (pieces (report_of report job answers)) cut old new
    pub ends : exit ≡ exit_of (report_of report job answers) cut
    pub touched : Touches job answers cut
