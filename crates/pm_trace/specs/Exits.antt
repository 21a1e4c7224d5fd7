-- The promises of a command's exit about its fault and its sink.
use Rattle.std.specs.Prelude.{◌≡◌, ℕ, ◌⊎◌, [], ◌∷◌, Option, Some, None}
use Rattle.std.specs.List.{concat}
use Rattle.pm_base.specs.declared.errors.Exit.{Exit}
use Rattle.pm_base.specs.declared.errors.Exit.TheVariants as exit
use Rattle.pm_io.specs.declared.sink.Sink as Sink
use Rattle.pm_io.specs.Sink.{HasFailed, Wrote}
use Rattle.pm_io.specs.Writing.{Leaves}
use Rattle.pm_trace.specs.declared.faults.Fault.TheVariants.{Memory, Read, Usage}
use Rattle.pm_trace.specs.Faults.{exit_after, fault_text}
use Rattle.pm_trace.specs.Report.{Report, exit_of, pieces}

module _ {O : Type 0} (o : Sink.Ghosts O) where
  -- a report without a fault was written whole, and nothing failed
  pub record IsWhole (report : Report) (cut : Option ℕ) (old new : O) : Type 0 where
    pub faultless : report.fault ≡ None
    pub uncut : cut ≡ None
    pub wrote : Wrote o.observable (concat report.body) (o.state old) (o.state new)

  -- the exit is that of the fault, or WriteFault after the sink failed
  abbrev pub EndsBy : Exit → O → O → Exit → Type 0
  EndsBy due old new result = (result ≡ due) ⊎ ((result ≡ exit.WriteFault) × HasFailed (o.state old) (o.state new))

  -- the promises of each exit, for a report that was written up to a cut
  pub record ExitSays (report : Report) (cut : Option ℕ) (old new : O) (result : Exit) : Type 0 where
    pub ends : EndsBy (exit_after report.fault) old new result
    pub done : result ≡ exit.Done → IsWhole report cut old new
    pub usage : result ≡ exit.Usage → report.fault ≡ Some Usage
    pub read : result ≡ exit.ReadFault → report.fault ≡ Some Read
    pub memory : result ≡ exit.Memory → report.fault ≡ Some Memory
    pub failed : result ≡ exit.WriteFault → HasFailed (o.state old) (o.state new)

  -- they hold for each exit of each report that was written up to a cut
  abbrev pub ExitsSay : Type 0
  ExitsSay = (report : Report) (cut : Option ℕ) (old new : O) (result : Exit)
      → Leaves o (pieces report) cut old new → result ≡ exit_of report cut → ExitSays report cut old new result

  -- the exit is the due one, unless memory runs out or the sink fails
  abbrev pub EndsWith : Exit → O → O → Exit → Type 0
  EndsWith due old new result =
      (result ≡ due) ⊎ ((result ≡ exit.Memory) ⊎ ((result ≡ exit.WriteFault) × HasFailed (o.state old) (o.state new)))

  -- nothing was written but the line of the fault Memory, as far as the sink took it
  abbrev pub IsStarved : O → O → Type 0
  IsStarved old new = (cut : Option ℕ) × Leaves o (fault_text Memory ∷ []) cut old new
