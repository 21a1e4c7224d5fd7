-- What the reads of a source gave, as a source that shows it. So all that is said of a source that shows what it holds is said of every
-- source, by what its reads gave.
use Rattle.std.specs.Prelude.{ℕ, List, length, Option, Some, None, ⊤}
use Rattle.pm_io.specs.declared.inputs.Inputs as Inputs
use Rattle.pm_io.specs.declared.prefix.StopReason.{StopReason}
use Rattle.pm_io.specs.declared.prefix.StopReason.TheVariants.{End, Limit, Failure, Unbegun}
use Rattle.pm_io.specs.Calls.{Call}
use Rattle.pm_io.specs.Given.{prefix_called}
use Rattle.pm_io.specs.Inputs.{File, Moment}
use Rattle.pm_io.specs.Prefix.{Prefix}
use Rattle.pm_io.specs.Readings.{Meanwhile}
use Rattle.pm_script.specs.Script.{Script}
use Rattle.pm_reader.specs.Follow.{IsBrokenOff, OfScript, script_given}

-- the file of which these bytes are read by a reading that ends so: where it broke off, each read behind them fails
abbrev pub file_by : StopReason → List ℕ → Option File
file_by End bytes = Some (record { bytes = bytes; fails_at = None })
file_by Limit bytes = Some (record { bytes = bytes; fails_at = None })
file_by Failure bytes = Some (record { bytes = bytes; fails_at = Some (length bytes) })
file_by Unbegun bytes = None

-- a moment at which this is shown under every name, and one input can be begun
abbrev pub showing : Prefix → Moment → Moment
showing prefix m = record m { file = λ name. file_by prefix.stop prefix.bytes; room = 1 }

-- a moment at which just what these calls gave is shown, up to a limit, of the name that the first of them begins
abbrev pub giving : ℕ → List Call → Moment → Moment
giving limit calls m = showing (prefix_called limit calls) m

-- a source that shows all
abbrev pub shown : Inputs.Ghosts Moment
shown = record { observable = ⊤; state = λ m. m }

-- something holds of the script of a begun input: of the one that it holds, if it shows that, and of the one that its reads gave, up to
-- somewhere
pub record OfRead (observable : Type 0) (id : ℕ) (first after : Moment) (Holds : Script → Type 0) : Type 0 where
  pub held : OfScript observable id first Holds
  pub given : Meanwhile first after (λ calls. IsBrokenOff id calls × Holds (script_given id calls))
