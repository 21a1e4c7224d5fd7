-- The files of the host, as inputs.
use Rattle.std.specs.Prelude.{ℕ, List}
use Rattle.pm_io.specs.Calls.{Call}
use Rattle.pm_io.specs.Inputs.{Moment, unobserved}

-- how many calls have failed, and the calls
pub record Opened : Type 0 where
  pub faults : ℕ
  pub calls : List Call

-- what they show: nothing of what a file holds
abbrev pub moment_of : Opened → Moment
moment_of opened = unobserved opened.faults opened.calls
