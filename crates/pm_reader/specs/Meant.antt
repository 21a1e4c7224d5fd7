-- What the next line of a script comes to.
use Rattle.std.specs.Prelude.{◌≡◌, ℕ, ◌⊎◌, List, Ok, Err}
use Rattle.pm_base.specs.declared.events.Event.{Event}
use Rattle.pm_base.specs.Faults.{Rose}
use Rattle.pm_io.specs.declared.prefix.StopReason.TheVariants as reason
use Rattle.pm_io.specs.Inputs.{IsStuck, Moment}
use Rattle.pm_io.specs.Readings.{Meanwhile}
use Rattle.pm_script.specs.declared.meaning.LineFault.TheVariants as fault
use Rattle.pm_script.specs.Meaning.{meaning}
use Rattle.pm_reader.specs.declared.meant.Meant.{Meant}
use Rattle.pm_reader.specs.declared.meant.Meant.TheVariants as meant
use Rattle.pm_reader.specs.declared.reader.Taken.{Taken}
use Rattle.pm_reader.specs.declared.reader.Taken.TheVariants.{Line, End, Long, Over, Fault}
use Rattle.pm_reader.specs.Reader.{GaveByFeed, HasRead, Held, KnowsEnd, Turn}

-- what an answer of a reader comes to, with the line that it gave, where this event is left
abbrev pub ComesTo : Taken → List ℕ → Meant → Event → Type 0
ComesTo answer line meant.Event event = (answer ≡ Line) × (meaning line ≡ Ok event)
ComesTo answer line (meant.Bad cause) event = ((answer ≡ Line) × (meaning line ≡ Err cause)) ⊎ ((answer ≡ Long) × (cause ≡ fault.Long))
ComesTo answer line (meant.Over reason.End) event = answer ≡ End
ComesTo answer line (meant.Over reason.Limit) event = answer ≡ Over
ComesTo answer line (meant.Over reason.Failure) event = answer ≡ Fault
ComesTo answer line (meant.Over reason.Unbegun) event = ⊥

-- the first line that is held was followed, up to its line feed
pub record GaveMeant (held new : Held) (meant : Meant) (event : Event) : Type 0 where
  pub line : List ℕ
  pub gave : GaveByFeed held line new
  pub comes_to : ComesTo Line line meant event

-- a call that leaves an event: there are an answer and a line of a reader which come to this
pub record ReadMeant (shown : Type 0) (id : ℕ) (before after : Moment) (old new : Held) (meant : Meant) (event : Event) : Type 0 where
  pub answer : Taken
  pub line : List ℕ
  pub turn : Turn shown id before after old new answer line
  pub knows : KnowsEnd shown id old before → KnowsEnd shown id new after
  pub stuck : shown → answer ≡ Fault → IsStuck (after.input id)
  pub fault : answer ≡ Fault → Rose before.faults after.faults
  pub reads : Meanwhile before after (HasRead answer id old new)
  pub comes_to : ComesTo answer line meant event
