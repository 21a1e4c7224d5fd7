-- The script of a text: the events of its lines up to the first one without a meaning, and why no more follow.
use Rattle.std.specs.Prelude.{ℕ, List, [], ◌∷◌, Option, Some, None, Result, Ok, Err}
use Rattle.pm_base.specs.declared.events.Event.{Event}
use Rattle.pm_io.specs.declared.lines.Ending.{Ending}
use Rattle.pm_io.specs.declared.lines.Ending.TheVariants.{Whole, Cut}
use Rattle.pm_io.specs.declared.prefix.StopReason.{StopReason}
use Rattle.pm_io.specs.declared.prefix.StopReason.TheVariants as reason
use Rattle.pm_io.specs.Lines.{lines}
use Rattle.pm_io.specs.Prefix.{Prefix, text_of}
use Rattle.pm_script.specs.declared.meaning.LineFault.{LineFault}
use Rattle.pm_script.specs.Meaning.{meaning}

-- how many bytes a script may have
abbrev pub script_limit : ℕ
script_limit = 67108864

-- why no more events follow: its text has no more lines, a line has no meaning, the text is too long, or a read failed
pub data Stop : Type 0 where
  End : Stop
  Bad : LineFault → Stop
  Past : Stop
  Failed : Stop

pub record Script : Type 0 where
  pub events : List Event
  pub stop : Stop

-- no event is left
abbrev pub over : Stop → Script
over stop = record { events = []; stop = stop }

-- a line with a meaning goes before the lines after it, and one without a meaning is the last that is looked at
abbrev pub before : Result Event LineFault → Script → Script
before (Ok event) script = record { events = event ∷ script.events; stop = script.stop }
before (Err fault) script = over (Bad fault)

-- the script of these lines, where this is why no more lines follow
unfoldable pub script_from : List (List ℕ) → Stop → Script
script_from [] stop = over stop
script_from (line ∷ lines) stop = before (meaning line) (script_from lines stop)

-- whether what comes after the last line feed may be a line: where a text breaks off, only if it is too long for one
abbrev pub ending_of : StopReason → Ending
ending_of reason.End = Whole
ending_of reason.Limit = Cut
ending_of reason.Failure = Cut
ending_of reason.Unbegun = Cut

-- why no more lines follow those of a text that was read so far
abbrev pub stop_of : StopReason → Stop
stop_of reason.End = End
stop_of reason.Limit = Past
stop_of reason.Failure = Failed
stop_of reason.Unbegun = Failed

-- the lines of what was read of a script
abbrev pub script_lines : Prefix → List (List ℕ)
script_lines prefix = lines (ending_of prefix.stop) (text_of prefix)

-- the script of what was read of its text: none where that can't be begun
abbrev pub script_where : StopReason → Prefix → Option Script
script_where reason.Unbegun prefix = None
script_where _ prefix = Some (script_from (script_lines prefix) (stop_of prefix.stop))

abbrev pub script_of : Prefix → Option Script
script_of prefix = script_where prefix.stop prefix
