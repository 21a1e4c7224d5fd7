-- The script of a name, by what is held under it.
use Rattle.std.specs.Prelude.{◌≡◌, ℕ, List, map, Option, Some, None, Ok, ⊤}
use Rattle.pm_base.specs.declared.events.Event.{Event}
use Rattle.pm_io.specs.Inputs.{Holds, Moment}
use Rattle.pm_io.specs.Lines.{lines_of}
use Rattle.pm_io.specs.Prefix.{prefix_of}
use Rattle.pm_script.specs.Meaning.{meaning}
use Rattle.pm_script.specs.Script.{Script, script_limit, script_of}
use Rattle.pm_script.specs.Script.Stop.{Failed}

-- each line of these bytes has a meaning, and these are their events
abbrev pub IsScript : List ℕ → List Event → Type 0
IsScript bytes events = map meaning (lines_of bytes) ≡ map (λ event. Ok event) events

-- a script was held whole under a name, and these are its events
pub record IsHeldWhole (m : Moment) (name : List ℕ) (events : List Event) : Type 0 where
  pub bytes : List ℕ
  pub held : Holds m name bytes
  pub means : IsScript bytes events

-- the script of a name, by what is read of it: none where it can't be begun
abbrev pub script_in : Moment → List ℕ → Option Script
script_in m name = script_of (prefix_of script_limit (m.file name) m.room)

-- a script can't be begun, or stops where a read fails
abbrev pub IsUnreadable : Option Script → Type 0
IsUnreadable None = ⊤
IsUnreadable (Some s) = s.stop ≡ Failed
