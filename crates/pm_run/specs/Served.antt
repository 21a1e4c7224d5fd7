-- The effect of a run's lines that serve the boxes of the masters.
use Rattle.std.specs.Prelude.{◌≡◌, ⊤, List, [], ◌∷◌, length, map}
use Rattle.pm_base.specs.declared.events.Event.{Event}
use Rattle.pm_base.specs.declared.events.Event.TheVariants.{Serve}
use Rattle.pm_ipi.specs.Mail.{all_empty}
use Rattle.pm_psci.specs.Lowering.{or_pass}
use Rattle.pm_split.specs.Boxes.{Boxes}
use Rattle.pm_split.specs.Served.{ServesAll}
use Rattle.pm_run.specs.Run.{Setup, Core, Line}

-- the core events of a line
abbrev pub events_of : Line → List Event
events_of line = map (λ (core : Core). core.event) line.cores

-- the core events of the line are the messages in the boxes before it, each once, by rising mask of their masters, or
-- a Pass if there is none. After it all boxes are empty, and the line has no notes of its own
pub record EmptiesBoxes (c : Setup) (boxes : Boxes) (line : Line) : Type 0 where
  pub served : List Event
  pub all : ServesAll c.object boxes served
  pub cores : events_of line ≡ or_pass served
  pub empty : line.after.boxes ≡ all_empty (length c.object.masters)
  pub notes : line.notes ≡ []

-- each line that serves the boxes does so, from the boxes before the first line on
abbrev pub EachServes : Setup → Boxes → List Line → Type 0
EachServes c boxes [] = ⊤
EachServes c boxes (line ∷ lines) = (line.event ≡ Serve → EmptiesBoxes c boxes line) × EachServes c line.after.boxes lines
