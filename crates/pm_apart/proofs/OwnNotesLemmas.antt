-- The notes of a line's own are of full boxes, and of words that come too late: what holds of all such notes holds of each of them.
use Rattle.std.proofs.Common.{ℕ, Bool, true, false, if◌then◌else◌, List, [], ◌∷◌, Option, Some, None}
use Rattle.std.specs.List.{AllByRecursion as Each}
use Rattle.pm_base.specs.declared.events.Event.{Event}
use Rattle.pm_base.specs.declared.events.Event.TheVariants.{Attach, Post}
use Rattle.pm_base.specs.declared.events.Message.{Message}
use Rattle.pm_base.specs.declared.names.NodeId.{NodeId}
use Rattle.pm_ipi.specs.Mail.{is_empty}
use Rattle.pm_object.specs.declared.object.Object.{Object}
use Rattle.pm_topology.specs.declared.topology.Topology.{Topology}
use Rattle.pm_split.specs.Boxes.{Boxes, box_of}
use Rattle.pm_split.specs.Split.{Note, post, split_of}
use Rattle.pm_split.specs.Split.Note.{Busy, Late}
use Rattle.pm_run.specs.Run.{Line as ScriptLine, Setup, Stand, line_of, lines_of, loaded, run}

-- what holds of each note of a line's own
abbrev pub OwnNotes : (Note → Type 0) → ScriptLine → Type 0
OwnNotes P line = Each P line.notes

module _ (P : Note → Type 0) (busy : (master : NodeId) → P (Busy master)) (late : (address : ℕ) → P (Late address)) where
  by_box : (master : NodeId) (empty : Bool) → Each P (if empty then [] else Busy master ∷ [])
  by_box master true = tt
  by_box master false = (busy master, tt)

  posts_are : (at : Option ℕ) (master : NodeId) (message : Message) (boxes : Boxes) → Each P (post at master message boxes).notes
  posts_are (Some m) master message boxes = by_box master (is_empty m boxes)
  posts_are None master message boxes = tt

  splits_are : (object : Object) (t : Topology) (event : Event) (boxes : Boxes) → Each P (split_of object t event boxes).notes
  splits_are object t (Post master message) boxes = posts_are (box_of object master) master message boxes
  splits_are object t (Attach address words) boxes = (late address, tt)
  splits_are object t event boxes = tt

  lines_are : (c : Setup) (events : List Event) (stand : Stand) → Each (OwnNotes P) (lines_of c events stand)
  lines_are c [] stand = tt
  lines_are c (event ∷ events) stand = (splits_are c.object c.topology event stand.boxes, lines_are c events (line_of c event stand).after)

  pub runs_are : (c : Setup) (events : List Event) → Each (OwnNotes P) (run c events)
  runs_are c events = (tt, lines_are c events (loaded c))
