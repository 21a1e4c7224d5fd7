-- What the event of a script line is split into: the core events that the book takes one after another, and what
-- becomes of the boxes.
use Rattle.std.specs.Prelude.{ℕ, ℤ, Bool, if◌then◌else◌, List, [], ◌∷◌, length, Option, Some, None}
use Rattle.pm_base.specs.declared.events.Event.{Event}
use Rattle.pm_base.specs.declared.events.Event.TheVariants.{Ipi, Pass, Post, Serve, Smc, Attach}
use Rattle.pm_base.specs.declared.events.Message.{Message}
use Rattle.pm_base.specs.declared.names.NodeId.{NodeId}
use Rattle.pm_ipi.specs.Mail.{all_empty, is_empty, posted}
use Rattle.pm_object.specs.declared.object.Object.{Object}
use Rattle.pm_topology.specs.declared.topology.Topology.{Topology}
use Rattle.pm_ipi.specs.declared.responses.Response.{Response}
use Rattle.pm_psci.specs.declared.calls.Smc as psci
use Rattle.pm_psci.specs.Answers.{answered}
use Rattle.pm_psci.specs.Lowering.{lowered, or_pass}
use Rattle.pm_split.specs.declared.cores.OwnNote.{OwnNote}
use Rattle.pm_split.specs.declared.cores.OwnNote.TheVariants as own
use Rattle.pm_split.specs.Boxes.{Boxes, box_of, waiting_in}

-- what a script line itself writes, beside what its core steps put out: the box of this master had a message already;
-- or what the power call of this processor is answered; or no task could be started or taken out under this key; or the
-- task under this key was called at this time and answered this word; or the clock with this number ran so before the
-- line and runs so after it; or it attaches words at this address, and comes too late. No split says what is answered and
-- what is told of tasks and of clocks, since that is read from the reply, from the board and from the clocks
pub data Note : Type 0 where
  Busy : NodeId → Note
  Called : NodeId → ℤ → Note
  NoTask : ℕ → Note
  Fired : ℕ → ℕ → ℕ → Note
  Clock : ℕ → Bool → Bool → Note
  Late : ℕ → Note

-- the note that a line says of itself, if it has one
abbrev pub noted : Option OwnNote → List Note
noted None = []
noted (Some (own.Busy master)) = Busy master ∷ []
noted (Some (own.Late address)) = Late address ∷ []

-- core events, of which there is always one, the boxes after them, and notes
pub record Split : Type 0 where
  pub events : List Event
  pub boxes : Boxes
  pub notes : List Note

-- a message is put into the box of the master at a place: if that is full nothing changes, and the line says so. The
-- message of a node that is no configured master is sent at once
abbrev pub post : Option ℕ → NodeId → Message → Boxes → Split
post (Some m) master message boxes =
    record {
      events = Pass ∷ [];
      boxes = posted m message boxes;
      notes = if is_empty m boxes then [] else Busy master ∷ [];
    }
post None master message boxes = record { events = Ipi master message ∷ []; boxes = boxes; notes = [] }

-- a power call by its words
abbrev pub call : NodeId → ℕ → List ℕ → psci.Smc
call proc function args = record { proc = proc; function = function; args = args }

-- a message is put into a box; the messages in all boxes are served, each on the book that the one before left, and all
-- boxes are empty then; a power call is lowered by the chip, whatever the book is; each other event is its own core
-- event, and one that attaches words says that it comes too late
abbrev pub split_of : Object → Topology → Event → Boxes → Split
split_of object t (Post master message) boxes = post (box_of object master) master message boxes
split_of object t Serve boxes =
    record { events = or_pass (waiting_in object boxes); boxes = all_empty (length boxes); notes = [] }
split_of object t (Smc proc function args) boxes =
    record { events = lowered t (call proc function args); boxes = boxes; notes = [] }
split_of object t (Attach address words) boxes =
    record { events = Attach address words ∷ []; boxes = boxes; notes = Late address ∷ [] }
split_of object t event boxes = record { events = event ∷ []; boxes = boxes; notes = [] }

-- the note of the answer to a power call
abbrev pub noted_call : Option (NodeId × ℤ) → List Note
noted_call None = []
noted_call (Some told) = Called told.0 told.1 ∷ []

abbrev pub noted_answer : NodeId → Option ℤ → List Note
noted_answer proc None = []
noted_answer proc (Some code) = Called proc code ∷ []

-- what a line writes of the answer to its power call, by the reply to the message that the call came to
abbrev pub called_note : Topology → Event → Option Response → List Note
called_note t (Smc proc function args) reply = noted_answer proc (answered t (call proc function args) reply)
called_note t event reply = []
