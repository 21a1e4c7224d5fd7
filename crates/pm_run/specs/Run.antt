-- The run: the book at load, and then one script line for each event. A line is split into core events. Each of these
-- makes a core step, which has its event and the books before and after it. A run has no device.
use Rattle.std.specs.Prelude.{◌≡◌, List, [], ◌∷◌, flat_map, length}
use Rattle.pm_base.specs.declared.events.Event.{Event}
use Rattle.pm_base.specs.declared.events.Event.TheVariants.{Pass}
use Rattle.pm_ipi.specs.Mail.{all_empty}
use Rattle.pm_object.specs.declared.attached.Attached.{Attached}
use Rattle.pm_object.specs.declared.object.Object.{Object}
use Rattle.pm_block.specs.Block.{attached_by}
use Rattle.pm_topology.specs.declared.topology.Topology.{Topology}
use Rattle.pm_state.specs.Load.{load_of}
use Rattle.pm_core.specs.Outbox.{Outputs}
use Rattle.pm_state.specs.Sound.{IsSound, MeetsRequirements}
use Rattle.pm_state.specs.State.{Fixed, State}
use Rattle.pm_core.specs.Step.{effect, outputs, outputs_at_load}
use Rattle.pm_state.specs.Values.{value}
use Rattle.pm_split.specs.Boxes.{Boxes}
use Rattle.pm_split.specs.Split.{Note, Split, split_of}

-- the setup of a run: the loaded object, the attached objects, and the chip
pub record Setup : Type 0 where
  pub object : Object
  pub attached : List Attached
  pub topology : Topology

abbrev pub setup : Object → List Attached → Topology → Setup
setup object attached topology = record { object = object; attached = attached; topology = topology }

-- the setup of the run of these events, whose first lines attach the attached objects
abbrev pub setup_for : Object → Topology → List Event → Setup
setup_for object topology events = setup object (attached_by events) topology

-- the fixed half of each book of the run
abbrev pub fixed_of : Setup → Fixed
fixed_of c = record { object = c.object; topology = c.topology; attached = c.attached }

-- the setup that a book has: its object, the attached objects, and the chip
abbrev pub setup_of : State → Setup
setup_of book = setup book.fixed.object book.fixed.attached book.fixed.topology

-- the state of a run between two script lines: the book, and the boxes of the masters
pub record Stand : Type 0 where
  pub book : State
  pub boxes : Boxes

abbrev pub stand_at : State → Boxes → Stand
stand_at book boxes = record { book = book; boxes = boxes }

-- a core step: its event, the books before and after it, and its outputs
pub record Core : Type 0 where
  pub event : Event
  pub before : State
  pub after : State
  pub outputs : Outputs

-- a script line: its event, its core steps in order, its own notes, and the state of the run after it
pub record Line : Type 0 where
  pub event : Event
  pub cores : List Core
  pub notes : List Note
  pub after : Stand

-- the event of a script line, split by the boxes before it and the chip: core events, at least one; the boxes after
-- it; and notes
abbrev pub split : Setup → Event → Stand → Split
split c event stand = split_of c.object c.topology event stand.boxes

abbrev pub core_of : Event → State → Core
core_of event book = record { event = event; before = book; after = effect event book; outputs = outputs event book }

-- the core steps of these events, one after another
abbrev pub cores_of : List Event → State → List Core
cores_of [] book = []
cores_of (event ∷ events) book = core_of event book ∷ cores_of events (effect event book)

-- the book after these core events
abbrev pub book_after : List Event → State → State
book_after [] book = book
book_after (event ∷ events) book = book_after events (effect event book)

abbrev pub line_of : Setup → Event → Stand → Line
line_of c event stand = record {
  event = event;
  cores = cores_of (split c event stand).events stand.book;
  notes = (split c event stand).notes;
  after = record { book = book_after (split c event stand).events stand.book; boxes = (split c event stand).boxes };
}

-- the lines of these events
abbrev pub lines_of : Setup → List Event → Stand → List Line
lines_of c [] stand = []
lines_of c (event ∷ events) stand = line_of c event stand ∷ lines_of c events (line_of c event stand).after

-- the state at load, before all events: all boxes are empty
abbrev pub loaded : Setup → Stand
loaded c = record { book = load_of c.object c.attached c.topology; boxes = all_empty (length c.object.masters) }

-- the load as a core step of the event Pass, with the outputs of the load
abbrev pub core_0 : Setup → Core
core_0 c =
    record { event = Pass; before = (loaded c).book; after = (loaded c).book; outputs = outputs_at_load (loaded c).book }

abbrev pub line_0 : Setup → Line
line_0 c = record { event = Pass; cores = core_0 c ∷ []; notes = []; after = loaded c }

-- the lines of a run: the load, and then a line for each event
abbrev pub run : Setup → List Event → List Line
run c events = line_0 c ∷ lines_of c events (loaded c)

-- the lines of a run as they are; nothing is added to them
abbrev pub said : List Line → List Line
said lines = lines

-- the core steps of these lines, one after another
abbrev pub cores_in : List Line → List Core
cores_in lines = flat_map (λ (line : Line). line.cores) lines

-- each book of a run has the fixed half of the setup, is sound, and its values meet its requirements
pub record IsBookOf (c : Setup) (book : State) : Type 0 where
  pub fixed : book.fixed ≡ fixed_of c
  pub sound : IsSound book
  pub met : MeetsRequirements book (λ u. value u book)

-- the books before and after a core step are books of the run
pub record HasBooksOf (c : Setup) (core : Core) : Type 0 where
  pub before : IsBookOf c core.before
  pub after : IsBookOf c core.after
