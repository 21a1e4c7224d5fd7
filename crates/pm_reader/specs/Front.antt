-- The first lines of a script, those that attach words of objects, are read ahead, and one answer more.
use Rattle.std.specs.Prelude.{◌≡◌, ℕ, Bool, true, false, List, [], ◌∷◌, ◌++◌, length, map, replicate, Ok}
use Rattle.pm_base.specs.declared.events.Event.{Event}
use Rattle.pm_base.specs.declared.events.Event.TheVariants.{Attach, Pass}
use Rattle.pm_io.specs.declared.lines.Ending.{Ending}
use Rattle.pm_io.specs.Inputs.{Moment}
use Rattle.pm_io.specs.Lines.{lines}
use Rattle.pm_object.specs.declared.attached.Attached.{Attached}
use Rattle.pm_block.specs.declared.block.Piece.{Piece}
use Rattle.pm_block.specs.Pieces.{attached_in, kept, takes, with_words}
use Rattle.pm_block.specs.Block.{passed, passed_from, pieces_from, pieces_of}
use Rattle.pm_script.specs.Meaning.{meaning}
use Rattle.pm_script.specs.Script.{Script, Stop, before, script_from}
use Rattle.pm_reader.specs.declared.follow.Front.{Front}
use Rattle.pm_reader.specs.declared.reader.Taken.{Taken}
use Rattle.pm_reader.specs.declared.reader.Taken.TheVariants.{Line}
use Rattle.pm_reader.specs.Way.{Answered}

-- the events of lines, before the script of those that are left
abbrev pub behind : List Event → Script → Script
behind [] s = s
behind (event ∷ events) s = before (Ok event) (behind events s)

-- however the script goes on: of all its lines these events come first, and then those of the lines that are left
abbrev pub Behind : List Event → List ℕ → List ℕ → Ending → Type 0
Behind events all left ending = (stop : Stop) → script_from (lines ending all) stop ≡ behind events (script_from (lines ending left) stop)

-- no line of a script adds to these pieces, and all of them are left to be run
pub record AddsNothing (pieces : List Piece) (events : List Event) : Type 0 where
  pub block : pieces_from pieces events ≡ pieces
  pub passed : passed_from pieces events ≡ events

-- these events are of the block, and make these pieces, whatever follows
pub record MakeBlock (events : List Event) (pieces : List Piece) : Type 0 where
  pub block : (later : List Event) → pieces_of (events ++ later) ≡ pieces_from pieces later
  pub passed : (later : List Event) → passed (events ++ later) ≡ replicate (length events) Pass ++ passed_from pieces later

-- a line doesn't add to these pieces, whatever it means and what follows
abbrev pub IsOther : List Piece → List ℕ → Type 0
IsOther pieces line = (event : Event) → meaning line ≡ Ok event → (later : List Event) → AddsNothing pieces (event ∷ later)

-- what was taken is a further line of the block, whose words are attached, or it isn't
abbrev pub AttachedOne : Bool → Taken → List ℕ → List Piece → List Piece → Type 0
AttachedOne true answer line pieces block =
    (address : ℕ) × (words : List ℕ) × (answer ≡ Line) × (meaning line ≡ Ok (Attach address words)) × (takes address pieces ≡ true)
    × (block ≡ map kept (with_words address words pieces))
AttachedOne false answer line pieces block = (block ≡ map kept pieces) × (answer ≡ Line → IsOther pieces line)

-- the front of a script was read ahead: the lines of these events, which are of its block and make these pieces, and an
-- answer after them, which is no further line of the block
pub record IsFront (shown : Type 0) (id : ℕ) (first now : Moment) (events : List Event) (pieces : List Piece) (front : Front) : Type 0 where
  pub lines : front.lines ≡ length events
  pub blocks : MakeBlock events pieces
  pub other : front.taken ≡ Line → IsOther pieces front.line.items
  pub answered : Answered (Behind events) shown id (length events) first now front.taken front.line.items front.reader

-- first lines that were read ahead, of some events and some pieces, of which this is kept
pub record ReadAhead (shown : Type 0) (id : ℕ) (first now : Moment) (block : List Piece) (front : Front) : Type 0 where
  pub events : List Event
  pub pieces : List Piece
  pub is_kept : block ≡ map kept pieces
  pub is_front : IsFront shown id first now events pieces front

-- when a script was begun, and what its first lines attach
pub record Ahead : Type 0 where
  pub first : Moment
  pub attached : List Attached

abbrev pub ahead_of : Moment → List Attached → Ahead
ahead_of first attached = record { first = first; attached = attached }

-- the front of a script was read ahead, which attaches just that
pub record Attaches (shown : Type 0) (id : ℕ) (ahead : Ahead) (now : Moment) (front : Front) : Type 0 where
  pub events : List Event
  pub pieces : List Piece
  pub attached : ahead.attached ≡ map attached_in pieces
  pub is_front : IsFront shown id ahead.first now events pieces front

-- the front of some script was read ahead
abbrev pub WasReadAhead : Type 0 → ℕ → Moment → Front → Type 0
WasReadAhead shown id now front = (ahead : Ahead) × Attaches shown id ahead now front

-- a script as it is run: in the lines of its block nothing happens
abbrev pub ran : Script → Script
ran s = record s { events = passed s.events }
