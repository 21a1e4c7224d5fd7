-- The block: the longest run of first lines of a script that attach words of objects, before the load, at no more different
-- addresses than may be.
use Rattle.std.specs.Prelude.{if◌then◌else◌, List, [], ◌∷◌, map}
use Rattle.pm_base.specs.declared.events.Event.{Event}
use Rattle.pm_base.specs.declared.events.Event.TheVariants.{Attach, Pass}
use Rattle.pm_object.specs.declared.attached.Attached.{Attached}
use Rattle.pm_block.specs.declared.block.Piece.{Piece}
use Rattle.pm_block.specs.Pieces.{attached_in, takes, with_words}

-- the words at each address, where these pieces are attached already
abbrev pub pieces_from : List Piece → List Event → List Piece
pieces_from pieces (Attach address words ∷ events) =
    if takes address pieces then pieces_from (with_words address words pieces) events else pieces
pieces_from pieces events = pieces

abbrev pub pieces_of : List Event → List Piece
pieces_of events = pieces_from [] events

-- what the first lines attach
abbrev pub attached_by : List Event → List Attached
attached_by events = map attached_in (pieces_of events)

-- the events that are run once the block was read: in its lines nothing happens any more
abbrev pub passed_from : List Piece → List Event → List Event
passed_from pieces (Attach address words ∷ events) =
    if takes address pieces then Pass ∷ passed_from (with_words address words pieces) events else Attach address words ∷ events
passed_from pieces events = events

abbrev pub passed : List Event → List Event
passed events = passed_from [] events
