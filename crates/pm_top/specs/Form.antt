-- The forms of the program's words: the inputs and the work of each; for those that write one piece, the piece and
-- the promises of Done.
use Rattle.std.specs.Prelude.{◌≡◌, ℕ, List, [], ◌∷◌, ◌++◌, codes, if◌then◌else◌, Option, Some, None, Ok}
use Rattle.std.specs.Str.{bytes_eq}
use Rattle.pm_base.specs.declared.names.NodeId.{NodeId}
use Rattle.pm_io.specs.declared.sink.Sink as Sink
use Rattle.pm_object.specs.declared.object.Object.{Object}
use Rattle.pm_object.specs.Grammar.{Reads, little_endian, words_of}
use Rattle.pm_objtext.specs.Meaning.{Means}
use Rattle.pm_objtext.specs.Printing.{text_of}
use Rattle.pm_reach.specs.declared.members.Member.{Member}
use Rattle.pm_reach.specs.Membership.{IsReach}
use Rattle.pm_topofile.specs.Meaning.{meaning}
use Rattle.pm_topofile.specs.Printing.{text_of as table_of}
use Rattle.pm_chip.specs.Chip.{chip}
use Rattle.pm_topology.specs.declared.topology.Topology.{Topology}
use Rattle.pm_trace.specs.Reach.{reach_text}
use Rattle.pm_top.specs.declared.reading.Subject.{Subject}
use Rattle.pm_top.specs.declared.works.Form.{Form}
use Rattle.pm_top.specs.declared.works.Piece.{Piece}
use Rattle.pm_top.specs.declared.works.Piece.TheVariants.{Reach, ObjectText, ObjectBytes, TopologyText}
use Rattle.pm_top.specs.declared.works.Request.{Request}
use Rattle.pm_top.specs.declared.works.Source.{Source}
use Rattle.pm_top.specs.declared.works.Source.TheVariants as source
use Rattle.pm_top.specs.declared.works.Work.{Work}
use Rattle.pm_top.specs.declared.works.Work.TheVariants.{Replay, Isolate, Make, Write}
use Rattle.pm_top.specs.Asked.{master_of, object_limit, text_limit}
use Rattle.pm_top.specs.Given.{IsTopologyOf, Text, text}
use Rattle.pm_top.specs.Within.{IsReachText, IsTopologyText}
use Rattle.pm_top.specs.Words.{word}

-- ---- the inputs of a form

-- `print OBJ`, `build TEXT`, `table`, `reach OBJ NODE`: the source of a piece, and the place of the word that names a
-- master
abbrev pub piece_source : Piece → Source
piece_source Reach = source.Object
piece_source ObjectText = source.Object
piece_source ObjectBytes = source.Text
piece_source TopologyText = source.Nothing

abbrev pub piece_node : Piece → Option ℕ
piece_node Reach = Some 2
piece_node ObjectText = None
piece_node ObjectBytes = None
piece_node TopologyText = None

-- a topology may be named only if the form reads an object
abbrev pub beside : Source → Option ℕ → Option ℕ
beside source.Object named = named
beside source.Text named = None
beside source.Number named = None
beside source.Nothing named = None

-- the form of a work, by the kind of its first name and the places of the words that name a master and a script
abbrev pub reads : Source → Option ℕ → Option ℕ → Work → Option ℕ → Form
reads from node script work named = record { source = from; topology = beside from named; node = node; script = script; work = work }

-- `replay OBJ SCRIPT`, `isolate OBJ SCRIPT NODE`, `make N`, and the forms that write a piece
abbrev pub form_of : Work → Option ℕ → Form
form_of Replay named = reads source.Object None (Some 2) Replay named
form_of Isolate named = reads source.Object (Some 3) (Some 2) Isolate named
form_of Make named = reads source.Number None None Make named
form_of (Write piece) named = reads (piece_source piece) (piece_node piece) None (Write piece) named

-- ---- the words

-- a work over the topology that the word at a place names, or over the chip's
abbrev pub over : Option ℕ → Work → Request
over named work = record { work = work; topology = named }

abbrev pub over_chip : Work → Option Request
over_chip work = Some (over None work)

abbrev pub over_named : Work → ℕ → Option Request
over_named work place = Some (over (Some place) work)

-- the request of one word
abbrev pub request_of_one : List ℕ → Option Request
request_of_one first = if bytes_eq first (codes "table") then over_chip (Write TopologyText) else None

-- the request of two words, by the first
abbrev pub request_of_two : List ℕ → Option Request
request_of_two first =
    if bytes_eq first (codes "print") then over_chip (Write ObjectText)
    else if bytes_eq first (codes "build") then over_chip (Write ObjectBytes)
    else if bytes_eq first (codes "make") then over_chip Make
    else None

-- the request of three words, by the first
abbrev pub request_of_three : List ℕ → Option Request
request_of_three first =
    if bytes_eq first (codes "replay") then over_chip Replay
    else if bytes_eq first (codes "reach") then over_chip (Write Reach)
    else None

-- the request of four words, by the first
abbrev pub request_of_four : List ℕ → Option Request
request_of_four first =
    if bytes_eq first (codes "isolate") then over_chip Isolate
    else if bytes_eq first (codes "replay") then over_named Replay 3
    else if bytes_eq first (codes "reach") then over_named (Write Reach) 3
    else None

-- the request of five words, by the first
abbrev pub request_of_five : List ℕ → Option Request
request_of_five first = if bytes_eq first (codes "isolate") then over_named Isolate 4 else None

-- the request of the words, by the first and their number
abbrev pub request_of : List (List ℕ) → Option Request
request_of (first ∷ []) = request_of_one first
request_of (first ∷ second ∷ []) = request_of_two first
request_of (first ∷ second ∷ third ∷ []) = request_of_three first
request_of (first ∷ second ∷ third ∷ fourth ∷ []) = request_of_four first
request_of (first ∷ second ∷ third ∷ fourth ∷ fifth ∷ []) = request_of_five first
request_of words = None

-- the form of a request, if there is one
abbrev pub form_if : Option Request → Option Form
form_if None = None
form_if (Some request) = Some (form_of request.work request.topology)

-- the form of the words, if they have one
abbrev pub form : List (List ℕ) → Option Form
form ws = form_if (request_of ws)

-- the place of the word that names the topology, if there is one
abbrev pub topology_if : Option Request → Option ℕ
topology_if None = None
topology_if (Some request) = request.topology

abbrev pub topology_in : List (List ℕ) → Option ℕ
topology_in ws = topology_if (request_of ws)

-- ---- the pieces

-- the text or bytes of a piece, from its subject, and the members of the reach of its master, if it has one
abbrev pub piece_text : Piece → Subject → List Member → List ℕ
piece_text Reach subject members = reach_text members
piece_text ObjectText subject members = text_of subject.object
piece_text ObjectBytes subject members = little_endian (words_of subject.object)
piece_text TopologyText subject members = table_of subject.topology

-- the subject has a master of which this holds
abbrev pub ForMaster : Subject → (NodeId → Type 0) → Type 0
ForMaster subject Does = (master : NodeId) × (subject.master ≡ Some master) × Does master

-- a text is this piece of a subject
abbrev pub IsPiece : Piece → Subject → List ℕ → Type 0
IsPiece Reach subject text = ForMaster subject (λ master. IsReachText subject.object subject.topology master text)
IsPiece ObjectText subject text = text ≡ text_of subject.object
IsPiece ObjectBytes subject text = Reads text subject.object
IsPiece TopologyText subject text = IsTopologyText subject.topology text

-- ---- the promises of Done for a piece

module _ {O : Type 0} (o : Sink.Ghosts O) (AreRead : List Text → Type 0) where
  -- an object was read under the first name, and the second word names a master of it. The text is the reach of that
  -- master, on the chip, or on the topology whose text was read under a third name
  pub record IsReachedBy (named : Option ℕ) (ws : List (List ℕ)) (old new : O) : Type 0 where
    pub bytes : List ℕ
    pub topology_texts : List Text
    pub object : Object
    pub topology : Topology
    pub master : NodeId
    pub members : List Member
    pub read : AreRead (text (word 1 ws) object_limit bytes ∷ topology_texts)
    pub reads : Reads bytes object
    pub over : IsTopologyOf named ws topology_texts topology
    pub master_named : master_of object (word 2 ws) ≡ Some master
    pub reach : IsReach (object ∷ []) topology master members
    pub text : (o.state new).bytes ≡ (o.state old).bytes ++ reach_text members

  -- an object was read under the name, and its text was written. (A topology would be read next if a word named one, but
  -- no word does beside `print OBJ`)
  pub record IsPrintedBy (named : Option ℕ) (ws : List (List ℕ)) (old new : O) : Type 0 where
    pub bytes : List ℕ
    pub topology_texts : List Text
    pub object : Object
    pub topology : Topology
    pub read : AreRead (text (word 1 ws) object_limit bytes ∷ topology_texts)
    pub reads : Reads bytes object
    pub over : IsTopologyOf named ws topology_texts topology
    pub text : (o.state new).bytes ≡ (o.state old).bytes ++ text_of object

  -- the text of an object was read under the name. The object's bytes were written, and reading them gives it again
  pub record IsBuiltBy (ws : List (List ℕ)) (old new : O) : Type 0 where
    pub bytes : List ℕ
    pub object : Object
    pub read : AreRead (text (word 1 ws) text_limit bytes ∷ [])
    pub says : Means bytes object
    pub text : (o.state new).bytes ≡ (o.state old).bytes ++ little_endian (words_of object)
    pub reads : Reads (little_endian (words_of object)) object

  -- nothing was read. The text of the chip's topology was written, and reading it gives that topology again
  pub record IsTabledBy (old new : O) : Type 0 where
    pub read : AreRead []
    pub text : (o.state new).bytes ≡ (o.state old).bytes ++ table_of chip
    pub means : meaning (table_of chip) ≡ Ok chip

  abbrev pub PieceDoneBy : Piece → Option ℕ → List (List ℕ) → O → O → Type 0
  PieceDoneBy Reach named ws old new = IsReachedBy named ws old new
  PieceDoneBy ObjectText named ws old new = IsPrintedBy named ws old new
  PieceDoneBy ObjectBytes named ws old new = IsBuiltBy ws old new
  PieceDoneBy TopologyText named ws old new = IsTabledBy old new
