-- The texts that a form reads, by the names in its words: a source holds them, or its calls gave them.
use Rattle.std.specs.Prelude.{◌≡◌, ℕ, List, [], ◌∷◌, ◌++◌, Option, Some, None, IsSome, Ok}
use Rattle.std.specs.List.{AllByRecursion as Each}
use Rattle.pm_base.specs.declared.events.Event.{Event}
use Rattle.pm_io.specs.declared.prefix.StopReason.TheVariants.{End}
use Rattle.pm_io.specs.Calls.{Call, Named, ReadsWhole, named}
use Rattle.pm_io.specs.Given.{prefix_called}
use Rattle.pm_io.specs.Inputs.{Holds, Moment}
use Rattle.pm_object.specs.declared.object.Object.{Object}
use Rattle.pm_object.specs.Grammar.{Reads}
use Rattle.pm_objtext.specs.Meaning.{Means}
use Rattle.pm_gen.specs.Laboratory.{laboratory}
use Rattle.pm_script.specs.Named.{IsScript}
use Rattle.pm_script.specs.Script.{script_limit}
use Rattle.pm_chip.specs.Chip.{chip}
use Rattle.pm_topology.specs.declared.topology.Topology.{Topology}
use Rattle.pm_topofile.specs.Meaning.{meaning}
use Rattle.pm_top.specs.declared.works.Source.{Source}
use Rattle.pm_top.specs.declared.works.Source.TheVariants as source
use Rattle.pm_top.specs.Asked.{lines_asked, object_limit, text_limit, topology_limit}
use Rattle.pm_top.specs.Words.{word}

-- a text: a name, the most bytes that are read of it, and its bytes
pub record Text : Type 0 where
  pub named : Named
  pub bytes : List ℕ

abbrev pub text : List ℕ → ℕ → List ℕ → Text
text name limit bytes = record { named = named name limit; bytes = bytes }

-- the texts that are read for a topology: the one that the word at this place names, which says it; without a place
-- none, and the topology is the chip's
abbrev pub IsTopologyOf : Option ℕ → List (List ℕ) → List Text → Topology → Type 0
IsTopologyOf None ws texts topology = (texts ≡ []) × (topology ≡ chip)
IsTopologyOf (Some k) ws texts topology =
    (bytes : List ℕ) × (texts ≡ text (word k ws) topology_limit bytes ∷ []) × (meaning bytes ≡ Ok topology)

-- the text that is read for the first word, with these bytes; none for a number of lines, or without such a word
abbrev pub object_texts : Source → List ℕ → List ℕ → List Text
object_texts source.Object name bytes = text name object_limit bytes ∷ []
object_texts source.Text name bytes = text name text_limit bytes ∷ []
object_texts source.Number name bytes = []
object_texts source.Nothing name bytes = []

-- the texts that are read for the first word: the bytes that spell this object, or a text that says it. For a number of
-- lines, or without such a word, there are none, and the object is the laboratory's
abbrev pub IsObjectOf : Source → List ℕ → List Text → Object → Type 0
IsObjectOf source.Object name texts object = (bytes : List ℕ) × (texts ≡ text name object_limit bytes ∷ []) × Reads bytes object
IsObjectOf source.Text name texts object = (bytes : List ℕ) × (texts ≡ text name text_limit bytes ∷ []) × Means bytes object
IsObjectOf source.Number name texts object = (texts ≡ []) × IsSome (lines_asked name) × (object ≡ laboratory)
IsObjectOf source.Nothing name texts object = (texts ≡ []) × (object ≡ laboratory)

-- the texts that are read for a script: the one that the word at this place names, each of whose lines can be read;
-- without a place none
abbrev pub AreScript : Option ℕ → List (List ℕ) → List Text → Type 0
AreScript None ws texts = texts ≡ []
AreScript (Some k) ws texts =
    (bytes : List ℕ) × (events : List Event) × (texts ≡ text (word k ws) script_limit bytes ∷ []) × IsScript bytes events

-- a source holds each of these texts under its name
abbrev pub HoldsEach : Moment → List Text → Type 0
HoldsEach m texts = Each (λ (it : Text). Holds m it.named.name it.bytes) texts

-- these calls open the name of a text, read it to its end, and give its bytes
pub record Gave (it : Text) (calls : List Call) : Type 0 where
  pub reads : ReadsWhole it.named calls
  pub is : prefix_called it.named.limit calls ≡ record { bytes = it.bytes; stop = End }

-- these are all calls, and they give each of these texts in turn
abbrev pub GaveEach : List Call → List Text → Type 0
GaveEach calls [] = calls ≡ []
GaveEach calls (it ∷ texts) = (one : List Call) × (next : List Call) × (calls ≡ one ++ next) × Gave it one × GaveEach next texts
