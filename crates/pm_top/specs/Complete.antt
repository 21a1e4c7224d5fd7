-- The runs that have to end in Done: what the words ask for is right, by what the inputs hold or by what their calls
-- gave, and nothing fails.
use Rattle.std.specs.Prelude.{◌≡◌, ◌≢◌, ℕ, ◌≤◌, ◌⊎◌, List, ◌++◌, length, Option, Some, None, IsSome, ⊤}
use Rattle.pm_base.specs.declared.errors.Exit.{Exit}
use Rattle.pm_base.specs.declared.errors.Exit.TheVariants as exit
use Rattle.pm_base.specs.declared.events.Event.{Event}
use Rattle.pm_io.specs.declared.inputs.Inputs as Inputs
use Rattle.pm_io.specs.declared.sink.Sink as Sink
use Rattle.pm_base.specs.Faults.{Rose}
use Rattle.pm_io.specs.Calls.{Call}
use Rattle.pm_io.specs.Inputs.{Holds, Moment}
use Rattle.pm_io.specs.Sink.{HasFailed}
use Rattle.pm_io.specs.World.{World}
use Rattle.pm_object.specs.declared.object.Object.{Object}
use Rattle.pm_object.specs.Grammar.{Reads}
use Rattle.pm_objtext.specs.Meaning.{Means}
use Rattle.pm_topology.specs.declared.topology.Topology.{Topology}
use Rattle.pm_board.specs.Board.{Standing}
use Rattle.pm_device.specs.declared.device.Device as Device
use Rattle.pm_gen.specs.Laboratory.{laboratory}
use Rattle.pm_script.specs.Named.{IsScript}
use Rattle.pm_script.specs.Script.{script_limit}
use Rattle.pm_top.specs.declared.works.Form.{Form}
use Rattle.pm_top.specs.declared.works.Source.{Source}
use Rattle.pm_top.specs.declared.works.Source.TheVariants as source
use Rattle.pm_top.specs.Asked.{lines_asked, master_of}
use Rattle.pm_top.specs.Done.{IsDone}
use Rattle.pm_top.specs.Fit.{HoldsTopology}
use Rattle.pm_top.specs.Form.{form}
use Rattle.pm_top.specs.Given.{AreScript, GaveEach, IsObjectOf, IsTopologyOf, Text}
use Rattle.pm_top.specs.Words.{word}
use Rattle.pm_top.specs.Ran.{InputsMayFail}

-- ---- right words and inputs

-- the object's bytes or its text are held under a name; or the name is a number of lines, and the object the
-- laboratory's
abbrev pub HoldsObject : Source → Moment → List ℕ → Object → Type 0
HoldsObject source.Object m name object = (bytes : List ℕ) × Holds m name bytes × Reads bytes object
HoldsObject source.Text m name object = (bytes : List ℕ) × Holds m name bytes × Means bytes object
HoldsObject source.Number m name object = IsSome (lines_asked name) × (object ≡ laboratory)
HoldsObject source.Nothing m name object = object ≡ laboratory

-- the word at a place names a master of the object, if the form has such a place
abbrev pub NamesMaster : Option ℕ → List (List ℕ) → Object → Type 0
NamesMaster None ws object = ⊤
NamesMaster (Some k) ws object = IsSome (master_of object (word k ws))

-- a script within the limit is held under a name, and each of its lines can be read
pub record HoldsScript (m : Moment) (name : List ℕ) : Type 0 where
  pub bytes : List ℕ
  pub events : List Event
  pub held : Holds m name bytes
  pub short : length bytes ≤ script_limit
  pub means : IsScript bytes events

-- the word at a place names such a script, if the form has such a place
abbrev pub NamesScript : Option ℕ → List (List ℕ) → Moment → Type 0
NamesScript None ws m = ⊤
NamesScript (Some k) ws m = HoldsScript m (word k ws)

-- all that a form reads is right
pub record ReadsRight (f : Form) (ws : List (List ℕ)) (m : Moment) : Type 0 where
  pub object : Object
  pub topology : Topology
  pub held : HoldsObject f.source m (word 1 ws) object
  pub topology_held : HoldsTopology f.topology ws m topology
  pub master : NamesMaster f.node ws object
  pub script : NamesScript f.script ws m

-- words without a form aren't right
abbrev pub FormIsRight : Option Form → List (List ℕ) → Moment → Type 0
FormIsRight None ws m = ⊥
FormIsRight (Some f) ws m = ReadsRight f ws m

-- the words have a form, and what it reads is right
abbrev pub IsRight : List (List ℕ) → Moment → Type 0
IsRight ws m = FormIsRight (form ws) ws m

-- texts were read under the names of a form, in its order, and they are right
pub record AreRight (AreRead : List Text → Type 0) (f : Form) (ws : List (List ℕ)) : Type 0 where
  pub object : Object
  pub topology : Topology
  pub object_texts : List Text
  pub topology_texts : List Text
  pub script_texts : List Text
  pub read : AreRead (object_texts ++ (topology_texts ++ script_texts))
  pub is : IsObjectOf f.source (word 1 ws) object_texts object
  pub over : IsTopologyOf f.topology ws topology_texts topology
  pub master : NamesMaster f.node ws object
  pub script : AreScript f.script ws script_texts

-- all that the calls gave is right
abbrev pub FormGivenRight : Option Form → List (List ℕ) → List Call → Type 0
FormGivenRight None ws calls = ⊥
FormGivenRight (Some f) ws calls = AreRight (GaveEach calls) f ws

-- ---- the consequence

module _ {I O D : Type 0} (i : Inputs.Ghosts I) (o : Sink.Ghosts O) (d : Device.Ghosts D) where
  -- If the words and inputs are right, the inputs show no cause of a fault, and the sink doesn't fail, then the exit
  -- is Done and all was done, or memory ran out. Over any inputs there is no ReadFault unless their count of faults
  -- rose
  pub record IsComplete (ws : List (List ℕ)) (board is : Standing) (w w' : World I O D) (result : Exit) : Type 0 where
    pub done : i.observable → IsRight ws (i.state w.inputs) → (InputsMayFail ws (i.state w.inputs) → ⊥)
        → (HasFailed (o.state w.sink) (o.state w'.sink) → ⊥)
        → ((result ≡ exit.Done) × (o.observable → IsDone i o d ws board is w w')) ⊎ (result ≡ exit.Memory)
    pub read : (Rose (i.state w.inputs).faults (i.state w'.inputs).faults → ⊥) → result ≢ exit.ReadFault
