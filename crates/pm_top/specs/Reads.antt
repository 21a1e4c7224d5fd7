-- The names that a run opens, in their order, and how far it reads each.
use Rattle.std.specs.Prelude.{◌≡◌, ◌⊎◌, ℕ, List, [], ◌∷◌, ◌++◌, map, Option, Some, None, Result, Ok, Err, ⊤}
use Rattle.pm_base.specs.declared.errors.Exit.{Exit}
use Rattle.pm_base.specs.declared.errors.Exit.TheVariants as exit
use Rattle.pm_io.specs.Calls.{Call, Named, ReadsEach, ReadsOn, ReadsToFault, begun, named}
use Rattle.pm_script.specs.Script.{script_limit}
use Rattle.pm_trace.specs.declared.faults.Fault.{Fault}
use Rattle.pm_trace.specs.declared.faults.Fault.TheVariants as faults
use Rattle.pm_trace.specs.Scripts.{ReadsScript, script_named}
use Rattle.pm_top.specs.declared.works.Form.{Form}
use Rattle.pm_top.specs.declared.works.Source.{Source}
use Rattle.pm_top.specs.declared.works.Source.TheVariants as source
use Rattle.pm_top.specs.Asked.{object_limit, text_limit, topology_limit}
use Rattle.pm_top.specs.Words.{word}

-- the name that is read first, if there is one: of an object, or of its text
abbrev pub source_named : Source → List ℕ → List Named
source_named source.Object name = named name object_limit ∷ []
source_named source.Text name = named name text_limit ∷ []
source_named source.Number name = []
source_named source.Nothing name = []

-- the name of the text of a topology, if the form has one
abbrev pub topology_named : Option ℕ → List (List ℕ) → List Named
topology_named None ws = []
topology_named (Some k) ws = named (word k ws) topology_limit ∷ []

-- the name of the script, if the form has one
abbrev pub script_names : Option ℕ → List (List ℕ) → List Named
script_names None ws = []
script_names (Some k) ws = named (word k ws) script_limit ∷ []

-- the calls of a reading of some names that came to a fault: the last call failed; or memory ran out somewhere; or
-- all were read, and are refused
abbrev pub RefusedReads : Fault → List Named → List Call → Type 0
RefusedReads faults.Usage names calls = ⊥
RefusedReads (faults.Object fault) names calls = ReadsEach names calls
RefusedReads (faults.Text fault) names calls = ReadsEach names calls
RefusedReads (faults.TopologyText fault) names calls = ReadsEach names calls
RefusedReads (faults.Topology fault) names calls = ReadsEach names calls
RefusedReads (faults.Line n cause) names calls = ⊥
RefusedReads faults.Read names calls = ReadsToFault names calls
RefusedReads faults.Memory names calls = ReadsOn names calls
RefusedReads faults.Size names calls = ⊥
RefusedReads faults.Node names calls = ReadsEach names calls
RefusedReads faults.Number names calls = ReadsEach names calls

-- the calls of a reading of some names, by its result
abbrev pub ReadsFor : {T : Type 0} → Result T Fault → List Named → List Call → Type 0
ReadsFor (Ok it) names calls = ReadsEach names calls
ReadsFor (Err fault) names calls = RefusedReads fault names calls

-- the faults for which the first word of a form may be refused, by its kind
abbrev pub IsOfSource : Source → Fault → Type 0
IsOfSource s (faults.Object fault) = s ≡ source.Object
IsOfSource s (faults.Text fault) = s ≡ source.Text
IsOfSource s faults.Number = s ≡ source.Number
IsOfSource s (faults.TopologyText fault) = ⊥
IsOfSource s (faults.Topology fault) = ⊥
IsOfSource s faults.Node = ⊥
IsOfSource s fault = ⊤

-- a fault for which a form isn't refused at its object
abbrev pub IsFaultBehind : Fault → Type 0
IsFaultBehind (faults.Object fault) = ⊥
IsFaultBehind fault = ⊤

-- the calls of a reading of a first name and of the topology, if there are such, by its fault: if the object is
-- refused the topology isn't read
abbrev pub RefusedSubject : Fault → List Named → List Named → List Call → Type 0
RefusedSubject (faults.Object fault) first topology calls = ReadsEach first calls
RefusedSubject fault first topology calls = RefusedReads fault (first ++ topology) calls

-- these calls, by the result
abbrev pub SubjectReads : {T : Type 0} → Result T Fault → List Named → List Named → List Call → Type 0
SubjectReads (Ok it) first topology calls = ReadsEach (first ++ topology) calls
SubjectReads (Err fault) first topology calls = RefusedSubject fault first topology calls

-- the first names are read whole, and then the others are opened, each once and in their order, and read up to some
-- point
pub record ReadsPart (first second : List Named) (calls : List Call) : Type 0 where
  pub one : List Call
  pub two : List Call
  pub is : calls ≡ one ++ two
  pub whole : ReadsEach first one
  pub on : ReadsOn second two
  pub starts : begun two ≡ map (λ n. n.name) second

-- the first names are read whole, and then the others up to a call that failed
pub record ReadsPartToFault (first second : List Named) (calls : List Call) : Type 0 where
  pub one : List Call
  pub two : List Call
  pub is : calls ≡ one ++ two
  pub whole : ReadsEach first one
  pub fault : ReadsToFault second two

-- the calls of a run that reads a first name, a topology and a script, if there are such, by its exit. Bytes behind
-- the first lines of a script are read before these are run; so a read of them may have failed if the sink breaks off
-- or memory runs out
abbrev pub ReadsBy : Exit → List Named → List Named → List Named → List Call → Type 0
ReadsBy exit.Done first topology script calls = ReadsEach ((first ++ topology) ++ script) calls
ReadsBy exit.TooLarge first topology script calls = ReadsEach ((first ++ topology) ++ script) calls
ReadsBy exit.BadLine first topology script calls = ReadsPart (first ++ topology) script calls
ReadsBy exit.WriteFault first topology script calls =
    ReadsPart (first ++ topology) script calls ⊎ ReadsPartToFault (first ++ topology) script calls
ReadsBy exit.ReadFault first topology script calls = ReadsToFault ((first ++ topology) ++ script) calls
ReadsBy exit.Memory first topology script calls =
    ReadsOn ((first ++ topology) ++ script) calls ⊎ ReadsPartToFault (first ++ topology) script calls
ReadsBy exit.BadObject first topology script calls = ReadsEach first calls
ReadsBy exit.BadText first topology script calls = ReadsEach (first ++ topology) calls
ReadsBy exit.Usage first topology script calls = ⊥

-- the calls of a run by the form of its words: words without a form read nothing
abbrev pub FormReads : Option Form → List (List ℕ) → Exit → List Call → Type 0
FormReads None ws due calls = calls ≡ []
FormReads (Some f) ws due calls =
    ReadsBy due (source_named f.source (word 1 ws)) (topology_named f.topology ws) (script_names f.script ws) calls

-- the exits of a work that reads no script
abbrev pub EndsBare : Exit → Type 0
EndsBare exit.Done = ⊤
EndsBare exit.WriteFault = ⊤
EndsBare exit.Memory = ⊤
EndsBare exit.Usage = ⊥
EndsBare exit.BadObject = ⊥
EndsBare exit.BadLine = ⊥
EndsBare exit.ReadFault = ⊥
EndsBare exit.TooLarge = ⊥
EndsBare exit.BadText = ⊥

-- the calls of a work by its form: it reads its script, if it has one
abbrev pub WorkReads : Option ℕ → List ℕ → Exit → List Call → Type 0
WorkReads None name due calls = (calls ≡ []) × EndsBare due
WorkReads (Some k) name due calls = ReadsScript due (script_named name) calls
