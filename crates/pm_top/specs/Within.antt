-- The effects of the parts of a run. No user of this crate speaks of these words.
use Rattle.std.specs.Prelude.{◌≡◌, ◌⊎◌, ◌==◌, ◌≤◌, ℕ, List, [], ◌∷◌, Option, Some, None, Result, Ok, Err, IfOk, IfSome, IsTrue, ⊤}
use Rattle.std.specs.List.{list_any}
use Rattle.pm_base.specs.declared.errors.Exit.{Exit}
use Rattle.pm_base.specs.declared.names.NodeId.{NodeId}
use Rattle.pm_io.specs.declared.sink.Sink as Sink
use Rattle.pm_io.specs.Calls.{named}
use Rattle.pm_io.specs.Given.{NameGiven}
use Rattle.pm_io.specs.Inputs.{Moment}
use Rattle.pm_io.specs.Prefix.{Prefix, ReadsPrefix}
use Rattle.pm_io.specs.Readings.{Meanwhile, NameReadBy}
use Rattle.pm_object.specs.declared.object.MasterRec.{MasterRec}
use Rattle.pm_object.specs.declared.object.Object.{Object}
use Rattle.pm_object.specs.Grammar.{IsObject}
use Rattle.pm_chip.specs.Chip.{chip}
use Rattle.pm_topology.specs.declared.topology.Topology.{Topology}
use Rattle.pm_topology.specs.WellFormed.{IsSupported}
use Rattle.pm_topofile.specs.Meaning.{meaning}
use Rattle.pm_topofile.specs.Printing.{text_of as table_of}
use Rattle.pm_reach.specs.declared.members.Member.{Member}
use Rattle.pm_reach.specs.Membership.{IsReach}
use Rattle.pm_trace.specs.Reach.{reach_text}
use Rattle.pm_trace.specs.Report.{Report, Reports, refusal}
use Rattle.pm_trace.specs.declared.faults.Fault.{Fault}
use Rattle.pm_trace.specs.declared.faults.Fault.TheVariants.{Memory}
use Rattle.pm_top.specs.declared.works.Form.{Form}
use Rattle.pm_top.specs.declared.works.Source.{Source}
use Rattle.pm_top.specs.declared.reading.Subject.{Subject}
use Rattle.pm_top.specs.Words.{word}
use Rattle.pm_top.specs.declared.works.Source.TheVariants as source
use Rattle.pm_top.specs.Asked.{Says, itself, line_limit, lines_by, object_by, object_limit, subject_of, text_limit, topology_limit, topology_of, with_topology}

-- ---- reading

-- a name gave this prefix: it was read within the limit of its kind, or is a number itself
abbrev pub Takes : Source → Type 0 → List ℕ → Moment → Moment → Prefix → Type 0
Takes source.Object shown name before after prefix = ReadsPrefix shown name object_limit before after prefix
Takes source.Text shown name before after prefix = ReadsPrefix shown name text_limit before after prefix
Takes source.Number shown name before after prefix = (prefix ≡ itself name) × (before ≡ after)
Takes source.Nothing shown name before after prefix = (prefix ≡ itself name) × (before ≡ after)

-- the calls read a name up to one byte past a limit, and gave this prefix of it
pub record GivenOf (name : List ℕ) (limit : ℕ) (before after : Moment) (prefix : Prefix) : Type 0 where
  pub calls : Meanwhile before after (NameReadBy prefix.stop (named name limit))
  pub given : Meanwhile before after (NameGiven limit prefix)

-- so by the kind of the name
abbrev pub GivenFor : Source → List ℕ → Moment → Moment → Prefix → Type 0
GivenFor source.Object name before after prefix = GivenOf name object_limit before after prefix
GivenFor source.Text name before after prefix = GivenOf name text_limit before after prefix
GivenFor source.Number name before after prefix = ⊤
GivenFor source.Nothing name before after prefix = ⊤

-- a name was read, and gives this object or fault
pub record ReadsAs (source : Source) (shown : Type 0) (name : List ℕ) (before after : Moment) (result : Result Object Fault) : Type 0 where
  pub prefix : Prefix
  pub read : Takes source shown name before after prefix
  pub given : GivenFor source name before after prefix
  pub is : object_by source prefix ≡ result
  pub says : IfOk result (Says source prefix.bytes)

-- the text of a topology was read under a name, within its limit, and gives this topology or fault
pub record ReadsText (shown : Type 0) (name : List ℕ) (before after : Moment) (result : Result Topology Fault) : Type 0 where
  pub prefix : Prefix
  pub read : ReadsPrefix shown name topology_limit before after prefix
  pub given : GivenOf name topology_limit before after prefix
  pub is : topology_of prefix ≡ result

-- so under the word at a place; without a place the topology is the chip's, and nothing is read
abbrev pub ReadsTopology : Type 0 → Option ℕ → List (List ℕ) → Moment → Moment → Result Topology Fault → Type 0
ReadsTopology shown None ws before after result = (result ≡ Ok chip) × (before ≡ after)
ReadsTopology shown (Some k) ws before after result = ReadsText shown (word k ws) before after result

-- the topology of a form was read after its object, and then the word that names a master
pub record ReadsRest (shown : Type 0) (f : Form) (ws : List (List ℕ)) (object : Object) (before after : Moment) (result : Result Subject Fault) : Type 0 where
  pub topology : Result Topology Fault
  pub read : ReadsTopology shown f.topology ws before after topology
  pub is : with_topology object topology (lines_by f.source (word 1 ws)) f.node ws ≡ result
  pub supported : IfOk result (λ subject. IsSupported subject.topology)

-- the topology was read after the object; if the object was refused nothing was
abbrev pub ReadsThen : Type 0 → Form → List (List ℕ) → Moment → Moment → Result Object Fault → Result Topology Fault → Type 0
ReadsThen shown f ws before after (Ok object) topology = ReadsTopology shown f.topology ws before after topology
ReadsThen shown f ws before after (Err fault) topology = before ≡ after

-- the first name of a form was read, then its topology, and then the word that names a master
pub record ReadsSubject (shown : Type 0) (f : Form) (ws : List (List ℕ)) (before after : Moment) (result : Result Subject Fault) : Type 0 where
  pub prefix : Prefix
  pub between : Moment
  pub topology : Result Topology Fault
  pub read : Takes f.source shown (word 1 ws) before between prefix
  pub given : GivenFor f.source (word 1 ws) before between prefix
  pub rest : ReadsThen shown f ws between after (object_by f.source prefix) topology
  pub is : subject_of f ws prefix topology ≡ result
  pub says : IfOk result (λ subject. Says f.source prefix.bytes subject.object)
  pub supported : IfOk result (λ subject. IsSupported subject.topology)

-- the master of the subject, if it has one, is one of its object
abbrev pub IsNamed : Subject → Type 0
IsNamed subject = IfSome subject.master (λ master. IsTrue (list_any (λ (r : MasterRec). r.node == master.0) subject.object.masters))

-- the object is well formed, the topology keeps all rules, the master is one of the object, and a generated script
-- isn't too long
pub record IsSubject (subject : Subject) : Type 0 where
  pub object : IsObject subject.object
  pub topology : IsSupported subject.topology
  pub named : IsNamed subject
  pub few : subject.lines ≤ line_limit

-- ---- writing

-- a report of one piece
abbrev pub one_piece : List ℕ → Report
one_piece text = record { body = text ∷ []; fault = None }

module _ {O : Type 0} (o : Sink.Ghosts O) where
  -- such a text was written
  pub record WritesOne (Holds : List ℕ → Type 0) (old new : O) (exit : Exit) : Type 0 where
    pub text : List ℕ
    pub holds : Holds text
    pub reports : Reports o (one_piece text) old new exit

  -- so, or memory ran out
  abbrev pub Writes : (List ℕ → Type 0) → O → O → Exit → Type 0
  Writes Holds old new exit = Reports o (refusal Memory) old new exit ⊎ WritesOne Holds old new exit

-- the text of what a master of an object can reach on a topology
pub record IsReachText (object : Object) (topology : Topology) (master : NodeId) (text : List ℕ) : Type 0 where
  pub members : List Member
  pub reach : IsReach (object ∷ []) topology master members
  pub is : text ≡ reach_text members

-- the text of a topology, which means it
pub record IsTopologyText (topology : Topology) (text : List ℕ) : Type 0 where
  pub is : text ≡ table_of topology
  pub means : meaning text ≡ Ok topology
