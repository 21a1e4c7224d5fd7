-- What the words ask for, by what the inputs hold. A form reads the object or the number of lines, then the topology,
-- then the master, and then the script. Any of these may be the fault that refuses it.
use Rattle.std.specs.Prelude.{◌≡◌, ℕ, ◌≤◌, ◌==◌, Bool, true, if◌then◌else◌, List, [], unwrap_or, Option, Some, None, Result, Ok, Err}
use Rattle.std.specs.List.{list_any}
use Rattle.pm_io.specs.Inputs.{Moment}
use Rattle.pm_base.specs.declared.names.NodeId.{NodeId}
use Rattle.pm_io.specs.declared.prefix.StopReason.{StopReason}
use Rattle.pm_io.specs.declared.prefix.StopReason.TheVariants.{End, Limit, Failure, Unbegun}
use Rattle.pm_io.specs.Numbers.{at_most, greatest_number, number_of}
use Rattle.pm_io.specs.Prefix.{Prefix, prefix_of}
use Rattle.pm_object.specs.declared.object.MasterRec.{MasterRec}
use Rattle.pm_object.specs.declared.object.Object.{Object}
use Rattle.pm_object.specs.declared.object.ObjectFault.{ObjectFault}
use Rattle.pm_object.specs.Grammar.{Reads}
use Rattle.pm_object.specs.Reading.{reading}
use Rattle.pm_gen.specs.Laboratory.{laboratory}
use Rattle.pm_objtext.specs.declared.fault.TextFault.{TextFault}
use Rattle.pm_objtext.specs.Building.{building}
use Rattle.pm_objtext.specs.Meaning.{Means, most_bytes}
use Rattle.pm_chip.specs.Chip.{chip}
use Rattle.pm_topology.specs.declared.topology.Topology.{Topology}
use Rattle.pm_topofile.specs.declared.fault.TopologyError.{TopologyError}
use Rattle.pm_topofile.specs.declared.fault.TopologyError.TheVariants.{Bad, Rule, Memory as NoRoom}
use Rattle.pm_topofile.specs.Meaning.{meaning, most_bytes as most_topology_bytes}
use Rattle.pm_script.specs.Script.{Script, over, script_limit, script_of}
use Rattle.pm_script.specs.Script.Stop.{End as AtEnd}
use Rattle.pm_trace.specs.declared.faults.Fault.{Fault}
use Rattle.pm_trace.specs.declared.faults.Fault.TheVariants.{Memory, Object as BadObject, Text as BadText, Topology as BadTopology, TopologyText, Node, Number, Read}
use Rattle.pm_trace.specs.Scripts.{script_or_fault}
use Rattle.pm_top.specs.declared.works.Form.{Form}
use Rattle.pm_top.specs.declared.works.Source.{Source}
use Rattle.pm_top.specs.declared.works.Source.TheVariants as source
use Rattle.pm_top.specs.declared.reading.Subject.{Subject}
use Rattle.pm_top.specs.Words.{word}

-- the most bytes of an object
abbrev pub object_limit : ℕ
object_limit = 16384

-- the most bytes of the text of an object
abbrev pub text_limit : ℕ
text_limit = most_bytes

-- the most bytes of the text of a topology
abbrev pub topology_limit : ℕ
topology_limit = most_topology_bytes

-- ---- what a name gives

-- the object, or the fault of a bad object
abbrev pub object_or_fault : Result Object ObjectFault → Result Object Fault
object_or_fault (Ok object) = Ok object
object_or_fault (Err fault) = Err (BadObject fault)

-- the object, or the fault of a bad text
abbrev pub text_or_fault : Result Object TextFault → Result Object Fault
text_or_fault (Ok object) = Ok object
text_or_fault (Err fault) = Err (BadText fault)

-- the topology, or the fault of a bad text or of a topology that breaks a rule
abbrev pub topology_or_fault : Result Topology TopologyError → Result Topology Fault
topology_or_fault (Ok topology) = Ok topology
topology_or_fault (Err (Bad fault)) = Err (TopologyText fault)
topology_or_fault (Err (Rule fault)) = Err (BadTopology fault)
topology_or_fault (Err (NoRoom starved)) = Err Memory

-- this result, if the name was read to its end or past its limit; an input that couldn't be opened or read on is a
-- fault
abbrev pub if_read : {T : Type 0} → StopReason → Result T Fault → Result T Fault
if_read End result = result
if_read Limit result = result
if_read Failure result = Err Read
if_read Unbegun result = Err Read

-- the object whose bytes these are, as they were read of a name
abbrev pub object_of : Prefix → Result Object Fault
object_of p = if_read p.stop (object_or_fault (reading p.bytes))

-- the object of the text that was read of a name
abbrev pub built_of : Prefix → Result Object Fault
built_of p = if_read p.stop (text_or_fault (building p.bytes))

-- the topology of the text that was read of a name
abbrev pub topology_of : Prefix → Result Topology Fault
topology_of p = if_read p.stop (topology_or_fault (meaning p.bytes))

-- ---- the number of lines

-- the most lines of a generated script, besides its first lines
abbrev pub line_limit : ℕ
line_limit = 200000

-- a number of lines other than 0
abbrev pub some_lines : Option ℕ → Option ℕ
some_lines None = None
some_lines (Some n) = if n == 0 then None else Some n

-- the number of lines that a word asks for: none if it is no number, 0, or too large
abbrev pub lines_asked : List ℕ → Option ℕ
lines_asked word = some_lines (at_most line_limit (number_of word))

-- the laboratory's object, if the word is a number of lines
abbrev pub laboratory_if : Option ℕ → Result Object Fault
laboratory_if None = Err Number
laboratory_if (Some n) = Ok laboratory

abbrev pub laboratory_for : List ℕ → Result Object Fault
laboratory_for word = laboratory_if (lines_asked word)

-- ---- the object of the word after the command

-- the bytes that are read of a name
abbrev pub first_prefix : ℕ → Moment → List ℕ → Prefix
first_prefix limit m name = prefix_of limit (m.file name) m.room

-- nothing is read for a number, which is its own bytes, or without a word, which counts as an empty one
abbrev pub itself : List ℕ → Prefix
itself word = record { bytes = word; stop = End }

abbrev pub source_prefix : Source → Moment → List ℕ → Prefix
source_prefix source.Object m name = first_prefix object_limit m name
source_prefix source.Text m name = first_prefix text_limit m name
source_prefix source.Number m name = itself name
source_prefix source.Nothing m name = itself name

-- the object of these bytes, by the kind of the word
abbrev pub object_by : Source → Prefix → Result Object Fault
object_by source.Object p = object_of p
object_by source.Text p = built_of p
object_by source.Number p = laboratory_for p.bytes
object_by source.Nothing p = Ok laboratory

-- these bytes are the object, or its text; with a number or without a word it is the laboratory's
abbrev pub Says : Source → List ℕ → Object → Type 0
Says source.Object bytes object = Reads bytes object
Says source.Text bytes object = Means bytes object
Says source.Number bytes object = object ≡ laboratory
Says source.Nothing bytes object = object ≡ laboratory

-- the number of lines of a generated script; 0 if the form generates none
abbrev pub lines_by : Source → List ℕ → ℕ
lines_by source.Object word = 0
lines_by source.Text word = 0
lines_by source.Number word = unwrap_or (lines_asked word) 0
lines_by source.Nothing word = 0

-- the bytes that are read of a later name; it may depend on whether another input can be opened
abbrev pub later_prefix : ℕ → Moment → Bool → List ℕ → Prefix
later_prefix limit m again name = prefix_of limit (m.file name) (if again then 1 else 0)

-- ---- the object, then the topology, and then the master

-- the inputs that can be opened after the first: all for which there was room at first; of others a source may open
-- one or not
pub record Begins (m : Moment) : Type 0 where
  pub second : Bool
  pub third : Bool
  pub two : 2 ≤ m.room → second ≡ true
  pub three : 3 ≤ m.room → third ≡ true

-- the topology of the text named by the word at a place, which may depend on whether another input can be opened;
-- without a word the chip's
abbrev pub topology_by : Option ℕ → List (List ℕ) → Moment → Bool → Result Topology Fault
topology_by None ws m again = Ok chip
topology_by (Some k) ws m again = topology_of (later_prefix topology_limit m again (word k ws))

-- the master with this number, if the object has it
abbrev pub if_master : Object → Option ℕ → Option NodeId
if_master object None = None
if_master object (Some n) = if list_any (λ (r : MasterRec). r.node == n) object.masters then Some (record { 0 = n }) else None

-- the master of an object whose number a word is; none if it is no number, or no master has it
abbrev pub master_of : Object → List ℕ → Option NodeId
master_of object name = if_master object (at_most greatest_number (number_of name))

-- the subject with this master of the object; Node without one
abbrev pub with_named : Object → Topology → ℕ → Option NodeId → Result Subject Fault
with_named object topology lines (Some master) =
    Ok (record { object = object; topology = topology; master = Some master; lines = lines })
with_named object topology lines None = Err Node

-- the subject, with the master in the word at a place, if there is such a place
abbrev pub with_master : Object → Topology → ℕ → Option ℕ → List (List ℕ) → Result Subject Fault
with_master object topology lines None ws = Ok (record { object = object; topology = topology; master = None; lines = lines })
with_master object topology lines (Some k) ws = with_named object topology lines (master_of object (word k ws))

-- the subject of an object, then of its topology, and then of the master
abbrev pub with_topology : Object → Result Topology Fault → ℕ → Option ℕ → List (List ℕ) → Result Subject Fault
with_topology object (Ok topology) lines place ws = with_master object topology lines place ws
with_topology object (Err fault) lines place ws = Err fault

-- the subject if the object was read
abbrev pub subject_by : Result Object Fault → Result Topology Fault → ℕ → Option ℕ → List (List ℕ) → Result Subject Fault
subject_by (Ok object) topology lines place ws = with_topology object topology lines place ws
subject_by (Err fault) topology lines place ws = Err fault

-- the subject of a form, by its first word and its topology
abbrev pub subject_of : Form → List (List ℕ) → Prefix → Result Topology Fault → Result Subject Fault
subject_of f ws p topology = subject_by (object_by f.source p) topology (lines_by f.source (word 1 ws)) f.node ws

-- ---- the script after that

-- the word at a place, if there is such a place
abbrev pub script_word : Option ℕ → List (List ℕ) → List ℕ
script_word None ws = []
script_word (Some k) ws = word k ws

-- the script of a form that reads none: it has no line
abbrev pub no_script : Script
no_script = over AtEnd

-- the script named by the word at a place; it may depend on whether another input can be opened
abbrev pub script_by : Option ℕ → List (List ℕ) → Moment → Bool → Result Script Fault
script_by None ws m again = Ok no_script
script_by (Some k) ws m again = script_or_fault (script_of (later_prefix script_limit m again (word k ws)))

-- the number of the script among the inputs: the third if a word names a topology, else the second
abbrev pub script_turn : Option ℕ → ℕ
script_turn None = 2
script_turn (Some k) = 3

-- whether the script can be opened
abbrev pub script_begins : {m : Moment} → Option ℕ → Begins m → Bool
script_begins None again = again.second
script_begins (Some k) again = again.third

-- all that a form reads
pub record Asked : Type 0 where
  pub subject : Subject
  pub script : Script

abbrev pub with_script : Subject → Result Script Fault → Result Asked Fault
with_script subject (Ok script) = Ok (record { subject = subject; script = script })
with_script subject (Err fault) = Err fault

abbrev pub then_script : Result Subject Fault → Result Script Fault → Result Asked Fault
then_script (Ok subject) script = with_script subject script
then_script (Err fault) script = Err fault

-- all that the words ask for in this form, by what the inputs hold, if these inputs can be opened
abbrev pub asked_of : Form → List (List ℕ) → (m : Moment) → Begins m → Result Asked Fault
asked_of f ws m again =
    then_script
    (subject_of f ws (source_prefix f.source m (word 1 ws)) (topology_by f.topology ws m again.second))
    (script_by f.script ws m (script_begins f.topology again))
