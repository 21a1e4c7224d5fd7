-- The line with which a failed command ends, and its exit.
use Rattle.std.specs.Prelude.{ℕ, List, [], ◌∷◌, Option, Some, None, codes}
use Rattle.pm_base.specs.declared.errors.Exit.{Exit}
use Rattle.pm_base.specs.declared.errors.Exit.TheVariants as exit
use Rattle.pm_trace.specs.declared.faults.Fault.{Fault}
use Rattle.pm_trace.specs.declared.faults.Fault.TheVariants.{Usage, Object, Text, TopologyText, Topology, Line, Read, Memory, Size, Node, Number}
use Rattle.pm_object.specs.Causes.{cause_number}
use Rattle.pm_objtext.specs.declared.fault.TextCause.{TextCause}
use Rattle.pm_objtext.specs.declared.fault.TextCause.TheVariants as texts
use Rattle.pm_topofile.specs.declared.fault.TopoTextCause.{TopoTextCause}
use Rattle.pm_topofile.specs.declared.fault.TopoTextCause.TheVariants as topology_texts
use Rattle.pm_topology.specs.declared.faults.TopoCause.{TopoCause}
use Rattle.pm_topology.specs.declared.faults.TopoCause.TheVariants as topologies
use Rattle.pm_script.specs.declared.meaning.LineFault.{LineFault}
use Rattle.pm_script.specs.declared.meaning.LineFault.TheVariants as lines
use Rattle.pm_trace.specs.declared.line.Word.{Word}
use Rattle.pm_trace.specs.declared.line.Word.TheVariants as word
use Rattle.pm_trace.specs.Line.{line_text}

-- the number of a cause for which a text can't be read
abbrev pub text_cause : TextCause → ℕ
text_cause texts.Form = 1
text_cause texts.Place = 2
text_cause texts.Repeated = 3
text_cause texts.Master = 4
text_cause texts.Size = 5

-- the number of a cause for which the text of a topology can't be read
abbrev pub topology_text_cause : TopoTextCause → ℕ
topology_text_cause topology_texts.Form = 1
topology_text_cause topology_texts.Place = 2
topology_text_cause topology_texts.Parent = 3
topology_text_cause topology_texts.Size = 4

-- the number of a rule that a topology breaks
abbrev pub topology_cause : TopoCause → ℕ
topology_cause topologies.Repeated = 1
topology_cause topologies.ParentLate = 2
topology_cause topologies.NoStates = 3
topology_cause topologies.LastNotFull = 4
topology_cause topologies.TooMany = 5
topology_cause topologies.BadTarget = 6
topology_cause topologies.BadMember = 7
topology_cause topologies.NoMaster = 8
topology_cause topologies.Overlap = 9

-- the number of a cause for which a script line can't be read
abbrev pub line_cause : LineFault → ℕ
line_cause lines.Unknown = 1
line_cause lines.Number = 2
line_cause lines.Count = 3
line_cause lines.Long = 4
line_cause lines.NotAscii = 5

-- the name of a fault, and its place
abbrev pub fault_words : Fault → List Word
fault_words Usage = word.Name (codes "usage") ∷ []
fault_words (Object fault) = word.Name (codes "object") ∷ word.Number (cause_number fault.cause) ∷ word.Number fault.offset ∷ []
fault_words (Text fault) = word.Name (codes "text") ∷ word.Number fault.line ∷ word.Number (text_cause fault.cause) ∷ []
fault_words (TopologyText fault) =
    word.Name (codes "text") ∷ word.Number fault.line ∷ word.Number (topology_text_cause fault.cause) ∷ []
fault_words (Topology fault) =
    word.Name (codes "topology") ∷ word.Number (topology_cause fault.cause) ∷ word.Address fault.place ∷ []
fault_words (Line n cause) = word.Name (codes "line") ∷ word.Number n ∷ word.Number (line_cause cause) ∷ []
fault_words Read = word.Name (codes "read") ∷ []
fault_words Memory = word.Name (codes "memory") ∷ []
fault_words Size = word.Name (codes "size") ∷ []
fault_words Node = word.Name (codes "node") ∷ []
fault_words Number = word.Name (codes "number") ∷ []

-- the line of a fault
abbrev pub fault_text : Fault → List ℕ
fault_text fault = line_text (word.Name (codes "fault") ∷ fault_words fault)

-- the exit of a command that this fault stops
abbrev pub exit_by : Fault → Exit
exit_by Usage = exit.Usage
exit_by (Object fault) = exit.BadObject
exit_by (Text fault) = exit.BadText
exit_by (TopologyText fault) = exit.BadText
exit_by (Topology fault) = exit.BadText
exit_by (Line n cause) = exit.BadLine
exit_by Read = exit.ReadFault
exit_by Memory = exit.Memory
exit_by Size = exit.TooLarge
exit_by Node = exit.BadText
exit_by Number = exit.BadText

-- the exit of a command after all its text, by its fault, if it has one
abbrev pub exit_after : Option Fault → Exit
exit_after None = exit.Done
exit_after (Some fault) = exit_by fault
