-- What the words ask for, by what the calls of a source gave: those on the first name, then those on the topology, and
-- then those on the script.
use Rattle.std.specs.Prelude.{ℕ, List, [], ◌∷◌, Option, Some, None, Result, Ok}
use Rattle.pm_io.specs.Calls.{Call, Begin, Read}
use Rattle.pm_io.specs.Given.{prefix_called}
use Rattle.pm_io.specs.Prefix.{Prefix}
use Rattle.pm_chip.specs.Chip.{chip}
use Rattle.pm_topology.specs.declared.topology.Topology.{Topology}
use Rattle.pm_script.specs.Script.{Script, script_limit, script_of}
use Rattle.pm_trace.specs.declared.faults.Fault.{Fault}
use Rattle.pm_trace.specs.Scripts.{script_or_fault}
use Rattle.pm_top.specs.declared.works.Form.{Form}
use Rattle.pm_top.specs.declared.works.Source.{Source}
use Rattle.pm_top.specs.declared.works.Source.TheVariants as source
use Rattle.pm_top.specs.Asked.{Asked, itself, no_script, object_limit, subject_of, text_limit, then_script, topology_limit, topology_of}
use Rattle.pm_top.specs.Words.{word}

-- ---- the calls on one name

-- the reads before the next call that opens a name
abbrev pub front_reads : List Call → List Call
front_reads [] = []
front_reads (Begin name answer ∷ calls) = []
front_reads (Read id answer ∷ calls) = Read id answer ∷ front_reads calls

-- that call, and all after it
abbrev pub behind_reads : List Call → List Call
behind_reads [] = []
behind_reads (Begin name answer ∷ calls) = Begin name answer ∷ calls
behind_reads (Read id answer ∷ calls) = behind_reads calls

-- the calls on the name that the first one opens
abbrev pub first_calls : List Call → List Call
first_calls [] = []
first_calls (call ∷ calls) = call ∷ front_reads calls

-- the calls on the names after it
abbrev pub later_calls : List Call → List Call
later_calls [] = []
later_calls (call ∷ calls) = behind_reads calls

-- ---- what they gave

-- the bytes for the first word: what the calls on that name gave; a number is its own bytes, and so is an empty word
abbrev pub source_called : Source → List ℕ → List Call → Prefix
source_called source.Object name calls = prefix_called object_limit (first_calls calls)
source_called source.Text name calls = prefix_called text_limit (first_calls calls)
source_called source.Number name calls = itself name
source_called source.Nothing name calls = itself name

-- the calls after it
abbrev pub behind_source : Source → List Call → List Call
behind_source source.Object calls = later_calls calls
behind_source source.Text calls = later_calls calls
behind_source source.Number calls = calls
behind_source source.Nothing calls = calls

-- the topology that they gave if a word names one; else it is the chip's
abbrev pub topology_called : Option ℕ → List Call → Result Topology Fault
topology_called None calls = Ok chip
topology_called (Some k) calls = topology_of (prefix_called topology_limit (first_calls calls))

-- the calls after those on the topology
abbrev pub behind_topology : Option ℕ → List Call → List Call
behind_topology None calls = calls
behind_topology (Some k) calls = later_calls calls

-- the script that they gave, if a word names one
abbrev pub script_called : Option ℕ → List Call → Result Script Fault
script_called None calls = Ok no_script
script_called (Some k) calls = script_or_fault (script_of (prefix_called script_limit calls))

-- the topology that all calls of a form gave, or the chip's
abbrev pub topology_given : Form → List Call → Result Topology Fault
topology_given f calls = topology_called f.topology (behind_source f.source calls)

-- all that the words ask for in this form, by what all its calls gave
abbrev pub asked_given : Form → List (List ℕ) → List Call → Result Asked Fault
asked_given f ws calls =
    then_script
    (subject_of f ws (source_called f.source (word 1 ws) calls) (topology_given f calls))
    (script_called f.script (behind_topology f.topology (behind_source f.source calls)))
