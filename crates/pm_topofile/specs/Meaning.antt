-- The topology that a text means, or what is wrong with the text.
use Rattle.std.specs.Prelude.{ℕ, ◌+◌, nat_lt, if◌then◌else◌, List, [], ◌∷◌, length, Option, Some, None, Result, Ok, Err}
use Rattle.pm_io.specs.Lines.{lines_of}
use Rattle.pm_topology.specs.declared.topology.Topology.{Topology}
use Rattle.pm_topology.specs.declared.faults.TopoFault.{TopoFault}
use Rattle.pm_topology.specs.FirstFault.{first_fault}
use Rattle.pm_topofile.specs.declared.fault.TopoTextCause.{TopoTextCause}
use Rattle.pm_topofile.specs.declared.fault.TopoTextCause.TheVariants as causes
use Rattle.pm_topofile.specs.declared.fault.TopologyError.{TopologyError}
use Rattle.pm_topofile.specs.declared.fault.TopologyError.TheVariants.{Bad, Rule}
use Rattle.pm_topofile.specs.declared.item.Item.{Item}
use Rattle.pm_topofile.specs.Reading.{item_of}
use Rattle.pm_topofile.specs.Taking.{nothing, taken}

-- the most bytes of a text
abbrev pub most_bytes : ℕ
most_bytes = 1048576

-- a line with a cause against it is a fault of the text
abbrev pub at_line : ℕ → Result Topology TopoTextCause → Result Topology TopologyError
at_line line (Ok t) = Ok t
at_line line (Err cause) = Err (Bad (record { line = line; cause = cause }))

-- a topology with what a line says that has this item, or whose form is wrong
abbrev pub item_taken : Option Item → Topology → Result Topology TopoTextCause
item_taken None t = Err causes.Form
item_taken (Some item) t = taken item t

-- the topology after the line with a number
unfoldable pub line_taken : ℕ → List ℕ → Topology → Result Topology TopologyError
line_taken line text t = at_line line (item_taken (item_of text) t)

-- what comes after a topology, unless there was a fault
abbrev pub unless_bad : Result Topology TopologyError → (Topology → Result Topology TopologyError) → Result Topology TopologyError
unless_bad (Ok t) after = after t
unless_bad (Err fault) after = Err fault

-- a topology with what these lines say, one after another, whose numbers go on from `line`; or the fault of the first bad one
abbrev pub lines_taken : ℕ → Topology → List (List ℕ) → Result Topology TopologyError
lines_taken line t [] = Ok t
lines_taken line t (text ∷ lines) = unless_bad (line_taken line text t) (λ next. lines_taken (line + 1) next lines)

-- a topology, unless it breaks a rule
abbrev pub unless_broken : Option TopoFault → Topology → Result Topology TopologyError
unless_broken None t = Ok t
unless_broken (Some fault) t = Err (Rule fault)

abbrev pub checked : Topology → Result Topology TopologyError
checked t = unless_broken (first_fault t) t

-- the topology that a text means. A text that is too long is bad as a whole, which line 0 stands for
unfoldable pub meaning : List ℕ → Result Topology TopologyError
meaning text =
    if nat_lt most_bytes (length text) then Err (Bad (record { line = 0; cause = causes.Size }))
    else unless_bad (lines_taken 1 nothing (lines_of text)) checked
