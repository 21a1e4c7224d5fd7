-- The text of a topology.
use Rattle.std.specs.Prelude.{ℕ, zero, suc, ◌-◌, ◌/◌, ◌<◌, ◌^◌, ⊤, Bool, if◌then◌else◌, List, [], ◌∷◌, ◌++◌, length, take, drop, map, decimal, slice_get, Option, Some, None, option_and_then}
use Rattle.std.specs.List.{flat_map, AllByRecursion}
use Rattle.std.specs.Option.{option_map}
use Rattle.pm_base.specs.declared.names.NodeId.{NodeId}
use Rattle.pm_topology.specs.declared.topology.SlaveState.{SlaveState}
use Rattle.pm_topology.specs.declared.topology.SlaveDef.{SlaveDef}
use Rattle.pm_topology.specs.declared.topology.ProcDef.{ProcDef}
use Rattle.pm_topology.specs.declared.topology.PowerDef.{PowerDef}
use Rattle.pm_topology.specs.declared.topology.LineDef.{LineDef}
use Rattle.pm_topology.specs.declared.topology.MasterDef.{MasterDef}
use Rattle.pm_topology.specs.declared.topology.Topology.{Topology}
use Rattle.pm_topofile.specs.declared.table.Keyword.{Keyword}
use Rattle.pm_topofile.specs.declared.table.Keyword.TheVariants as keywords
use Rattle.pm_topofile.specs.Table.{keyword_text, none_text}

-- ---- words

-- a number of 32 bits, or none
abbrev pub IsSmall : Option ℕ → Type 0
IsSmall None = ⊤
IsSmall (Some n) = n < 2 ^ 32

abbrev pub AreSmall : List (Option ℕ) → Type 0
AreSmall words = AllByRecursion IsSmall words

-- a word after another: a space, and decimal digits or `none`
abbrev pub word_text : Option ℕ → List ℕ
word_text None = 32 ∷ none_text
word_text (Some n) = 32 ∷ decimal n

abbrev pub flag : Bool → Option ℕ
flag set = Some (if set then 1 else 0)

abbrev pub number_of : NodeId → Option ℕ
number_of node = Some node.0

-- a line of a keyword and more words, with its line feed
abbrev pub line_text : Keyword → List (Option ℕ) → List ℕ
line_text keyword words = keyword_text keyword ++ (flat_map word_text words ++ 10 ∷ [])

-- ---- the words of entries

-- the number of the power node at a place
abbrev pub power_at : List PowerDef → ℕ → Option ℕ
power_at powers place = option_map (λ p. p.node.0) (slice_get powers place)

abbrev pub power_words : List PowerDef → PowerDef → List (Option ℕ)
power_words powers p = Some p.node.0 ∷ option_and_then (power_at powers) p.parent ∷ flag p.held ∷ Some p.figure ∷ Some p.latency ∷ []

abbrev pub proc_words : List PowerDef → ProcDef → List (Option ℕ)
proc_words powers p = Some p.node.0 ∷ power_at powers p.parent ∷ Some p.figure ∷ Some p.latency ∷ []

abbrev pub slave_words : List PowerDef → SlaveDef → List (Option ℕ)
slave_words powers s = Some s.node.0 ∷ power_at powers s.parent ∷ []

abbrev pub state_words : SlaveState → List (Option ℕ)
state_words s = Some s.caps.0 ∷ Some s.latency ∷ flag s.powered ∷ Some s.figure ∷ []

abbrev pub reset_words : LineDef → List (Option ℕ)
reset_words l = Some l.line.0 ∷ option_map (λ (n : NodeId). n.0) l.target ∷ []

abbrev pub owner_words : NodeId → List NodeId → List (Option ℕ)
owner_words node procs = Some node.0 ∷ map number_of procs

-- ---- numbers of 32 bits

-- what the lines of a slave and of its states need
pub record IsSmallSlave (powers : List PowerDef) (s : SlaveDef) : Type 0 where
  pub words : AreSmall (slave_words powers s)
  pub states : AllByRecursion (λ state. AreSmall (state_words state)) s.states

-- each number of a topology has 32 bits
pub record HasSmallNumbers (t : Topology) : Type 0 where
  pub powers : AllByRecursion (λ p. AreSmall (power_words t.powers p)) t.powers
  pub procs : AllByRecursion (λ p. AreSmall (proc_words t.powers p)) t.procs
  pub slaves : AllByRecursion (IsSmallSlave t.powers) t.slaves
  pub lines : AllByRecursion (λ l. AreSmall (reset_words l)) t.lines
  pub masters : AllByRecursion (λ m. AreSmall (owner_words m.node m.procs)) t.masters

-- ---- their lines

abbrev pub power_text : List PowerDef → PowerDef → List ℕ
power_text powers p = line_text keywords.Power (power_words powers p)

abbrev pub proc_text : List PowerDef → ProcDef → List ℕ
proc_text powers p = line_text keywords.Proc (proc_words powers p)

abbrev pub state_text : SlaveState → List ℕ
state_text s = line_text keywords.State (state_words s)

-- a slave, and then its states
abbrev pub slave_text : List PowerDef → SlaveDef → List ℕ
slave_text powers s = line_text keywords.Slave (slave_words powers s) ++ flat_map state_text s.states

abbrev pub reset_text : LineDef → List ℕ
reset_text l = line_text keywords.Line (reset_words l)

abbrev pub owner_line : NodeId → List NodeId → List ℕ
owner_line node procs = line_text keywords.Owner (owner_words node procs)

-- so many lines of 16 processors each, and one with the processors that are left
abbrev pub owner_lines : ℕ → NodeId → List NodeId → List ℕ
owner_lines zero node procs = owner_line node procs
owner_lines (suc full) node procs = owner_line node (take 16 procs) ++ owner_lines full node (drop 16 procs)

-- each line of a master but the last has 16 processors, and the last has 1 to 16
abbrev pub owner_text : MasterDef → List ℕ
owner_text m = owner_lines ((length m.procs - 1) / 16) m.node m.procs

-- the text of a topology
unfoldable pub text_of : Topology → List ℕ
text_of t =
    flat_map (power_text t.powers) t.powers
    ++ (flat_map (proc_text t.powers) t.procs
    ++ (flat_map (slave_text t.powers) t.slaves
    ++ (flat_map reset_text t.lines
    ++ flat_map owner_text t.masters)))
