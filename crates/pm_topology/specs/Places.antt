-- Where a node stands in a topology, and which power nodes are above it.
use Rattle.std.specs.Prelude.{◌≡◌, ℕ, ◌==◌, Bool, Option, Some, None, List, [], ◌∷◌, length, slice_get, position, option_and_then, zero, suc}
use Rattle.std.specs.Option.{option_map}
use Rattle.std.specs.List.{list_any}
use Rattle.pm_base.specs.declared.names.NodeId.{NodeId}
use Rattle.pm_topology.specs.declared.topology.SlaveDef.{SlaveDef}
use Rattle.pm_topology.specs.declared.topology.ProcDef.{ProcDef}
use Rattle.pm_topology.specs.declared.topology.PowerDef.{PowerDef}
use Rattle.pm_topology.specs.declared.topology.LineDef.{LineDef}
use Rattle.pm_topology.specs.declared.topology.Topology.{Topology}
use Rattle.pm_topology.specs.declared.places.Kind.{Kind}
use Rattle.pm_topology.specs.declared.places.Kind.TheVariants.{Proc, Slave, Power, Unknown}
use Rattle.pm_topology.specs.WellFormed.{HasNumber, IsWellFormed}

-- the place of the entry that has a number
abbrev pub proc_place : List ProcDef → ℕ → Option ℕ
proc_place procs number = position (λ p. p.node.0 == number) procs

abbrev pub slave_place : List SlaveDef → ℕ → Option ℕ
slave_place slaves number = position (λ s. s.node.0 == number) slaves

abbrev pub power_place : List PowerDef → ℕ → Option ℕ
power_place powers number = position (λ p. p.node.0 == number) powers

abbrev pub line_place : List LineDef → ℕ → Option ℕ
line_place lines number = position (λ l. l.line.0 == number) lines

-- the kind of a node, given its place in the three lists: in a chip that is well-formed it has one at most
abbrev pub kind_at : Option ℕ → Option ℕ → Option ℕ → Kind
kind_at (Some k) slave power = Proc k
kind_at None slave (Some k) = Power k
kind_at None (Some k) None = Slave k
kind_at None None None = Unknown

abbrev pub kind_of : Topology → NodeId → Kind
kind_of t n = kind_at (proc_place t.procs n.0) (slave_place t.slaves n.0) (power_place t.powers n.0)

-- the place of a processor, of a slave or of a power node: none where the kind is another
abbrev pub proc_of : Kind → Option ℕ
proc_of (Proc p) = Some p
proc_of _ = None

abbrev pub slave_of : Kind → Option ℕ
slave_of (Slave s) = Some s
slave_of _ = None

abbrev pub power_of : Kind → Option ℕ
power_of (Power w) = Some w
power_of _ = None

-- the entry of this kind and place has this number; of the kind Unknown, no entry has it
abbrev pub IsKind : Topology → NodeId → Kind → Type 0
IsKind t n (Proc k) = (p : ProcDef) × (slice_get t.procs k ≡ Some p) × (p.node.0 ≡ n.0)
IsKind t n (Slave k) = (s : SlaveDef) × (slice_get t.slaves k ≡ Some s) × (s.node.0 ≡ n.0)
IsKind t n (Power k) = (p : PowerDef) × (slice_get t.powers k ≡ Some p) × (p.node.0 ≡ n.0)
IsKind t n Unknown =
    (HasNumber (λ p. p.node.0) t.procs n.0 → ⊥)
    × (HasNumber (λ s. s.node.0) t.slaves n.0 → ⊥)
    × (HasNumber (λ p. p.node.0) t.powers n.0 → ⊥)

-- what holds of the kinds of the nodes of every chip: that of a node is one of its number, and in a well-formed
-- topology no other is
pub record KindLaws : Type 0 where
  pub is : (t : Topology) (n : NodeId) → IsKind t n (kind_of t n)
  pub alone : (t : Topology) (n : NodeId) (kind : Kind) → IsWellFormed t → IsKind t n kind → kind ≡ kind_of t n

-- the place of the power node directly above a node
abbrev pub power_parent : List PowerDef → ℕ → Option ℕ
power_parent powers w = option_and_then (λ p. p.parent) (slice_get powers w)

abbrev pub parent_at : Topology → Kind → Option ℕ
parent_at t (Proc k) = option_map (λ p. p.parent) (slice_get t.procs k)
parent_at t (Slave k) = option_map (λ s. s.parent) (slice_get t.slaves k)
parent_at t (Power k) = power_parent t.powers k
parent_at t Unknown = None

abbrev pub parent_of : Topology → NodeId → Option ℕ
parent_of t n = parent_at t (kind_of t n)

-- the power nodes from this one on upwards; there are no more of them than power nodes
abbrev pub upwards : ℕ → List PowerDef → Option ℕ → List ℕ
upwards zero powers from = []
upwards (suc left) powers None = []
upwards (suc left) powers (Some w) = w ∷ upwards left powers (power_parent powers w)

-- the power nodes above a node, the nearest first
abbrev pub above : Topology → NodeId → List ℕ
above t n = upwards (length t.powers) t.powers (parent_of t n)

-- whether a node has the power node at a place above it, at any height
abbrev pub is_below : Topology → ℕ → NodeId → Bool
is_below t w n = list_any (λ v. v == w) (above t n)

-- the power node at w is the one at v or is above it
pub data IsAtOrAbove (powers : List PowerDef) (w : ℕ) : ℕ → Type 0 where
  here : IsAtOrAbove powers w w
  higher : (v u : ℕ) → power_parent powers v ≡ Some u → IsAtOrAbove powers w u → IsAtOrAbove powers w v

-- a node has the power node at w above it where its parent is that node or has it above
abbrev pub IsBelow : Topology → ℕ → NodeId → Type 0
IsBelow t w n = (v : ℕ) × (parent_of t n ≡ Some v) × IsAtOrAbove t.powers w v
