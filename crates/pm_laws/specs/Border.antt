-- The border between what is beyond the reach of a master and what is within. The laws of two worlds hold of every
-- closed border.
use Rattle.std.specs.Prelude.{◌≡◌, ℕ, Bool, true, false, ◌&&◌, ◌==◌, slice_get, position, Option, Some, None, List, [], ◌∷◌}
use Rattle.std.specs.List.{All, AllByRecursion as Each}
use Rattle.pm_base.specs.declared.names.NodeId.{NodeId}
use Rattle.pm_base.specs.declared.names.Unit.{Unit}
use Rattle.pm_base.specs.declared.names.Unit.TheVariants.{Node, Line}
use Rattle.pm_object.specs.Grammar.{IsObject}
use Rattle.pm_object.specs.declared.object.MasterRec.{MasterRec}
use Rattle.pm_object.specs.declared.object.Object.{Object}
use Rattle.pm_rows.specs.declared.row.Pair.{Pair}
use Rattle.pm_topology.specs.declared.places.Kind.{Kind}
use Rattle.pm_topology.specs.declared.places.Kind.TheVariants.{Proc, Slave, Power, Unknown}
use Rattle.pm_topology.specs.Places.{kind_of}
use Rattle.pm_topology.specs.declared.topology.LineDef.{LineDef}
use Rattle.pm_topology.specs.declared.topology.PowerDef.{PowerDef}
use Rattle.pm_topology.specs.declared.topology.ProcDef.{ProcDef}
use Rattle.pm_topology.specs.declared.topology.SlaveDef.{SlaveDef}
use Rattle.pm_topology.specs.declared.topology.Topology.{Topology}
use Rattle.pm_state.specs.Members.{owner_at}
use Rattle.pm_state.specs.Pairs.{pairs_of}
use Rattle.pm_state.specs.Nodes.{named_master}
use Rattle.pm_state.specs.Scope.{is_slave_under, is_under}
use Rattle.pm_state.specs.State.{Fixed, objects_of, usable_among}
use Rattle.pm_grants.specs.Grants.{permits_configure, permits_force, permits_reset, permits_shut, permits_suspend, permits_use, permits_wake}
use Rattle.pm_grants.specs.Several.{all_grants, some_permits}
use Rattle.pm_reach.specs.Leads.{targets}

-- each object of a run is well formed
abbrev pub AreObjects : Fixed → Type 0
AreObjects fixed = Each IsObject (objects_of fixed)

-- the masters, slaves, power nodes and reset lines that are beyond, by their places; the slaves that some master
-- beyond may use; the nodes that are beyond, by their numbers; and whether any master is beyond
pub record Border : Type 0 where
  pub master : ℕ → Bool
  pub slave : ℕ → Bool
  pub used : ℕ → Bool
  pub power : ℕ → Bool
  pub line : ℕ → Bool
  pub node : ℕ → Bool
  pub some : Bool

-- a master is beyond
abbrev pub IsBeyond : Border → ℕ → Type 0
IsBeyond border m = border.master m ≡ true

-- if a master is beyond, some master is
abbrev pub HasSome : Border → Type 0
HasSome border = (m : ℕ) → IsBeyond border m → border.some ≡ true

-- the master of a permitted pair is beyond if its slave is
abbrev pub IsPairClosed : Border → Pair → Type 0
IsPairClosed border pair = border.slave pair.slave ≡ true → IsBeyond border pair.master

-- the master of a permitted pair is within if no master beyond may use its slave
abbrev pub IsUserKnown : Border → Pair → Type 0
IsUserKnown border pair = border.used pair.slave ≡ false → border.master pair.master ≡ false

-- the master at this place is beyond, or there is none
abbrev pub none_within : Border → Option ℕ → Bool
none_within border None = true
none_within border (Some m) = border.master m

-- the reset line at this place is beyond, or there is none
abbrev pub line_beyond : Border → Option ℕ → Bool
line_beyond border None = true
line_beyond border (Some l) = border.line l

-- the unit of this kind and place is beyond, or there is none; a processor is beyond if its owner is
abbrev pub unit_beyond : Object → Topology → Border → Kind → Bool
unit_beyond object t border (Proc p) = none_within border (owner_at object t p)
unit_beyond object t border (Slave s) = border.slave s
unit_beyond object t border (Power w) = border.power w
unit_beyond object t border Unknown = true

-- the unit of a number is beyond, and the configured master of that number too
abbrev pub node_beyond : Object → Topology → Border → NodeId → Bool
node_beyond object t border node =
    unit_beyond object t border (kind_of t node)
    && none_within border (position (λ (master : MasterRec). master.node == node.0) object.masters)

-- notes about a unit's node are told beyond if the node is beyond; about a reset line there are none
abbrev pub is_told : Border → Unit → Bool
is_told border (Node node) = border.node node.0
is_told border (Line line) = false

-- a closed border: nobody within can change what is beyond, by any permission of the loaded object or of the others,
-- which may each come from another of them. The loaded object says which number is which master
pub record IsClosedOver (object : Object) (others : List Object) (t : Topology) (border : Border) : Type 0 where
  -- who may use a slave beyond is beyond
  pub users : Each (λ (o : Object). All (IsPairClosed border) (pairs_of o t)) (object ∷ others)
  -- a slave counts as used beyond exactly if a master beyond may use it
  pub known : Each (λ (o : Object). All (IsUserKnown border) (pairs_of o t)) (object ∷ others)
  pub used : (s : ℕ) → border.used s ≡ true → (k : ℕ) × IsBeyond border k × (some_permits (λ g. permits_use g k s) (all_grants (object ∷ others) t) ≡ true)
  -- whatever is directly below a power node beyond is beyond, or is a processor that no configured master has
  pub slaves : (s : ℕ) (slave : SlaveDef) → slice_get t.slaves s ≡ Some slave
      → border.power slave.parent ≡ true → border.slave s ≡ true
  pub procs : (p m : ℕ) (proc : ProcDef) → slice_get t.procs p ≡ Some proc → border.power proc.parent ≡ true
      → owner_at object t p ≡ Some m → IsBeyond border m
  pub powers : (w v : ℕ) (power : PowerDef) → slice_get t.powers w ≡ Some power → power.parent ≡ Some v
      → border.power v ≡ true → border.power w ≡ true
  -- a node is beyond exactly if its unit and the master of its number are
  pub nodes : (node : NodeId) → border.node node.0 ≡ node_beyond object t border node
  -- the master that a node beyond names is beyond, if it names one
  pub names : (node : NodeId) → border.node node.0 ≡ true
      → none_within border (named_master (record { object = object; topology = t; attached = [] }) node) ≡ true
  -- a master that may suspend or wake a master beyond is beyond
  pub suspends : (m k : ℕ) → some_permits (λ g. permits_suspend g m k) (all_grants (object ∷ others) t) ≡ true → IsBeyond border k → IsBeyond border m
  pub wakes : (m k : ℕ) → some_permits (λ g. permits_wake g m k) (all_grants (object ∷ others) t) ≡ true → IsBeyond border k → IsBeyond border m
  -- a master is beyond if it may force a processor of a master beyond, a power node above one, or a power node above
  -- a slave that a master beyond may use
  pub forces : (m k p : ℕ) (proc : ProcDef) (kind : Kind) → slice_get t.procs p ≡ Some proc
      → some_permits (λ g. permits_force g m kind) (all_grants (object ∷ others) t) ≡ true → is_under t kind p proc.node ≡ true
      → owner_at object t p ≡ Some k → IsBeyond border k → IsBeyond border m
  pub clears : (m k s : ℕ) (slave : SlaveDef) (kind : Kind) → slice_get t.slaves s ≡ Some slave
      → some_permits (λ g. permits_force g m kind) (all_grants (object ∷ others) t) ≡ true → is_slave_under t kind slave.node ≡ true
      → some_permits (λ g. permits_use g k s) (all_grants (object ∷ others) t) ≡ true → IsBeyond border k → IsBeyond border m
  -- a master is beyond if it may reset a processor of a master beyond, or a line beyond
  pub resets : (m k l : ℕ) (line : LineDef) → slice_get t.lines l ≡ Some line
      → some_permits (λ g. permits_reset g m l) (all_grants (object ∷ others) t) ≡ true
      → targets (object ∷ others) t line k ≡ true → IsBeyond border k → IsBeyond border m
  pub lines : (m l : ℕ) → some_permits (λ g. permits_reset g m l) (all_grants (object ∷ others) t) ≡ true → border.line l ≡ true → IsBeyond border m
  -- if any master is beyond, so is each that may shut down more than itself, and each that may set the configuration
  pub shuts : (m subtype : ℕ) → (subtype == 0) ≡ false → some_permits (λ g. permits_shut g m subtype) (all_grants (object ∷ others) t) ≡ true
      → border.some ≡ true → IsBeyond border m
  pub configures : (m : ℕ) → some_permits (λ g. permits_configure g m) (all_grants (object ∷ others) t) ≡ true → border.some ≡ true → IsBeyond border m
  -- if a master is beyond, some master is
  pub some : HasSome border

-- closed by the permissions of a run's objects: the loaded one, and each attached one that can be put in force
abbrev pub IsClosed : Fixed → Border → Type 0
IsClosed fixed border = IsClosedOver fixed.object (usable_among fixed.object fixed.attached) fixed.topology border
