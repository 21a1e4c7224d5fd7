-- A well-formed topology: what holds of its five lists, whichever way they are read.
use Rattle.std.specs.Prelude.{◌≡◌, ◌≢◌, ℕ, ◌-◌, ◌<◌, ◌≤◌, ◌⊎◌, IsTrue, IfSome, Some, List, length, slice_get, bit_and}
use Rattle.pm_base.specs.declared.names.NodeId.{NodeId}
use Rattle.pm_topology.specs.declared.topology.MasterDef.{MasterDef}
use Rattle.pm_topology.specs.declared.topology.SlaveState.{SlaveState}
use Rattle.pm_topology.specs.declared.topology.Topology.{Topology}
use Rattle.pm_base.specs.Masters.{is_master_number, master_numbers}
use Rattle.pm_topology.specs.Masters.{may_have, share, may_share}

-- this holds of each entry and its place
abbrev pub EachEntry : {X : Type 0} → List X → (ℕ → X → Type 0) → Type 0
EachEntry {X} xs P = (k : ℕ) (x : X) → slice_get xs k ≡ Some x → P k x

-- some entry has this number
abbrev pub HasNumber : {X : Type 0} → (X → ℕ) → List X → ℕ → Type 0
HasNumber {X} number xs n = (k : ℕ) × (x : X) × (slice_get xs k ≡ Some x) × (number x ≡ n)

-- no two entries of the list have the same number
abbrev pub AreDistinct : {X : Type 0} → (X → ℕ) → List X → Type 0
AreDistinct {X} number xs = (j k : ℕ) (x y : X) → slice_get xs j ≡ Some x → slice_get xs k ≡ Some y → number x ≡ number y → j ≡ k

-- no entry of the one list has a number of the other
abbrev pub AreApart : {X Y : Type 0} → (X → ℕ) → List X → (Y → ℕ) → List Y → Type 0
AreApart {X} {Y} number xs number' ys = (j k : ℕ) (x : X) (y : Y) → slice_get xs j ≡ Some x → slice_get ys k ≡ Some y → number x ≢ number' y

-- one to four states, the last of which has each capability of each of them and latency 0
pub record HasFullLast (states : List SlaveState) : Type 0 where
  pub some : 0 < length states
  pub few : length states ≤ 4
  pub last : SlaveState
  pub is_last : slice_get states (length states - 1) ≡ Some last
  pub at_once : last.latency ≡ 0
  pub full : EachEntry states (λ _ s. bit_and last.caps.0 s.caps.0 ≡ s.caps.0)

abbrev pub IsProc : Topology → NodeId → Type 0
IsProc t n = HasNumber (λ p. p.node.0) t.procs n.0

abbrev pub IsSlave : Topology → NodeId → Type 0
IsSlave t n = HasNumber (λ s. s.node.0) t.slaves n.0

-- the rules on the numbers and the processors of masters
pub record ObeysMasterRules (t : Topology) : Type 0 where
  -- each master has the number of one, and each of these numbers has its master
  pub numbers : EachEntry t.masters (λ _ m. IsTrue (is_master_number m.node.0))
  pub all : EachEntry master_numbers (λ _ n. HasNumber (λ m. m.node.0) t.masters n)
  -- a master has only processors that it may have, and none twice
  pub own : EachEntry t.masters (λ _ m. EachEntry m.procs (λ _ p. IsTrue (may_have m.node.0 p.0)))
  pub once : EachEntry t.masters (λ _ m. AreDistinct (λ p. p.0) m.procs)
  -- masters that have a processor in common may have one
  pub apart : (j k : ℕ) (m n : MasterDef)
      → slice_get t.masters j ≡ Some m
      → slice_get t.masters k ≡ Some n
      → j ≢ k
      → IsTrue (share m n)
      → IsTrue (may_share m n)

pub record IsWellFormed (t : Topology) : Type 0 where
  -- no list is over its limit
  pub few_powers : length t.powers ≤ 64
  pub few_procs : length t.procs ≤ 64
  pub few_slaves : length t.slaves ≤ 512
  pub few_lines : length t.lines ≤ 1024
  pub few_masters : length t.masters ≤ 4
  -- power nodes, processors and slaves share one space of numbers; lines and masters have one each
  pub powers_distinct : AreDistinct (λ p. p.node.0) t.powers
  pub procs_distinct : AreDistinct (λ p. p.node.0) t.procs
  pub slaves_distinct : AreDistinct (λ s. s.node.0) t.slaves
  pub powers_procs : AreApart (λ p. p.node.0) t.powers (λ p. p.node.0) t.procs
  pub powers_slaves : AreApart (λ p. p.node.0) t.powers (λ s. s.node.0) t.slaves
  pub procs_slaves : AreApart (λ p. p.node.0) t.procs (λ s. s.node.0) t.slaves
  pub lines_distinct : AreDistinct (λ l. l.line.0) t.lines
  pub masters_distinct : AreDistinct (λ m. m.node.0) t.masters
  -- each parent is a power node, and that of a power node stands earlier
  pub power_parents : EachEntry t.powers (λ k p. IfSome p.parent (λ w. w < k))
  pub proc_parents : EachEntry t.procs (λ _ p. p.parent < length t.powers)
  pub slave_parents : EachEntry t.slaves (λ _ s. s.parent < length t.powers)
  pub states : EachEntry t.slaves (λ _ s. HasFullLast s.states)
  -- a line resets a processor or a slave, and a master has one processor at least
  pub targets : EachEntry t.lines (λ _ l. IfSome l.target (λ n. IsProc t n ⊎ IsSlave t n))
  pub members : EachEntry t.masters (λ _ m. (0 < length m.procs) × EachEntry m.procs (λ _ n. IsProc t n))
  pub masters : ObeysMasterRules t

-- no capability of a state has a bit other than ACCESS, CONTEXT and WAKEUP
abbrev pub HasKnownCaps : Topology → Type 0
HasKnownCaps t = EachEntry t.slaves (λ _ s. EachEntry s.states (λ _ e. e.caps.0 < 8))

-- a topology that the core takes: it passes its check, and its capabilities are known ones
pub record IsSupported (t : Topology) : Type 0 where
  pub well_formed : IsWellFormed t
  pub known : HasKnownCaps t
