-- The rules of a topology entry by entry, their order, and the first entry that breaks one.
use Rattle.std.specs.Prelude.{◌≡◌, ◌≢◌, ℕ, ◌<◌, ◌≤◌, ◌⊎◌, ⊤, IsTrue, IfSome, List, length, slice_get}
use Rattle.pm_topology.specs.declared.topology.SlaveDef.{SlaveDef}
use Rattle.pm_topology.specs.declared.topology.ProcDef.{ProcDef}
use Rattle.pm_topology.specs.declared.topology.PowerDef.{PowerDef}
use Rattle.pm_topology.specs.declared.topology.LineDef.{LineDef}
use Rattle.pm_topology.specs.declared.topology.MasterDef.{MasterDef}
use Rattle.pm_topology.specs.declared.topology.Topology.{Topology}
use Rattle.pm_topology.specs.declared.faults.TopoCause.{TopoCause}
use Rattle.pm_topology.specs.declared.faults.TopoCause.TheVariants.{Repeated, ParentLate, NoStates, LastNotFull, TooMany, BadTarget, BadMember, NoMaster, Overlap}
use Rattle.pm_topology.specs.declared.faults.TopoFault.{TopoFault}
use Rattle.pm_base.specs.Masters.{is_master_number, master_numbers}
use Rattle.pm_topology.specs.Masters.{may_have, share, may_share}
use Rattle.pm_topology.specs.WellFormed.{EachEntry, HasNumber, AreDistinct, HasFullLast, IsProc, IsSlave}

-- the lists of a topology
pub data Entries : Type 0 where
  Powers : Entries
  Procs : Entries
  Slaves : Entries
  Lines : Entries
  Masters : Entries

-- the order in which the lists are judged
abbrev pub list_turn : Entries → ℕ
list_turn Powers = 0
list_turn Procs = 1
list_turn Slaves = 2
list_turn Lines = 3
list_turn Masters = 4

-- the order in which the rules of an entry are tried
abbrev pub rule_turn : TopoCause → ℕ
rule_turn TooMany = 0
rule_turn Repeated = 1
rule_turn ParentLate = 2
rule_turn NoStates = 3
rule_turn LastNotFull = 4
rule_turn BadTarget = 5
rule_turn BadMember = 6
rule_turn Overlap = 7
rule_turn NoMaster = 8

-- no entry of the list has this number, none before a place
abbrev pub HasNone : {X : Type 0} → (X → ℕ) → List X → ℕ → Type 0
HasNone {X} number xs n = EachEntry xs (λ _ x. number x ≢ n)

abbrev pub HasNoneBefore : {X : Type 0} → (X → ℕ) → ℕ → List X → ℕ → Type 0
HasNoneBefore {X} number k xs n = EachEntry xs (λ j x. j < k → number x ≢ n)

-- the rule that a power node keeps, by the cause that tells that it doesn't
abbrev pub PowerObeys : Topology → TopoCause → ℕ → PowerDef → Type 0
PowerObeys t TooMany k p = k < 64
PowerObeys t Repeated k p = HasNoneBefore (λ q. q.node.0) k t.powers p.node.0
PowerObeys t ParentLate k p = IfSome p.parent (λ w. w < k)
PowerObeys t cause k p = ⊤

abbrev pub ProcObeys : Topology → TopoCause → ℕ → ProcDef → Type 0
ProcObeys t TooMany k p = k < 64
ProcObeys t Repeated k p =
    HasNone (λ q. q.node.0) t.powers p.node.0 × HasNoneBefore (λ q. q.node.0) k t.procs p.node.0
ProcObeys t ParentLate k p = p.parent < length t.powers
ProcObeys t cause k p = ⊤

abbrev pub SlaveObeys : Topology → TopoCause → ℕ → SlaveDef → Type 0
SlaveObeys t TooMany k s = (k < 512) × (length s.states ≤ 4)
SlaveObeys t Repeated k s =
    HasNone (λ p. p.node.0) t.powers s.node.0
    × HasNone (λ p. p.node.0) t.procs s.node.0
    × HasNoneBefore (λ r. r.node.0) k t.slaves s.node.0
SlaveObeys t ParentLate k s = s.parent < length t.powers
SlaveObeys t NoStates k s = 0 < length s.states
SlaveObeys t LastNotFull k s = HasFullLast s.states
SlaveObeys t cause k s = ⊤

abbrev pub LineObeys : Topology → TopoCause → ℕ → LineDef → Type 0
LineObeys t TooMany k l = k < 1024
LineObeys t Repeated k l = HasNoneBefore (λ e. e.line.0) k t.lines l.line.0
LineObeys t BadTarget k l = IfSome l.target (λ n. IsProc t n ⊎ IsSlave t n)
LineObeys t cause k l = ⊤

-- a master has the number of one, and processors: those of the table that it may have, each once
pub record HasGoodMembers (t : Topology) (m : MasterDef) : Type 0 where
  pub number : IsTrue (is_master_number m.node.0)
  pub some : 0 < length m.procs
  pub members : EachEntry m.procs (λ _ n. IsProc t n)
  pub own : EachEntry m.procs (λ _ p. IsTrue (may_have m.node.0 p.0))
  pub once : AreDistinct (λ p. p.0) m.procs

abbrev pub MasterObeys : Topology → TopoCause → ℕ → MasterDef → Type 0
MasterObeys t TooMany k m = k < 4
MasterObeys t Repeated k m = HasNoneBefore (λ n. n.node.0) k t.masters m.node.0
MasterObeys t BadMember k m = HasGoodMembers t m
MasterObeys t Overlap k m = EachEntry t.masters (λ j n. j < k → IsTrue (share m n) → IsTrue (may_share m n))
MasterObeys t cause k m = ⊤

-- each number of a master has its entry, which is the rule of the place after the last master
abbrev pub NoneIsMissing : Topology → Type 0
NoneIsMissing t = EachEntry master_numbers (λ _ n. HasNumber (λ m. m.node.0) t.masters n)

abbrev pub AfterMasters : Topology → TopoCause → ℕ → Type 0
AfterMasters t NoMaster k = k ≡ length t.masters → NoneIsMissing t
AfterMasters t cause k = ⊤

-- the entry at a place of a list, if it has one, keeps the rule
abbrev pub Obeys : Topology → Entries → TopoCause → ℕ → Type 0
Obeys t Powers cause k = IfSome (slice_get t.powers k) (PowerObeys t cause k)
Obeys t Procs cause k = IfSome (slice_get t.procs k) (ProcObeys t cause k)
Obeys t Slaves cause k = IfSome (slice_get t.slaves k) (SlaveObeys t cause k)
Obeys t Lines cause k = IfSome (slice_get t.lines k) (LineObeys t cause k)
Obeys t Masters cause k = IfSome (slice_get t.masters k) (MasterObeys t cause k) × AfterMasters t cause k

-- the first rule that is broken: the entry at the place breaks it, and keeps those that are tried before it; no entry
-- before it in its list breaks a rule, and none of a list that is judged before
pub record IsFirstBroken (t : Topology) (f : TopoFault) : Type 0 where
  pub entries : Entries
  pub broken : Obeys t entries f.cause f.place → ⊥
  pub rules : (cause : TopoCause) → rule_turn cause < rule_turn f.cause → Obeys t entries cause f.place
  pub before : (k : ℕ) → k < f.place → (cause : TopoCause) → Obeys t entries cause k
  pub lists : (earlier : Entries) → list_turn earlier < list_turn entries
      → (k : ℕ) (cause : TopoCause) → Obeys t earlier cause k
