-- Agreement of two books beyond a border.
use Rattle.std.specs.Prelude.{◌≡◌, ℕ, Bool, true, false, List, Option, None, Some}
use Rattle.std.specs.List.{AllByRecursion as Each}
use Rattle.pm_base.specs.declared.names.Mode.{Mode}
use Rattle.pm_base.specs.declared.names.Mode.TheVariants.{Off}
use Rattle.pm_base.specs.declared.names.Unit.{Unit}
use Rattle.pm_notify.specs.declared.node_notes.NodeNotes.{NodeNotes}
use Rattle.pm_notify.specs.MasterNotes.{MasterNotes}
use Rattle.pm_procs.specs.declared.pending.Pending.{Pending}
use Rattle.pm_procs.specs.declared.procs.Proc.{Proc}
use Rattle.pm_rows.specs.declared.row.Entry.{Entry}
use Rattle.pm_topology.specs.UnitMap.{units_in}
use Rattle.pm_topology.specs.Units.{rises}
use Rattle.pm_state.specs.Members.{owner_at}
use Rattle.pm_object.specs.declared.object.Object.{Object}
use Rattle.pm_rows.specs.declared.row.Pair.{Pair}
use Rattle.pm_state.specs.Pairs.{pairs_of}
use Rattle.pm_state.specs.State.{Fixed, TalkHalf, Now, State, object_at, objects_of}
use Rattle.pm_laws.specs.Border.{Border, HasSome, IsBeyond, IsPairClosed, IsUserKnown, is_told}
use Rattle.pm_laws.specs.Both.{Both, BothFrom}

-- two rows of one pair. The pair's master is beyond if its slave is, and within if no master beyond may use the
-- slave. Rows of a master beyond are armed and held alike; rows on a slave beyond are equal
pub record SameRow (border : Border) (a b : Entry) : Type 0 where
  pub seed : a.seed ≡ b.seed
  pub closed : border.slave a.seed.slave ≡ true → IsBeyond border a.seed.master
  pub users : border.used a.seed.slave ≡ false → border.master a.seed.master ≡ false
  pub armed : IsBeyond border a.seed.master → a.row.armed ≡ b.row.armed
  pub hold : IsBeyond border a.seed.master → a.row.hold ≡ b.row.hold
  pub row : border.slave a.seed.slave ≡ true → a.row ≡ b.row

-- a row on a slave within
abbrev pub IsWithin : Border → Entry → Type 0
IsWithin border entry = border.slave entry.seed.slave ≡ false

-- the rows of two books: if some master is beyond they are alike one by one, else none is on a slave beyond
abbrev pub SameRows : Border → Bool → List Entry → List Entry → Type 0
SameRows border true a b = Both (SameRow border) a b
SameRows border false a b = Each (IsWithin border) a × Each (IsWithin border) b

-- the rows know the same mode of a master beyond
abbrev pub SameKnown : Border → ℕ → Mode → Mode → Type 0
SameKnown border m a b = IsBeyond border m → a ≡ b

-- a processor of a master beyond has the same mode and resume address in both, and one that nobody has is off in both
pub record SameProc (fixed : Fixed) (border : Border) (p : ℕ) (a b : Proc) : Type 0 where
  pub beyond : (m : ℕ) → owner_at fixed.object fixed.topology p ≡ Some m → IsBeyond border m → a ≡ b
  pub nobodys : owner_at fixed.object fixed.topology p ≡ None → (a.mode ≡ Off) × (b.mode ≡ Off)

-- a reset line beyond is asserted in both or in neither; without a master beyond it is released in both
pub record SameLine (border : Border) (l : ℕ) (a b : Bool) : Type 0 where
  pub beyond : border.line l ≡ true → a ≡ b
  pub released : border.some ≡ false → border.line l ≡ true → (a ≡ false) × (b ≡ false)

-- the pending request to a master beyond is the same
abbrev pub SamePending : Border → ℕ → Option Pending → Option Pending → Type 0
SamePending border m a b = IsBeyond border m → a ≡ b

-- the same notifiers are set about a node; and if notes about it are told beyond, the same notes wait
pub record SameNotes (told : Bool) (a b : NodeNotes) : Type 0 where
  pub notifiers : a.notifiers ≡ b.notifiers
  pub slots : told ≡ true → a.slots ≡ b.slots

-- two entries of notes are about the same unit, and alike
pub record SameEntry (border : Border) (a b : Unit × NodeNotes) : Type 0 where
  pub unit : a.0 ≡ b.0
  pub notes : SameNotes (is_told border a.0) a.1 b.1

-- the notes of two masters are about the same units, in order, and alike entry by entry
pub record SameEntries (border : Border) (a b : MasterNotes) : Type 0 where
  pub order : rises (units_in a) ≡ true
  pub each : Both (SameEntry border) a b

-- the notes of a master beyond are alike
abbrev pub SameMasterNotes : Border → ℕ → MasterNotes → MasterNotes → Type 0
SameMasterNotes border m a b = IsBeyond border m → SameEntries border a b

-- masters beyond are told the same: by the requests to suspend that are pending on them, and by their notes
pub record SameTalk (border : Border) (a b : TalkHalf) : Type 0 where
  pub pending : BothFrom (SamePending border) 0 a.pending b.pending
  pub notes : BothFrom (SameMasterNotes border) 0 a.notes b.notes

-- an object of the run
pub record IsAmong (fixed : Fixed) (object : Object) : Type 0 where
  pub place : ℕ
  pub there : object_at fixed place ≡ Some object

-- a permitted pair fits the border: its master is beyond if its slave is, and within if no master beyond may use the
-- slave
abbrev pub IsPairFit : Border → Pair → Type 0
IsPairFit border pair = IsPairClosed border pair × IsUserKnown border pair

-- each pair that an object of the run permits fits the border
abbrev pub ArePairsFit : Fixed → Border → Type 0
ArePairsFit fixed border =
    Each (λ (object : Object). Each (IsPairFit border) (pairs_of object fixed.topology)) (objects_of fixed)

-- the changing halves of two books with the same loaded object, attached objects and chip agree beyond the border.
-- Each has an object of the run in force, and the pairs that these objects permit fit the border. If some master is
-- beyond, both have the same object in force, and both or neither are halted
pub record Same (fixed : Fixed) (border : Border) (a b : Now) : Type 0 where
  pub some : HasSome border
  pub pairs : ArePairsFit fixed border
  pub first : IsAmong fixed a.force
  pub second : IsAmong fixed b.force
  pub force : border.some ≡ true → a.force ≡ b.force
  pub halted : border.some ≡ true → a.core.halted ≡ b.core.halted
  pub rows : SameRows border border.some a.core.rows.entries b.core.rows.entries
  pub known : BothFrom (SameKnown border) 0 a.core.rows.known b.core.rows.known
  pub procs : BothFrom (SameProc fixed border) 0 a.core.procs b.core.procs
  pub lines : BothFrom (SameLine border) 0 a.core.lines b.core.lines
  pub talk : SameTalk border a.talk b.talk

-- two books agree beyond the border: they have the same loaded object, attached objects and chip, and their changing
-- halves agree there
pub record Agree (border : Border) (a b : State) : Type 0 where
  pub fixed : a.fixed ≡ b.fixed
  pub now : Same a.fixed border a.now b.now
