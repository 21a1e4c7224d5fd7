-- What holds in every book.
use Rattle.std.specs.Prelude.{◌≡◌, ◌<◌, ℕ, Bool, true, false, IsTrue, List, Option, length, slice_get, Some, None, ◌↔◌, ◌⊎◌, ⊤}
use Rattle.pm_base.specs.declared.names.Mode.TheVariants.{Off, Active, Suspending}
use Rattle.std.specs.List.{list_all}
use Rattle.pm_base.specs.declared.names.NodeId.{NodeId}
use Rattle.pm_base.specs.declared.names.Unit.{Unit}
use Rattle.pm_base.specs.declared.names.Unit.TheVariants.{Node, Line}
use Rattle.pm_topology.specs.declared.topology.ProcDef.{ProcDef}
use Rattle.pm_topology.specs.declared.topology.SlaveDef.{SlaveDef}
use Rattle.pm_topology.specs.declared.topology.PowerDef.{PowerDef}
use Rattle.pm_topology.specs.declared.topology.Topology.{Topology}
use Rattle.pm_topology.specs.declared.places.Kind.{Kind}
use Rattle.pm_topology.specs.declared.places.Kind.TheVariants.{Proc, Slave}
use Rattle.pm_topology.specs.Places.{kind_of}
use Rattle.pm_topology.specs.UnitMap.{units_in}
use Rattle.pm_topology.specs.Units.{units_of}
use Rattle.pm_topology.specs.WellFormed.{IsWellFormed}
use Rattle.pm_state.specs.Choice.{StandsMet}
use Rattle.pm_state.specs.Fed.{IsNeeded}
use Rattle.pm_notify.specs.MasterNotes.{MasterNotes}
use Rattle.pm_notify.specs.Notify.{notes_for}
use Rattle.pm_procs.specs.declared.pending.Pending.{Pending}
use Rattle.pm_procs.specs.Pending.{pending_at}
use Rattle.pm_procs.specs.Procs.{mode_at}
use Rattle.pm_grants.specs.declared.grants.Grants.{Grants}
use Rattle.pm_grants.specs.Grants.{permits_reset}
use Rattle.pm_grants.specs.Several.{all_grants, some_permits}
use Rattle.pm_resets.specs.Resets.{is_asserted}
use Rattle.pm_rows.specs.Rows.{mode_of}
use Rattle.pm_rows.specs.Sound.{AreSound}
use Rattle.pm_rows.specs.Wanted.{wanted_of}
use Rattle.pm_rows.specs.declared.row.Entry.{Entry}
use Rattle.pm_state.specs.Members.{owner_at, owns, mode_of_master}
use Rattle.pm_state.specs.Pairs.{pairs_of}
use Rattle.pm_state.specs.Policies.{most_pairs}
use Rattle.pm_state.specs.State.{Fixed, State, in_force, object_at, objects_of}
use Rattle.pm_state.specs.Nodes.{named_master}

-- the rows are those of the permitted pairs, a slave that can't be shared has one user at most, each row wants only
-- what its slave has, while a master is active nothing is scheduled in its rows, and one that is off uses nothing
abbrev pub HasSoundRows : State → Type 0
HasSoundRows book = AreSound (pairs_of (in_force book) book.fixed.topology) book.now.core.rows

-- the object in force is one of the run's
pub record IsOfRun (book : State) : Type 0 where
  pub place : ℕ
  pub there : object_at book.fixed place ≡ Some (in_force book)

-- there is room for the rows of each object of the run, on each slave of the chip
pub record HasRoomForRows (book : State) : Type 0 where
  pub slaves : book.now.core.rows.slaves ≡ length book.fixed.topology.slaves
  pub room : book.now.core.rows.room ≡ most_pairs book.fixed.topology (objects_of book.fixed)

-- the rows know the mode of each master, as its processors give it
pub record KnowsModes (book : State) : Type 0 where
  pub each : length book.now.core.rows.known ≡ length book.fixed.object.masters
  pub right : (m : ℕ) → m < length book.fixed.object.masters
      → mode_of m book.now.core.rows ≡ mode_of_master book.fixed book.now.core m

-- each processor has a mode, and one that no configured master has is off
pub record HasProcs (book : State) : Type 0 where
  pub each : length book.now.core.procs ≡ length book.fixed.topology.procs
  pub nobodys : (p : ℕ) → owner_at book.fixed.object book.fixed.topology p ≡ None → mode_at p book.now.core.procs ≡ Off

-- a node of this kind is a processor of the master at place m
abbrev pub is_own : Fixed → ℕ → Kind → Bool
is_own fixed m (Proc p) = owns fixed.object fixed.topology m p
is_own fixed m _ = false

-- a row of the master at place m may be armed with this: with nothing, or with a processor of that master
abbrev pub arms_own : Fixed → ℕ → Option NodeId → Bool
arms_own fixed m None = true
arms_own fixed m (Some node) = is_own fixed m (kind_of fixed.topology node)

abbrev pub is_armed_own : Fixed → Entry → Bool
is_armed_own fixed entry = arms_own fixed entry.seed.master entry.row.armed

-- a row that is armed names a processor of its own master
abbrev pub ArmsOwn : State → Type 0
ArmsOwn book = IsTrue (list_all (is_armed_own book.fixed) book.now.core.rows.entries)

-- on each master a request to suspend may be pending, whose node names that master
pub record AreNamed (fixed : Fixed) (pending : List (Option Pending)) : Type 0 where
  pub each : length pending ≡ length fixed.object.masters
  pub named : (m : ℕ) (request : Pending) → pending_at m pending ≡ Some request
      → named_master fixed request.node ≡ Some m

abbrev pub HasPending : State → Type 0
HasPending book = AreNamed book.fixed book.now.talk.pending

-- each master has notes about each unit of the chip
pub record AreNotes (t : Topology) (masters : ℕ) (notes : List MasterNotes) : Type 0 where
  pub each : length notes ≡ masters
  pub units : (m : ℕ) → m < masters → units_in (notes_for m notes) ≡ units_of t

abbrev pub HasNotes : State → Type 0
HasNotes book = AreNotes book.fixed.topology (length book.fixed.object.masters) book.now.talk.notes

-- some object of the run lets the master at place m reset the line at place l
abbrev pub may_be_reset : Fixed → ℕ → ℕ → Bool
may_be_reset fixed m l = some_permits (λ (grants : Grants). permits_reset grants m l) (all_grants (objects_of fixed) fixed.topology)

-- each reset line is asserted or released, and one that no object of the run lets any master reset is released
pub record AreLines (fixed : Fixed) (lines : List Bool) : Type 0 where
  pub each : length lines ≡ length fixed.topology.lines
  pub nobodys : (l : ℕ) → ((m : ℕ) → may_be_reset fixed m l ≡ false) → is_asserted l lines ≡ false

abbrev pub HasLines : State → Type 0
HasLines book = AreLines book.fixed book.now.core.lines

-- the book is sound in the object in force, in the room for its rows, in its rows, in the modes that they know, in its
-- processors, in its reset lines, in what its rows are armed with, in what is pending, and in the notes of its masters
pub record IsSound (book : State) : Type 0 where
  pub force : IsOfRun book
  pub room : HasRoomForRows book
  pub rows : HasSoundRows book
  pub knows : KnowsModes book
  pub procs : HasProcs book
  pub lines : HasLines book
  pub armed : ArmsOwn book
  pub pending : HasPending book
  pub notes : HasNotes book

-- what holds in every book: the topology has passed its check, and the book is sound
pub record IsBook (book : State) : Type 0 where
  pub formed : IsWellFormed book.fixed.topology
  pub sound : IsSound book

-- k is the first state of the slave at place s that meets what is wanted of the slave
abbrev pub MeetsWanted : ℕ → ℕ → State → Type 0
MeetsWanted s k book =
    (slave : SlaveDef) → slice_get book.fixed.topology.slaves s ≡ Some slave
    → StandsMet (wanted_of s book.now.core.rows) slave.states k

-- where the unit is a slave, k is its first state that meets what is wanted of it
abbrev pub StandsAsWanted : Unit → ℕ → State → Type 0
StandsAsWanted (Node node) k book = (s : ℕ) → kind_of book.fixed.topology node ≡ Slave s → MeetsWanted s k book
StandsAsWanted (Line line) k book = ⊤

-- in these values each slave stands in the first of its states that meets all that is wanted of it, each processor is
-- at 1 exactly where it is active or suspending, and each power node is up exactly where it is held or some unit
-- directly below it needs power in its value
pub record MeetsRequirements (book : State) (values : Unit → ℕ) : Type 0 where
  pub slaves : (s : ℕ) (slave : SlaveDef)
      → slice_get book.fixed.topology.slaves s ≡ Some slave
      → StandsMet (wanted_of s book.now.core.rows) slave.states (values (Node slave.node))
  pub processors : (p : ℕ) (proc : ProcDef)
      → slice_get book.fixed.topology.procs p ≡ Some proc
      → (values (Node proc.node) ≡ 1)
      ↔ ((mode_at p book.now.core.procs ≡ Active) ⊎ (mode_at p book.now.core.procs ≡ Suspending))
  pub domains : (w : ℕ) (power : PowerDef)
      → slice_get book.fixed.topology.powers w ≡ Some power
      → (values (Node power.node) ≡ 1) ↔ ((power.held ≡ true) ⊎ IsNeeded book.fixed.topology values w)
