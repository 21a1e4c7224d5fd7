-- What a book keeps of its values, so that they needn't be found again. Each of it is a function of the book.
use Rattle.std.specs.Prelude.{◌≡◌, ◌<◌, ◌≤◌, ℕ, ◌+◌, ◌==◌, ◌&&◌, Bool, true, false, not, cond, if◌then◌else◌, List, [], ◌∷◌, ◌++◌, map, length, slice_get, slice_set, unwrap_or, Option, Some, None}
use Rattle.pm_base.specs.BoundedList.{Bounded}
use Rattle.pm_base.specs.declared.names.Unit.{Unit}
use Rattle.pm_base.specs.declared.names.Unit.TheVariants.{Node, Line}
use Rattle.pm_topology.specs.declared.topology.SlaveDef.{SlaveDef}
use Rattle.pm_topology.specs.declared.topology.Topology.{Topology}
use Rattle.pm_topology.specs.declared.places.Kind.{Kind}
use Rattle.pm_topology.specs.declared.places.Kind.TheVariants.{Proc, Slave, Power, Unknown}
use Rattle.pm_topology.specs.Places.{kind_of, line_place}
use Rattle.pm_topology.specs.Units.{units_of}
use Rattle.pm_topology.specs.UnitMap.{units_in, value_of}
use Rattle.pm_power.specs.declared.child.Child.{Child}
use Rattle.pm_power.specs.Forest.{Needs, ups}
use Rattle.pm_power.specs.Needs.{child, children_of, with_needs}
use Rattle.pm_base.specs.declared.names.Mode.TheVariants.{Active}
use Rattle.pm_procs.specs.declared.procs.Proc.{Proc as Processor}
use Rattle.pm_procs.specs.Modes.{is_awake, same_mode}
use Rattle.pm_procs.specs.Procs.{mode_at, proc_at}
use Rattle.pm_values.specs.declared.caches.Caches.{Caches}
use Rattle.pm_values.specs.declared.caches.UnitKind.{UnitKind}
use Rattle.pm_values.specs.declared.caches.UnitKind.TheVariants.{Entry, Reset}
use Rattle.pm_values.specs.declared.kinds.Other.{Other}
use Rattle.pm_values.specs.declared.starts.Start.{Start}
use Rattle.pm_notify.specs.declared.notes.Waiting.{Waiting}
use Rattle.pm_rows.specs.Rows.{Rows}
use Rattle.pm_values.specs.Kinds.{is_slave_or_line, rests_at}
use Rattle.pm_values.specs.Notifications.{is_used, notes_about, notice_count, used_at}
use Rattle.pm_values.specs.Along.{down_logged}
use Rattle.pm_state.specs.State.{Fixed, CoreHalf, State}
use Rattle.pm_state.specs.Units.{units}
use Rattle.pm_state.specs.Values.{placed, chosen, need_of, run_of, forest, line_at, value, value_at}

-- what the value of a unit is found by: the kind of a node, and the place of a reset line
abbrev pub kind_of_unit : Topology → Unit → UnitKind
kind_of_unit t (Node node) = Entry (kind_of t node)
kind_of_unit t (Line line) = Reset (line_place t.lines line.0)

-- the value of a node of this kind, by the states of the slaves, the processors, and which power nodes are up
abbrev pub kind_value : List ℕ → List Processor → List Bool → Kind → ℕ
kind_value states procs ups (Slave s) = unwrap_or (slice_get states s) 0
kind_value states procs ups (Power w) = cond (unwrap_or (slice_get ups w) false) 1 0
kind_value states procs ups (Proc p) = cond (is_awake (mode_at p procs)) 1 0
kind_value states procs ups Unknown = 0

-- the value of a unit, by the reset lines too
abbrev pub unit_value : List ℕ → List Processor → List Bool → List Bool → UnitKind → ℕ
unit_value states procs ups lines (Entry kind) = kind_value states procs ups kind
unit_value states procs ups lines (Reset place) = line_at place lines

-- the value of a unit of this kind in a book
abbrev pub value_by : Fixed → CoreHalf → UnitKind → ℕ
value_by fixed core (Entry kind) = value_at kind fixed core
value_by fixed core (Reset place) = line_at place core.lines

-- a table of units with new values, by the kinds of its units
abbrev pub revalued : (UnitKind → ℕ) → List UnitKind → List (Unit × ℕ) → List (Unit × ℕ)
revalued new [] entries = entries
revalued new (kind ∷ kinds) [] = []
revalued new (kind ∷ kinds) (e ∷ entries) = (e.0, new kind) ∷ revalued new kinds entries

-- the unit of an entry, if its value isn't the new one
abbrev pub moved_at : ℕ → Option (Unit × ℕ) → List Unit
moved_at value None = []
moved_at value (Some e) = if e.1 == value then [] else e.0 ∷ []

-- the units of a table whose value isn't the new one
abbrev pub moved_by : (UnitKind → ℕ) → List UnitKind → List (Unit × ℕ) → List Unit
moved_by new [] entries = []
moved_by new (kind ∷ kinds) [] = []
moved_by new (kind ∷ kinds) (e ∷ entries) = moved_at (new kind) (Some e) ++ moved_by new kinds entries

-- the start of this unit, where the processor was down and is active now
abbrev pub start_if : Bool → Unit → Processor → List Start
start_if down (Node node) proc =
    if down && same_mode proc.mode Active then record { proc = node; address = proc.address } ∷ [] else []
start_if down (Line line) proc = []

-- the start of an entry's node of this kind, if it is a processor that starts
abbrev pub start_in : List Bool → List Processor → Kind → Unit × ℕ → List Start
start_in downs procs (Proc p) e = start_if (down_logged p downs) e.0 (proc_at p procs)
start_in downs procs _ e = []

-- the start of the unit of an entry
abbrev pub started_at : List Bool → List Processor → UnitKind → Option (Unit × ℕ) → List Start
started_at downs procs kind None = []
started_at downs procs (Entry kind) (Some e) = start_in downs procs kind e
started_at downs procs (Reset place) (Some e) = []

-- the starts of the units of a table, by the processors that were down
abbrev pub starts_by : List Bool → List Processor → List UnitKind → List (Unit × ℕ) → List Start
starts_by downs procs [] entries = []
starts_by downs procs (kind ∷ kinds) [] = []
starts_by downs procs (kind ∷ kinds) (e ∷ entries) =
    started_at downs procs kind (Some e) ++ starts_by downs procs kinds entries

-- a node of this kind is a slave that was used, by what is kept of each slave
abbrev pub used_kept : List Bool → Kind → Bool
used_kept used (Slave s) = unwrap_or (slice_get used s) false
used_kept used _ = false

-- a unit of this kind was used, and by these rows is used no more
abbrev pub freed_by : List Bool → Rows → UnitKind → Bool
freed_by used rows (Entry kind) = used_kept used kind && not (used_at kind rows)
freed_by used rows (Reset place) = false

-- what happened to the unit of an entry, by its value before
abbrev pub noticed_at : ℕ → Bool → Option (Unit × ℕ) → List Waiting
noticed_at value freed None = []
noticed_at value freed (Some e) = notes_about (not (e.1 == value)) freed e.0

-- nothing happened to the unit of an entry: its value is the one before, and it wasn't left without users
abbrev pub is_settled : ℕ → Bool → Option (Unit × ℕ) → Bool
is_settled value freed None = false
is_settled value freed (Some e) = (e.1 == value) && not freed

-- the units of a table that rest don't start, and nothing happened to them
abbrev pub AreSettled : (UnitKind → ℕ) → (UnitKind → Bool) → List Bool → List Processor → List Bool → List UnitKind
    → List (Unit × ℕ) → Type 0
AreSettled new freed downs procs awake kinds entries =
    (k : ℕ) (kind : UnitKind) → slice_get kinds k ≡ Some kind → rests_at awake k ≡ true
    → (started_at downs procs kind (slice_get entries k) ≡ []) × (is_settled (new kind) (freed kind) (slice_get entries k) ≡ true)

-- nothing happened to a processor or a power node of this kind, by its entry, and it doesn't start
abbrev pub has_stayed : List Bool → List Processor → List Bool → UnitKind → Option (Unit × ℕ) → Bool
has_stayed downs procs up (Entry (Proc p)) entry =
    is_settled (kind_value [] procs up (Proc p)) false entry && not (down_logged p downs && same_mode (mode_at p procs) Active)
has_stayed downs procs up (Entry (Power w)) entry = is_settled (kind_value [] procs up (Power w)) false entry
has_stayed downs procs up _ entry = false

-- of the first n units of a list only those rest to which nothing happened
abbrev pub ListedStay : List Bool → List Processor → List Bool → List Bool → List Other → ℕ → List (Unit × ℕ) → Type 0
ListedStay downs procs up awake others n entries =
    (i : ℕ) (other : Other) → i < n → slice_get others i ≡ Some other → rests_at awake other.unit ≡ true
    → has_stayed downs procs up other.kind (slice_get entries other.unit) ≡ true

-- of the units that are no slave and no reset line only those rest to which nothing happened
abbrev pub HaveStayed : List Bool → List Processor → List Bool → List Bool → List UnitKind → List (Unit × ℕ) → Type 0
HaveStayed downs procs up awake kinds entries =
    (k : ℕ) (kind : UnitKind) → slice_get kinds k ≡ Some kind → is_slave_or_line kind ≡ false → rests_at awake k ≡ true
    → has_stayed downs procs up kind (slice_get entries k) ≡ true

-- what happened to the units of a table
abbrev pub noticed_by : (UnitKind → ℕ) → (UnitKind → Bool) → List UnitKind → List (Unit × ℕ) → List Waiting
noticed_by new freed [] entries = []
noticed_by new freed (kind ∷ kinds) [] = []
noticed_by new freed (kind ∷ kinds) (e ∷ entries) =
    noticed_at (new kind) (freed kind) (Some e) ++ noticed_by new freed kinds entries

-- whether each slave is used, beside its entry in the table
abbrev pub use_of : CoreHalf → ℕ → SlaveDef → Bool
use_of core s slave = is_used s core.rows

-- each unit with its value
abbrev pub valued : State → List (Unit × ℕ)
valued book = map (λ u. (u, value u book)) (units book)

-- the value of a unit in a table, and 0 where it isn't there
abbrev pub value_kept : Unit → List (Unit × ℕ) → ℕ
value_kept unit entries = unwrap_or (value_of entries unit) 0

-- a processor or slave, as it is before its need is set
abbrev pub idle : Child → Child
idle c = child c.node c.parent false

-- caches of a chip, whatever is kept in them
pub record HasPlaces (t : Topology) (caches : Caches) : Type 0 where
  pub kinds : caches.kinds.items ≡ map (kind_of_unit t) (units_of t)
  pub states : length caches.states.items ≡ length t.slaves
  pub needs : length caches.needs.items ≡ length t.slaves
  pub runs : length caches.runs.items ≡ length t.procs
  pub used : length caches.used.items ≡ length t.slaves
  pub powers : caches.power.powers ≡ t.powers
  pub children : map idle caches.power.children ≡ children_of t (λ _. false)
  pub units : units_in caches.values ≡ units_of t

-- the slaves and processors below these power nodes have these needs: those of the slaves, and then those of the
-- processors
abbrev pub AreNeeded : (needs runs : List Bool) → Needs → Type 0
AreNeeded needs runs power = with_needs (needs ++ runs) power.children ≡ power.children

-- the power nodes followed the needs of slaves from these to those, whatever processors need
pub record FollowNeeds (needs_before needs_after : List Bool) (before after : Needs) : Type 0 where
  pub powers : after.powers ≡ before.powers
  pub children : map idle after.children ≡ map idle before.children
  pub each : (runs : List Bool) → AreNeeded needs_before runs before → AreNeeded needs_after runs after

-- the power nodes followed the needs of processors from these to those, whatever so many slaves need
pub record FollowRuns (slaves : ℕ) (runs_before runs_after : List Bool) (before after : Needs) : Type 0 where
  pub powers : after.powers ≡ before.powers
  pub children : map idle after.children ≡ map idle before.children
  pub each : (needs : List Bool) → length needs ≡ slaves → AreNeeded needs runs_before before
      → AreNeeded needs runs_after after

-- a list with one item for each slave, in which those of the slaves that pass the test are found anew
abbrev pub renewed : {A : Type 0} → (ℕ → Bool) → (ℕ → SlaveDef → A) → ℕ → List SlaveDef → List A → List A
renewed test new s [] items = items
renewed test new s (slave ∷ slaves) [] = []
renewed test new s (slave ∷ slaves) (item ∷ items) =
    (if test s then new s slave else item) ∷ renewed test new (s + 1) slaves items

-- the item of one slave is found anew, if there is such a slave and it is asked for
abbrev pub renewed_at : {A : Type 0} → Bool → (ℕ → SlaveDef → A) → ℕ → Option SlaveDef → List A → List A
renewed_at asked new s None items = items
renewed_at asked new s (Some slave) items = if asked then slice_set items s (new s slave) else items

-- the caches are those of the book
pub record AreKept (book : State) (caches : Caches) : Type 0 where
  pub kinds : caches.kinds.items ≡ map (kind_of_unit book.fixed.topology) (units book)
  pub states : caches.states.items ≡ placed (chosen book.now.core) 0 book.fixed.topology.slaves
  pub needs : caches.needs.items ≡ placed (need_of book.now.core) 0 book.fixed.topology.slaves
  pub runs : caches.runs.items ≡ placed (run_of book.now.core) 0 book.fixed.topology.procs
  pub used : caches.used.items ≡ placed (use_of book.now.core) 0 book.fixed.topology.slaves
  pub power : caches.power ≡ forest book.fixed book.now.core
  pub values : caches.values ≡ valued book

-- the states are chosen, and the power nodes are found, by this book; what is kept besides is as it was
pub record IsChosen (book : State) (before after : Caches) : Type 0 where
  pub states : after.states.items ≡ placed (chosen book.now.core) 0 book.fixed.topology.slaves
  pub needs : after.needs.items ≡ placed (need_of book.now.core) 0 book.fixed.topology.slaves
  pub runs : after.runs.items ≡ placed (run_of book.now.core) 0 book.fixed.topology.procs
  pub power : after.power ≡ forest book.fixed book.now.core
  pub kinds : after.kinds.items ≡ before.kinds.items
  pub used : after.used.items ≡ before.used.items
  pub values : after.values ≡ before.values

-- the values are written by this book; what is kept besides is as it was
pub record IsWritten (book : State) (before after : Caches) : Type 0 where
  pub kinds : after.kinds ≡ before.kinds
  pub states : after.states ≡ before.states
  pub needs : after.needs ≡ before.needs
  pub runs : after.runs ≡ before.runs
  pub used : after.used ≡ before.used
  pub power : after.power ≡ before.power
  pub values : after.values ≡ valued book

-- the states and needs, the processors that run, and the power nodes are those of the book
pub record AreChosen (book : State) (caches : Caches) : Type 0 where
  pub states : caches.states.items ≡ placed (chosen book.now.core) 0 book.fixed.topology.slaves
  pub needs : caches.needs.items ≡ placed (need_of book.now.core) 0 book.fixed.topology.slaves
  pub runs : caches.runs.items ≡ placed (run_of book.now.core) 0 book.fixed.topology.procs
  pub power : caches.power ≡ forest book.fixed book.now.core

-- caches of a chip, with room for what a step moves, starts and has to tell; nothing is among the starts yet
pub record HasRoom (t : Topology) (caches : Caches) (moved : Bounded Unit) (starts : Bounded Start)
    (notices : Bounded Waiting) : Type 0 where
  pub places : HasPlaces t caches
  pub room : length moved.items + length caches.values ≤ moved.room
  pub none : starts.items ≡ []
  pub procs : length t.procs ≤ starts.room
  pub few : notice_count (length caches.values) ≤ notices.room

-- what is found where a book follows on what was kept: behind the units that moved before, those whose value isn't the
-- one that was kept; the processors that are active and were down by what is logged; and what happened to nodes
pub record Finds (book : State) (downs : List Bool) (caches : Caches) (moved_before moved_after : Bounded Unit)
    (starts_before starts_after : Bounded Start) (notices_before notices_after : Bounded Waiting) : Type 0 where
  pub moved : moved_after ≡ record moved_before {
    items = moved_before.items ++ moved_by (value_by book.fixed book.now.core) caches.kinds.items caches.values;
  }
  pub starts : starts_after ≡ record starts_before {
    items = starts_by downs book.now.core.procs caches.kinds.items caches.values;
  }
  pub notices : notices_after ≡ record notices_before {
    items = noticed_by (value_by book.fixed book.now.core) (freed_by caches.used.items book.now.core.rows)
        caches.kinds.items caches.values;
  }
  pub few : length notices_after.items ≤ notice_count (length caches.values)

-- of what is kept, the units that rest don't start, and nothing happened to them, by a book
abbrev pub HaveSettled : State → List Bool → Caches → Type 0
HaveSettled book downs caches =
    AreSettled (value_by book.fixed book.now.core) (freed_by caches.used.items book.now.core.rows) downs
    book.now.core.procs caches.kinds.awake caches.kinds.items caches.values

-- what is kept of the other units stays, by the processors and the power nodes of a book
abbrev pub OthersStay : State → List Bool → Caches → Type 0
OthersStay book downs caches =
    HaveStayed downs book.now.core.procs (ups caches.power) caches.kinds.awake caches.kinds.items caches.values
