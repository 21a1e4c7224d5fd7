-- What is kept of the values before a step, of which that may be behind which the step wrote down.
use Rattle.std.specs.Prelude.{◌≡◌, ℕ, ◌==◌, ◌&&◌, Bool, not, List, [], map, slice_get, unwrap_or, Option, option_and_then}
use Rattle.pm_base.specs.declared.names.Unit.{Unit}
use Rattle.pm_base.specs.declared.names.Unit.TheVariants.{Line}
use Rattle.pm_topology.specs.declared.places.Kind.TheVariants.{Slave}
use Rattle.pm_topology.specs.declared.topology.LineDef.{LineDef}
use Rattle.pm_topology.specs.UnitMap.{place_of}
use Rattle.pm_topology.specs.declared.topology.SlaveDef.{SlaveDef}
use Rattle.pm_topology.specs.declared.topology.Topology.{Topology}
use Rattle.pm_topology.specs.Units.{units_of}
use Rattle.pm_state.specs.Changes.{HasPlaces, Keeps, Written, is_in}
use Rattle.pm_state.specs.State.{CoreHalf, State}
use Rattle.pm_state.specs.Values.{state_at}
use Rattle.pm_values.specs.declared.caches.Caches.{Caches}
use Rattle.pm_values.specs.declared.caches.UnitKind.{UnitKind}
use Rattle.pm_values.specs.declared.caches.UnitKind.TheVariants.{Entry}
use Rattle.pm_values.specs.Caches.{AreKept, freed_by, kind_of_unit, renewed}

-- the book with this core half
abbrev pub with_core : CoreHalf → State → State
with_core core book = record book { now = record book.now { core = core } }

-- what is kept is that of a core half before, as which this book is but for what is written down
pub record IsBehind (w : Written) (book : State) (caches : Caches) : Type 0 where
  pub before : CoreHalf
  pub kept : AreKept (with_core before book) caches
  pub keeps : Keeps w before book.now.core
  pub places : HasPlaces book.fixed w

-- no unit is written down: no slave, no processor and no reset line
pub record IsClear (w : Written) : Type 0 where
  pub slaves : w.slaves.list ≡ []
  pub procs : w.procs.list ≡ []
  pub lines : w.lines.list ≡ []

-- a list with one item for each slave, in which those of the slaves at these places are found anew
abbrev pub renewed_on : {A : Type 0} → List ℕ → (CoreHalf → ℕ → SlaveDef → A) → State → List A → List A
renewed_on places new book items = renewed (λ s. is_in s places) (new book.now.core) 0 book.fixed.topology.slaves items

-- the slave at place s is in the state that is kept, and no master left it without users, by these states and uses
abbrev pub is_as_kept : List ℕ → List Bool → ℕ → State → Bool
is_as_kept states used s book =
    (state_at s (slice_get book.fixed.topology.slaves s) book.now.core == unwrap_or (slice_get states s) 0)
    && not (freed_by used book.now.core.rows (Entry (Slave s)))

-- the state of a slave rests, by what is kept
abbrev pub rests : ℕ → State → Caches → Bool
rests s book caches = is_as_kept caches.states.items caches.used.items s book

-- what the value of each unit of a chip is found by
abbrev pub kinds_of_units : Topology → List UnitKind
kinds_of_units t = map (kind_of_unit t) (units_of t)

-- the place of the unit of the reset line at a place
abbrev pub line_unit : List LineDef → List (Unit × ℕ) → ℕ → Option ℕ
line_unit lines values l = option_and_then (λ (line : LineDef). place_of values (Line line.line)) (slice_get lines l)
