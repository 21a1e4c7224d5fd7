-- What a step finds, by which the values of the units are written.
use Rattle.std.specs.Prelude.{ℕ, Bool, List, ◌++◌, Option}
use Rattle.pm_base.specs.BoundedList.{Bounded}
use Rattle.pm_base.specs.declared.names.Unit.{Unit}
use Rattle.pm_notify.specs.declared.notes.Waiting.{Waiting}
use Rattle.pm_procs.specs.declared.procs.Proc.{Proc as Processor}
use Rattle.pm_rows.specs.Rows.{Rows}
use Rattle.pm_state.specs.State.{CoreHalf}
use Rattle.pm_values.specs.declared.caches.UnitKind.{UnitKind}
use Rattle.pm_values.specs.declared.starts.Start.{Start}
use Rattle.pm_values.specs.Caches.{AreSettled, freed_by, moved_by, noticed_by, started_at, starts_by, unit_value}

-- the chosen state of each slave and the power nodes that are up; whether some master used each slave and which
-- processors were down, as they are kept; and the processors, the reset lines and the rows of the book
pub record Found : Type 0 where
  pub states : List ℕ
  pub ups : List Bool
  pub used : List Bool
  pub downs : List Bool
  pub procs : List Processor
  pub lines : List Bool
  pub rows : Rows

-- what is found of a book, beside these states, power nodes and uses
abbrev pub found_in : CoreHalf → (downs : List Bool) (states : List ℕ) (ups used : List Bool) → Found
found_in core downs states ups used = record {
  states = states;
  ups = ups;
  used = used;
  downs = downs;
  procs = core.procs;
  lines = core.lines;
  rows = core.rows;
}

-- the value of a unit of a kind
abbrev pub value_found : Found → UnitKind → ℕ
value_found found = unit_value found.states found.procs found.ups found.lines

-- a unit of a kind was used, and is used no more
abbrev pub freed_found : Found → UnitKind → Bool
freed_found found = freed_by found.used found.rows

-- the start of the unit of an entry
abbrev pub start_found : Found → UnitKind → Option (Unit × ℕ) → List Start
start_found found = started_at found.downs found.procs

-- the units of a table that move, those that start, and what happens to them
abbrev pub moves_found : Found → List UnitKind → List (Unit × ℕ) → List Unit
moves_found found = moved_by (value_found found)

abbrev pub starts_found : Found → List UnitKind → List (Unit × ℕ) → List Start
starts_found found = starts_by found.downs found.procs

abbrev pub notices_found : Found → List UnitKind → List (Unit × ℕ) → List Waiting
notices_found found = noticed_by (value_found found) (freed_found found)

-- the units of a table that rest don't start, and nothing happened to them
abbrev pub RestAsFound : Found → List Bool → List UnitKind → List (Unit × ℕ) → Type 0
RestAsFound found = AreSettled (value_found found) (freed_found found) found.downs found.procs

-- a list with more items behind its own
abbrev pub with_more : {X : Type 0} → List X → Bounded X → Bounded X
with_more more list = record list { items = list.items ++ more }
