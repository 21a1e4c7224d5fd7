-- A list in the middle of a pass: what is done, and what is left.
use Rattle.std.specs.Prelude.{◌≡◌, ℕ, ◌+◌, ◌<◌, ◌^◌, true, false, List, Some, length, slice_get, slice_set, sum_by}
use Rattle.std.specs.Prelude.{drop}
use Rattle.pm_cells.specs.Midway.{midway}
use Rattle.pm_base.specs.declared.names.Mode.{Mode}
use Rattle.pm_rows.specs.declared.row.Entry.{Entry}
use Rattle.pm_rows.specs.declared.passes.Pass.{Pass}
use Rattle.pm_rows.specs.Modes.{mode_in}
use Rattle.pm_rows.specs.Counted.{AreReady, Counted, Table, AreTallied, counted, counted_in, limit_of, moved, permitted_on}
use Rattle.pm_rows.specs.Passes.{passed, known_after, row_after, cost_of, done, touches}
use Rattle.pm_rows.specs.Cost.{put_cost}

abbrev pub same : Entry → Entry
same entry = entry

-- a row may be put in place of this one: what is counted of it may be changed, and the least latency on its slave is kept
pub record MayPut (x : Counted) (table : Table) : Type 0 where
  pub ready : AreReady x table.tally
  pub limit : slice_get table.tally.limits x.entry.seed.slave ≡ Some (limit_of x.entry.seed.slave table.entries)

-- that at place k, as it is counted in these modes, where the table has room for its slave
abbrev pub MayPutAt : List Mode → ℕ → Table → Type 0
MayPutAt known k table =
    (x : Entry) → slice_get table.entries k ≡ Some x → x.seed.slave < length table.tally.users → length table.entries < 2 ^ 31
    → MayPut (counted known x) table

-- the row at place k was put in place of another, and counted instead of it
pub record IsPut (k : ℕ) (x y : Counted) (before : Table) (start : ℕ) (after : Table) (steps : ℕ) : Type 0 where
  pub placed : x.entry.seed.slave < length before.tally.users
  pub entries : after.entries ≡ slice_set before.entries k y.entry
  pub tally : after.tally ≡ moved x y after.entries before.tally
  pub slaves : after.slaves ≡ before.slaves
  pub room : after.room ≡ before.room
  pub cost : steps ≡ start + 1 + put_cost x y (permitted_on x.entry.seed.slave before.entries)

-- the row at place k is as a pass makes it, and counted in the mode that its master has afterwards
abbrev pub PutsAt : Pass → List Mode → ℕ → (before : Table) → (start : ℕ) → (after : Table) → (steps : ℕ) → Type 0
PutsAt pass known k before start after steps =
    (x : Entry) → slice_get before.entries k ≡ Some x
    → IsPut k (counted known x)
    (counted_in (mode_in x.seed.master (known_after pass known)) (record x { row = row_after pass before.entries x })) before start after steps

-- the row at place k is as a pass makes it, if the pass touches it; else nothing changes
pub record Visits (pass : Pass) (known : List Mode) (k : ℕ) (before : Table) (start : ℕ) (after : Table) (steps : ℕ) : Type 0 where
  pub touched : (x : Entry) → slice_get before.entries k ≡ Some x → touches pass x.seed ≡ true → PutsAt pass known k before start after steps
  pub left : (x : Entry) → slice_get before.entries k ≡ Some x → touches pass x.seed ≡ false → (after ≡ before) × (steps ≡ start)

-- before place k the rows are as after the pass and counted in the modes then, from there on as before it, and what was read
-- and counted is what the rows before place k cost
pub record IsPassing (pass : Pass) (known : List Mode) (rows : List Entry) (start k : ℕ) (table : Table) (steps : ℕ) : Type 0 where
  pub changed : table.entries ≡ midway (passed pass rows) same k rows
  pub kept : AreTallied (midway (done pass known rows) (counted known) k rows) table.tally
  pub cost : steps + sum_by (cost_of pass known rows) (drop k rows) ≡ start + sum_by (cost_of pass known rows) rows

-- the master of the row at place k changes its mode: it is in mode `from` by the modes that are known, and in mode `to` once that
-- of the master at place m is set
abbrev pub Turns : List Mode → ℕ → Mode → Mode → ℕ → Table → Type 0
Turns known m from to k table =
    (x : Entry) → slice_get table.entries k ≡ Some x
    → (mode_in x.seed.master known ≡ from) × (mode_in x.seed.master (slice_set known m to) ≡ to)
