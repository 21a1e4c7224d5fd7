-- Rows that are made what their seeds say, one after another.
use Rattle.std.specs.Prelude.{◌≡◌, ℕ, Bool, ◌&&◌, ◌==◌, not, is_some, List, map}
use Rattle.pm_base.specs.declared.names.Mode.{Mode}
use Rattle.pm_rows.specs.declared.row.Entry.{Entry}
use Rattle.pm_rows.specs.declared.row.RowSeed.{RowSeed}
use Rattle.pm_rows.specs.Counted.{AreTallied, Table, blank_entry, counted}
use Rattle.pm_rows.specs.Rows.{loaded_entry, pair_of}
use Rattle.pm_cells.specs.Midway.{midway}

-- the row of the pair of a seed, which isn't used yet
abbrev pub blank_of : RowSeed → Entry
blank_of seed = blank_entry (pair_of seed)

-- a seed whose row is as one that isn't used yet
abbrev pub is_blank : RowSeed → Bool
is_blank seed = not (is_some seed.start) && ((seed.preset.0 == 0) && not seed.hold)

-- before place k the rows are what their seeds say, from there on none is used, and all are counted
pub record IsFilling (known : List Mode) (seeds : List RowSeed) (start : Table) (k : ℕ) (table : Table) : Type 0 where
  pub changed : table.entries ≡ midway loaded_entry blank_of k seeds
  pub kept : AreTallied (midway (λ seed. counted known (loaded_entry seed)) (λ seed. counted known (blank_of seed)) k seeds) table.tally
  pub slaves : table.slaves ≡ start.slaves
  pub room : table.room ≡ start.room

-- all of them are
pub record AreFilled (known : List Mode) (seeds : List RowSeed) (start table : Table) : Type 0 where
  pub rows : table.entries ≡ map loaded_entry seeds
  pub counted : AreTallied (map (counted known) table.entries) table.tally
  pub slaves : table.slaves ≡ start.slaves
  pub room : table.room ≡ start.room
