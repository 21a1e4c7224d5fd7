-- What is counted of the rows: for each slave how many rows want each capability, how many use it, and the least latency.
use Rattle.std.specs.Prelude.{◌≡◌, ℕ, ◌+◌, ◌-◌, ◌<◌, ◌≤◌, ◌^◌, Bool, true, false, ◌&&◌, ◌==◌, if◌then◌else◌, nat_lt, IsTrue, List, [], ◌∷◌, map, fold, count_by, length, replicate, slice_get, slice_set, slice_index, unwrap_or, Option, Some, None}
use Rattle.std.specs.List.{list_all}
use Rattle.std.specs.Int.{bit_at}
use Rattle.pm_base.specs.declared.caps.Caps.{Caps}
use Rattle.pm_base.specs.declared.names.Mode.{Mode}
use Rattle.pm_rows.specs.declared.wanted.Wanted.{Wanted}
use Rattle.pm_rows.specs.declared.row.Pair.{Pair}
use Rattle.pm_rows.specs.declared.row.RowSeed.{RowSeed}
use Rattle.pm_rows.specs.declared.row.Row.{Row}
use Rattle.pm_rows.specs.declared.row.Entry.{Entry}
use Rattle.pm_rows.specs.Modes.{mode_in}
use Rattle.pm_rows.specs.Rows.{no_caps}
use Rattle.pm_rows.specs.Wanted.{required_by, limit_by, least, nothing_wanted}

-- a row and the mode of its master in which it is counted
pub record Counted : Type 0 where
  pub entry : Entry
  pub mode : Mode

-- a row as it is counted in a mode of its master, or in the modes that are known
abbrev pub counted_in : Mode → Entry → Counted
counted_in mode entry = record { entry = entry; mode = mode }

abbrev pub counted : List Mode → Entry → Counted
counted modes entry = counted_in (mode_in entry.seed.master modes) entry

abbrev pub entry_in : Counted → Entry
entry_in c = c.entry

-- a set has the capability of this bit
abbrev pub has : ℕ → Caps → Bool
has bit caps = bit_at caps.0 bit == 1

-- what is counted: rows that want the capability of a bit, and rows that are used
abbrev pub wants : ℕ → Counted → Bool
wants bit c = has bit (required_by c.mode c.entry)

abbrev pub uses : Counted → Bool
uses c = c.entry.row.used

-- the rows on a slave that pass a test
abbrev pub on : ℕ → (Counted → Bool) → Counted → Bool
on s test c = (c.entry.seed.slave == s) && test c

-- the least latency of the used rows on a slave
abbrev pub with_limit : ℕ → Option ℕ → Entry → Option ℕ
with_limit s limit entry = if entry.seed.slave == s then least limit (limit_by entry) else limit

abbrev pub limit_of : ℕ → List Entry → Option ℕ
limit_of s entries = fold (with_limit s) None entries

-- the rows on a slave
abbrev pub is_on : ℕ → Entry → Bool
is_on s entry = entry.seed.slave == s

abbrev pub permitted_on : ℕ → List Entry → ℕ
permitted_on s entries = count_by (is_on s) entries

-- for each slave what is counted of its rows: those that want each capability, those that are used, and the least latency
pub record Tally : Type 0 where
  pub access : List ℕ
  pub context : List ℕ
  pub wakeup : List ℕ
  pub users : List ℕ
  pub limits : List (Option ℕ)

-- the rows as they stand in cells, each with its pair
abbrev pub entries_of : List Pair → List Row → List Entry
entries_of [] rows = []
entries_of (seed ∷ seeds) [] = []
entries_of (seed ∷ seeds) (row ∷ rows) = record { seed = seed; row = row } ∷ entries_of seeds rows

-- the rows, what is counted of them, and for how many slaves and how many rows there is room
pub record Table : Type 0 where
  pub entries : List Entry
  pub tally : Tally
  pub slaves : ℕ
  pub room : ℕ

-- the slave of a row is one of so many
abbrev pub is_placed : ℕ → Entry → Bool
is_placed slaves entry = nat_lt entry.seed.slave slaves

abbrev pub is_placed_pair : ℕ → Pair → Bool
is_placed_pair slaves seed = nat_lt seed.slave slaves

abbrev pub is_placed_seed : ℕ → RowSeed → Bool
is_placed_seed slaves seed = nat_lt seed.slave slaves

-- there is a cell for each pair, the slave of each is one of so many, and there are few cells
pub record IsTable (seeds : List Pair) (cells : List Row) (slaves : ℕ) : Type 0 where
  pub places : length seeds ≤ length cells
  pub placed : IsTrue (list_all (is_placed_pair slaves) seeds)
  pub few : length cells < 2 ^ 31

-- ---- what is right

-- the counts of the rows that pass a test, slave by slave
pub record IsTally (test : Counted → Bool) (slaves : ℕ) (rows : List Counted) (counts : List ℕ) : Type 0 where
  pub places : length counts ≡ slaves
  pub right : (s : ℕ) → s < slaves → slice_index counts s ≡ count_by (on s test) rows

-- the least latency of each slave
pub record AreLimits (slaves : ℕ) (entries : List Entry) (limits : List (Option ℕ)) : Type 0 where
  pub places : length limits ≡ slaves
  pub right : (s : ℕ) → s < slaves → slice_get limits s ≡ Some (limit_of s entries)

-- all that is counted is that of the rows
pub record AreTallied (rows : List Counted) (tally : Tally) : Type 0 where
  pub access : IsTally (wants 0) (length tally.users) rows tally.access
  pub context : IsTally (wants 1) (length tally.users) rows tally.context
  pub wakeup : IsTally (wants 2) (length tally.users) rows tally.wakeup
  pub users : IsTally uses (length tally.users) rows tally.users
  pub limits : AreLimits (length tally.users) (map entry_in rows) tally.limits

-- ---- one row is put

-- a count of a row that passed its test before or not, and passes it afterwards or not
abbrev pub moved_count : ℕ → Bool → Bool → List ℕ → List ℕ
moved_count s true true counts = counts
moved_count s true false counts = slice_set counts s (slice_index counts s - 1)
moved_count s false true counts = slice_set counts s (slice_index counts s + 1)
moved_count s false false counts = counts

-- what is counted after a row was put in place of another
abbrev pub moved : Counted → Counted → List Entry → Tally → Tally
moved x y entries t = record {
  access = moved_count x.entry.seed.slave (wants 0 x) (wants 0 y) t.access;
  context = moved_count x.entry.seed.slave (wants 1 x) (wants 1 y) t.context;
  wakeup = moved_count x.entry.seed.slave (wants 2 x) (wants 2 y) t.wakeup;
  users = moved_count x.entry.seed.slave (uses x) (uses y) t.users;
  limits = slice_set t.limits x.entry.seed.slave (limit_of x.entry.seed.slave entries);
}

-- a count at a place may be changed for a row that passed its test or not
pub record IsReady (s : ℕ) (before : Bool) (counts : List ℕ) : Type 0 where
  pub place : s < length counts
  pub some : IsTrue before → 0 < slice_index counts s
  pub few : slice_index counts s < 2 ^ 32 - 1

-- and so may all that are counted of a row
pub record AreReady (x : Counted) (t : Tally) : Type 0 where
  pub access : IsReady x.entry.seed.slave (wants 0 x) t.access
  pub context : IsReady x.entry.seed.slave (wants 1 x) t.context
  pub wakeup : IsReady x.entry.seed.slave (wants 2 x) t.wakeup
  pub users : IsReady x.entry.seed.slave (uses x) t.users
  pub limits : x.entry.seed.slave < length t.limits

-- ---- what is wanted of a slave, by its counts

-- a value where a count isn't 0
abbrev pub flag : ℕ → ℕ → ℕ
flag count value = if count == 0 then 0 else value

abbrev pub wanted_in : ℕ → Tally → Wanted
wanted_in s t =
    if nat_lt s (length t.users)
    then record {
      caps = record { 0 = flag (slice_index t.access s) 1 + (flag (slice_index t.context s) 2 + flag (slice_index t.wakeup s) 4) };
      limit = unwrap_or (slice_get t.limits s) None;
    }
    else nothing_wanted

-- ---- known capabilities

-- a set has no capability past the third
abbrev pub is_narrow : Caps → Bool
is_narrow caps = nat_lt caps.0 8

abbrev pub is_narrow_pair : Pair → Bool
is_narrow_pair seed = is_narrow seed.all

abbrev pub is_narrow_row : Row → Bool
is_narrow_row row = is_narrow row.now

abbrev pub is_narrow_entry : Entry → Bool
is_narrow_entry entry = is_narrow_pair entry.seed && is_narrow_row entry.row

-- no pair and no row has such a capability
pub record AreNarrow (seeds : List Pair) (cells : List Row) : Type 0 where
  pub pairs : IsTrue (list_all is_narrow_pair seeds)
  pub rows : IsTrue (list_all is_narrow_row cells)

-- ---- a table in which nothing is used

abbrev pub blank_row : Row
blank_row = record { used = false; now = no_caps; next = no_caps; preset = no_caps; hold = false; armed = None; latency = None }

abbrev pub blank_entry : Pair → Entry
blank_entry seed = record { seed = seed; row = blank_row }

abbrev pub no_tally : ℕ → Tally
no_tally slaves = record {
  access = replicate slaves 0;
  context = replicate slaves 0;
  wakeup = replicate slaves 0;
  users = replicate slaves 0;
  limits = replicate slaves None;
}
