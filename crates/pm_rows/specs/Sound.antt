-- What holds of the rows of every book.
use Rattle.std.specs.Prelude.{◌≡◌, ◌≢◌, ℕ, ◌<◌, ◌≤◌, nat_lt, Bool, true, false, not, ◌&&◌, ◌||◌, ◌==◌, ⊤, List, map, count_by, None, is_some, IfSome, length, IsTrue}
use Rattle.std.specs.List.{All, list_all}
use Rattle.pm_base.specs.declared.names.Mode.{Mode}
use Rattle.pm_base.specs.declared.names.Mode.TheVariants.{Off, Active, Asleep, Suspending}
use Rattle.pm_rows.specs.declared.row.Pair.{Pair}
use Rattle.pm_rows.specs.declared.row.RowSeed.{RowSeed}
use Rattle.pm_rows.specs.declared.row.Row.{Row}
use Rattle.pm_rows.specs.declared.row.Entry.{Entry}
use Rattle.pm_rows.specs.declared.row.Change.{Change}
use Rattle.pm_rows.specs.declared.row.Change.TheVariants.{Request, Release, Set, Limit, Arm}
use Rattle.pm_rows.specs.Modes.{mode_in}
use Rattle.pm_rows.specs.Rows.{Rows, has_all, mode_of, pair_of, rival_of}

-- the pair to which a row belongs
abbrev pub pair_in : Entry → Pair
pair_in entry = entry.seed

-- the pair of the master and the slave at these places
abbrev pub is_pair : ℕ → ℕ → Pair → Bool
is_pair m s seed = (seed.master == m) && (seed.slave == s)

-- a used row on the slave at place s, which can't be shared
abbrev pub is_sole_user : ℕ → Entry → Bool
is_sole_user s entry = (entry.seed.slave == s) && (entry.row.used && not entry.seed.shareable)

-- a row wants and would want only what its slave has
abbrev pub is_able : Entry → Bool
is_able entry =
    has_all entry.seed.all entry.row.now && (has_all entry.seed.all entry.row.next && has_all entry.seed.all entry.row.preset)

-- nothing is scheduled in a row
abbrev pub is_plain : Row → Bool
is_plain row = not row.used || (row.next.0 == row.now.0)

-- while its master is active nothing is scheduled in a row
abbrev pub is_plain_in : Mode → Row → Bool
is_plain_in Active row = is_plain row
is_plain_in Off row = true
is_plain_in Asleep row = true
is_plain_in Suspending row = true

-- while its master is off a row isn't used
abbrev pub is_idle_in : Mode → Row → Bool
is_idle_in Off row = not row.used
is_idle_in Active row = true
is_idle_in Asleep row = true
is_idle_in Suspending row = true

-- the mode of a master that is active, suspending or asleep
abbrev pub is_not_off : Mode → Bool
is_not_off Off = false
is_not_off Active = true
is_not_off Asleep = true
is_not_off Suspending = true

-- the master of a row is one of so many
abbrev pub is_within : ℕ → Entry → Bool
is_within masters entry = nat_lt entry.seed.master masters

-- a test of a row in the mode of its master
abbrev pub in_mode : (Mode → Row → Bool) → List Mode → Entry → Bool
in_mode test modes entry = test (mode_in entry.seed.master modes) entry.row

-- no pair stands twice
abbrev pub AreOnce : List Pair → Type 0
AreOnce pairs = (m s : ℕ) → count_by (is_pair m s) pairs ≤ 1

-- the rows of a book whose object permits these pairs
pub record AreSound (permitted : List Pair) (rows : Rows) : Type 0 where
  -- the permitted pairs have a row, each one, and no other pair has
  pub pairs : map pair_in rows.entries ≡ permitted
  -- the rows know a mode of each master that has a row
  pub within : IsTrue (list_all (is_within (length rows.known)) rows.entries)
  -- a slave that can't be shared has at most one used row
  pub alone : (s : ℕ) → count_by (is_sole_user s) rows.entries ≤ 1
  -- each row wants only what its slave has
  pub able : IsTrue (list_all is_able rows.entries)
  -- while a master is active nothing is scheduled in its rows
  pub plain : IsTrue (list_all (in_mode is_plain_in rows.known) rows.entries)
  -- a master that is off uses nothing
  pub idle : IsTrue (list_all (in_mode is_idle_in rows.known) rows.entries)

-- a pair may be loaded: its master is one of so many, what its row has at load the slave has, and only the master at place
-- boot uses a slave from the load on
pub record IsLoadable (masters boot : ℕ) (seed : RowSeed) : Type 0 where
  pub place : seed.master < masters
  pub preset : IsTrue (has_all seed.all seed.preset)
  pub start : IfSome seed.start (λ caps. IsTrue (has_all seed.all caps))
  pub first : IsTrue (is_some seed.start) → seed.master ≡ boot

-- a row may be made anew in these modes: its master is one of so many, what the row has then the slave has, and only a master
-- that isn't off uses a slave from then on
pub record IsRemadeRight (modes : List Mode) (seed : RowSeed) : Type 0 where
  pub place : seed.master < length modes
  pub preset : IsTrue (has_all seed.all seed.preset)
  pub start : IfSome seed.start (λ caps. IsTrue (has_all seed.all caps))
  pub awake : IsTrue (is_some seed.start) → is_not_off (mode_in seed.master modes) ≡ true

-- this seed uses the slave at place s, which can't be shared, from then on
abbrev pub takes_alone : ℕ → RowSeed → Bool
takes_alone s seed = (seed.slave == s) && (is_some seed.start && not seed.shareable)

-- rows may be made anew of these seeds: each may, no pair stands twice, and a slave that can't be shared has one taker at most
pub record AreRemadeRight (modes : List Mode) (seeds : List RowSeed) : Type 0 where
  pub once : AreOnce (map pair_of seeds)
  pub each : All (IsRemadeRight modes) seeds
  pub one_taker : (s : ℕ) → count_by (takes_alone s) seeds ≤ 1

-- a change that leaves the rows sound, of the row of a pair: a slave is requested by a master that isn't off, with
-- capabilities that it has, where no other master uses it alone; a requirement is set with capabilities that the slave has, in
-- the mode that the rows know of the master
abbrev pub IsFit : ℕ → ℕ → Change → Entry → Rows → Type 0
IsFit m s (Request caps) entry rows =
    IsTrue (has_all entry.seed.all caps) × (rival_of m s rows ≡ None) × (mode_of m rows ≢ Off)
IsFit m s Release entry rows = ⊤
IsFit m s (Set mode caps) entry rows = IsTrue (has_all entry.seed.all caps) × (mode_of m rows ≡ mode)
IsFit m s (Limit latency) entry rows = ⊤
IsFit m s (Arm target) entry rows = ⊤
