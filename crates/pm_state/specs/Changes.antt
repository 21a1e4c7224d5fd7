-- What the changes of a step touch, as they are written down: the slaves, the processors and the reset lines by their
-- places, and the masters, each with the mode that its rows knew before the first change of it. What isn't written down is as
-- it was.
use Rattle.std.specs.Prelude.{◌≡◌, ℕ, zero, suc, ◌+◌, ◌<◌, ◌==◌, ◌&&◌, ◌||◌, Bool, true, false, not, nat_lt, if◌then◌else◌, List, [], ◌∷◌, ◌++◌, length, count_by, replicate, slice_get, slice_set, unwrap_or, Option, Some, None}
use Rattle.std.specs.List.{list_any}
use Rattle.pm_base.specs.BoundedList.{Bounded}
use Rattle.pm_base.specs.declared.names.Mode.{Mode}
use Rattle.pm_base.specs.declared.names.Mode.TheVariants.{Off}
use Rattle.pm_object.specs.declared.object.Object.{Object}
use Rattle.pm_procs.specs.Procs.{proc_at}
use Rattle.pm_resets.specs.Resets.{is_asserted}
use Rattle.pm_rows.specs.declared.row.Entry.{Entry}
use Rattle.pm_rows.specs.declared.row.Row.{Row}
use Rattle.pm_rows.specs.Passes.{is_idle}
use Rattle.pm_rows.specs.Rows.{Rows, mode_of, users_of}
use Rattle.pm_rows.specs.Shift.{is_start}
use Rattle.pm_rows.specs.Wanted.{wanted_of}
use Rattle.pm_state.specs.Members.{owns}
use Rattle.pm_state.specs.Prims.{Prim, At_row, Settle, Put_proc, Put_line, Shift, Clear, Halt, Reload, Enforce, apply, changed, enforced, reloaded}
use Rattle.pm_state.specs.Stages.{after_stage, follow}
use Rattle.pm_state.specs.State.{Fixed, CoreHalf, Now, State, object_at}

-- ---- places

-- the places that are written down, each once, of so many
pub record Listed : Type 0 where
  pub list : List ℕ
  pub count : ℕ

-- a place is among these
abbrev pub is_in : ℕ → List ℕ → Bool
is_in k places = list_any (λ j. j == k) places

-- a place is written down, or there is no such place
abbrev pub is_listed : ℕ → Listed → Bool
is_listed k places = not (nat_lt k places.count) || is_in k places.list

-- a place is written down, unless it is so already
abbrev pub listed : ℕ → Listed → Listed
listed k places = if is_listed k places then places else record places { list = places.list ++ k ∷ [] }

abbrev pub listed_if : Bool → ℕ → Listed → Listed
listed_if asked k places = if asked then listed k places else places

-- so many places from this one on are written down
abbrev pub listed_from : (count k : ℕ) → Listed → Listed
listed_from zero k places = places
listed_from (suc count) k places = listed_from count (k + 1) (listed k places)

-- all places are written down
abbrev pub all_listed : Listed → Listed
all_listed places = listed_from places.count 0 places

-- the slaves of those of these rows that pass a test
abbrev pub listed_rows : (Entry → Bool) → List Entry → Listed → Listed
listed_rows test [] places = places
listed_rows test (entry ∷ entries) places = listed_rows test entries (listed_if (test entry) entry.seed.slave places)

-- the master at this place is the one that is named, or none is named
abbrev pub is_named : Option ℕ → ℕ → Bool
is_named None m = true
is_named (Some n) m = m == n

-- a row that isn't idle, or gets its preset where its master starts from off: no other change of a mode, and no clearing,
-- alters an idle row
abbrev pub is_live : Bool → Row → Bool
is_live starts row = not (is_idle row) || (starts && not (row.preset.0 == 0))

-- such a row of the master that is named, and of any where none is
abbrev pub is_of : Option ℕ → Bool → Entry → Bool
is_of named starts entry = is_named named entry.seed.master && is_live starts entry.row

-- ---- what is written down

-- `modes` has a place for each master, with the mode of one that is written down
pub record Written : Type 0 where
  pub slaves : Listed
  pub procs : Listed
  pub lines : Listed
  pub masters : Listed
  pub modes : List Mode

-- nothing is written down of so many slaves, processors, reset lines and masters
abbrev pub nothing_written : (slaves procs lines masters : ℕ) → Written
nothing_written slaves procs lines masters = record {
  slaves = record { list = []; count = slaves };
  procs = record { list = []; count = procs };
  lines = record { list = []; count = lines };
  masters = record { list = []; count = masters };
  modes = replicate masters Off;
}

-- the mode before its first change of a master that is written down
abbrev pub mode_before : ℕ → Written → Mode
mode_before m w = unwrap_or (slice_get w.modes m) Off

-- nothing is written down any more
abbrev pub unlisted : Listed → Listed
unlisted places = record places { list = [] }

abbrev pub unwritten : Written → Written
unwritten w = record w {
  slaves = unlisted w.slaves;
  procs = unlisted w.procs;
  lines = unlisted w.lines;
  masters = unlisted w.masters;
}

-- a master is written down with its mode before the first change of it
abbrev pub with_master : ℕ → Mode → Written → Written
with_master m mode w = record w {
  masters = listed m w.masters;
  modes = if is_listed m w.masters then w.modes else slice_set w.modes m mode;
}

-- so are so many masters from this one on, with the modes that these rows know
abbrev pub with_masters : (count m : ℕ) → Rows → Written → Written
with_masters zero m rows w = w
with_masters (suc count) m rows w = with_masters count (m + 1) rows (with_master m (mode_of m rows) w)

abbrev pub with_slave : ℕ → Written → Written
with_slave s w = record w { slaves = listed s w.slaves }

abbrev pub with_slaves : (Entry → Bool) → List Entry → Written → Written
with_slaves test entries w = record w { slaves = listed_rows test entries w.slaves }

abbrev pub with_proc : ℕ → Written → Written
with_proc p w = record w { procs = listed p w.procs }

abbrev pub with_line : ℕ → Written → Written
with_line l w = record w { lines = listed l w.lines }

-- the slaves of those of these rows and of those that aren't idle
abbrev pub with_both : Rows → Rows → Written → Written
with_both before after w = with_slaves (is_of None false) after.entries (with_slaves (is_of None false) before.entries w)

-- where an object is put in force, if there is one, those of the rows before it and after it
abbrev pub with_rows_of : Fixed → Option Object → CoreHalf → Written → Written
with_rows_of fixed None core w = w
with_rows_of fixed (Some object) core w = with_both core.rows (enforced fixed (Some object) core).rows w

-- all processors and reset lines, and all masters with the modes that these rows know
abbrev pub with_all_but_slaves : Rows → Written → Written
with_all_but_slaves rows w =
    with_masters w.masters.count 0 rows (record w { procs = all_listed w.procs; lines = all_listed w.lines })

-- what a change of this core half, with this object in force before it, writes down
abbrev pub written : Fixed → Object → Prim → CoreHalf → Written → Written
written fixed force (At_row m s by) core w = with_slave s w
written fixed force (Settle m) core w = with_slaves (is_of (Some m) false) core.rows.entries w
written fixed force (Put_proc m p mode address) core w =
    if owns fixed.object fixed.topology m p then with_proc p w else w
written fixed force (Put_line l asserted) core w = with_line l w
written fixed force (Shift m mode) core w =
    let from = mode_of m core.rows in
    with_master m from (with_slaves (is_of (Some m) (is_start from mode)) core.rows.entries w)
written fixed force (Clear s) core w = with_slave s w
written fixed force Halt core w = with_slaves (is_of None false) core.rows.entries w
written fixed force Reload core w =
    with_both core.rows (reloaded fixed force core).rows (with_all_but_slaves core.rows w)
written fixed force (Enforce k) core w = with_rows_of fixed (object_at fixed k) core w

-- one change after another
abbrev pub writes : Fixed → List Prim → Now → Written → Written
writes fixed [] now w = w
writes fixed (prim ∷ prims) now w = writes fixed prims (apply fixed prim now) (written fixed now.force prim now.core w)

-- the changes of a book, a stage with the shifts that follow it, and stages one after another
abbrev pub written_by : List Prim → State → Written → Written
written_by prims book w = writes book.fixed prims book.now w

abbrev pub written_stage : List Prim → State → Written → Written
written_stage stage book w = written_by (follow (changed stage book)) (changed stage book) (written_by stage book w)

abbrev pub written_along : List (List Prim) → State → Written → Written
written_along [] book w = w
written_along (stage ∷ later) book w = written_along later (after_stage stage book) (written_stage stage book w)

-- ---- how places are kept

-- each place that is written down is marked, and no other; there is room for all
pub record AreMarked (marks : List Bool) (places : Bounded ℕ) : Type 0 where
  pub room : places.room ≡ length marks
  pub right : (k : ℕ) → k < length marks → slice_get marks k ≡ Some (is_in k places.items)
  pub few : count_by (λ b. b) marks ≡ length places.items

-- none of these places is marked any more
abbrev pub unmarked : List ℕ → List Bool → List Bool
unmarked [] marks = marks
unmarked (k ∷ places) marks = unmarked places (slice_set marks k false)

-- ---- the law

-- there is a place for each slave, processor, reset line and master
pub record HasPlaces (fixed : Fixed) (w : Written) : Type 0 where
  pub slaves : w.slaves.count ≡ length fixed.topology.slaves
  pub procs : w.procs.count ≡ length fixed.topology.procs
  pub lines : w.lines.count ≡ length fixed.topology.lines
  pub masters : w.masters.count ≡ length fixed.object.masters
  pub modes : length w.modes ≡ length fixed.object.masters

-- from this core half to that one, what isn't written down keeps what is wanted of it and its users, its mode and resume address, whether it
-- is asserted, and the mode that the rows know of it; and a master that is written down has its mode before
pub record Keeps (w : Written) (before after : CoreHalf) : Type 0 where
  pub wanted : (s : ℕ) → is_listed s w.slaves ≡ false → wanted_of s after.rows ≡ wanted_of s before.rows
  pub users : (s : ℕ) → is_listed s w.slaves ≡ false → users_of s after.rows ≡ users_of s before.rows
  pub procs : (p : ℕ) → is_listed p w.procs ≡ false → proc_at p after.procs ≡ proc_at p before.procs
  pub lines : (l : ℕ) → is_listed l w.lines ≡ false → is_asserted l after.lines ≡ is_asserted l before.lines
  pub modes : (m : ℕ) → is_listed m w.masters ≡ false → mode_of m after.rows ≡ mode_of m before.rows
  pub was : (m : ℕ) → m < length w.modes → is_in m w.masters.list ≡ true
      → slice_get w.modes m ≡ Some (mode_of m before.rows)
